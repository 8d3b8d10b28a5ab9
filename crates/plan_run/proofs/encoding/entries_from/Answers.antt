use Rattle.std.proofs.Common.{List, take, drop, ◌∙◌, ap}
use Rattle.volume_forms.specs.declared.Entry.{Entry}
use Rattle.plan_run.proofs.Pairs.{front_of}
use Rattle.plan_run.proofs.encoding.entries_from.Goals as goal

pub returns : goal.returns
returns c = front_of c.deref.result.now c.args.at c.min.result c.min.ensures ∙ ap (λ (xs : List Entry). take 2048 (drop c.args.at xs)) c.deref.ensures.value
