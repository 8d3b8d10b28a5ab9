use Rattle.std.proofs.Common.{ℕ, List, take, drop, ◌∙◌, ap}
use Rattle.plan_run.proofs.Pairs.{front_of}
use Rattle.plan_run.proofs.lists.ids_from.Goals as goal

pub returns : goal.returns
returns c = front_of c.deref.result.now c.args.at c.min.result c.min.ensures ∙ ap (λ (xs : List ℕ). take 2048 (drop c.args.at xs)) c.deref.ensures.value
