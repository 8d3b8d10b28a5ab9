use Rattle.std.proofs.Common.{drop, ap, ◌∙◌}
use Rattle.std.proofs.lemmas.List.{drop-take}
use Rattle.needle_record.specs.Given.{content_of}
use Rattle.needle_record.proofs.reading.content_with.Goals as goal

pub returns : goal.returns
returns c = ap (λ bytes. content_of bytes c.args.parts) (c.behind.ensures ∙ ap (drop 20) c.truncate.ensures.items ∙ drop-take 20 c.args.count c.args.bytes.items)
