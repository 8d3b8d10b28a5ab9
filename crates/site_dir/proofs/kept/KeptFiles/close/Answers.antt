use Rattle.std.proofs.Common.{not, rules}
use Rattle.std.proofs.lemmas.Fn.{filter_same}
use Rattle.site_dir.specs.Kept.{has_place}
use Rattle.site_dir.proofs.kept.KeptFiles.close.Goals as goal

pub returns : goal.returns
returns g c = filter_same _ (λ kept. not (has_place (c.args.server, c.args.name.now) kept)) _ (λ x b f k. search rules) _ _ c.retain.ensures.filtered
