use Rattle.std.proofs.Common.{[], ◌∷◌}
use Rattle.std.proofs.lemmas.Slice.Eq.{strip_suffix_is}
use Rattle.std.proofs.lemmas.Bool.Decides.{Decides-eqb}
use Rattle.script_text.proofs.ReturnLaws.{without_return-is}
use Rattle.script_text.proofs.words.without_return.Goals as goal

pub returns : goal.returns
returns c =
    without_return-is c.args.line c.strip_suffix.result c.unwrap_or.result (strip_suffix_is Decides-eqb c.args.line.now (13 ∷ []) c.strip_suffix.result c.strip_suffix.ensures.cases)
    c.unwrap_or.ensures
