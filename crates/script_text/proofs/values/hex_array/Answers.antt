use Rattle.std.proofs.Common.{◌∙◌, ap}
use Rattle.std.specs.Result.{result_ok}
use Rattle.script_text.proofs.HexLaws.{sized_is}
use Rattle.script_text.proofs.values.hex_array.Goals as goal

pub returns : goal.returns
returns g c = c.ok.ensures.value ∙ ap result_ok c.from_hex.ensures ∙ sized_is c.args.word.now g.row.N
