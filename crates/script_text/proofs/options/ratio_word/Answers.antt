use Rattle.std.proofs.Common.{sym}
use Rattle.script_text.proofs.RatioLaws.{not_ratio}
use Rattle.script_text.proofs.options.ratio_word.Goals as goal

pub returns-in-Err : goal.returns-in-Err
returns-in-Err c = sym (not_ratio c.args.word.now c.in-Err.ensures.cases.0)
