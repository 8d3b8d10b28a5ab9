use Rattle.world_model.specs.declared.types.Line.TheVariants as variant
use Rattle.script_text.specs.Grammar.{volume_option, mark_option}
use Rattle.script_text.proofs.OptionLaws.{in_either_order}
use Rattle.script_text.proofs.lines.mark.Goals as goal

pub returns : goal.returns
returns c = in_either_order (λ o. variant.Mark o.0 o.1) volume_option mark_option c.args.words _ _ _ _ _ c.in_ok-first.ensures c.mark_options.ensures c.mark_options-2.ensures c.or.ensures
