use Rattle.std.specs.Prelude.{codes}
use Rattle.world_model.specs.declared.types.Line.TheVariants as variant
use Rattle.script_text.specs.Grammar.{volume_option, option_in, u32_in}
use Rattle.script_text.proofs.OptionLaws.{in_either_order}
use Rattle.script_text.proofs.lines.create.Goals as goal

pub returns : goal.returns
returns c = in_either_order (λ o. variant.Create o.0 o.1) volume_option (option_in (codes "-server=") u32_in) c.args.words _ _ _ _ _ c.in_ok-first.ensures c.create_options.ensures c.create_options-2.ensures c.or.ensures
