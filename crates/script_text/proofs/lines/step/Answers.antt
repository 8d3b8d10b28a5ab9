use Rattle.std.specs.Prelude.{codes}
use Rattle.world_model.specs.declared.types.Line.TheVariants as variant
use Rattle.script_text.specs.Grammar.{job_option, option_in, steps_in}
use Rattle.script_text.proofs.OptionLaws.{in_either_order}
use Rattle.script_text.proofs.lines.step.Goals as goal

pub returns : goal.returns
returns c = in_either_order (λ o. variant.Step o.0 o.1) job_option (option_in (codes "-steps=") steps_in) c.args.words _ _ _ _ _ c.in_ok-first.ensures c.step_options.ensures c.step_options-2.ensures c.or.ensures
