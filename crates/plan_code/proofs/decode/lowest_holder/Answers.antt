use Rattle.std.proofs.Common.{rules, tests, refl, ◌∙◌}
use Rattle.std.proofs.lemmas.Iterator.{YieldsList-from_range}
use Rattle.std.proofs.lemmas.Iterator.Search.{find_from_yields_List}
use Rattle.plan_steps.specs.Planned.{held}
use Rattle.plan_code.proofs.Places.{find_lowest, same_option}
use Rattle.plan_code.proofs.decode.lowest_holder.Goals as goal

pub returns : goal.returns
returns c = same_option c.find.result
    ∙ find_from_yields_List (held c.args.plan.now) _ _ c.find.result c.find.ensures.ran (YieldsList-from_range 0 64 64 refl refl) (λ x b q k. search (rules, tests))
    ∙ find_lowest (held c.args.plan.now)
