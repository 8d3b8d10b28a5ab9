use Rattle.std.proofs.Common.{◌≡◌, ◌++◌}
use Rattle.plan_steps.specs.Beginning.{first_states, names_of_moves}
use Rattle.plan_steps.proofs.plan.Plan.add_moves.Given as goal

abbrev pub invariant-loop-count : goal.invariant-loop-count
invariant-loop-count l = l.files.items ≡ l.initial.files.items ++ first_states l.self (names_of_moves l.self l.count)
