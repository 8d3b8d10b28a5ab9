use Rattle.std.proofs.Common.{◌≡◌, ◌++◌, take}
use Rattle.plan_steps.specs.Beginning.{first_states, names_at}
use Rattle.plan_steps.proofs.plan.Plan.add_kinds.Given as goal

abbrev pub invariant-loop-kind : goal.invariant-loop-kind
invariant-loop-kind l = l.files.items ≡ l.initial.files.items ++ first_states l.self (names_at (take l.kind-index l.kinds) l.server)
