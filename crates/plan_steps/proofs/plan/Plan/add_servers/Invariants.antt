use Rattle.std.proofs.Common.{◌≡◌, ◌++◌, take}
use Rattle.std.specs.Prelude.{flat_map}
use Rattle.plan_steps.specs.Beginning.{first_states, names_at}
use Rattle.plan_steps.proofs.plan.Plan.add_servers.Given as goal

abbrev pub invariant-loop-server : goal.invariant-loop-server
invariant-loop-server l = l.files.items ≡ l.initial.files.items ++ first_states l.self (flat_map (names_at l.kinds) (take l.server-index l.servers))
