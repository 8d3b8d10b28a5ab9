use Rattle.std.proofs.Common.{◌≡◌, ◌++◌, take}
use Rattle.plan_steps.specs.Lists.{shard_names}
use Rattle.plan_steps.specs.Beginning.{first_states}
use Rattle.plan_steps.proofs.plan.Plan.add_shards.Given as goal

abbrev pub invariant-loop-shard : goal.invariant-loop-shard
invariant-loop-shard l = l.files.items ≡ l.initial.files.items ++ first_states l.self (shard_names (take l.shard-index l.shards))
