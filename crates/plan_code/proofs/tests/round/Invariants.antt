use Rattle.std.proofs.Common.{◌≡◌}
use Rattle.shard_table.specs.Table.{IsAdded}
use Rattle.plan_code.proofs.tests.round.Given as goal

abbrev pub invariant-loop-shard : goal.invariant-loop-shard
invariant-loop-shard l = record { servers : l.table.servers ≡ l.servers; added : IsAdded l.table 7 }
