use Rattle.std.proofs.Common.{◌≡◌}
use Rattle.shard_table.specs.Table.{IsAdded}
use Rattle.plan_mend.proofs.tests.Round.table.Given as goal

abbrev pub invariant-loop-shard : goal.invariant-loop-shard
invariant-loop-shard l = record { servers : l.table.servers ≡ l.self.servers; added : IsAdded l.table 7 }
