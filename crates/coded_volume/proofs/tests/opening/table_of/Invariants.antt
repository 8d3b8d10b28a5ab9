use Rattle.std.proofs.Common.{◌≡◌}
use Rattle.shard_table.specs.Table.{IsAdded}
use Rattle.coded_volume.proofs.tests.opening.table_of.Given as goal

abbrev pub invariant-loop-shard : goal.invariant-loop-shard
invariant-loop-shard l = record { servers : l.table.servers ≡ 4; added : IsAdded l.table 7 }
