use Rattle.std.proofs.Common.{◌≡◌}
use Rattle.shard_table.specs.Table.{IsAdded}
use Rattle.coded_bench.proofs.table.add_shards.Given as goal

abbrev pub invariant-loop-name : goal.invariant-loop-name
invariant-loop-name l = record {
  same : l.table.servers ≡ l.fn.table.servers;
  added : IsAdded l.table l.volume;
}
