use Rattle.std.proofs.Common.{◌≡◌}
use Rattle.shard_table.specs.Table.{IsAdded}
use Rattle.coded_bench.proofs.table.table_of.Given as goal

abbrev pub invariant-loop-server : goal.invariant-loop-server
invariant-loop-server l = record {
  servers : l.site.servers ≡ l.fn.site.servers;
  same : l.table.servers ≡ l.site.servers;
  added : IsAdded l.table l.volume;
}
