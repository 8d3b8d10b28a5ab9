use Rattle.std.proofs.Common.{◌≡◌}
use Rattle.shard_table.specs.Table.{IsAdded, row_of}
use Rattle.plan_mend.proofs.Copying.{IsCopied}
use Rattle.plan_mend.proofs.fill.copy_of.Given as goal

abbrev pub invariant-loop-shard : goal.invariant-loop-shard
invariant-loop-shard l = record {
  servers : l.copy.servers ≡ l.table.servers;
  added : IsAdded l.copy l.volume;
  copied : IsCopied l.shard (row_of l.table l.volume) (row_of l.copy l.volume);
}
