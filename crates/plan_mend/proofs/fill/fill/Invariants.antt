use Rattle.shard_table.specs.Table.{row_of}
use Rattle.plan_mend.specs.Filling.{KeepsVolume}
use Rattle.plan_mend.proofs.Filling.{IsFilling}
use Rattle.plan_mend.proofs.fill.fill.Given as goal

abbrev pub invariant-loop-shard : goal.invariant-loop-shard
invariant-loop-shard l = record {
  keeps : KeepsVolume l.initial.table l.table l.volume;
  filling : IsFilling l.initial.table.servers (row_of l.initial.table l.volume) l.shard (row_of l.table l.volume) l.targets.items;
}
