use Rattle.shard_table.specs.Table.{IsAdded}
use Rattle.plan_steps.proofs.next_tests.table_of.Given as goal

abbrev pub invariant-loop-shard : goal.invariant-loop-shard
invariant-loop-shard l = IsAdded l.table 7
