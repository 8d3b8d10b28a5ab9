use Rattle.shard_table.specs.Table.{IsAdded}
use Rattle.plan_steps.proofs.next_tests.steps.Given as goal

abbrev pub invariant-loop-count : goal.invariant-loop-count
invariant-loop-count l = IsAdded l.table 7
