use Rattle.plan_run.proofs.Entries.{AreFilled}
use Rattle.plan_run.proofs.pieces.fill_entries.Given as goal

abbrev pub invariant-loop-number : goal.invariant-loop-number
invariant-loop-number l = AreFilled l.number l.entries l.initial.room l.room
