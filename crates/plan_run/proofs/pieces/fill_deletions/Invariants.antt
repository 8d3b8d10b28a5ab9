use Rattle.plan_run.proofs.Deletions.{AreFilled}
use Rattle.plan_run.proofs.pieces.fill_deletions.Given as goal

abbrev pub invariant-loop-number : goal.invariant-loop-number
invariant-loop-number l = AreFilled l.number l.ids l.initial.room l.room
