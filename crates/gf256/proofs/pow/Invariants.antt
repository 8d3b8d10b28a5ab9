use Rattle.gf256.specs.Powers.{IsPowering}
use Rattle.gf256.proofs.pow.Given as goal

abbrev pub invariant-loop-left : goal.invariant-loop-left
invariant-loop-left l = IsPowering l.fn.a l.fn.n l.power l.square l.left

abbrev pub decreases-loop-left : goal.decreases-loop-left
decreases-loop-left l = l.left
