use Rattle.std.proofs.Common.{length, vec_len, vec_capacity}
use Rattle.volume_fix.proofs.Walking.{Walking}
use Rattle.volume_fix.proofs.headers.Given as goal

abbrev pub invariant-loop-rest : goal.invariant-loop-rest
invariant-loop-rest l = Walking l.fn.end l.fn.at l.fn.chunk l.fn.out.items l.at l.rest l.out.items (vec_len l.out) (vec_capacity l.out)

abbrev pub decreases-loop-rest : goal.decreases-loop-rest
decreases-loop-rest l = length l.rest
