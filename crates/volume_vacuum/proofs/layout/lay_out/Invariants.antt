use Rattle.std.proofs.Common.{length}
use Rattle.volume_vacuum.proofs.Laid.{HasLaid}
use Rattle.volume_vacuum.proofs.layout.lay_out.Given as goal

abbrev pub invariant-loop-entry : goal.invariant-loop-entry
invariant-loop-entry l = HasLaid l.entries l.rest l.layout.index l.layout.bytes.items l.layout.end l.behind

abbrev pub decreases-loop-entry : goal.decreases-loop-entry
decreases-loop-entry l = length l.rest
