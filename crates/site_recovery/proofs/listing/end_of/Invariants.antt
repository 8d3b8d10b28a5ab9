use Rattle.site_recovery.proofs.Grouped.{AreSameBelow}
use Rattle.site_recovery.proofs.listing.end_of.Given as goal

abbrev pub invariant-loop-place : goal.invariant-loop-place
invariant-loop-place l = AreSameBelow l.files l.start l.volume l.place
