use Rattle.site_recovery.proofs.Grouped.{AreGroupsBelow}
use Rattle.site_recovery.proofs.listing.groups_of.Given as goal

abbrev pub invariant-loop-start : goal.invariant-loop-start
invariant-loop-start l = AreGroupsBelow l.files l.start l.groups.items
