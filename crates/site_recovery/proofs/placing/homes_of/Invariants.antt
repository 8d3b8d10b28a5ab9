use Rattle.std.proofs.Common.{take}
use Rattle.site_recovery.specs.Placing.{AreHomesOf}
use Rattle.site_recovery.proofs.placing.homes_of.Given as goal

abbrev pub invariant-loop-copy : goal.invariant-loop-copy
invariant-loop-copy l = AreHomesOf (take l.copy-index l.copies) l.homes
