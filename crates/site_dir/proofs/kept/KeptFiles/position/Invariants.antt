use Rattle.std.proofs.Common.{take}
use Rattle.site_dir.specs.Kept.{AreElsewhere}
use Rattle.site_dir.proofs.kept.KeptFiles.position.Given as goal

abbrev pub invariant-loop-at : goal.invariant-loop-at
invariant-loop-at g l = AreElsewhere (l.server, l.name) (take l.at l.self.files.items)
