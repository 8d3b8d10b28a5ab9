use Rattle.std.proofs.Common.{◌≡◌, take, None}
use Rattle.site_mem.specs.Kept.{files_kept}
use Rattle.site_mem.proofs.contents.Contents.position.Given as goal

abbrev pub invariant-loop-at : goal.invariant-loop-at
invariant-loop-at l = files_kept (take l.at l.self.files.items) (l.server, l.name) ≡ None
