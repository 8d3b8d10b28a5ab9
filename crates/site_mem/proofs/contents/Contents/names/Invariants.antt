use Rattle.std.proofs.Common.{◌≡◌, map, string_bytes, take}
use Rattle.site_mem.specs.Kept.{names_at}
use Rattle.site_mem.proofs.contents.Contents.names.Given as goal

abbrev pub invariant-loop-file : goal.invariant-loop-file
invariant-loop-file l = map string_bytes l.names.items ≡ names_at l.server (take l.file-index l.self.files.items)
