use Rattle.std.proofs.Common.{sym}
use Rattle.site_mem.proofs.Keeping.{stands_at}
use Rattle.site_mem.proofs.contents.Contents.file.Goals as goal

pub returns-in-Some : goal.returns-in-Some
returns-in-Some c = sym (stands_at _ _ _ c.in-Some.ensures c.args.self.now.apart _ c.index.ensures)
