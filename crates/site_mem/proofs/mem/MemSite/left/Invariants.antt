use Rattle.site_mem.specs.Site.{disk_at}
use Rattle.site_mem.proofs.Leaving.{HasTorn}
use Rattle.site_mem.proofs.mem.MemSite.left.Given as goal

abbrev pub invariant-loop-file : goal.invariant-loop-file
invariant-loop-file l = HasTorn l.tear l.self.servers l.file-index l.file-items (disk_at l.initial.site).said l.site
