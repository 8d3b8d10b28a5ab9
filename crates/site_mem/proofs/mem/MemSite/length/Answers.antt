use Rattle.site_mem.proofs.Seeing.{sized, no_size}
use Rattle.site_mem.proofs.mem.MemSite.length.Goals as goal

pub returns-in-Some : goal.returns-in-Some
returns-in-Some c = sized _ c.in-Some.bytes.now c.in-Some.ensures

pub returns-in-None : goal.returns-in-None
returns-in-None c = no_size _ c.in-None.ensures
