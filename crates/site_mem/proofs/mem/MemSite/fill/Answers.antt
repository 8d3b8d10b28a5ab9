use Rattle.site_mem.proofs.Seeing.{no_bytes, reads_none}
use Rattle.site_mem.proofs.mem.MemSite.fill.Goals as goal

pub returns-in_default : goal.returns-in_default
returns-in_default c = reads_none _ _ c.args.at c.requires (no_bytes _ c.in_default.ensures)
