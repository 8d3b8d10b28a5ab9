use Rattle.site_mem.proofs.Fills.{filled}
use Rattle.site_mem.proofs.losses.Losses.none.Goals as goal

pub returns : goal.returns
returns c server = filled 64 server 0
