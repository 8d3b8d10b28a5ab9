use Rattle.site_recovery.proofs.Grouped.{those_in}
use Rattle.site_recovery.proofs.listing.files_in.Goals as goal

pub returns : goal.returns
returns c = those_in c.args.files.now c.args.group c.requires
