use Rattle.site_recovery.proofs.Placed.{home_among}
use Rattle.site_recovery.proofs.placing.is_home.Goals as goal

pub returns : goal.returns
returns c = home_among c.args.homes.now c.args.server c.contains.result c.contains.ensures.value
