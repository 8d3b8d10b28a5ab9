use Rattle.std.proofs.Common.{ap}
use Rattle.shard_table.specs.Table.{Table}
use Rattle.site_recovery.proofs.Homed.{row_fresh, row_added, homes_below}
use Rattle.site_recovery.proofs.answering.listed.add_homes.Goals as goal

pub set_homes-requires-clause-fresh : goal.set_homes-requires-clause-fresh
set_homes-requires-clause-fresh c = row_fresh c.args.volume c.args.table.now c.add_volume.new.self c.in_ok-add_volume.ensures.ok c.requires.fresh

pub set_homes-requires-clause-servers : goal.set_homes-requires-clause-servers
set_homes-requires-clause-servers c = homes_below c.args.table.now.servers c.add_volume.new.self.servers c.args.copies.now c.homes_of.result (ap (λ (t : Table). t.servers) c.in_ok-add_volume.ensures.ok) c.requires.copies c.homes_of.ensures

pub returns-clause-others : goal.returns-clause-others
returns-clause-others c = row_added c.args.volume c.args.table.now c.add_volume.new.self c.set_homes.new.table c.homes_of.result c.in_ok-add_volume.ensures.ok c.set_homes.ensures
