use Rattle.std.proofs.Common.{◌∙◌, ap}
use Rattle.shard_table.specs.Table.{place_in, with_place}
use Rattle.site_recovery.proofs.Homed.{front_none, front_more, front_all}
use Rattle.site_recovery.proofs.answering.listed.set_homes.Goals as goal

pub loop-shard-init : goal.loop-shard-init
loop-shard-init c = front_none c.args.volume c.args.homes.now c.args.table.now c.requires.fresh

pub loop-shard-preserved : goal.loop-shard-preserved
loop-shard-preserved c = front_more c.args.volume c.loop-shard.shard c.args.homes.now c.args.table.now c.loop-shard.table c.set.new.self c.loop-shard-test.true c.loop-shard.invariant
    (c.set.ensures.placed ∙ ap (λ i. with_place c.loop-shard.table c.args.volume c.loop-shard.shard (place_in c.args.homes.now i)) c.from.ensures)

pub returns : goal.returns
returns c = front_all c.args.volume c.loop-shard.shard c.args.homes.now c.args.table.now c.loop-shard.table c.told-homes c.loop-shard-test.false c.loop-shard.invariant
