use Rattle.std.proofs.Common.{sym, subst}
use Rattle.plan_run.specs.Places.{TellsPlace}
use Rattle.plan_run.proofs.Told.{tells_shard}
use Rattle.plan_run.proofs.places.tell_place.Goals as goal

pub returns-in-Shard : goal.returns-in-Shard
returns-in-Shard c = subst (λ kind. TellsPlace c.args.volume kind c.args.place c.args.table.now c.set.new.self) (sym c.in-Shard.is)
    (tells_shard c.args.table.now c.set.new.self c.args.volume c.in-Shard.shard c.args.place c.set.ensures.placed)
