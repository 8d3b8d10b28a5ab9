use Rattle.std.proofs.Common.{sym, ◌∙◌, ap}
use Rattle.shard_table.specs.Table.{Table, row_of}
use Rattle.plan_mend.proofs.Copying.{row_set}
use Rattle.plan_mend.proofs.Filling.{fills_missing}
use Rattle.plan_mend.proofs.fill.fill_one.Goals as goal

pub returns-clause-filled : goal.returns-clause-filled
returns-clause-filled c =
    fills_missing c.args.table.now.servers c.args.shard c.choose-server.result (row_of c.args.table.now c.args.volume) (row_of c.set.new.self c.args.volume) c.args.targets.now.items c.push.new.self.items c.place.result
    c.place.ensures.place (sym c.is_some.ensures ∙ c.if-is_some.false) c.choose-server.ensures
    (ap (λ (t : Table). row_of t c.args.volume) c.set.ensures.placed ∙ row_set c.args.table.now c.args.volume c.args.shard _)
    c.in_ok-push.ensures.items
