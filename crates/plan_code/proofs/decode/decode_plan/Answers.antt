use Rattle.std.proofs.Common.{sym, ◌∙◌, subst}
use Rattle.std.specs.Prelude.{IsSome}
use Rattle.std.specs.FinMap.{len}
use Rattle.shard_table.specs.Table.{row_of}
use Rattle.plan_code.specs.Made.{IsCodedOf}
use Rattle.plan_code.specs.Laws.Made.{some_holder, decode_of, decode_plans}
use Rattle.plan_code.proofs.decode.decode_plan.Goals as goal

pub unwrap-requires : goal.unwrap-requires
unwrap-requires c =
    let given = c.coded_plan.ensures.given in
    subst IsSome (sym c.lowest_holder.ensures)
    (some_holder c.args.table.now.servers c.args.volume (len c.args.index.now) c.args.info.now c.args.deleted.now (row_of c.args.table.now c.args.volume) c.in_ok-plan.plan
    (subst (λ n. IsCodedOf c.args.volume c.args.info.now n c.args.deleted.now (row_of c.args.table.now c.args.volume) c.in_ok-plan.plan) c.len-entry_count.ensures c.in_ok-plan.ensures.coded)
    given.is_row c.requires.shards given.few_servers)

pub returns-clause-plan : goal.returns-clause-plan
returns-clause-plan c =
    decode_of c.args.volume (len c.args.index.now) c.args.info.now c.args.deleted.now (row_of c.args.table.now c.args.volume) c.in_ok-plan.plan c.unwrap.result
    (subst (λ n. IsCodedOf c.args.volume c.args.info.now n c.args.deleted.now (row_of c.args.table.now c.args.volume) c.in_ok-plan.plan) c.len-entry_count.ensures c.in_ok-plan.ensures.coded)
    c.in_ok-plan.ensures.leaves (sym c.lowest_holder.ensures ∙ c.unwrap.ensures)

pub returns-clause-made : goal.returns-clause-made
returns-clause-made c =
    decode_plans c.args.table.now.servers c.args.volume (len c.args.index.now) c.args.info.now c.args.deleted.now (row_of c.args.table.now c.args.volume) _
    (returns-clause-plan c) c.coded_plan.ensures.given c.requires.shards c.requires.range c.requires.few c.requires.room
