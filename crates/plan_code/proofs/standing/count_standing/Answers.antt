use Rattle.std.proofs.Common.{◌+◌, length, ◌∙◌, ap, arith}
use Rattle.shard_table.specs.Table.{row_of, place_in}
use Rattle.plan_steps.specs.Plans.{place_if}
use Rattle.plan_code.proofs.Places.{count_more, count_most}
use Rattle.plan_code.proofs.standing.count_standing.Goals as goal

pub loop-shard-preserved : goal.loop-shard-preserved
loop-shard-preserved c =
    let row = row_of c.args.table.now c.args.volume in
    let here = c.count_at-count.ensures ∙ ap (λ o. length (place_if 0 o)) c.place.ensures.place in
    record {
      counted = ap (λ n. c.loop-shard.count + n) here ∙ count_more row c.loop-shard.shard c.loop-shard.count c.loop-shard.invariant.counted;
      most = omega (arith, here, count_most (place_in (row_of c.args.table.now c.args.volume) c.loop-shard.shard), c.loop-shard.invariant.most);
    }
