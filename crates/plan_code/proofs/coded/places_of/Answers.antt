use Rattle.std.proofs.Common.{◌++◌, sym, ◌∙◌}
use Rattle.shard_table.specs.Table.{row_of}
use Rattle.plan_steps.specs.Plans.{place_if}
use Rattle.plan_code.proofs.Places.{places_more}
use Rattle.plan_code.proofs.coded.places_of.Goals as goal

pub loop-shard-preserved : goal.loop-shard-preserved
loop-shard-preserved c =
    c.in_ok-add_place.ensures ∙ (λ i. c.loop-shard.invariant i ++ place_if c.loop-shard.shard (c.place.ensures.place i)) ∙ sym (places_more (row_of c.args.table.now c.args.volume) c.loop-shard.shard)
