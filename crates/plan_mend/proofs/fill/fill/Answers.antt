use Rattle.std.proofs.Common.{◌∙◌, subst}
use Rattle.shard_table.specs.Table.{row_of}
use Rattle.plan_mend.specs.Filling.{FillsOne}
use Rattle.plan_mend.proofs.Filling.{filling_on}
use Rattle.plan_mend.proofs.fill.fill.Goals as goal

pub loop-shard-preserved : goal.loop-shard-preserved
loop-shard-preserved c =
    let old = row_of c.loop-shard.table c.args.volume in
    let next = row_of c.fill_one.new.table c.args.volume in
    record {
      keeps = record {
        same_servers = c.fill_one.ensures.keeps.same_servers ∙ c.loop-shard.invariant.keeps.same_servers;
        added = c.fill_one.ensures.keeps.added;
      };
      filling = filling_on c.args.table.now.servers (row_of c.args.table.now c.args.volume) c.loop-shard.shard old next c.loop-shard.targets.items c.fill_one.new.targets.items c.loop-shard.invariant.filling
          (subst (λ n. FillsOne n c.loop-shard.shard old next c.loop-shard.targets.items c.fill_one.new.targets.items) c.loop-shard.invariant.keeps.same_servers c.in_ok-fill_one.ensures.filled);
    }
