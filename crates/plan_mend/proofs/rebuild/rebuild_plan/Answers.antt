use Rattle.std.proofs.Common.{refl, ◌∙◌, ap}
use Rattle.shard_table.specs.Table.{Row, row_of}
use Rattle.plan_steps.specs.Plans.{filled}
use Rattle.plan_mend.specs.Laws.Made.{rebuild_plans}
use Rattle.plan_mend.proofs.Filling.{filled_over, moves_over}
use Rattle.plan_mend.proofs.rebuild.rebuild_plan.Goals as goal

pub returns-clause-plan : goal.returns-clause-plan
returns-clause-plan c =
    let row = row_of c.args.table.now c.args.volume in
    let copy = row_of c.in_ok-filled.filled c.args.volume in
    let targets = c.in_ok-plan-2.field-0.items in
    let coded = c.in_ok-plan.ensures.coded in
    record {
      command = refl;
      coded = record { volume = coded.volume; info = coded.info; entries = coded.entries; entry_count = coded.entry_count; deleted = coded.deleted; places = coded.places };
      home = c.in_ok-plan.ensures.leaves.home;
      targets = filled_over c.args.info.now.geometry c.in_ok-filled.filled.servers c.args.table.now.servers copy row targets c.in_ok-filled.ensures.servers c.in_ok-filled.ensures.row c.in_ok-plan-2.ensures.filled;
      moves = moves_over c.fill.new.table.servers c.args.table.now.servers (row_of c.fill.new.table c.args.volume) (filled row targets) c.in_ok-plan-3.field-0.items
          (c.fill.ensures.keeps.same_servers ∙ c.in_ok-filled.ensures.servers)
          (c.in_ok-plan-2.ensures.row ∙ ap (λ (r : Row). filled r targets) c.in_ok-filled.ensures.row)
          c.in_ok-plan-3.ensures.in_turn c.in_ok-plan-3.ensures.even;
    }

pub returns-clause-made : goal.returns-clause-made
returns-clause-made c =
    rebuild_plans c.args.table.now.servers c.args.volume c.args.entries c.args.info.now c.args.deleted.now (row_of c.args.table.now c.args.volume) _
    c.coded_plan.ensures.given c.requires.shards c.requires.range c.requires.few c.requires.room (returns-clause-plan c)
