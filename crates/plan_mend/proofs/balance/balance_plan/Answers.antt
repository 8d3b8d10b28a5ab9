use Rattle.shard_table.specs.Table.{row_of}
use Rattle.plan_mend.specs.Laws.Made.{balance_plans}
use Rattle.plan_mend.proofs.balance.balance_plan.Goals as goal

pub returns-clause-plan : goal.returns-clause-plan
returns-clause-plan c =
    let coded = c.in_ok-plan.ensures.coded in
    let leaves = c.in_ok-plan.ensures.leaves in
    record {
      command = leaves.command;
      coded = record { volume = coded.volume; info = coded.info; entries = coded.entries; entry_count = coded.entry_count; deleted = coded.deleted; places = coded.places };
      home = leaves.home;
      targets = leaves.targets;
      moves = record { in_turn = c.in_ok-plan-2.ensures.in_turn; even = c.in_ok-plan-2.ensures.even };
    }

pub returns-clause-made : goal.returns-clause-made
returns-clause-made c =
    balance_plans c.args.table.now.servers c.args.volume c.args.entries c.args.info.now c.args.deleted.now (row_of c.args.table.now c.args.volume) _
    c.coded_plan.ensures.given c.requires.shards c.requires.range c.requires.few c.requires.room (returns-clause-plan c)
