use Rattle.std.proofs.Common.{◌∙◌, sym, ap, subst}
use Rattle.shard_table.specs.Table.{Table, row_of, with_volume}
use Rattle.plan_steps.specs.Ending.{HasNoPlaces}
use Rattle.plan_code.proofs.Fresh.{added_empty}
use Rattle.plan_code.proofs.tests.encode.Goals as goal

pub encode_plan-requires-clause-none : goal.encode_plan-requires-clause-none
encode_plan-requires-clause-none c =
    subst (λ (t : Table). HasNoPlaces (row_of t 7)) (sym (c.in_ok-add_volume.ensures.ok ∙ ap (λ (t : Table). with_volume t 7) c.new-table.ensures)) (added_empty c.args.servers 7)
