use Rattle.std.proofs.Common.{arith}
use Rattle.plan_run.proofs.Striped.{start_most}
use Rattle.plan_run.proofs.joining.join_part.Goals as goal

pub overflow_add-result : goal.overflow_add-result
overflow_add-result c = omega (
  arith,
  c.row_place-start.ensures.start,
  start_most c.args.info.now.geometry c.args.info.now.dat_size c.args.row c.args.at c.requires.geometry c.requires.size c.requires.row c.requires.at,
)
