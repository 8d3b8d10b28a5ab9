use Rattle.std.proofs.Common.{◌≡◌, ◌*◌, arith}
use Rattle.stripe_layout.specs.Pieces.{large_part}
use Rattle.plan_steps.proofs.Rows.{part_within, rows_within}
use Rattle.plan_steps.proofs.pieces.large_rows.Goals as goal

part_is : (c : goal.After-from) → c.rows-rows.result.0 * c.from.result ≡ large_part c.args.info.now.geometry c.args.info.now.dat_size
part_is c = λ i. c.rows-rows.ensures.large i * c.from.ensures i

pub overflow_mul-result : goal.overflow_mul-result
overflow_mul-result c = record { fits = omega (arith, part_is c, part_within c.args.info.now.geometry c.args.info.now.dat_size c.requires.geometry, c.requires.size) }

pub returns-clause-within : goal.returns-clause-within
returns-clause-within c = rw (part_is c) (omega (arith, rows_within c.args.info.now.geometry c.args.info.now.dat_size c.requires.geometry, c.requires.size))
