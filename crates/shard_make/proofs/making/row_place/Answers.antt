use Rattle.std.proofs.Common.{◌≡◌, ◌-◌, ◌*◌, arith}
use Rattle.stripe_layout.specs.Stripes.{large_rows}
use Rattle.shard_make.proofs.Located.{small_start}
use Rattle.shard_make.proofs.making.row_place.Goals as goal

pub overflow_mul-result-else-row-large_rows : goal.overflow_mul-result-else-row-large_rows
overflow_mul-result-else-row-large_rows c =
    let g = c.args.geometry.now in
    let large : c.rows-large_rows.result.0 * c.from-large.result ≡ large_rows c.args.geometry.now c.args.dat_size * c.args.geometry.now.large = λ i. c.rows-large_rows.ensures.large i * c.from-large.ensures i in
    omega (arith, large, c.requires.size, c.if-row-large_rows.false, c.rows-large_rows.ensures.large, small_start g c.args.dat_size c.args.row c.requires.geometry (omega (arith, c.if-row-large_rows.false, c.rows-large_rows.ensures.large)) c.requires.row)

pub overflow_mul-result-else-row-large_rows-2 : goal.overflow_mul-result-else-row-large_rows-2
overflow_mul-result-else-row-large_rows-2 c =
    let g = c.args.geometry.now in
    let small : (c.args.row - c.rows-large_rows.result.0) * c.from-small.result ≡ (c.args.row - large_rows c.args.geometry.now c.args.dat_size) * c.args.geometry.now.small = λ i. (c.args.row - c.rows-large_rows.ensures.large i) * c.from-small.ensures i in
    omega (arith, small, c.requires.size, small_start g c.args.dat_size c.args.row c.requires.geometry (omega (arith, c.if-row-large_rows.false, c.rows-large_rows.ensures.large)) c.requires.row)

pub overflow_add-result : goal.overflow_add-result
overflow_add-result c =
    let g = c.args.geometry.now in
    let large : c.rows-large_rows.result.0 * c.from-large.result ≡ large_rows c.args.geometry.now c.args.dat_size * c.args.geometry.now.large = λ i. c.rows-large_rows.ensures.large i * c.from-large.ensures i in
    let small : (c.args.row - c.rows-large_rows.result.0) * c.from-small.result ≡ (c.args.row - large_rows c.args.geometry.now c.args.dat_size) * c.args.geometry.now.small = λ i. (c.args.row - c.rows-large_rows.ensures.large i) * c.from-small.ensures i in
    omega (arith, large, small, c.requires.size, small_start g c.args.dat_size c.args.row c.requires.geometry (omega (arith, c.if-row-large_rows.false, c.rows-large_rows.ensures.large)) c.requires.row)
