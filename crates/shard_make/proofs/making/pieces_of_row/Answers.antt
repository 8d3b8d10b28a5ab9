use Rattle.std.proofs.Common.{◌≡◌, ◌*◌, ◌∙◌, arith}
use Rattle.stripe_layout.specs.Stripes.{row_width}
use Rattle.stripe_layout.specs.Rows.{row_start}
use Rattle.shard_make.proofs.Located.{row_ends}
use Rattle.shard_make.proofs.making.pieces_of_row.Goals as goal

pub overflow_mul-result : goal.overflow_mul-result
overflow_mul-result c =
    let start : c.from.result * c.row_place-start.result.0 ≡ row_width c.args.geometry.now * row_start c.args.geometry.now c.args.dat_size c.args.row = λ i. (c.from.ensures ∙ c.data_count.ensures) i * c.row_place-start.ensures.start i in
    omega (arith, start, row_ends c.args.geometry.now c.args.dat_size c.args.row c.args.at c.requires.geometry c.requires.size c.requires.row c.requires.at)

pub overflow_add-result : goal.overflow_add-result
overflow_add-result c =
    let start : c.from.result * c.row_place-start.result.0 ≡ row_width c.args.geometry.now * row_start c.args.geometry.now c.args.dat_size c.args.row = λ i. (c.from.ensures ∙ c.data_count.ensures) i * c.row_place-start.ensures.start i in
    omega (arith, start, row_ends c.args.geometry.now c.args.dat_size c.args.row c.args.at c.requires.geometry c.requires.size c.requires.row c.requires.at)
