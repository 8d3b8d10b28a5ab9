use Rattle.std.proofs.Common.{◌*◌, ◌/◌, ◌%◌, sym, ◌∙◌}
use Rattle.std.specs.Int.Bits.{xor_comm}
use Rattle.gf256.specs.Field.{field_mul}
use Rattle.gf256.specs.Laws.Nibbles.{mul-nibbles_left}
use Rattle.gf256.specs.Tables.{sum-tabulates}
use Rattle.gf256.proofs.low_products.Goals as goal

pub returns : goal.returns
returns c =
    let a = c.args.c in
    sum-tabulates (field_mul (a % 16)) (field_mul (16 * (a / 16))) (field_mul a) c.low.result.now c.middle.result.now c.low.ensures c.middle.ensures.shifted_row
    (λ n. xor_comm (field_mul (a % 16) n) (field_mul (16 * (a / 16)) n) ∙ sym (mul-nibbles_left a n c.ranges.c.fits))
