use Rattle.std.proofs.Common.{◌<◌, ◌∙◌, ap}
use Rattle.std.specs.Prelude.{slice_index}
use Rattle.gf256.specs.Field.{field_mul, field_inv}
use Rattle.rs_code.proofs.Products.{bytes_from_fits, product_of_others, others_nonzero}
use Rattle.rs_code.proofs.coefficient.Goals as goal

pub inv-requires : goal.inv-requires
inv-requires c =
    let have = c.args.have.now in
    let i = c.args.index in
    let bytes = bytes_from_fits c.args.have.now c.type_inv.have in
    let fits : slice_index c.args.have.now c.args.index < 256 = (c.type_inv.have c.args.index).fits in
    others_nonzero have i c.mul-denominator.result bytes c.requires.distinct c.requires.inside fits
    (product_of_others have i (slice_index c.args.have.now c.args.index) c.product-3.result c.product-4.result c.mul-denominator.result bytes fits c.product-3.ensures c.product-4.ensures c.mul-denominator.ensures)

pub returns : goal.returns
returns c =
    let have = c.args.have.now in
    let i = c.args.index in
    let bytes = bytes_from_fits c.args.have.now c.type_inv.have in
    let fits : slice_index c.args.have.now c.args.index < 256 = (c.type_inv.have c.args.index).fits in
    let numerator = product_of_others have i c.args.x c.product.result c.product-2.result c.mul-numerator.result bytes c.ranges.x.fits c.product.ensures c.product-2.ensures c.mul-numerator.ensures in
    let denominator = product_of_others have i (slice_index c.args.have.now c.args.index) c.product-3.result c.product-4.result c.mul-denominator.result bytes fits c.product-3.ensures c.product-4.ensures c.mul-denominator.ensures in
    c.mul.ensures ∙ (λ j. field_mul (numerator j) ((c.inv.ensures.power ∙ ap field_inv denominator) j))
