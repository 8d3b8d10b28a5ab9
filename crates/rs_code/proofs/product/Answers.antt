use Rattle.std.proofs.Common.{arith, add-one}
use Rattle.rs_code.proofs.Products.{bytes_from_fits, product_begins, product_goes_on, product_ends}
use Rattle.rs_code.proofs.product.Goals as goal

pub loop-place-init : goal.loop-place-init
loop-place-init c = product_begins c.args.places.now c.args.x (bytes_from_fits c.args.places.now c.type_inv.places) c.ranges.x.fits

pub loop-place-preserved : goal.loop-place-preserved
loop-place-preserved c =
    rw (c.mul-product.ensures, c.add.ensures, add-one)
    (product_goes_on c.args.places.now c.args.x c.loop-place.product c.loop-place.place-index (bytes_from_fits c.args.places.now c.type_inv.places) c.ranges.x.fits
    c.loop-place-test.true (c.type_inv.places c.loop-place.place-index).fits c.loop-place.invariant)

pub returns : goal.returns
returns c = product_ends c.args.places.now c.args.x c.loop-place.product c.loop-place.place-index (omega arith) c.loop-place.invariant
