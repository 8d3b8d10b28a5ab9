use Rattle.std.proofs.Common.{ℕ, ◌<◌, refl, ◌≡◌, ◌∙◌, sym, ap}
use Rattle.std.specs.Prelude.{slice_index}
use Rattle.gf256.specs.Field.{field_mul, field_inv, carry_less, reduced}
use Rattle.gf256.specs.Computed.{equal_below}
use Rattle.gf256.specs.Powers.{inv-is, mul-inv, square_products}
use Rattle.gf256.specs.declared.TheConstants.{INVERSES}
use Rattle.gf256.proofs.inv.Goals as goal

table-is : (a : ℕ) → a < 256 → slice_index INVERSES a ≡ field_inv a
unfolding field_mul carry_less reduced
table-is a h = equal_below 256 (slice_index INVERSES) (square_products 7) refl a h ∙ sym (inv-is a h)

read : (a index : ℕ) → index ≡ a → a < 256 → slice_index INVERSES index ≡ field_inv a
read a index e h = ap (slice_index INVERSES) e ∙ table-is a h

pub returns-clause-product : goal.returns-clause-product
returns-clause-product c = ap (field_mul c.args.a) (read c.args.a _ c.from.ensures c.ranges.a.fits) ∙ mul-inv c.args.a c.ranges.a.fits c.requires

pub returns-clause-power : goal.returns-clause-power
returns-clause-power c = read c.args.a _ c.from.ensures c.ranges.a.fits
