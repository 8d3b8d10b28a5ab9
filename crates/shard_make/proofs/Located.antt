-- Where the pieces of a row stand in the data file, as the code computes it.
use Rattle.std.proofs.Common.{ℕ, zero, suc, ◌+◌, ◌-◌, ◌*◌, ◌^◌, ◌<◌, ◌≤◌, nat_lt, Bool, true, false, cond, ap, arith}
use Rattle.std.proofs.lemmas.Bool.{le-ltb}
use Rattle.std.proofs.Math.Nat.{mul-le-mul_right}
use Rattle.world_model.specs.Sizes.{max_dat}
use Rattle.world_model.specs.Ratios.{data_count-some, data_count-twelve}
use Rattle.stripe_layout.specs.declared.Geometry.{Geometry}
use Rattle.stripe_layout.specs.Stripes.{GeometryInRange, row_width, large_rows}
use Rattle.stripe_layout.specs.Pieces.{large_part}
use Rattle.stripe_layout.specs.Rows.{all_rows, row_block, row_start}
use Rattle.stripe_layout.specs.Laws.Rows.{row_begins}

no_less : (k s : ℕ) → 0 < k → s ≤ k * s
no_less zero s h = absurd (omega (arith, h))
no_less (suc k) s h = omega arith

-- the blocks of a row begin within a shard as long as the file
pub start_within : (g : Geometry) (n row : ℕ) → GeometryInRange g → row < all_rows g n → row_start g n row ≤ n
start_within g n row range below = omega (arith, no_less (row_width g) (row_start g n row) (data_count-some g.ratio), row_begins g n row range below)

-- of a row of small blocks
pub small_start : (g : Geometry) (n row : ℕ) → GeometryInRange g → large_rows g n ≤ row → row < all_rows g n → large_part g n + (row - large_rows g n) * g.small ≤ n
small_start g n row range more below =
    omega (arith, ap (λ b. cond b (row * g.large) (large_part g n + (row - large_rows g n) * g.small)) (le-ltb row (large_rows g n) more), start_within g n row range below)

pub block_most : (g : Geometry) (n row : ℕ) → GeometryInRange g → row_block g n row ≤ 2 ^ 30
block_most g n row range = by_test (nat_lt row (large_rows g n))
  where
    by_test : (b : Bool) → cond b g.large g.small ≤ 2 ^ 30
    by_test true = range.large
    by_test false = omega (arith, range.small, range.large)

-- all pieces of a row
pub row_ends : (g : Geometry) (n row at : ℕ) → GeometryInRange g → n ≤ max_dat → row < all_rows g n → at < row_block g n row → row_width g * row_start g n row + at + row_width g * row_block g n row < 2 ^ 63
row_ends g n row at range small below within =
    omega (arith, small, within, row_begins g n row range below, block_most g n row range, mul-le-mul_right (row_block g n row) (data_count-twelve g.ratio))
