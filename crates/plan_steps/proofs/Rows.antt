-- How far the rows of large blocks go, and that quotients are no greater.
use Rattle.std.proofs.Common.{ℕ, ◌*◌, ◌/◌, ◌<◌, ◌≤◌, arith}
use Rattle.std.proofs.Math.Nat.{div-le_self, mul-le-mul_right, mul-le-mul_left, mul_left_comm}
use Rattle.world_model.specs.Ratios.{data_count-some}
use Rattle.stripe_layout.specs.declared.Geometry.{Geometry}
use Rattle.stripe_layout.specs.Stripes.{GeometryInRange, row_width, large_rows}
use Rattle.stripe_layout.specs.Pieces.{large_part}
use Rattle.plan_steps.specs.PieceCounts.{full_rows}

pub quotient_within : (n m : ℕ) → n / m ≤ n
quotient_within n m = div-le_self n m

pub blocks_within : (n m k : ℕ) → n / m / k ≤ n
blocks_within n m k = omega (arith, div-le_self (n / m) k, div-le_self n m)

times_some : (a b : ℕ) → 0 < a → 0 < b → 0 < a * b
times_some a b some_a some_b = omega (arith, mul-le-mul_left a some_b)

module _ (g : Geometry) (n : ℕ) (range : GeometryInRange g) where
  some_large : 0 < g.large
  some_large = omega (arith, range.some_small, range.small)

  -- the rows of large blocks lie in the file
  pub rows_within : row_width g * large_part g n ≤ n
  rows_within = omega (arith, mul_left_comm (row_width g) (large_rows g n) g.large, full_rows n (row_width g * g.large) (times_some (row_width g) g.large (data_count-some g.ratio) some_large))

  pub part_within : large_part g n ≤ n
  part_within = omega (arith, mul-le-mul_right (large_part g n) (data_count-some g.ratio), rows_within)

  pub rows_few : large_rows g n ≤ large_part g n
  rows_few = omega (arith, mul-le-mul_left (large_rows g n) some_large)
