-- How long a shard can be.
use Rattle.std.proofs.Common.{◌≡◌, ℕ, zero, suc, ◌+◌, ◌-◌, ◌*◌, ◌^◌, ◌<◌, ◌≤◌, ◌∙◌, ap, arith}
use Rattle.std.proofs.Math.Nat.{div-mul-le_self, mul-le-mul_right}
use Rattle.world_model.specs.Sizes.{max_dat}
use Rattle.world_model.specs.Ratios.{data_count-some, data_count-twelve}
use Rattle.stripe_layout.specs.declared.Geometry.{Geometry}
use Rattle.stripe_layout.specs.Stripes.{GeometryInRange, row_width, rounded_up, large_rows, small_rows, shard_length}

some_times : (a b : ℕ) → 0 < a → 0 < b → 0 < a * b
some_times zero b h k = absurd (omega arith)
some_times (suc a) b h k = omega arith

-- no more pieces of this size than enough
rounded_up-most : (n size : ℕ) → 0 < size → rounded_up n size * size < n + size
rounded_up-most n size h = omega (arith, div-mul-le_self (n + size - 1) size)

less_one : (q size : ℕ) → (q - 1) * size ≡ q * size - size
less_one zero size = omega arith
less_one (suc q) size = let less : suc q - 1 ≡ q = omega arith in ap (λ m. m * size) less ∙ omega arith

wider : (w a b : ℕ) → 0 < w → a * b ≤ a * (w * b)
wider zero a b h = absurd (omega arith)
wider (suc w) a b h = omega arith

module _ (g : Geometry) (n : ℕ) (range : GeometryInRange g) where
  large_part_below : large_rows g n * g.large ≤ n
  large_part_below =
      let row : ℕ = row_width g * g.large in
      let some : 0 < row_width g * g.large = some_times (row_width g) g.large (data_count-some g.ratio) (omega (arith, range.some_small, range.small)) in
      omega (arith, wider (row_width g) (large_rows g n) g.large (data_count-some g.ratio), less_one (rounded_up n row) row, rounded_up-most n row some)

  -- a row has at most twelve blocks
  small_part_below : small_rows g n * g.small < n + 12 * 2 ^ 30
  small_part_below =
      let row : ℕ = row_width g * g.small in
      let rest : ℕ = n - large_rows g n * (row_width g * g.large) in
      let some : 0 < row_width g * g.small = some_times (row_width g) g.small (data_count-some g.ratio) range.some_small in
      let narrow : row_width g * g.small ≤ 12 * g.small = mul-le-mul_right g.small (data_count-twelve g.ratio) in
      omega (arith, wider (row_width g) (small_rows g n) g.small (data_count-some g.ratio), rounded_up-most rest row some, narrow, range.small, range.large)

  pub length_fits : n ≤ max_dat → shard_length g n < 2 ^ 64
  length_fits h = omega (arith, h, large_part_below, small_part_below)
