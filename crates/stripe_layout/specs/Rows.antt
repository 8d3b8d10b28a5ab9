-- The rows of a file one after the other, those of large blocks first, and where their blocks begin.
use Rattle.std.specs.Prelude.{◌≡◌, ℕ, ◌+◌, ◌-◌, ◌*◌, ◌<◌, nat_lt, if◌then◌else◌}
use Rattle.stripe_layout.specs.declared.Geometry.{Geometry}
use Rattle.stripe_layout.specs.Stripes.{row_width, large_rows, small_rows}
use Rattle.stripe_layout.specs.Pieces.{large_part}

-- the rows of a file of n bytes
abbrev pub all_rows : Geometry → ℕ → ℕ
all_rows g n = large_rows g n + small_rows g n

-- the size of a row's blocks
abbrev pub row_block : Geometry → ℕ → ℕ → ℕ
row_block g n row = if nat_lt row (large_rows g n) then g.large else g.small

-- where they begin in each shard
abbrev pub row_start : Geometry → ℕ → ℕ → ℕ
row_start g n row = if nat_lt row (large_rows g n) then row * g.large else large_part g n + (row - large_rows g n) * g.small

-- where the block of data shard i begins in the file
abbrev pub block_start : Geometry → ℕ → ℕ → ℕ → ℕ
block_start g n row i = row_width g * row_start g n row + i * row_block g n row

-- The place of a shard is this one of the row's blocks.
pub record StandsInRow (g : Geometry) (n p row at : ℕ) : Type 0 where
  pub row_there : row < all_rows g n
  pub within : at < row_block g n row
  pub place : row_start g n row + at ≡ p
