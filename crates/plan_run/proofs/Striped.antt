-- Where a piece of the data file stands in the shards.
use Rattle.std.proofs.Common.{◌≡◌, ℕ, zero, suc, ◌+◌, ◌-◌, ◌*◌, ◌/◌, ◌%◌, ◌^◌, ◌<◌, ◌≤◌, Bool, true, false, cond, List, [], ◌∷◌, ◌++◌, length, take, drop, replicate, Some, refl, sym, ◌∙◌, ap, arith}
use Rattle.std.specs.Prelude.{◌==◌, ◌&&◌, if◌then◌else◌, nat_lt, slice_get, slice_index_or}
use Rattle.std.specs.List.{AllByRecursion}
use Rattle.std.proofs.lemmas.Bool.{and_parts, eqb-true, lt-ltb, le-ltb, ltb-true, ltb-false}
use Rattle.std.proofs.lemmas.List.{get_or-take, length-take-le}
use Rattle.std.proofs.lemmas.Nat.{mod_below, div-add-mod'}
use Rattle.world_model.specs.Sizes.{max_dat}
use Rattle.world_model.specs.Ratios.{data_count-some}
use Rattle.image_meaning.specs.Laws.Options.{none_some, some_is}
use Rattle.stripe_layout.specs.declared.Geometry.{Geometry}
use Rattle.stripe_layout.specs.declared.Info.{Info}
use Rattle.stripe_layout.specs.Stripes.{GeometryInRange, IsStriped, row_width, large_rows, small_rows, shard_length}
use Rattle.stripe_layout.specs.Pieces.{large_part}
use Rattle.stripe_layout.specs.Rows.{all_rows, row_block, row_start, block_start}
use Rattle.stripe_layout.specs.Laws.Row.{rounded_up-enough}
use Rattle.stripe_layout.specs.Laws.Rows.{block-unstriped, row_begins}
use Rattle.plan_steps.specs.Laws.Blocks.{quotient_less}
use Rattle.plan_steps.specs.Legality.{is_join}
use Rattle.plan_steps.specs.Next.{join_in_rows, join_step, large_end}

-- ---- where a row begins

no_less : (k s : ℕ) → 0 < k → s ≤ k * s
no_less zero s h = absurd (omega (arith, h))
no_less (suc k) s h = omega arith

-- within a shard that is as long as the file
start_within : (g : Geometry) (n row : ℕ) → GeometryInRange g → row < all_rows g n → row_start g n row ≤ n
start_within g n row range below = omega (arith, no_less (row_width g) (row_start g n row) (data_count-some g.ratio), row_begins g n row range below)

block_most : (g : Geometry) (n row : ℕ) → GeometryInRange g → row_block g n row ≤ 2 ^ 30
block_most g n row range = by_test (nat_lt row (large_rows g n))
  where
    by_test : (b : Bool) → cond b g.large g.small ≤ 2 ^ 30
    by_test true = range.large
    by_test false = omega (arith, range.small, range.large)

-- a place of its blocks fits its type
pub start_most : (g : Geometry) (n row at : ℕ) → GeometryInRange g → n ≤ max_dat → row < all_rows g n → at < row_block g n row → row_start g n row + at < 2 ^ 64
start_most g n row at range most below within = omega (arith, most, within, start_within g n row range below, block_most g n row range)

-- ---- the block of a place of the data file

-- the place is this one of a block of a data shard
pub record IsInBlock (g : Geometry) (size n row block at : ℕ) : Type 0 where
  pub row_there : row < all_rows g size
  pub shard : block < row_width g
  pub within : at < row_block g size row
  pub place : block_start g size row block + at ≡ n

block_in_row : (row k i size at : ℕ) → k * (row * size) + i * size + at ≡ (row * k + i) * size + at
block_in_row row k i size at = omega arith

block_behind : (l large row k i size at : ℕ) → k * (l * large + row * size) + i * size + at ≡ k * (l * large) + ((row * k + i) * size + at)
block_behind l large row k i size at = omega arith

-- a place in rows of blocks of one size
again : (n size width : ℕ) → (n / size / width * width + n / size % width) * size + n % size ≡ n
again n size width = ap (λ q. q * size + n % size) (div-add-mod' (n / size) width) ∙ div-add-mod' n size

module _ (info : Info) (range : GeometryInRange info.geometry) (n row block at : ℕ) (inside : n < info.dat_size) where
  abbrev g : Geometry
  g = info.geometry

  abbrev rows : ℕ
  rows = large_rows g info.dat_size

  abbrev width : ℕ
  width = row_width g

  some_large : 0 < g.large
  some_large = omega (arith, range.some_small, range.small)

  in_large : n < large_end info → row ≡ n / g.large / width → block ≡ n / g.large % width → at ≡ n % g.large → IsInBlock g info.dat_size n row block at
  in_large less is_row is_block is_at =
      let blocks : n / g.large < rows * width = quotient_less n g.large (rows * width) some_large (omega (arith, less)) in
      let below : row < rows = omega (arith, is_row, quotient_less (n / g.large) width rows (data_count-some g.ratio) blocks) in
      let start : row_start g info.dat_size row ≡ row * g.large = ap (λ b. cond b (row * g.large) (large_part g info.dat_size + (row - rows) * g.small)) (lt-ltb row rows below) in
      let size : row_block g info.dat_size row ≡ g.large = ap (λ b. cond b g.large g.small) (lt-ltb row rows below) in record {
        row_there = omega (arith, below);
        shard = omega (arith, is_block, mod_below (n / g.large) width (data_count-some g.ratio));
        within = omega (arith, is_at, size, mod_below n g.large some_large);
        place = (λ i. width * start i + block * size i + at) ∙ block_in_row row width block g.large at ∙ (λ i. (is_row i * width + is_block i) * g.large + is_at i) ∙ again n g.large width;
      }

  in_small : large_end info ≤ n → row ≡ rows + (n - large_end info) / g.small / width → block ≡ (n - large_end info) / g.small % width → at ≡ (n - large_end info) % g.small → IsInBlock g info.dat_size n row block at
  in_small more is_row is_block is_at =
      let m : ℕ = n - large_end info in
      let fits : info.dat_size - rows * (width * g.large) ≤ small_rows g info.dat_size * (width * g.small) = rounded_up-enough (info.dat_size - rows * (width * g.large)) (width * g.small) some_row in
      let blocks : m / g.small < small_rows g info.dat_size * width = quotient_less m g.small (small_rows g info.dat_size * width) range.some_small (omega (arith, inside, more, fits)) in
      let few : m / g.small / width < small_rows g info.dat_size = quotient_less (m / g.small) width (small_rows g info.dat_size) (data_count-some g.ratio) blocks in
      let behind : rows ≤ row = omega (arith, is_row) in
      let rest : row - rows ≡ m / g.small / width = omega (arith, is_row) in
      let start : row_start g info.dat_size row ≡ large_part g info.dat_size + m / g.small / width * g.small =
      ap (λ b. cond b (row * g.large) (large_part g info.dat_size + (row - rows) * g.small)) (le-ltb row rows behind) ∙ ap (λ q. large_part g info.dat_size + q * g.small) rest in
      let size : row_block g info.dat_size row ≡ g.small = ap (λ b. cond b g.large g.small) (le-ltb row rows behind) in record {
        row_there = omega (arith, is_row, few);
        shard = omega (arith, is_block, mod_below (m / g.small) width (data_count-some g.ratio));
        within = omega (arith, is_at, size, mod_below m g.small range.some_small);
        place = (λ i. width * start i + is_block i * size i + is_at i) ∙ block_behind rows g.large (m / g.small / width) width (m / g.small % width) g.small (m % g.small)
            ∙ ap (λ q. large_end info + q) (again m g.small width) ∙ omega (arith, more);
      }
    where
      some_row : 0 < width * g.small
      some_row = omega (arith, no_less width g.small (data_count-some g.ratio), range.some_small)

  pub in_block : is_join row block at (join_step info n) ≡ true → IsInBlock g info.dat_size n row block at
  in_block is = by_part (nat_lt n (large_end info)) refl is
    where
      by_part : (b : Bool) → nat_lt n (large_end info) ≡ b
          → is_join row block at (if b then join_in_rows width g.large 0 n else join_in_rows width g.small rows (n - large_end info)) ≡ true → IsInBlock g info.dat_size n row block at
      by_part true less is =
          let both = and_parts ((0 + n / g.large / width == row) && (n / g.large % width == block)) (n % g.large == at) is in
          let first = and_parts (0 + n / g.large / width == row) (n / g.large % width == block) both.0 in
          in_large (ltb-true n (large_end info) less) (omega (arith, eqb-true (0 + n / g.large / width) row first.0)) (sym (eqb-true (n / g.large % width) block first.1)) (sym (eqb-true (n % g.large) at both.1))
      by_part false less is =
          let m : ℕ = n - large_end info in
          let both = and_parts ((rows + m / g.small / width == row) && (m / g.small % width == block)) (m % g.small == at) is in
          let first = and_parts (rows + m / g.small / width == row) (m / g.small % width == block) both.0 in
          in_small (ltb-false n (large_end info) less) (sym (eqb-true (rows + m / g.small / width) row first.0)) (sym (eqb-true (m / g.small % width) block first.1)) (sym (eqb-true (m % g.small) at both.1))

-- ---- its bytes

all_front : (P : List ℕ → Type 0) (k : ℕ) (xs : List (List ℕ)) → AllByRecursion P xs → AllByRecursion P (take k xs)
all_front P zero xs all = tt
all_front P (suc k) [] all = tt
all_front P (suc k) (x ∷ xs) all = (all.0, all_front P k xs all.1)

-- what stands in front doesn't depend on what is behind
pub front_part : (front more : List ℕ) (n w : ℕ) → n + w ≤ length front → take w (drop n (front ++ more)) ≡ take w (drop n front)
front_part front more n zero fits = refl
front_part [] more zero (suc w) fits = absurd (omega (arith, fits))
front_part [] more (suc n) (suc w) fits = absurd (omega (arith, fits))
front_part (x ∷ front) more zero (suc w) fits = ap (λ xs. x ∷ xs) (front_part front more zero w (omega (arith, fits)))
front_part (x ∷ front) more (suc n) (suc w) fits = front_part front more n (suc w) (omega (arith, fits))

there_is : (xs : List (List ℕ)) (i : ℕ) (x : List ℕ) → slice_get xs i ≡ Some x → slice_index_or xs i [] ≡ x
there_is [] i x e = absurd (none_some e)
there_is (y ∷ xs) zero x e = some_is y x e
there_is (y ∷ xs) (suc i) x e = there_is xs i x e

-- what is read at a place, where something stands
pub got : {A : Type 0} (xs : List A) (i : ℕ) (x y : A) → slice_get xs i ≡ Some x → y ≡ slice_index_or xs i y → y ≡ x
got [] i x y e is = absurd (none_some e)
got (z ∷ xs) zero x y e is = is ∙ some_is z x e
got (z ∷ xs) (suc i) x y e is = got xs i x y e is

-- a part of a block is that part of the data file
pub block_part : (g : Geometry) (dat : List ℕ) (shards : List (List ℕ)) → IsStriped g dat shards → (n row block at w : ℕ) → IsInBlock g (length dat) n row block at → at + w ≤ row_block g (length dat) row → n + w ≤ length dat
    → (whole : List ℕ) → slice_get shards block ≡ Some whole → take w (drop (row_start g (length dat) row + at) whole) ≡ take w (drop n dat)
block_part g dat shards striped n row block at w is within fits whole there =
    ap (λ s. take w (drop (row_start g (length dat) row + at) s)) (sym (get_or-take (row_width g) shards block [] is.shard ∙ there_is shards block whole there))
    ∙ block-unstriped g (length dat) (take (row_width g) shards) (length-take-le (row_width g) shards (omega (arith, striped.count))) (all_front (λ s. length s ≡ shard_length g (length dat)) (row_width g) shards striped.lengths) row block at w is.row_there is.shard within
    ∙ (λ i. take w (drop (is.place i) (striped.rows i)))
    ∙ front_part dat (replicate striped.zeros 0) n w fits
