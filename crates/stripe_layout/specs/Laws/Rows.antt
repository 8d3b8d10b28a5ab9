-- The rows stand one after the other, their blocks are parts of the shards, and they tell the data shards.
use Rattle.std.proofs.Common.{inl, inr, ◌≡◌, ◌⊎◌, ℕ, zero, suc, ◌+◌, ◌-◌, ◌*◌, ◌/◌, ◌%◌, ◌<◌, ◌≤◌, nat_lt, Bool, true, false, cond, List, [], ◌∷◌, ◌++◌, length, map, take, drop, replicate, refl, sym, ◌∙◌, ap, subst, arith}
use Rattle.std.specs.Prelude.{slice_index, slice_index_or}
use Rattle.std.specs.List.{AllByRecursion}
use Rattle.std.proofs.lemmas.Bool.{cases_lt, lt-ltb, le-ltb, ltb-true, ltb-false}
use Rattle.std.proofs.lemmas.Nat.{mod_below, div_below, div-add-mod'}
use Rattle.std.proofs.lemmas.Grind.{same_number_lists}
use Rattle.std.proofs.lemmas.List.{drop-drop, get_or-map, get_or-take, get_or-drop, append-nil}
use Rattle.std.proofs.Math.Nat.{div-mul-le_self, mul-le-mul_right, mul_left_comm}
use Rattle.world_model.specs.declared.types.Ratio.TheVariants.{ThreeTwo}
use Rattle.world_model.specs.Ratios.{data_count-some}
use Rattle.stripe_layout.specs.declared.Geometry.{Geometry}
use Rattle.stripe_layout.specs.Stripes.{GeometryInRange, row_width, large_rows, small_rows, shard_length, rounded_up, rows_of, unstriped}
use Rattle.stripe_layout.specs.Pieces.{large_part}
use Rattle.stripe_layout.specs.Striping.{row_bytes, data_shards_of}
use Rattle.stripe_layout.specs.Rows.{all_rows, row_block, row_start, block_start, StandsInRow}
use Rattle.stripe_layout.specs.Laws.Row.{length_map, all_within, all_behind, length-rows_of}
use Rattle.stripe_layout.specs.Laws.Blocks.{behind_front, in_rows}
use Rattle.stripe_layout.specs.Laws.Striping.{length-data_shards, each_data_shard, data_shards-rows}

-- ---- one row after the other

start_in_large : (g : Geometry) (n row : ℕ) → row < large_rows g n → row_start g n row ≡ row * g.large
start_in_large g n row h = ap (λ b. cond b (row * g.large) (large_part g n + (row - large_rows g n) * g.small)) (lt-ltb row (large_rows g n) h)

start_in_small : (g : Geometry) (n row : ℕ) → large_rows g n ≤ row → row_start g n row ≡ large_part g n + (row - large_rows g n) * g.small
start_in_small g n row h = ap (λ b. cond b (row * g.large) (large_part g n + (row - large_rows g n) * g.small)) (le-ltb row (large_rows g n) h)

block_in_large : (g : Geometry) (n row : ℕ) → row < large_rows g n → row_block g n row ≡ g.large
block_in_large g n row h = ap (λ b. cond b g.large g.small) (lt-ltb row (large_rows g n) h)

block_in_small : (g : Geometry) (n row : ℕ) → large_rows g n ≤ row → row_block g n row ≡ g.small
block_in_small g n row h = ap (λ b. cond b g.large g.small) (le-ltb row (large_rows g n) h)

next_times : (row size : ℕ) → suc row * size ≡ row * size + size
next_times row size = omega arith

pub row_start-first : (g : Geometry) (n : ℕ) → row_start g n 0 ≡ 0
row_start-first g n = by_case (cases_lt 0 (large_rows g n))
  where
    by_case : (0 < large_rows g n) ⊎ (large_rows g n ≤ 0) → row_start g n 0 ≡ 0
    by_case (inl some) = start_in_large g n 0 some ∙ omega arith
    by_case (inr none) =
        let no_rows : large_rows g n ≡ 0 = omega (arith, none) in
        start_in_small g n 0 none ∙ ap (λ l. l * g.large + (0 - l) * g.small) no_rows ∙ omega arith

pub row_start-next : (g : Geometry) (n row : ℕ) → row_start g n (suc row) ≡ row_start g n row + row_block g n row
row_start-next g n row = by_case (cases_lt row (large_rows g n)) (cases_lt (suc row) (large_rows g n))
  where
    by_case : (row < large_rows g n) ⊎ (large_rows g n ≤ row) → (suc row < large_rows g n) ⊎ (large_rows g n ≤ suc row) → row_start g n (suc row) ≡ row_start g n row + row_block g n row
    by_case (inl less) (inl next) = start_in_large g n (suc row) next ∙ next_times row g.large ∙ sym (λ j. start_in_large g n row less j + block_in_large g n row less j)
    by_case (inl less) (inr last) =
        let end : large_rows g n ≡ suc row = omega (arith, less, last) in
        start_in_small g n (suc row) last ∙ ap (λ l. l * g.large + (suc row - l) * g.small) end ∙ none_left (suc row * g.large) (suc row) g.small ∙ next_times row g.large
        ∙ sym (λ j. start_in_large g n row less j + block_in_large g n row less j)
      where
        none_left : (a b c : ℕ) → a + (b - b) * c ≡ a
        none_left a b c = let none : b - b ≡ 0 = omega arith in ap (λ m. a + m * c) none ∙ omega arith
    by_case (inr more) (inl next) = absurd (omega (arith, more, next))
    by_case (inr more) (inr next) =
        let one : suc row - large_rows g n ≡ suc (row - large_rows g n) = omega (arith, more) in
        start_in_small g n (suc row) next ∙ ap (λ r. large_part g n + r * g.small) one ∙ one_more (large_part g n) (row - large_rows g n) g.small
        ∙ sym (λ j. start_in_small g n row more j + block_in_small g n row more j)
      where
        one_more : (a r c : ℕ) → a + suc r * c ≡ a + r * c + c
        one_more a r c = omega arith

pub row_start-all : (g : Geometry) (n : ℕ) → row_start g n (all_rows g n) ≡ shard_length g n
row_start-all g n =
    let rest : large_rows g n + small_rows g n - large_rows g n ≡ small_rows g n = omega arith in
    start_in_small g n (all_rows g n) (omega arith) ∙ ap (λ r. large_part g n + r * g.small) rest

fewer_times : (a b c : ℕ) → a ≤ b → a * c ≤ b * c
fewer_times a b c h = mul-le-mul_right c h

-- a row ends within the shards
pub row_within : (g : Geometry) (n row : ℕ) → row < all_rows g n → row_start g n row + row_block g n row ≤ shard_length g n
row_within g n row below = by_case (cases_lt row (large_rows g n))
  where
    by_case : (row < large_rows g n) ⊎ (large_rows g n ≤ row) → row_start g n row + row_block g n row ≤ shard_length g n
    by_case (inl less) =
        omega (arith, start_in_large g n row less, block_in_large g n row less, next_times row g.large, fewer_times (suc row) (large_rows g n) g.large (omega (arith, less)))
    by_case (inr more) =
        omega (arith, start_in_small g n row more, block_in_small g n row more, next_times (row - large_rows g n) g.small, fewer_times (suc (row - large_rows g n)) (small_rows g n) g.small (omega (arith, more, below)))

-- ---- where they begin in the file

-- all rows but the last are full
full_rows : (n m : ℕ) → 0 < m → (rounded_up n m - 1) * m ≤ n
full_rows n m some = by_rows (rounded_up n m) (div-mul-le_self (n + m - 1) m)
  where
    by_rows : (q : ℕ) → q * m ≤ n + m - 1 → (q - 1) * m ≤ n
    by_rows zero h = omega arith
    by_rows (suc k) h = let same : k ≡ suc k - 1 = omega arith in subst (λ j. j * m ≤ n) same (omega (arith, next_times k m, h, some))

some_times : (a b : ℕ) → 0 < a → 0 < b → 0 < a * b
some_times zero b h k = absurd (omega arith)
some_times (suc a) b h k = omega arith

-- A row begins within the file.
pub row_begins : (g : Geometry) (n row : ℕ) → GeometryInRange g → row < all_rows g n → row_width g * row_start g n row ≤ n
row_begins g n row range below = by_case (cases_lt row (large_rows g n))
  where
    some_large : 0 < row_width g * g.large
    some_large = some_times (row_width g) g.large (data_count-some g.ratio) (omega (arith, range.some_small, range.small))

    all_large : large_rows g n * (row_width g * g.large) ≤ n
    all_large = full_rows n (row_width g * g.large) some_large

    by_case : (row < large_rows g n) ⊎ (large_rows g n ≤ row) → row_width g * row_start g n row ≤ n
    by_case (inl less) =
        let same : row_width g * row_start g n row ≡ row * (row_width g * g.large) = ap (λ s. row_width g * s) (start_in_large g n row less) ∙ mul_left_comm (row_width g) row g.large in
        omega (arith, same, all_large, fewer_times row (large_rows g n) (row_width g * g.large) (omega (arith, less)))
    by_case (inr more) =
        let same : row_width g * row_start g n row ≡ large_rows g n * (row_width g * g.large) + (row - large_rows g n) * (row_width g * g.small) =
        ap (λ s. row_width g * s) (start_in_small g n row more) ∙ apart (row_width g) (large_rows g n) g.large (row - large_rows g n) g.small in
        omega (
          arith,
          same,
          all_large,
          full_rows (n - large_rows g n * (row_width g * g.large)) (row_width g * g.small) (some_times (row_width g) g.small (data_count-some g.ratio) range.some_small),
          fewer_times (row - large_rows g n) (small_rows g n - 1) (row_width g * g.small) (omega (arith, more, below)),
        )
      where
        apart : (k l a r b : ℕ) → k * (l * a + r * b) ≡ l * (k * a) + r * (k * b)
        apart k l a r b = omega arith

-- ---- the row of a place

pub large_place : (g : Geometry) (n p : ℕ) → GeometryInRange g → p < large_part g n → StandsInRow g n p (p / g.large) (p % g.large)
large_place g n p range less =
    let some : 0 < g.large = omega (arith, range.some_small, range.small) in
    let row : p / g.large < large_rows g n = div_below p g.large (large_rows g n) some less in
    record {
      row_there = omega (arith, row);
      within = omega (arith, mod_below p g.large some, block_in_large g n (p / g.large) row);
      place = ap (λ s. s + p % g.large) (start_in_large g n (p / g.large) row) ∙ div-add-mod' p g.large;
    }

pub small_place : (g : Geometry) (n p : ℕ) → GeometryInRange g → large_part g n ≤ p → p < shard_length g n
    → StandsInRow g n p (large_rows g n + (p - large_part g n) / g.small) ((p - large_part g n) % g.small)
small_place g n p range more within =
    let row : (p - large_part g n) / g.small < small_rows g n = div_below (p - large_part g n) g.small (small_rows g n) range.some_small (omega (arith, more, within)) in
    let behind : large_rows g n ≤ large_rows g n + (p - large_part g n) / g.small = omega arith in
    let same : large_rows g n + (p - large_part g n) / g.small - large_rows g n ≡ (p - large_part g n) / g.small = omega arith in
    record {
      row_there = omega (arith, row);
      within = omega (arith, mod_below (p - large_part g n) g.small range.some_small, block_in_small g n (large_rows g n + (p - large_part g n) / g.small) behind);
      place = ap (λ s. s + (p - large_part g n) % g.small) (start_in_small g n (large_rows g n + (p - large_part g n) / g.small) behind ∙ ap (λ r. large_part g n + r * g.small) same)
          ∙ omega (arith, div-add-mod' (p - large_part g n) g.small, more);
    }

-- ---- a part of a block in the rows

block_in_row : (row k i size at : ℕ) → (row * k + i) * size + at ≡ k * (row * size) + i * size + at
block_in_row row k i size at = omega arith

block_behind : (l large row k i size at : ℕ) → l * (k * large) + ((row * k + i) * size + at) ≡ k * (l * large + row * size) + i * size + at
block_behind l large row k i size at = omega arith

part_in_row : (start row size at : ℕ) → start + (row * size + at) ≡ start + row * size + at
part_in_row start row size at = omega arith

module _ (g : Geometry) (n : ℕ) (shards : List (List ℕ)) (width : length shards ≡ row_width g) (lengths : AllByRecursion (λ s. length s ≡ shard_length g n) shards) where
  in_large : (row i at w : ℕ) → row < large_rows g n → i < row_width g → at + w ≤ g.large
      → take w (drop (row * g.large + at) (slice_index_or shards i [])) ≡ take w (drop (row_width g * (row * g.large) + i * g.large + at) (unstriped g n shards))
  unfolding unstriped
  in_large row i at w below shard within =
      sym (in_rows (large_rows g n) g.large row i at w shards (rows_of (small_rows g n) g.small (map (drop (large_part g n)) shards)) below (omega (arith, width, shard)) within (all_within g n shards lengths))
      ∙ ap (λ k. take w (drop ((row * k + i) * g.large + at) (unstriped g n shards))) width
      ∙ ap (λ o. take w (drop o (unstriped g n shards))) (block_in_row row (row_width g) i g.large at)

  in_small : (row i at w : ℕ) → row < small_rows g n → i < row_width g → at + w ≤ g.small
      → take w (drop (large_part g n + row * g.small + at) (slice_index_or shards i [])) ≡ take w (drop (row_width g * (large_part g n + row * g.small) + i * g.small + at) (unstriped g n shards))
  unfolding unstriped
  in_small row i at w below shard within =
      let wide : length (map (drop (large_part g n)) shards) ≡ row_width g = length_map (drop (large_part g n)) shards ∙ width in
      let long : length (rows_of (large_rows g n) g.large shards) ≡ large_rows g n * (row_width g * g.large) =
      length-rows_of (large_rows g n) g.large shards (all_within g n shards lengths) ∙ ap (λ k. large_rows g n * (k * g.large)) width in
      ap (λ o. take w (drop o (slice_index_or shards i []))) (sym (part_in_row (large_part g n) row g.small at))
      ∙ ap (take w) (sym (drop-drop (row * g.small + at) (large_part g n) (slice_index_or shards i [])))
      ∙ ap (λ s. take w (drop (row * g.small + at) s)) (sym (get_or-map (drop (large_part g n)) shards i [] [] (omega (arith, width, shard))))
      ∙ sym (in_rows (small_rows g n) g.small row i at w (map (drop (large_part g n)) shards) [] below (omega (arith, wide, shard)) within (all_behind g n shards lengths))
      ∙ ap (λ xs. take w (drop ((row * length (map (drop (large_part g n)) shards) + i) * g.small + at) xs)) (append-nil (rows_of (small_rows g n) g.small (map (drop (large_part g n)) shards)))
      ∙ ap (λ k. take w (drop ((row * k + i) * g.small + at) (rows_of (small_rows g n) g.small (map (drop (large_part g n)) shards)))) wide
      ∙ ap (take w) (sym (behind_front (large_rows g n * (row_width g * g.large)) ((row * row_width g + i) * g.small + at) (rows_of (large_rows g n) g.large shards) (rows_of (small_rows g n) g.small (map (drop (large_part g n)) shards)) long))
      ∙ ap (λ o. take w (drop o (unstriped g n shards))) (block_behind (large_rows g n) g.large row (row_width g) i g.small at)

  -- A part of a block of some row is that part of its shard.
  pub block-unstriped : (row i at w : ℕ) → row < all_rows g n → i < row_width g → at + w ≤ row_block g n row
      → take w (drop (row_start g n row + at) (slice_index_or shards i [])) ≡ take w (drop (block_start g n row i + at) (unstriped g n shards))
  block-unstriped row i at w below shard within = by_test (nat_lt row (large_rows g n)) refl within
    where
      by_test : (b : Bool) → nat_lt row (large_rows g n) ≡ b → at + w ≤ cond b g.large g.small
          → take w (drop (cond b (row * g.large) (large_part g n + (row - large_rows g n) * g.small) + at) (slice_index_or shards i []))
          ≡ take w (drop (row_width g * cond b (row * g.large) (large_part g n + (row - large_rows g n) * g.small) + i * cond b g.large g.small + at) (unstriped g n shards))
      by_test true e h = in_large row i at w (ltb-true row (large_rows g n) e) shard h
      by_test false e h = in_small (row - large_rows g n) i at w (omega (arith, below, ltb-false row (large_rows g n) e)) shard h

-- ---- byte by byte

byte_of : (p : ℕ) (s : List ℕ) → slice_index s p ≡ slice_index (take 1 (drop p s)) 0
byte_of p s = let here : p ≡ p + 0 = omega arith in ap (slice_index s) here ∙ sym (get_or-drop p s 0 0) ∙ sym (get_or-take 1 (drop p s) 0 0 (omega arith))

same_byte : (p q : ℕ) (s t : List ℕ) → take 1 (drop p s) ≡ take 1 (drop q t) → slice_index s p ≡ slice_index t q
same_byte p q s t e = byte_of p s ∙ ap (λ xs. slice_index xs 0) e ∙ sym (byte_of q t)

-- zeros behind a list are what is read there anyway
pub zeros_behind : (xs : List ℕ) (m p : ℕ) → slice_index (xs ++ replicate m 0) p ≡ slice_index xs p
zeros_behind [] zero p = refl
zeros_behind [] (suc m) zero = refl
zeros_behind [] (suc m) (suc p) = zeros_behind [] m p
zeros_behind (x ∷ xs) m zero = refl
zeros_behind (x ∷ xs) m (suc p) = zeros_behind xs m p

-- Each byte of a block is the file's, and a zero past its end.
pub data_byte : (g : Geometry) (dat : List ℕ) (row i at : ℕ) → 0 < row_width g * g.small → row < all_rows g (length dat) → i < row_width g → at < row_block g (length dat) row
    → slice_index (slice_index_or (data_shards_of g dat) i []) (row_start g (length dat) row + at) ≡ slice_index dat (block_start g (length dat) row i + at)
data_byte g dat row i at some below shard within =
    same_byte (row_start g (length dat) row + at) (block_start g (length dat) row i + at) (slice_index_or (data_shards_of g dat) i []) (unstriped g (length dat) (data_shards_of g dat))
    (block-unstriped g (length dat) (data_shards_of g dat) (length-data_shards g dat some) (each_data_shard g dat some) row i at 1 below shard (omega (arith, within)))
    ∙ ap (λ xs. slice_index xs (block_start g (length dat) row i + at)) (data_shards-rows g dat some)
    ∙ zeros_behind dat (row_bytes g (length dat) - length dat) (block_start g (length dat) row i + at)

-- ---- the rows tell the shards

-- the byte at a place of a shard is one of the rows, whatever the shards hold
record IsByteOfRows (g : Geometry) (n i p : ℕ) : Type 0 where
  pub place : ℕ
  pub reads : (shards : List (List ℕ)) → length shards ≡ row_width g → AllByRecursion (λ s. length s ≡ shard_length g n) shards → slice_index (slice_index_or shards i []) p ≡ slice_index (unstriped g n shards) place

byte_in_row : (g : Geometry) (n i p row at : ℕ) → i < row_width g → StandsInRow g n p row at → IsByteOfRows g n i p
byte_in_row g n i p row at shard stands = record {
  place = block_start g n row i + at;
  reads = λ shards width lengths.
      same_byte p (block_start g n row i + at) (slice_index_or shards i []) (unstriped g n shards)
      (ap (λ q. take 1 (drop q (slice_index_or shards i []))) (sym stands.place) ∙ block-unstriped g n shards width lengths row i at 1 stands.row_there shard (omega (arith, stands.within)));
}

module _ (g : Geometry) (n : ℕ) (range : GeometryInRange g) where
  byte_of_rows : (i p : ℕ) → i < row_width g → p < shard_length g n → IsByteOfRows g n i p
  byte_of_rows i p shard within = by_case (cases_lt p (large_part g n))
    where
      by_case : (p < large_part g n) ⊎ (large_part g n ≤ p) → IsByteOfRows g n i p
      by_case (inl less) = byte_in_row g n i p (p / g.large) (p % g.large) shard (large_place g n p range less)
      by_case (inr more) = byte_in_row g n i p (large_rows g n + (p - large_part g n) / g.small) ((p - large_part g n) % g.small) shard (small_place g n p range more within)

  -- Shards have the same bytes where their rows have.
  pub same_rows : (xs ys : List (List ℕ)) → length xs ≡ row_width g → length ys ≡ row_width g → AllByRecursion (λ s. length s ≡ shard_length g n) xs → AllByRecursion (λ s. length s ≡ shard_length g n) ys
      → ((q : ℕ) → slice_index (unstriped g n xs) q ≡ slice_index (unstriped g n ys) q) → (i p : ℕ) → i < row_width g → p < shard_length g n → slice_index (slice_index_or xs i []) p ≡ slice_index (slice_index_or ys i []) p
  same_rows xs ys wide_x wide_y long_x long_y same i p shard within =
      let byte = byte_of_rows i p shard within in
      byte.reads xs wide_x long_x ∙ same byte.place ∙ sym (byte.reads ys wide_y long_y)

-- lists that are as many and as long, with the same bytes
pub same_lists : (n : ℕ) (xs ys : List (List ℕ)) → length xs ≡ length ys → AllByRecursion (λ s. length s ≡ n) xs → AllByRecursion (λ s. length s ≡ n) ys
    → ((i p : ℕ) → i < length xs → p < n → slice_index (slice_index_or xs i []) p ≡ slice_index (slice_index_or ys i []) p) → xs ≡ ys
same_lists n [] [] e h k same = refl
same_lists n [] (y ∷ ys) e h k same = absurd (omega (arith, e))
same_lists n (x ∷ xs) [] e h k same = absurd (omega (arith, e))
same_lists n (x ∷ xs) (y ∷ ys) e h k same = λ j.
    same_number_lists x y (h.0 ∙ sym k.0) (λ p less. same 0 p (omega arith) (omega (arith, h.0, less))) j
    ∷ same_lists n xs ys (omega (arith, e)) h.1 k.1 (λ i p less inside. same (suc i) p (omega (arith, less)) inside) j

-- ---- rows of 3 and 2 shards, of a file of 168 bytes in blocks of 16 and 8

abbrev three_two : Geometry
three_two = record { ratio = ThreeTwo; large = 16; small = 8 }

starts : map (row_start three_two 168) (0 ∷ 1 ∷ 2 ∷ 3 ∷ 4 ∷ []) ≡ 0 ∷ 16 ∷ 32 ∷ 48 ∷ 56 ∷ []
starts = refl

block_starts : map (block_start three_two 168 3) (0 ∷ 1 ∷ 2 ∷ []) ≡ 144 ∷ 152 ∷ 160 ∷ []
block_starts = refl
