-- The shards of a data file are its stripes, and no other shards are.
use Rattle.std.proofs.Common.{inl, inr, ◌≡◌, ℕ, zero, suc, ◌+◌, ◌-◌, ◌*◌, ◌<◌, ◌≤◌, List, [], ◌∷◌, ◌++◌, length, map, take, refl, sym, ◌∙◌, ap, subst, arith, length-append}
use Rattle.std.specs.Prelude.{slice_index, slice_index_or}
use Rattle.std.specs.List.{AllByRecursion, range_with_len}
use Rattle.std.proofs.Math.ListN.{get_or-append}
use Rattle.std.proofs.lemmas.Bool.{cases_lt}
use Rattle.std.proofs.lemmas.List.{get_or-take, get_or-append_right, length-take}
use Rattle.std.proofs.lemmas.List.FromFn.{length-map-range_with_len, get_or-map-range_with_len}
use Rattle.world_model.specs.Ratios.{data_count, parity_count, data_count-some, counts-sixteen}
use Rattle.gf256.specs.Field.{poly_value}
use Rattle.rs_code.specs.Codeword.{AreBytes, IsCodeword, value_through}
use Rattle.rs_code.specs.Through.{IsPoint, NotAt, AreApart, value_through-is}
use Rattle.stripe_layout.specs.declared.Geometry.{Geometry}
use Rattle.stripe_layout.specs.Stripes.{GeometryInRange, row_width, shards_in_all, shard_length, column, IsStriped}
use Rattle.stripe_layout.specs.Striping.{row_bytes, data_shards_of}
use Rattle.stripe_layout.specs.Rows.{all_rows, row_block, row_start, block_start}
use Rattle.stripe_layout.specs.Laws.Striping.{length-data_shards, each_data_shard, data_shards-rows, striped_shards}
use Rattle.stripe_layout.specs.Laws.Rows.{data_byte, zeros_behind, same_rows, same_lists}
use Rattle.image_meaning.specs.Striped.{data_known, coded_shard, shards_of}

some_row : (g : Geometry) → GeometryInRange g → 0 < row_width g * g.small
some_row g range = some_times (row_width g) g.small (data_count-some g.ratio) range.some_small
  where
    some_times : (a b : ℕ) → 0 < a → 0 < b → 0 < a * b
    some_times zero b h k = absurd (omega arith)
    some_times (suc a) b h k = omega arith

-- ---- the codeword through the bytes of the data shards

points : (a : List ℕ) (f : ℕ → ℕ) (s n : ℕ) → s + n ≤ 256 → ((i : ℕ) → i < s + n → f i ≡ poly_value a i) → AllByRecursion (IsPoint a) (map (λ i. (i, f i)) (range_with_len s n))
points a f s zero few values = tt
points a f s (suc n) few values = (record { place = omega (arith, few); value = values s (omega arith) }, points a f (s + 1) n (omega (arith, few)) (λ i h. values i (omega (arith, h))))

elsewhere : (f : ℕ → ℕ) (r s n : ℕ) → r < s → NotAt r (map (λ i. (i, f i)) (range_with_len s n))
elsewhere f r s zero h = tt
elsewhere f r s (suc n) h = ((λ e. omega (arith, e, h)), elsewhere f r (s + 1) n (omega (arith, h)))

apart : (f : ℕ → ℕ) (s n : ℕ) → AreApart (map (λ i. (i, f i)) (range_with_len s n))
apart f s zero = tt
apart f s (suc n) = (elsewhere f s (s + 1) n (omega arith), apart f (s + 1) n)

-- a codeword with the data shards' bytes at a place is the one through them
through : (g : Geometry) (dat c : List ℕ) (p i : ℕ) → IsCodeword (data_count g.ratio) (parity_count g.ratio) c
    → ((r : ℕ) → r < row_width g → slice_index c r ≡ slice_index (slice_index_or (data_shards_of g dat) r []) p) → i < shards_in_all g → value_through (data_known g dat p) i ≡ slice_index c i
through g dat c p i code same h =
    let few = counts-sixteen g.ratio in
    value_through-is (data_known g dat p) code.coefficients i
    (omega (arith, code.degree, length-map-range_with_len {X = ℕ × ℕ} (λ r. (r, slice_index (slice_index_or (data_shards_of g dat) r []) p)) 0 (row_width g)))
    code.bytes
    (points code.coefficients (λ r. slice_index (slice_index_or (data_shards_of g dat) r []) p) 0 (row_width g) (omega (arith, few)) (λ r below. sym (same r (omega (arith, below))) ∙ code.values r (omega (arith, below))))
    (apart (λ r. slice_index (slice_index_or (data_shards_of g dat) r []) p) 0 (row_width g))
    (omega (arith, h, few))
    ∙ sym (code.values i h)

-- ---- how many shards there are, how long, and their bytes

both : (P : List ℕ → Type 0) (xs ys : List (List ℕ)) → AllByRecursion P xs → AllByRecursion P ys → AllByRecursion P (xs ++ ys)
both P [] ys h q = q
both P (x ∷ xs) ys h q = (h.0, both P xs ys h.1 q)

each_coded : (g : Geometry) (dat : List ℕ) (s n : ℕ) → AllByRecursion (λ l. length l ≡ shard_length g (length dat)) (map (coded_shard g dat) (range_with_len s n))
each_coded g dat s zero = tt
each_coded g dat s (suc n) = (length-map-range_with_len (λ p. value_through (data_known g dat p) s) 0 (shard_length g (length dat)), each_coded g dat (s + 1) n)

one_of : (P : List ℕ → Type 0) (xs : List (List ℕ)) (i : ℕ) → AllByRecursion P xs → i < length xs → P (slice_index_or xs i [])
one_of P [] i h below = absurd (omega (arith, below))
one_of P (x ∷ xs) zero h below = h.0
one_of P (x ∷ xs) (suc i) h below = one_of P xs i h.1 (omega (arith, below))

module _ (g : Geometry) (dat : List ℕ) (range : GeometryInRange g) where
  pub length-shards_of : length (shards_of g dat) ≡ shards_in_all g
  unfolding shards_of
  length-shards_of =
      length-append (data_shards_of g dat) (map (coded_shard g dat) (range_with_len (row_width g) (parity_count g.ratio)))
      ∙ omega (arith, length-data_shards g dat (some_row g range), length-map-range_with_len (coded_shard g dat) (row_width g) (parity_count g.ratio))

  pub each_shard_of : AllByRecursion (λ s. length s ≡ shard_length g (length dat)) (shards_of g dat)
  unfolding shards_of
  each_shard_of =
      both (λ s. length s ≡ shard_length g (length dat)) (data_shards_of g dat) (map (coded_shard g dat) (range_with_len (row_width g) (parity_count g.ratio)))
      (each_data_shard g dat (some_row g range)) (each_coded g dat (row_width g) (parity_count g.ratio))

  pub length-shard_of : (i : ℕ) → i < shards_in_all g → length (slice_index_or (shards_of g dat) i []) ≡ shard_length g (length dat)
  length-shard_of i h = one_of (λ s. length s ≡ shard_length g (length dat)) (shards_of g dat) i each_shard_of (omega (arith, h, length-shards_of))

  -- the first ones are the data shards
  data_shard_of : (i : ℕ) → i < row_width g → slice_index_or (shards_of g dat) i [] ≡ slice_index_or (data_shards_of g dat) i []
  unfolding shards_of
  data_shard_of i h =
      get_or-append (data_shards_of g dat) (map (coded_shard g dat) (range_with_len (row_width g) (parity_count g.ratio))) [] i (omega (arith, h, length-data_shards g dat (some_row g range)))

  parity_shard_of : (i : ℕ) → row_width g ≤ i → i < shards_in_all g → slice_index_or (shards_of g dat) i [] ≡ coded_shard g dat i
  unfolding shards_of
  parity_shard_of i more h =
      let behind : row_width g + (i - row_width g) ≡ i = omega (arith, more) in
      get_or-append_right (data_shards_of g dat) (map (coded_shard g dat) (range_with_len (row_width g) (parity_count g.ratio))) (row_width g) i [] (length-data_shards g dat (some_row g range)) more
      ∙ get_or-map-range_with_len (coded_shard g dat) (row_width g) (parity_count g.ratio) (i - row_width g) i [] (omega (arith, more, h)) behind

  -- Each byte of a data shard is the file's, and a zero past its end.
  pub data_byte_of : (row i at : ℕ) → row < all_rows g (length dat) → i < row_width g → at < row_block g (length dat) row
      → slice_index (slice_index_or (shards_of g dat) i []) (row_start g (length dat) row + at) ≡ slice_index dat (block_start g (length dat) row i + at)
  data_byte_of row i at below shard within =
      ap (λ s. slice_index s (row_start g (length dat) row + at)) (data_shard_of i shard) ∙ data_byte g dat row i at (some_row g range) below shard within

  -- Each byte of a shard is that of the codeword with the bytes of the data shards.
  pub coded_byte_of : (c : List ℕ) (i p : ℕ) → IsCodeword (data_count g.ratio) (parity_count g.ratio) c
      → ((r : ℕ) → r < row_width g → slice_index c r ≡ slice_index (slice_index_or (shards_of g dat) r []) p) → i < shards_in_all g → p < shard_length g (length dat)
      → slice_index (slice_index_or (shards_of g dat) i []) p ≡ slice_index c i
  coded_byte_of c i p code same h within = elim (cases_lt i (row_width g)) [
    | inl less ↦ sym (same i less)
    | inr more ↦ ap (λ s. slice_index s p) (parity_shard_of i more h)
        ∙ get_or-map-range_with_len (λ q. value_through (data_known g dat q) i) 0 (shard_length g (length dat)) p p 0 within (omega arith)
        ∙ through g dat c p i code (λ r below. same r below ∙ ap (λ s. slice_index s p) (data_shard_of r below)) h
  ]

-- ---- no other shards are the file's stripes

all_front : (n k : ℕ) (shards : List (List ℕ)) → AllByRecursion (λ s. length s ≡ n) shards → AllByRecursion (λ s. length s ≡ n) (take k shards)
all_front n zero shards h = tt
all_front n (suc k) [] h = tt
all_front n (suc k) (s ∷ shards) h = (h.0, all_front n k shards h.1)

column_byte : (shards : List (List ℕ)) (i p : ℕ) → slice_index (column shards p) i ≡ slice_index (slice_index_or shards i []) p
column_byte [] i p = refl
column_byte (s ∷ shards) zero p = refl
column_byte (s ∷ shards) (suc i) p = column_byte shards i p

module _ (g : Geometry) (dat : List ℕ) (shards : List (List ℕ)) (range : GeometryInRange g) (striped : IsStriped g dat shards) where
  abbrev front : List (List ℕ)
  front = take (row_width g) shards

  -- the data shards, since the file is their rows
  same_data : (i p : ℕ) → i < row_width g → p < shard_length g (length dat) → slice_index (slice_index_or shards i []) p ≡ slice_index (slice_index_or (data_shards_of g dat) i []) p
  same_data i p h within =
      ap (λ s. slice_index s p) (sym (get_or-take (row_width g) shards i [] h))
      ∙ same_rows g (length dat) range front (data_shards_of g dat) (omega (arith, length-take (row_width g) shards, striped.count)) (length-data_shards g dat (some_row g range))
      (all_front (shard_length g (length dat)) (row_width g) shards striped.lengths) (each_data_shard g dat (some_row g range))
      (λ q. ap (λ rows. slice_index rows q) striped.rows ∙ zeros_behind dat striped.zeros q
      ∙ sym (ap (λ rows. slice_index rows q) (data_shards-rows g dat (some_row g range)) ∙ zeros_behind dat (row_bytes g (length dat) - length dat) q))
      i p h within

  same_byte_of : (i p : ℕ) → i < length shards → p < shard_length g (length dat) → slice_index (slice_index_or shards i []) p ≡ slice_index (slice_index_or (shards_of g dat) i []) p
  same_byte_of i p h within =
      sym (column_byte shards i p)
      ∙ sym (coded_byte_of g dat range (column shards p) i p (striped.columns p within)
      (λ r below. column_byte shards r p ∙ same_data r p below within ∙ ap (λ s. slice_index s p) (sym (data_shard_of g dat range r below)))
      (omega (arith, h, striped.count)) within)

  -- The file's stripes are its shards.
  pub striped_are : shards ≡ shards_of g dat
  striped_are = same_lists (shard_length g (length dat)) shards (shards_of g dat) (striped.count ∙ sym (length-shards_of g dat range)) striped.lengths (each_shard_of g dat range) same_byte_of

-- The shards of a file of bytes are its stripes.
pub shards_of-striped : (g : Geometry) (dat : List ℕ) → GeometryInRange g → AreBytes dat → IsStriped g dat (shards_of g dat)
shards_of-striped g dat range are =
    let made = striped_shards g dat (some_row g range) are in
    subst (IsStriped g dat) (striped_are g dat made.0 range made.1) made.1
