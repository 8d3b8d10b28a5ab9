-- Every data file has its shards.
use Rattle.std.proofs.Common.{inl, inr, ◌≡◌, ℕ, zero, suc, ◌+◌, ◌-◌, ◌*◌, ◌<◌, ◌≤◌, List, [], ◌∷◌, ◌++◌, length, map, take, drop, refl, sym, ◌∙◌, ap, subst, arith, length-append}
use Rattle.std.specs.Prelude.{flat_map, replicate, slice_index}
use Rattle.std.specs.List.{AllByRecursion, range_with_len}
use Rattle.std.proofs.Math.Nat.{suc-mul}
use Rattle.std.proofs.Math.Seq.{take-add, drop-append-add}
use Rattle.std.proofs.Math.ListN.{get_or-append}
use Rattle.std.proofs.lemmas.Bool.{cases_lt}
use Rattle.std.proofs.lemmas.Grind.{same_number_lists}
use Rattle.std.proofs.lemmas.List.{take_at, take_all, length-take, length-drop, length-replicate, map-append, get_or-append_right}
use Rattle.std.proofs.lemmas.List.FromFn.{length-range_with_len, length-map-range_with_len, get_or-map-range_with_len}
use Rattle.stripe_layout.specs.declared.Geometry.{Geometry}
use Rattle.rs_code.specs.Codeword.{AreBytes, IsCodeword}
use Rattle.rs_code.specs.Laws.Codeword.{codeword_exists}
use Rattle.rs_code.specs.Combination.{AreDistinct, each_append, bytes-drop, bytes-take}
use Rattle.rs_code.specs.Roots.{IsElsewhere}
use Rattle.rs_code.specs.Shards.{AreShards}
use Rattle.world_model.specs.Ratios.{data_count, parity_count, counts-sixteen}
use Rattle.stripe_layout.specs.Stripes.{row_width, large_rows, small_rows, shard_length, rows_of, unstriped, column, IsStriped}
use Rattle.stripe_layout.specs.Laws.Row.{rounded_up-enough}
use Rattle.stripe_layout.specs.Striping.{blocks, with_behind, dealt, row_bytes, filled, data_shards_of}

next_mul : (n m : ℕ) → suc n * m ≡ m + n * m
next_mul n m = suc-mul n m ∙ omega arith

none_mul : (m : ℕ) → 0 * m ≡ 0
none_mul m = omega arith

abbrev Each : ℕ → List (List ℕ) → Type 0
Each n xs = AllByRecursion (λ s. length s ≡ n) xs

-- ---- how many and how long

length-blocks : (k size : ℕ) (bytes : List ℕ) → length (blocks k size bytes) ≡ k
length-blocks zero size bytes = refl
length-blocks (suc k) size bytes = ap suc (length-blocks k size (drop size bytes))

each_block : (k size : ℕ) (bytes : List ℕ) → k * size ≤ length bytes → Each size (blocks k size bytes)
each_block zero size bytes h = tt
each_block (suc k) size bytes h = (omega (arith, length-take size bytes, h, suc-mul k size), each_block k size (drop size bytes) (omega (arith, length-drop size bytes, h, suc-mul k size)))

length-behind : (xs ys : List (List ℕ)) → length (with_behind xs ys) ≡ length xs
length-behind [] ys = refl
length-behind (x ∷ xs) [] = refl
length-behind (x ∷ xs) (y ∷ ys) = ap suc (length-behind xs ys)

each_behind : (m n : ℕ) (xs ys : List (List ℕ)) → length xs ≡ length ys → Each m xs → Each n ys → Each (m + n) (with_behind xs ys)
each_behind m n [] ys e h k = tt
each_behind m n (x ∷ xs) [] e h k = absurd (omega (arith, e))
each_behind m n (x ∷ xs) (y ∷ ys) e h k = (omega (arith, length-append x y, h.0, k.0), each_behind m n xs ys (omega (arith, e)) h.1 k.1)

length-dealt : (k count size : ℕ) (bytes : List ℕ) → length (dealt k count size bytes) ≡ k
length-dealt k zero size bytes = length-replicate k []
length-dealt k (suc count) size bytes = length-behind (blocks k size bytes) (dealt k count size (drop (k * size) bytes)) ∙ length-blocks k size bytes

each_dealt : (k count size : ℕ) (bytes : List ℕ) → count * (k * size) ≤ length bytes → Each (count * size) (dealt k count size bytes)
each_dealt k zero size bytes h = none k
  where
    none : (k : ℕ) → Each (0 * size) (replicate k [])
    none zero = tt
    none (suc k) = (omega arith, none k)
each_dealt k (suc count) size bytes h =
    subst (λ n. Each n (with_behind (blocks k size bytes) (dealt k count size (drop (k * size) bytes)))) (sym (next_mul count size))
    (each_behind size (count * size) (blocks k size bytes) (dealt k count size (drop (k * size) bytes)) (length-blocks k size bytes ∙ sym (length-dealt k count size (drop (k * size) bytes)))
    (each_block k size bytes (omega (arith, h, suc-mul count (k * size))))
    (each_dealt k count size (drop (k * size) bytes) (omega (arith, length-drop (k * size) bytes, h, suc-mul count (k * size)))))

-- ---- the rows of what was dealt

abbrev all_of : List (List ℕ) → List ℕ
all_of xs = flat_map (λ x. x) xs

all_blocks : (k size : ℕ) (bytes : List ℕ) → all_of (blocks k size bytes) ≡ take (k * size) bytes
all_blocks zero size bytes = ap (λ n. take n bytes) (sym (none_mul size))
all_blocks (suc k) size bytes = ap (λ rest. take size bytes ++ rest) (all_blocks k size (drop size bytes)) ∙ sym (take-add size (k * size) bytes) ∙ ap (λ n. take n bytes) (sym (next_mul k size))

drop_front : (n : ℕ) (x y : List ℕ) → length x ≡ n → drop n (x ++ y) ≡ y
drop_front n x y e = ap (λ m. drop m (x ++ y)) (sym e ∙ omega arith) ∙ drop-append-add x y 0

front_row : (size : ℕ) (xs ys : List (List ℕ)) → length xs ≡ length ys → Each size xs → flat_map (take size) (with_behind xs ys) ≡ all_of xs
front_row size [] ys e h = refl
front_row size (x ∷ xs) [] e h = absurd (omega (arith, e))
front_row size (x ∷ xs) (y ∷ ys) e h = λ i. (take_at x y size h.0 i) ++ (front_row size xs ys (omega (arith, e)) h.1 i)

rest_rows : (size : ℕ) (xs ys : List (List ℕ)) → length xs ≡ length ys → Each size xs → map (drop size) (with_behind xs ys) ≡ ys
rest_rows size [] [] e h = refl
rest_rows size [] (y ∷ ys) e h = absurd (omega (arith, e))
rest_rows size (x ∷ xs) [] e h = absurd (omega (arith, e))
rest_rows size (x ∷ xs) (y ∷ ys) e h = λ i. drop_front size x y h.0 i ∷ rest_rows size xs ys (omega (arith, e)) h.1 i

rows_dealt : (k count size : ℕ) (bytes : List ℕ) → count * (k * size) ≤ length bytes → rows_of count size (dealt k count size bytes) ≡ take (count * (k * size)) bytes
unfolding rows_of
rows_dealt k zero size bytes h = ap (λ n. take n bytes) (sym (none_mul (k * size)))
rows_dealt k (suc count) size bytes h =
    let bl : List (List ℕ) = blocks k size bytes in
    let rest : List (List ℕ) = dealt k count size (drop (k * size) bytes) in
    let long = length-blocks k size bytes ∙ sym (length-dealt k count size (drop (k * size) bytes)) in
    let each = each_block k size bytes (omega (arith, h, suc-mul count (k * size))) in
    ap (λ row. row ++ rows_of count size (map (drop size) (with_behind bl rest))) (front_row size bl rest long each ∙ all_blocks k size bytes)
    ∙ ap (λ xs. take (k * size) bytes ++ rows_of count size xs) (rest_rows size bl rest long each)
    ∙ ap (λ more. take (k * size) bytes ++ more) (rows_dealt k count size (drop (k * size) bytes) (omega (arith, length-drop (k * size) bytes, h, suc-mul count (k * size))))
    ∙ sym (take-add (k * size) (count * (k * size)) bytes) ∙ ap (λ n. take n bytes) (sym (next_mul count (k * size)))

-- ---- what stands behind the rows

take_front : (n : ℕ) (x y : List ℕ) → n ≤ length x → take n (x ++ y) ≡ take n x
take_front zero x y h = refl
take_front (suc n) [] y h = absurd (omega (arith, h))
take_front (suc n) (a ∷ x) y h = ap (λ l. a ∷ l) (take_front n x y (omega (arith, h)))

drop_within : (n : ℕ) (x y : List ℕ) → n ≤ length x → drop n (x ++ y) ≡ drop n x ++ y
drop_within zero x y h = refl
drop_within (suc n) [] y h = absurd (omega (arith, h))
drop_within (suc n) (a ∷ x) y h = drop_within n x y (omega (arith, h))

same_row : (n size : ℕ) (xs ys : List (List ℕ)) → length xs ≡ length ys → size ≤ n → Each n xs → flat_map (take size) (with_behind xs ys) ≡ flat_map (take size) xs
same_row n size [] ys e h each = refl
same_row n size (x ∷ xs) [] e h each = absurd (omega (arith, e))
same_row n size (x ∷ xs) (y ∷ ys) e h each = λ i. (take_front size x y (omega (arith, h, each.0)) i) ++ (same_row n size xs ys (omega (arith, e)) h each.1 i)

dropped_behind : (n size : ℕ) (xs ys : List (List ℕ)) → length xs ≡ length ys → size ≤ n → Each n xs → map (drop size) (with_behind xs ys) ≡ with_behind (map (drop size) xs) ys
dropped_behind n size [] ys e h each = refl
dropped_behind n size (x ∷ xs) [] e h each = absurd (omega (arith, e))
dropped_behind n size (x ∷ xs) (y ∷ ys) e h each = λ i. (drop_within size x y (omega (arith, h, each.0)) i) ∷ (dropped_behind n size xs ys (omega (arith, e)) h each.1 i)

each_dropped : (n size : ℕ) (xs : List (List ℕ)) → Each (size + n) xs → Each n (map (drop size) xs)
each_dropped n size [] h = tt
each_dropped n size (x ∷ xs) h = (omega (arith, length-drop size x, h.0), each_dropped n size xs h.1)

length_mapped : (size : ℕ) (xs : List (List ℕ)) → length (map (drop size) xs) ≡ length xs
length_mapped size [] = refl
length_mapped size (x ∷ xs) = ap suc (length_mapped size xs)

rows_before : (count size : ℕ) (xs ys : List (List ℕ)) → length xs ≡ length ys → Each (count * size) xs → rows_of count size (with_behind xs ys) ≡ rows_of count size xs
unfolding rows_of
rows_before zero size xs ys e each = refl
rows_before (suc count) size xs ys e each =
    let more : Each (size + count * size) xs = subst (λ n. Each n xs) (next_mul count size) each in
    (λ i. (same_row (size + count * size) size xs ys e (omega arith) more i) ++ rows_of count size (dropped_behind (size + count * size) size xs ys e (omega arith) more i))
    ∙ ap (λ rest. flat_map (take size) xs ++ rest) (rows_before count size (map (drop size) xs) ys (length_mapped size xs ∙ e) (each_dropped (count * size) size xs more))

-- ---- the shards of a file

module _ (g : Geometry) (dat : List ℕ) (some : 0 < row_width g * g.small) where
  abbrev n : ℕ
  n = length dat

  abbrev large : ℕ
  large = large_rows g n * (row_width g * g.large)

  abbrev small : ℕ
  small = small_rows g n * (row_width g * g.small)

  -- all rows have room for the file
  enough : n ≤ large + small
  enough = room n large small (rounded_up-enough (n - large) (row_width g * g.small) some)
    where
      room : (n a b : ℕ) → n - a ≤ b → n ≤ a + b
      room n a b h = omega (arith, h)

  length-filled : length (filled g dat) ≡ large + small
  length-filled = length-append dat (replicate (row_bytes g n - n) 0) ∙ omega (arith, length-replicate {A = ℕ} (row_bytes g n - n) 0, enough)

  abbrev first : List (List ℕ)
  first = dealt (row_width g) (large_rows g n) g.large (filled g dat)

  abbrev second : List (List ℕ)
  second = dealt (row_width g) (small_rows g n) g.small (drop large (filled g dat))

  as_many : length first ≡ length second
  as_many = length-dealt (row_width g) (large_rows g n) g.large (filled g dat) ∙ sym (length-dealt (row_width g) (small_rows g n) g.small (drop large (filled g dat)))

  each_first : Each (large_rows g n * g.large) first
  each_first = each_dealt (row_width g) (large_rows g n) g.large (filled g dat) (omega (arith, length-filled))

  each_second : Each (small_rows g n * g.small) second
  each_second = each_dealt (row_width g) (small_rows g n) g.small (drop large (filled g dat)) (omega (arith, length-drop large (filled g dat), length-filled))

  pub length-data_shards : length (data_shards_of g dat) ≡ row_width g
  length-data_shards = length-behind first second ∙ length-dealt (row_width g) (large_rows g n) g.large (filled g dat)

  pub each_data_shard : AllByRecursion (λ s. length s ≡ shard_length g n) (data_shards_of g dat)
  each_data_shard = each_behind (large_rows g n * g.large) (small_rows g n * g.small) first second as_many each_first each_second

  -- The rows of the data shards are the file, with zeros behind it.
  pub data_shards-rows : unstriped g n (data_shards_of g dat) ≡ dat ++ replicate (row_bytes g n - n) 0
  unfolding unstriped
  data_shards-rows =
      (λ i. (rows_before (large_rows g n) g.large first second as_many each_first i) ++ rows_of (small_rows g n) g.small (rest_rows (large_rows g n * g.large) first second as_many each_first i))
      ∙ (λ i. (rows_dealt (row_width g) (large_rows g n) g.large (filled g dat) (omega (arith, length-filled)) i)
      ++ (rows_dealt (row_width g) (small_rows g n) g.small (drop large (filled g dat)) (omega (arith, length-drop large (filled g dat), length-filled)) i))
      ∙ sym (take-add large small (filled g dat)) ∙ take_all (large + small) (filled g dat) (omega (arith, length-filled))

-- ---- bytes

abbrev AllBytes : List (List ℕ) → Type 0
AllBytes xs = AllByRecursion AreBytes xs

bytes_behind : (xs ys : List (List ℕ)) → AllBytes xs → AllBytes ys → AllBytes (with_behind xs ys)
bytes_behind [] ys h k = tt
bytes_behind (x ∷ xs) [] h k = h
bytes_behind (x ∷ xs) (y ∷ ys) h k = (each_append (λ b. b < 256) x y h.0 k.0, bytes_behind xs ys h.1 k.1)

bytes_blocks : (k size : ℕ) (bytes : List ℕ) → AreBytes bytes → AllBytes (blocks k size bytes)
bytes_blocks zero size bytes h = tt
bytes_blocks (suc k) size bytes h = (bytes-take bytes size h, bytes_blocks k size (drop size bytes) (bytes-drop bytes size h))

bytes_dealt : (k count size : ℕ) (bytes : List ℕ) → AreBytes bytes → AllBytes (dealt k count size bytes)
bytes_dealt k zero size bytes h = none k
  where
    none : (k : ℕ) → AllBytes (replicate k [])
    none zero = tt
    none (suc k) = (tt, none k)
bytes_dealt k (suc count) size bytes h = bytes_behind (blocks k size bytes) (dealt k count size (drop (k * size) bytes)) (bytes_blocks k size bytes h) (bytes_dealt k count size (drop (k * size) bytes) (bytes-drop bytes (k * size) h))

zeros_are : (m : ℕ) → AreBytes (replicate m 0)
zeros_are zero = tt
zeros_are (suc m) = (omega arith, zeros_are m)

bytes_shards : (g : Geometry) (dat : List ℕ) → AreBytes dat → AllBytes (data_shards_of g dat)
bytes_shards g dat h =
    let all : AreBytes (filled g dat) = each_append (λ b. b < 256) dat (replicate (row_bytes g (length dat) - length dat) 0) h (zeros_are (row_bytes g (length dat) - length dat)) in
    let behind : ℕ = large_rows g (length dat) * (row_width g * g.large) in
    bytes_behind (dealt (row_width g) (large_rows g (length dat)) g.large (filled g dat)) (dealt (row_width g) (small_rows g (length dat)) g.small (drop behind (filled g dat)))
    (bytes_dealt (row_width g) (large_rows g (length dat)) g.large (filled g dat) all)
    (bytes_dealt (row_width g) (small_rows g (length dat)) g.small (drop behind (filled g dat)) (bytes-drop (filled g dat) behind all))

byte_at : (xs : List ℕ) (p : ℕ) → AreBytes xs → slice_index xs p < 256
byte_at [] p h = omega arith
byte_at (x ∷ xs) zero h = h.0
byte_at (x ∷ xs) (suc p) h = byte_at xs p h.1

column_bytes : (xs : List (List ℕ)) (p : ℕ) → AllBytes xs → AreBytes (column xs p)
column_bytes [] p h = tt
column_bytes (x ∷ xs) p h = (byte_at x p h.0, column_bytes xs p h.1)

length-column : (xs : List (List ℕ)) (p : ℕ) → length (column xs p) ≡ length xs
length-column [] p = refl
length-column (x ∷ xs) p = ap suc (length-column xs p)

-- ---- the numbers of the data shards

below_more : (m a n : ℕ) → AllByRecursion (λ r. r < a + n + m) (range_with_len a n)
below_more m a zero = tt
below_more m a (suc n) = (omega arith, subst (λ l. AllByRecursion (λ r. r < l) (range_with_len (a + 1) n)) (omega arith) (below_more m (a + 1) n))

above : (a b n : ℕ) → a < b → IsElsewhere a (range_with_len b n)
above a b zero h = tt
above a b (suc n) h = ((λ e. omega (arith, e, h)), above a (b + 1) n (omega (arith, h)))

distinct_range : (a n : ℕ) → AreDistinct (range_with_len a n)
distinct_range a zero = tt
distinct_range a (suc n) = (above a (a + 1) n (omega arith), distinct_range (a + 1) n)

first_shards : (k m : ℕ) → AreShards (k + m) (range_with_len 0 k)
first_shards k m = record { below = subst (λ l. AllByRecursion (λ r. r < l) (range_with_len 0 k)) (omega arith) (below_more m 0 k); distinct = distinct_range 0 k }

-- ---- data and parity

module _ (g : Geometry) (dat : List ℕ) (some : 0 < row_width g * g.small) (are : AreBytes dat) where
  abbrev width : ℕ
  width = row_width g

  abbrev m : ℕ
  m = parity_count g.ratio

  few : data_count g.ratio + parity_count g.ratio ≤ 256
  few = omega (arith, counts-sixteen g.ratio)

  abbrev ds : List (List ℕ)
  ds = data_shards_of g dat

  abbrev len : ℕ
  len = shard_length g (length dat)

  -- the codeword of the bytes of the data shards at a place
  word : (p : ℕ) → (c : List ℕ) × IsCodeword width m c × (map (slice_index c) (range_with_len 0 width) ≡ column ds p)
  word p = codeword_exists width m (range_with_len 0 width) (column ds p) few (length-range_with_len 0 width) (length-column ds p ∙ length-data_shards g dat some) (first_shards width m) (column_bytes ds p (bytes_shards g dat are))

  parity : ℕ → List ℕ
  parity j = map (λ p. slice_index (word p).0 (width + j)) (range_with_len 0 len)

  abbrev shards : List (List ℕ)
  shards = ds ++ map parity (range_with_len 0 m)

  parity-at : (j p : ℕ) → p < len → slice_index (parity j) p ≡ slice_index (word p).0 (width + j)
  unfolding parity
  parity-at j p h = get_or-map-range_with_len (λ p. slice_index (word p).0 (width + j)) 0 len p p 0 h (omega arith)

  column-split : (p : ℕ) → column shards p ≡ column ds p ++ column (map parity (range_with_len 0 m)) p
  column-split p = map-append (λ s. slice_index s p) ds (map parity (range_with_len 0 m))

  column-parity : (a n p : ℕ) → p < len → column (map parity (range_with_len a n)) p ≡ map (λ j. slice_index (word p).0 (width + j)) (range_with_len a n)
  column-parity a zero p h = refl
  column-parity a (suc n) p h = λ i. (parity-at a p h i) ∷ (column-parity (a + 1) n p h i)

  column-is : (p : ℕ) → p < len → column shards p ≡ (word p).0
  column-is p h =
      let c : List ℕ = (word p).0 in
      let front : length (column ds p) ≡ width = length-column ds p ∙ length-data_shards g dat some in
      let back : length (map (λ j. slice_index (word p).0 (width + j)) (range_with_len 0 m)) ≡ m = length-map-range_with_len (λ j. slice_index (word p).0 (width + j)) 0 m in
      column-split p ∙ ap (λ ys. column ds p ++ ys) (column-parity 0 m p h)
      ∙ same_number_lists (column ds p ++ map (λ j. slice_index (word p).0 (width + j)) (range_with_len 0 m)) (word p).0
      (length-append (column ds p) (map (λ j. slice_index (word p).0 (width + j)) (range_with_len 0 m)) ∙ omega (arith, front, back, (word p).1.width))
      (λ r below. elim (cases_lt r width) [
        | inl less ↦ get_or-append (column ds p) (map (λ j. slice_index (word p).0 (width + j)) (range_with_len 0 m)) 0 r (omega (arith, less, front))
            ∙ ap (λ xs. slice_index xs r) (sym (word p).2) ∙ get_or-map-range_with_len (slice_index (word p).0) 0 width r r 0 less (omega arith)
        | inr more ↦ get_or-append_right (column ds p) (map (λ j. slice_index (word p).0 (width + j)) (range_with_len 0 m)) width r 0 front more
            ∙ get_or-map-range_with_len (λ j. slice_index (word p).0 (width + j)) 0 m (r - width) (r - width) 0
            (omega (arith, more, below, length-append (column ds p) (map (λ j. slice_index (word p).0 (width + j)) (range_with_len 0 m)), front, back)) (omega arith)
            ∙ ap (slice_index (word p).0) (omega (arith, more))
      ])

  each_parity : (a n : ℕ) → AllByRecursion (λ s. length s ≡ len) (map parity (range_with_len a n))
  unfolding parity
  each_parity a zero = tt
  each_parity a (suc n) = (length-map-range_with_len (λ p. slice_index (word p).0 (width + a)) 0 len, each_parity (a + 1) n)

  both : (P : List ℕ → Type 0) (xs ys : List (List ℕ)) → AllByRecursion P xs → AllByRecursion P ys → AllByRecursion P (xs ++ ys)
  both P [] ys h q = q
  both P (x ∷ xs) ys h q = (h.0, both P xs ys h.1 q)

  -- Every data file of bytes has its shards.
  pub striped_shards : (shards : List (List ℕ)) × IsStriped g dat shards
  striped_shards = (
    shards,
    record {
      count = length-append ds (map parity (range_with_len 0 m)) ∙ omega (arith, length-data_shards g dat some, length-map-range_with_len parity 0 m);
      lengths = both (λ s. length s ≡ len) ds (map parity (range_with_len 0 m)) (each_data_shard g dat some) (each_parity 0 m);
      zeros = row_bytes g (length dat) - length dat;
      rows = ap (unstriped g (length dat)) (take_at ds (map parity (range_with_len 0 m)) width (length-data_shards g dat some)) ∙ data_shards-rows g dat some;
      columns = λ p h. subst (IsCodeword width m) (sym (column-is p h)) (word p).1;
    },
  )
