-- Pieces of equal length, one after the other.
use Rattle.std.specs.Prelude.{◌≡◌, ◌⊎◌, ℕ, ◌+◌, ◌*◌, ◌/◌, ◌<◌, List, [], ◌++◌, length, map, get_or, slice_index}
use Rattle.std.specs.List.{range_with_len}
use Rattle.rs_code.specs.Codeword.{IsCodeword}
use Rattle.rs_code.specs.Combination.{combination}
use Rattle.rs_code.specs.Shards.{AreShards}

-- how many pieces a sum may have: the data shards of some ratio
abbrev pub IsPieceCount : ℕ → Type 0
IsPieceCount k = (k ≡ 3) ⊎ (k ≡ 6) ⊎ (k ≡ 10) ⊎ (k ≡ 12)

-- byte i of each of the pieces, which have n bytes
abbrev pub column : ℕ → ℕ → ℕ → List ℕ → List ℕ
column count n i pieces = map (λ r. slice_index pieces (r * n + i)) (range_with_len 0 count)

-- the sum of the bytes of such a column, each times its coefficient
abbrev pub weighed : ℕ → List ℕ → ℕ → ℕ → List ℕ → ℕ
weighed count row n i pieces = combination row (column count n i pieces)

-- so many pieces stand there, and so many here, all of one length
abbrev pub HaveOneSize : ℕ → List ℕ → ℕ → List ℕ → Type 0
HaveOneSize m there k here = (length there ≡ m * (length there / m)) × (length here ≡ k * (length there / m))

-- k different shards of a code of k and m
pub record AreEnough (k m : ℕ) (have : List ℕ) : Type 0 where
  pub count : length have ≡ k
  pub shards : AreShards (k + m) have

-- the numbers from k on, m of them
pub record AreBehind (k m : ℕ) (numbers : List ℕ) : Type 0 where
  pub count : length numbers ≡ m
  pub entries : (p : ℕ) → p < m → slice_index numbers p ≡ k + p

-- coefficients that give shard `want` of each codeword
abbrev pub IsRow : ℕ → ℕ → List ℕ → List ℕ → ℕ → Type 0
IsRow k m have row want = (c : List ℕ) → IsCodeword k m c → combination row (map (slice_index c) have) ≡ slice_index c want

-- for each row of coefficients stands a piece of n bytes, each the sum of its column
abbrev pub AreWeighed : ℕ → List (List ℕ) → ℕ → List ℕ → List ℕ → Type 0
AreWeighed count rows n pieces out = (r : ℕ) → r < length rows → (i : ℕ) → i < n → slice_index out (r * n + i) ≡ weighed count (get_or rows r []) n i pieces

-- each column of the data with that of the parity is a codeword
abbrev pub AreCodewords : ℕ → ℕ → ℕ → List ℕ → List ℕ → Type 0
AreCodewords k m n source parity = (i : ℕ) → i < n → IsCodeword k m (column k n i source ++ column m n i parity)

-- at each place of a shard stands its byte of each codeword that has the column's bytes at the others
abbrev pub IsRestored : ℕ → ℕ → ℕ → List ℕ → List ℕ → ℕ → List ℕ → Type 0
IsRestored k m n have pieces want out =
    (i : ℕ) → i < n → (c : List ℕ) → IsCodeword k m c → map (slice_index c) have ≡ column k n i pieces → slice_index out i ≡ slice_index c want

-- the same for several shards, whose pieces stand one after the other
abbrev pub AreRestored : ℕ → ℕ → ℕ → List ℕ → List ℕ → List ℕ → List ℕ → Type 0
AreRestored k m n have pieces wants out =
    (p : ℕ) → p < length wants → (i : ℕ) → i < n → (c : List ℕ) → IsCodeword k m c → map (slice_index c) have ≡ column k n i pieces → slice_index out (p * n + i) ≡ slice_index c (slice_index wants p)

-- each of the rows of coefficients gives one of the shards
abbrev pub AreRows : ℕ → ℕ → List ℕ → List (List ℕ) → List ℕ → Type 0
AreRows k m have rows wants = (p : ℕ) → p < length wants → IsRow k m have (get_or rows p []) (slice_index wants p)
