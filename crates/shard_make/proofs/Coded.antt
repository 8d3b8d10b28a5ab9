-- Data pieces with parity pieces behind them.
use Rattle.std.proofs.Common.{inl, inr, ◌≡◌, ℕ, ◌+◌, ◌-◌, ◌*◌, ◌/◌, ◌<◌, ◌≤◌, List, ◌++◌, length, sym, ◌∙◌, ap, subst, length-append, arith}
use Rattle.std.specs.Prelude.{slice_index}
use Rattle.std.proofs.lemmas.Bool.{cases_lt}
use Rattle.std.proofs.lemmas.Grind.{same_number_lists}
use Rattle.std.proofs.lemmas.List.{get_or-append_right, get_or_append_left}
use Rattle.std.proofs.lemmas.List.FromFn.{length-map-range_with_len, get_or-map-range_with_len}
use Rattle.std.proofs.lemmas.Nat.{div-mul-add}
use Rattle.std.proofs.Math.Nat.{mul_comm, mul-le-mul_right}
use Rattle.rs_code.specs.Codeword.{IsCodeword}
use Rattle.rs_kernel.specs.Pieces.{column, AreCodewords}
use Rattle.shard_make.specs.Rooms.{AreColumns}

module _ (k m size j : ℕ) (source parity : List ℕ) (first : length source ≡ k * size) (inside : j < size) where
  length-column : (count n i : ℕ) (pieces : List ℕ) → length (column count n i pieces) ≡ count
  length-column count n i pieces = length-map-range_with_len (λ r. slice_index pieces (r * n + i)) 0 count

  byte-column : (count n i r : ℕ) (pieces : List ℕ) → r < count → slice_index (column count n i pieces) r ≡ slice_index pieces (r * n + i)
  byte-column count n i r pieces h = get_or-map-range_with_len (λ q. slice_index pieces (q * n + i)) 0 count r r 0 h (omega arith)

  in_source : (r : ℕ) → r < k → slice_index (source ++ parity) (r * size + j) ≡ slice_index source (r * size + j)
  in_source r h =
      let next : r + 1 ≤ k = omega (arith, h) in
      get_or_append_left source parity 0 (r * size + j) (omega (arith, first, inside, mul-le-mul_right size next))

  in_parity : (r : ℕ) → k ≤ r → slice_index (source ++ parity) (r * size + j) ≡ slice_index parity ((r - k) * size + j)
  in_parity r h =
      let split : r ≡ k + (r - k) = omega (arith, h) in
      let place : r * size + j ≡ k * size + ((r - k) * size + j) = ap (λ q. q * size + j) split ∙ apart k (r - k) size j in
      let rest : r * size + j - k * size ≡ (r - k) * size + j = omega (arith, place) in
      get_or-append_right source parity (k * size) (r * size + j) 0 first (omega (arith, place)) ∙ ap (slice_index parity) rest
    where
      apart : (a b c d : ℕ) → (a + b) * c + d ≡ a * c + (b * c + d)
      apart a b c d = omega arith

  -- a column of all pieces is one of the data pieces and one of the parity pieces
  column-both : column (k + m) size j (source ++ parity) ≡ column k size j source ++ column m size j parity
  column-both =
      same_number_lists (column (k + m) size j (source ++ parity)) (column k size j source ++ column m size j parity)
      (length-column (k + m) size j (source ++ parity) ∙ sym (length-append (column k size j source) (column m size j parity) ∙ omega (arith, length-column k size j source, length-column m size j parity)))
      (λ r below.
      let within : r < k + m = omega (arith, below, length-column (k + m) size j (source ++ parity)) in
      byte-column (k + m) size j r (source ++ parity) within ∙ elim (cases_lt r k) [
        | inl less ↦ in_source r less ∙ sym (get_or_append_left (column k size j source) (column m size j parity) 0 r (omega (arith, less, length-column k size j source)) ∙ byte-column k size j r source less)
        | inr more ↦ in_parity r more ∙ sym (get_or-append_right (column k size j source) (column m size j parity) k r 0 (length-column k size j source) more ∙ byte-column m size j (r - k) parity (omega (arith, within, more)))
      ])

parts : (m size : ℕ) → 0 < m → m * size / m ≡ size
parts m size some =
    let whole : m * size ≡ size * m + 0 = omega (arith, mul_comm m size) in
    ap (λ x. x / m) whole ∙ div-mul-add size m 0 some

-- All columns are codewords where the parity pieces are those of the data pieces.
pub columns_are : (k m size : ℕ) (source parity : List ℕ) → 0 < m → length source ≡ k * size → length parity ≡ m * size → AreCodewords k m (length parity / m) source parity → AreColumns k m size (source ++ parity)
columns_are k m size source parity some first second code j h =
    let one : length parity / m ≡ size = ap (λ x. x / m) second ∙ parts m size some in
    subst (IsCodeword k m) (sym (column-both k m size j source parity first h)) (subst (λ (n : ℕ). AreCodewords k m n source parity) one code j h)
