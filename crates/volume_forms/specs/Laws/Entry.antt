-- The entries of an index with something behind it.
use Rattle.std.proofs.Common.{◌≡◌, ℕ, zero, suc, ◌+◌, ◌*◌, ◌/◌, ◌≤◌, List, [], ◌∷◌, ◌++◌, length, drop, refl, ◌∙◌, ap, arith}
use Rattle.std.proofs.lemmas.List.{drop-append-le, length-drop}
use Rattle.std.proofs.Math.ListN.{length-append}
use Rattle.std.proofs.Common.{◌<◌, ◌^◌, take, sym, FitsSigned}
use Rattle.std.proofs.Math.Facts.{Fits-lt-pow, Fits-of_z}
use Rattle.std.proofs.Math.Seq.{take-add}
use Rattle.std.proofs.lemmas.Int.{of_z-to_z, to_z-of_z}
use Rattle.std.specs.Int.{w32, cast_signed, cast_unsigned}
use Rattle.wire_num.specs.Numbers.{number_of, bytes_of}
use Rattle.wire_num.specs.Laws.Number.{AreBytes, bytes_drop, bytes_there, number_fits, number_of-append, number_of-bytes_of}
use Rattle.volume_forms.specs.declared.Entry.{Entry}
use Rattle.volume_forms.specs.Forms.{entry_at, entry_bytes, entries, entries_within}

number_behind : (k n : ℕ) (a b : List ℕ) → k + n ≤ length a → number_of n (drop k (a ++ b)) ≡ number_of n (drop k a)
number_behind k n a b h = ap (number_of n) (drop-append-le k a b (omega arith)) ∙ number_of-append n (drop k a) b (omega (arith, length-drop k a))

pub entry_at-append : (a b : List ℕ) → 16 ≤ length a → entry_at (a ++ b) ≡ entry_at a
entry_at-append a b h =
    ap (λ x. record { id = x; offset = number_of 4 (drop 8 (a ++ b)); size = cast_signed w32 (number_of 4 (drop 12 (a ++ b))) }) (number_of-append 8 a b (omega arith))
    ∙ ap (λ x. record { id = number_of 8 a; offset = x; size = cast_signed w32 (number_of 4 (drop 12 (a ++ b))) }) (number_behind 8 4 a b (omega arith))
    ∙ ap (λ x. record { id = number_of 8 a; offset = number_of 4 (drop 8 a); size = cast_signed w32 x }) (number_behind 12 4 a b (omega arith))

within-append : (n m : ℕ) (a b : List ℕ) → length a ≡ 16 * n → entries_within (n + m) (a ++ b) ≡ entries_within n a ++ entries_within m b
unfolding entries_within
within-append zero m [] b h = ap (λ k. entries_within k b) (omega arith)
within-append zero m (x ∷ a) b h = absurd (omega arith)
within-append (suc n) m a b h =
    let long : 16 ≤ length a = omega arith in
    ap (λ k. entries_within k (a ++ b)) (one_more n m)
    ∙ ap (λ e. e ∷ entries_within (n + m) (drop 16 (a ++ b))) (entry_at-append a b long)
    ∙ ap (λ rest. entry_at a ∷ entries_within (n + m) rest) (drop-append-le 16 a b long)
    ∙ ap (λ es. entry_at a ∷ es) (within-append n m (drop 16 a) b (omega (arith, length-drop 16 a)))
  where
    one_more : (n m : ℕ) → suc n + m ≡ suc (n + m)
    one_more n m = omega arith

sixteenths : (n x : ℕ) → (16 * n + x) / 16 ≡ n + x / 16
sixteenths n x = omega arith

-- entries behind whole entries
pub entries-append : (n : ℕ) (a b : List ℕ) → length a ≡ 16 * n → entries (a ++ b) ≡ entries a ++ entries b
unfolding entries
entries-append n a b h =
    ap (λ k. entries_within k (a ++ b)) (ap (λ x. x / 16) (length-append a b ∙ ap (λ x. x + length b) h) ∙ sixteenths n (length b))
    ∙ within-append n (length b / 16) a b h
    ∙ ap (λ k. entries_within k a ++ entries_within (length b / 16) b) (omega (arith, h))

length_within : (n : ℕ) (bytes : List ℕ) → length (entries_within n bytes) ≡ n
unfolding entries_within
length_within zero bytes = refl
length_within (suc n) bytes = ap suc (length_within n (drop 16 bytes))

pub length-entries : (bytes : List ℕ) → length (entries bytes) ≡ length bytes / 16
unfolding entries
length-entries bytes = length_within (length bytes / 16) bytes

-- ---- what is read is spelled, and what is spelled is read

sixteen : (bytes : List ℕ) → 16 ≤ length bytes → take 8 bytes ++ take 4 (drop 8 bytes) ++ take 4 (drop 12 bytes) ≡ take 16 bytes
sixteen bytes long =
    let first : take 8 bytes ++ take 4 (drop 8 bytes) ≡ take 12 bytes = sym (take-add 8 4 bytes) in
    ap (λ front. front ++ take 4 (drop 12 bytes)) first ∙ sym (take-add 12 4 bytes)

-- the first sixteen bytes spell what is read there
pub entry_at-spelled : (bytes : List ℕ) → AreBytes bytes → 16 ≤ length bytes → entry_bytes (entry_at bytes) ≡ take 16 bytes
entry_at-spelled bytes all long =
    let id = bytes_there 8 0 bytes (omega arith) all in
    let offset = bytes_there 4 8 bytes (omega arith) all in
    let size_bits = of_z-to_z w32 (number_of 4 (drop 12 bytes)) (number_fits 4 (drop 12 bytes) (bytes_drop 12 bytes all)) in
    let size = ap (bytes_of 4) size_bits ∙ bytes_there 4 12 bytes (omega arith) all in
    let fields : entry_bytes (entry_at bytes) ≡ take 8 bytes ++ take 4 (drop 8 bytes) ++ take 4 (drop 12 bytes) = λ i. id i ++ offset i ++ size i in
    fields ∙ sixteen bytes long

-- an entry that is spelled is read, whatever follows
pub entry_at-entry_bytes : (e : Entry) (rest : List ℕ) → e.id < 2 ^ 64 → e.offset < 2 ^ 32 → FitsSigned w32 e.size → entry_at (entry_bytes e ++ rest) ≡ e
unfolding bytes_of
entry_at-entry_bytes e rest id_fits offset_fits size_fits =
    let last = bytes_of 4 (cast_unsigned w32 e.size) ++ rest in
    let id = number_of-bytes_of 8 e.id (bytes_of 4 e.offset ++ last) id_fits in
    let offset = number_of-bytes_of 4 e.offset last offset_fits in
    let size_bits = number_of-bytes_of 4 (cast_unsigned w32 e.size) rest (Fits-lt-pow (Fits-of_z size_fits)) in
    let size = ap (cast_signed w32) size_bits ∙ to_z-of_z w32 e.size size_fits in
    λ i. record { id = id i; offset = offset i; size = size i }
