-- The register behind words and blocks of bytes.
use Rattle.std.proofs.Common.{◌≡◌, ℕ, zero, suc, ◌+◌, ◌*◌, ◌/◌, ◌^◌, ◌<◌, List, [], ◌∷◌, ◌++◌, length, get_or, take, drop, refl, sym, ◌∙◌, ap, arith}
use Rattle.std.specs.Prelude.{bit_xor, fold}
use Rattle.std.specs.Int.{w64, from_le_bytes}
use Rattle.std.specs.Int.Bits.{xor_assoc, xor_comm, xor_shifted, xor_zero_r}
use Rattle.std.specs.Simd.{first_chunks}
use Rattle.std.proofs.Math.Seq.{take-add}
use Rattle.std.proofs.lemmas.List.{length-drop, length-take, take-append-drop, take_all}
use Rattle.crc32c.specs.Register.{turns, register}
use Rattle.crc32c.proofs.Turns.{turns-add, turns-shifted, turns-xor}

-- the number of these bytes, the lowest first
little : List ℕ → ℕ
little [] = 0
little (b ∷ bytes) = b + 256 * little bytes

-- a byte and what stands above it
pub below_the_rest : (s b rest : ℕ) → b < 256 → bit_xor s (b + 256 * rest) ≡ bit_xor (bit_xor s b) (rest * 2 ^ 8)
below_the_rest s b rest h =
    let moved : b + 256 * rest ≡ rest * 256 + b = omega arith in
    ap (bit_xor s) (moved ∙ sym (xor_shifted rest 8 b h) ∙ xor_comm (rest * 256) b) ∙ sym (xor_assoc s b (rest * 256))

-- the bytes as one number
number_fed : (bytes : List ℕ) (s : ℕ) → ((k : ℕ) → get_or bytes k 0 < 256) → register s bytes ≡ turns (8 * length bytes) (bit_xor s (little bytes))
unfolding register little turns
number_fed [] s h = sym (xor_zero_r s)
number_fed (b ∷ bytes) s h =
    let count : 8 * length (b ∷ bytes) ≡ 8 + 8 * length bytes = omega arith in
    let first : turns 8 (bit_xor s (b + 256 * little bytes)) ≡ bit_xor (turns 8 (bit_xor s b)) (little bytes) =
    ap (turns 8) (below_the_rest s b (little bytes) (h 0)) ∙ turns-xor 8 (bit_xor s b) (little bytes * 2 ^ 8)
    ∙ ap (bit_xor (turns 8 (bit_xor s b))) (turns-shifted 8 (little bytes)) in
    number_fed bytes (turns 8 (bit_xor s b)) (λ k. h (suc k)) ∙ ap (turns (8 * length bytes)) (sym first)
    ∙ sym (turns-add 8 (8 * length bytes) (bit_xor s (b + 256 * little bytes)))
    ∙ ap (λ n. turns n (bit_xor s (b + 256 * little bytes))) (sym count)

word_is : (word : List ℕ) → length word ≡ 8 → little word ≡ from_le_bytes w64 word
unfolding little
word_is (a ∷ b ∷ c ∷ d ∷ e ∷ f ∷ g ∷ h ∷ []) size = omega arith
word_is _ size = absurd (omega arith)

word_fed : (word : List ℕ) (s : ℕ) → length word ≡ 8 → ((k : ℕ) → get_or word k 0 < 256) → register s word ≡ turns 64 (bit_xor s (from_le_bytes w64 word))
word_fed word s size h = number_fed word s h ∙ ap (λ n. turns (8 * n) (bit_xor s (little word))) size ∙ ap (λ x. turns 64 (bit_xor s x)) (word_is word size)

pub register-append : (a b : List ℕ) (s : ℕ) → register s (a ++ b) ≡ register (register s a) b
unfolding register
register-append [] b s = refl
register-append (x ∷ a) b s = register-append a b (turns 8 (bit_xor s x))

take_fits : (n : ℕ) (xs : List ℕ) → ((k : ℕ) → get_or xs k 0 < 256) → (k : ℕ) → get_or (take n xs) k 0 < 256
take_fits zero xs h k = omega arith
take_fits (suc n) [] h k = omega arith
take_fits (suc n) (x ∷ xs) h zero = h 0
take_fits (suc n) (x ∷ xs) h (suc k) = take_fits n xs (λ i. h (suc i)) k

drop_fits : (n : ℕ) (xs : List ℕ) → ((k : ℕ) → get_or xs k 0 < 256) → (k : ℕ) → get_or (drop n xs) k 0 < 256
drop_fits zero xs h k = h k
drop_fits (suc n) [] h k = omega arith
drop_fits (suc n) (x ∷ xs) h k = drop_fits n xs (λ i. h (suc i)) k

-- two words
pub block_fed : (first second : List ℕ) (s : ℕ) → length first ≡ 8 → length second ≡ 8
    → ((k : ℕ) → get_or first k 0 < 256) → ((k : ℕ) → get_or second k 0 < 256)
    → register s (first ++ second) ≡ bit_xor (turns 128 (bit_xor (from_le_bytes w64 first) s)) (turns 64 (from_le_bytes w64 second))
block_fed first second s p q h k =
    let x : ℕ = from_le_bytes w64 first in
    let y : ℕ = from_le_bytes w64 second in
    register-append first second s ∙ ap (λ r. register r second) (word_fed first s p h) ∙ word_fed second (turns 64 (bit_xor s x)) q k
    ∙ turns-xor 64 (turns 64 (bit_xor s x)) y
    ∙ ap (λ r. bit_xor r (turns 64 y)) (sym (turns-add 64 64 (bit_xor s x)) ∙ ap (turns 128) (xor_comm s x))

-- a block as its two words
pub block_words : (block : List ℕ) → length block ≡ 16 → first_chunks 8 (length block / 8) block ≡ take 8 block ∷ take 8 (drop 8 block) ∷ []
block_words block size = ap (λ n. first_chunks 8 (n / 8) block) size

pub block_is : (block : List ℕ) → length block ≡ 16 → take 8 block ++ take 8 (drop 8 block) ≡ block
block_is block size = sym (take-add 8 8 block) ∙ take_all 16 block (omega arith)

pub sixteen_fed : (block : List ℕ) (s : ℕ) → length block ≡ 16 → ((k : ℕ) → get_or block k 0 < 256)
    → register s block ≡ bit_xor (turns 128 (bit_xor (from_le_bytes w64 (take 8 block)) s)) (turns 64 (from_le_bytes w64 (take 8 (drop 8 block))))
sixteen_fed block s size h =
    ap (register s) (sym (block_is block size))
    ∙ block_fed (take 8 block) (take 8 (drop 8 block)) s (omega (arith, length-take 8 block)) (omega (arith, length-take 8 (drop 8 block), length-drop 8 block))
    (take_fits 8 block h) (take_fits 8 (drop 8 block) (drop_fits 8 block h))

-- blocks of sixteen
pub chunks_fed : (k s : ℕ) (xs : List ℕ) → fold register s (first_chunks 16 k xs) ≡ register s (take (k * 16) xs)
unfolding register
chunks_fed zero s xs = refl
chunks_fed (suc k) s xs =
    let count : suc k * 16 ≡ 16 + k * 16 = omega arith in
    chunks_fed k (register s (take 16 xs)) (drop 16 xs) ∙ sym (register-append (take 16 xs) (take (k * 16) (drop 16 xs)) s)
    ∙ ap (register s) (sym (take-add 16 (k * 16) xs) ∙ ap (λ n. take n xs) (sym count))

-- all blocks, and then the rest
pub parts_fed : (m s : ℕ) (xs : List ℕ) → register (register s (take m xs)) (drop m xs) ≡ register s xs
parts_fed m s xs = sym (register-append (take m xs) (drop m xs) s) ∙ ap (register s) (take-append-drop m xs)
