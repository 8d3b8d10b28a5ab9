-- The register is what long division leaves.
use Rattle.std.proofs.Common.{◌≡◌, ℕ, zero, suc, ◌+◌, ◌-◌, ◌*◌, ◌/◌, ◌%◌, ◌^◌, ◌<◌, Bool, true, false, cond, List, [], ◌∷◌, ◌++◌, length, map, take, drop, get_or, replicate, refl, sym, ◌∙◌, ap, arith}
use Rattle.std.specs.Prelude.{bit_xor, ◌==◌, not, flat_map}
use Rattle.std.specs.Int.Bits.{xor_assoc, xor_comm, xor_mod, xor_shr, xor_zero_r, xor_lt}
use Rattle.std.proofs.Math.ListN.{length-append}
use Rattle.std.proofs.Math.Nat.{pow-suc}
use Rattle.crc32c.specs.Checksum.{low_bits, number_of_bits, divisor, add_at_front, divided, dividend, checksum}
use Rattle.crc32c.specs.Register.{turned, turns, register}
use Rattle.crc32c.proofs.Turns.{turned-xor, turned-double, turned-lt, low_and_high, register-lt}

-- a coefficient with another one added
with_bit : Bool → Bool → Bool
with_bit bit c = cond bit (not c) c

-- ---- sums at the front of a polynomial

add_bits : (a b : ℕ) (c : Bool) → a < 2 → b < 2 → with_bit (a == 1) (with_bit (b == 1) c) ≡ with_bit (bit_xor a b == 1) c
unfolding with_bit
add_bits zero zero c h k = refl
add_bits zero (suc zero) c h k = refl
add_bits (suc zero) zero c h k = refl
add_bits (suc zero) (suc zero) true h k = refl
add_bits (suc zero) (suc zero) false h k = refl
add_bits zero (suc (suc b)) c h k = absurd (omega arith)
add_bits (suc zero) (suc (suc b)) c h k = absurd (omega arith)
add_bits (suc (suc a)) b c h k = absurd (omega arith)

add_sum : (n x y : ℕ) (p : List Bool) → add_at_front (low_bits n x) (add_at_front (low_bits n y) p) ≡ add_at_front (low_bits n (bit_xor x y)) p
unfolding with_bit
add_sum zero x y p = refl
add_sum (suc n) x y [] = refl
add_sum (suc n) x y (c ∷ p) =
    let first : with_bit (x % 2 == 1) (with_bit (y % 2 == 1) c) ≡ with_bit (bit_xor x y % 2 == 1) c =
    add_bits (x % 2) (y % 2) c (omega arith) (omega arith) ∙ ap (λ bit. with_bit (bit == 1) c) (sym (xor_mod x y 1)) in
    let rest = add_sum n (x / 2) (y / 2) p ∙ ap (λ z. add_at_front (low_bits n z) p) (sym (xor_shr x y 1)) in
    λ i. first i ∷ rest i

-- one bit more of a number that has room in n
add_room : (n x : ℕ) (p : List Bool) → x < 2 ^ n → add_at_front (low_bits (suc n) x) p ≡ add_at_front (low_bits n x) p
add_room zero x [] h = refl
add_room zero x (c ∷ p) h = ap (λ z. add_at_front (low_bits 1 z) (c ∷ p)) none
  where
    none : x ≡ 0
    none = omega arith
add_room (suc n) x [] h = refl
add_room (suc n) x (c ∷ p) h = ap (λ rest. cond (x % 2 == 1) (not c) c ∷ rest) (add_room n (x / 2) p (omega (arith, pow-suc 2 n)))

-- ---- one step

-- the register behind one bit
fed : ℕ → Bool → ℕ
fed s b = turned (bit_xor s (cond b 1 0))

divisor_bits : divisor ≡ low_bits 32 0x82F63B78
unfolding divisor
divisor_bits = refl

by_bit : (half low : ℕ) (b : Bool) → low < 2 → bit_xor half (cond (bit_xor low (cond b 1 0) == 1) 0x82F63B78 0) ≡ cond (with_bit (low == 1) b) (bit_xor 0x82F63B78 half) half
unfolding with_bit
by_bit half zero true h = xor_comm half 0x82F63B78
by_bit half zero false h = xor_zero_r half
by_bit half (suc zero) true h = xor_zero_r half
by_bit half (suc zero) false h = xor_comm half 0x82F63B78
by_bit half (suc (suc low)) b h = absurd (omega arith)

-- the register behind the bit, by the coefficient that is taken off
fed-is : (s : ℕ) (b : Bool) → fed s b ≡ cond (with_bit (s % 2 == 1) b) (bit_xor 0x82F63B78 (s / 2)) (s / 2)
unfolding fed turned
fed-is s b =
    let half : bit_xor s (cond b 1 0) / 2 ≡ s / 2 = xor_shr s (cond b 1 0) 1 ∙ ap (bit_xor (s / 2)) (no_half b) ∙ xor_zero_r (s / 2) in
    let low : bit_xor s (cond b 1 0) % 2 ≡ bit_xor (s % 2) (cond b 1 0) = xor_mod s (cond b 1 0) 1 ∙ ap (bit_xor (s % 2)) (own_low b) in
    ap (λ x. bit_xor x (cond (bit_xor s (cond b 1 0) % 2 == 1) 0x82F63B78 0)) half
    ∙ ap (λ x. bit_xor (s / 2) (cond (x == 1) 0x82F63B78 0)) low
    ∙ by_bit (s / 2) (s % 2) b (omega arith)
  where
    no_half : (b : Bool) → cond b 1 0 / 2 ≡ 0
    no_half true = refl
    no_half false = refl

    own_low : (b : Bool) → cond b 1 0 % 2 ≡ cond b 1 0
    own_low true = refl
    own_low false = refl

step_over : (n s : ℕ) (b : Bool) (p : List Bool) → s < 2 ^ 32 → divided (suc n) (add_at_front (low_bits 32 s) (b ∷ p)) ≡ divided n (add_at_front (low_bits 32 (fed s b)) p)
unfolding divided with_bit
step_over n s b p h =
    let half : List Bool = add_at_front (low_bits 32 (s / 2)) p in
    let c : Bool = with_bit (s % 2 == 1) b in
    let front : divided (suc n) (add_at_front (low_bits 32 s) (b ∷ p)) ≡ divided n (cond c (add_at_front divisor half) half) =
    ap (λ q. divided n (cond c (add_at_front divisor q) q)) (sym (add_room 31 (s / 2) p (omega arith))) in
    let either : (d : Bool) → cond d (add_at_front divisor half) half ≡ add_at_front (low_bits 32 (cond d (bit_xor 0x82F63B78 (s / 2)) (s / 2))) p =
    λ d. elim d as (λ d. cond d (add_at_front divisor half) half ≡ add_at_front (low_bits 32 (cond d (bit_xor 0x82F63B78 (s / 2)) (s / 2))) p)
    [ true ↦ ap (λ bits. add_at_front bits half) divisor_bits ∙ add_sum 32 0x82F63B78 (s / 2) p | false ↦ refl ] in
    front ∙ ap (divided n) (either c ∙ ap (λ r. add_at_front (low_bits 32 r) p) (sym (fed-is s b)))

-- ---- many steps

-- the register behind these bits
fed_all : ℕ → List Bool → ℕ
fed_all s [] = s
fed_all s (b ∷ bits) = fed_all (fed s b) bits

fed-lt : (s : ℕ) (b : Bool) → s < 2 ^ 32 → fed s b < 2 ^ 32
unfolding fed
fed-lt s b h = turned-lt (bit_xor s (cond b 1 0)) (xor_lt 32 s (cond b 1 0) h (bit_fits b))
  where
    bit_fits : (b : Bool) → cond b 1 0 < 2 ^ 32
    bit_fits true = omega arith
    bit_fits false = omega arith

steps_over : (bits : List Bool) (s : ℕ) (p : List Bool) → s < 2 ^ 32 → divided (length bits) (add_at_front (low_bits 32 s) (bits ++ p)) ≡ add_at_front (low_bits 32 (fed_all s bits)) p
unfolding divided fed_all
steps_over [] s p h = refl
steps_over (b ∷ bits) s p h = step_over (length bits) s b (bits ++ p) h ∙ steps_over bits (fed s b) p (fed-lt s b h)

lowest : (bit : ℕ) → bit < 2 → cond (bit == 1) 1 0 ≡ bit
lowest zero k = refl
lowest (suc zero) k = refl
lowest (suc (suc bit)) k = absurd (omega arith)

-- the lowest bit is fed first, and the others then move by one
fed_lowest : (s x : ℕ) → bit_xor (fed s (x % 2 == 1)) (x / 2) ≡ turned (bit_xor s x)
unfolding fed
fed_lowest s x =
    let even : x / 2 * 2 ≡ 2 * (x / 2) = omega arith in
    let high : turned (x / 2 * 2) ≡ x / 2 = ap turned even ∙ turned-double (x / 2) in
    let parts : turned x ≡ bit_xor (x / 2) (turned (x % 2)) =
    ap turned (sym (low_and_high 1 x)) ∙ turned-xor (x / 2 * 2) (x % 2) ∙ ap (λ y. bit_xor y (turned (x % 2))) high in
    ap (λ bit. bit_xor (turned (bit_xor s bit)) (x / 2)) (lowest (x % 2) (omega arith))
    ∙ ap (λ y. bit_xor y (x / 2)) (turned-xor s (x % 2))
    ∙ xor_assoc (turned s) (turned (x % 2)) (x / 2)
    ∙ ap (bit_xor (turned s)) (xor_comm (turned (x % 2)) (x / 2) ∙ sym parts)
    ∙ sym (turned-xor s x)

-- the bits of a number of n bits are fed like the number as a whole
fed_number : (n s x : ℕ) → x < 2 ^ n → fed_all s (low_bits n x) ≡ turns n (bit_xor s x)
unfolding fed_all turns
fed_number zero s x h = sym (ap (bit_xor s) none ∙ xor_zero_r s)
  where
    none : x ≡ 0
    none = omega arith
fed_number (suc n) s x h = fed_number n (fed s (x % 2 == 1)) (x / 2) (omega (arith, pow-suc 2 n)) ∙ ap (turns n) (fed_lowest s x)

fed_append : (a b : List Bool) (s : ℕ) → fed_all s (a ++ b) ≡ fed_all (fed_all s a) b
unfolding fed_all
fed_append [] b s = refl
fed_append (bit ∷ a) b s = fed_append a b (fed s bit)

fed_bytes : (bytes : List ℕ) (s : ℕ) → ((k : ℕ) → get_or bytes k 0 < 256) → fed_all s (flat_map (low_bits 8) bytes) ≡ register s bytes
unfolding fed_all register
fed_bytes [] s h = refl
fed_bytes (b ∷ bytes) s h =
    fed_append (low_bits 8 b) (flat_map (low_bits 8) bytes) s
    ∙ ap (λ r. fed_all r (flat_map (low_bits 8) bytes)) (fed_number 8 s b (h 0))
    ∙ fed_bytes bytes (turns 8 (bit_xor s b)) (λ k. h (suc k))

-- ---- the first and the last step

-- ones at the front complement it
complemented : (n : ℕ) (p : List Bool) → map not (take n p) ++ drop n p ≡ add_at_front (replicate n true) p
complemented zero p = refl
complemented (suc n) [] = refl
complemented (suc n) (c ∷ p) = ap (λ rest. not c ∷ rest) (complemented n p)

ones : replicate 32 true ≡ low_bits 32 0xFFFFFFFF
ones = refl

-- on zeros a number's bits stand as they are
on_zeros : (n x : ℕ) → add_at_front (low_bits n x) (replicate n false) ≡ low_bits n x
on_zeros zero x = refl
on_zeros (suc n) x = λ i. own (x % 2 == 1) i ∷ on_zeros n (x / 2) i
  where
    own : (b : Bool) → cond b true false ≡ b
    own true = refl
    own false = refl

flipped : (bit : ℕ) → bit < 2 → cond (not (bit == 1)) 1 0 + bit ≡ 1
flipped zero h = refl
flipped (suc zero) h = refl
flipped (suc (suc bit)) h = absurd (omega arith)

inverted : (n x : ℕ) → x < 2 ^ n → number_of_bits (map not (low_bits n x)) ≡ 2 ^ n - 1 - x
inverted zero x h = omega arith
inverted (suc n) x h = omega (arith, pow-suc 2 n, h, flipped (x % 2) (omega arith), inverted n (x / 2) (omega (arith, pow-suc 2 n)))

length_bits : (bytes : List ℕ) → length (flat_map (low_bits 8) bytes) ≡ 8 * length bytes
length_bits [] = refl
length_bits (b ∷ bytes) = length-append (low_bits 8 b) (flat_map (low_bits 8) bytes) ∙ omega (arith, length_bits bytes)

pub checksum-is : (bytes : List ℕ) → ((k : ℕ) → get_or bytes k 0 < 256) → checksum bytes ≡ 2 ^ 32 - 1 - register 0xFFFFFFFF bytes
unfolding checksum dividend
checksum-is bytes h =
    let bits : List Bool = flat_map (low_bits 8) bytes in
    let zeros : List Bool = replicate 32 false in
    let r : ℕ = register 0xFFFFFFFF bytes in
    let start : dividend bytes ≡ add_at_front (low_bits 32 0xFFFFFFFF) (bits ++ zeros) = complemented 32 (bits ++ zeros) ∙ ap (λ front. add_at_front front (bits ++ zeros)) ones in
    let all : divided (8 * length bytes) (dividend bytes) ≡ low_bits 32 r =
    ap (λ n. divided n (dividend bytes)) (sym (length_bits bytes)) ∙ ap (divided (length bits)) start
    ∙ steps_over bits 0xFFFFFFFF zeros (omega arith) ∙ ap (λ s. add_at_front (low_bits 32 s) zeros) (fed_bytes bytes 0xFFFFFFFF h)
    ∙ on_zeros 32 r in
    ap (λ rest. number_of_bits (map not rest)) all ∙ inverted 32 r (register-lt bytes 0xFFFFFFFF (omega arith) h)

-- bytes behind bytes
pub bytes_on : (front bytes : List ℕ) → ((k : ℕ) → get_or front k 0 < 256) → ((k : ℕ) → get_or bytes k 0 < 256) → (k : ℕ) → get_or (front ++ bytes) k 0 < 256
bytes_on [] bytes h g k = g k
bytes_on (b ∷ front) bytes h g zero = h 0
bytes_on (b ∷ front) bytes h g (suc k) = bytes_on front bytes (λ n. h (suc n)) g k
