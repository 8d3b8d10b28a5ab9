-- The polynomial with given roots.
use Rattle.std.proofs.Common.{◌≡◌, ℕ, suc, ◌<◌, ◌≢◌, List, [], ◌∷◌, ◌++◌, length, drop, drop-cons, refl, sym, ◌∙◌, ap, arith}
use Rattle.std.specs.Prelude.{bit_xor, slice_index}
use Rattle.std.specs.List.{AllByRecursion}
use Rattle.std.specs.Int.Bits.{xor_comm, xor_self, xor_zero_r, xor_lt}
use Rattle.gf256.specs.Field.{field_add, field_mul, field_inv, poly_value}
use Rattle.gf256.specs.Laws.Field.{mul-add_left, mul-zero, zero-mul, mul-fits, mul_assoc, mul_comm, one-mul}
use Rattle.gf256.specs.Powers.{mul-inv, inv-fits}
use Rattle.rs_code.specs.Codeword.{AreBytes}
use Rattle.rs_code.specs.Polynomials.{poly_add, poly_times, value-add, value-times, add_bytes, times_bytes, length-times, length-add}
use Rattle.rs_code.specs.Through.{same_of_sum}

-- the product of x - r over the places r
unfoldable pub differences : List ℕ → ℕ → ℕ
differences [] x = 1
differences (r ∷ places) x = field_mul (field_add x r) (differences places x)

-- the polynomial of that product
abbrev pub roots : List ℕ → List ℕ
roots [] = 1 ∷ []
roots (r ∷ places) = poly_add (0 ∷ roots places) (poly_times r (roots places))

pub length-roots : (places : List ℕ) → length (roots places) ≡ suc (length places)
length-roots [] = refl
length-roots (r ∷ places) =
    length-add (0 ∷ roots places) (poly_times r (roots places)) (omega (arith, length-times r (roots places))) ∙ ap suc (length-roots places)

pub roots_bytes : (places : List ℕ) → AreBytes places → AreBytes (roots places)
roots_bytes [] h = (omega arith, tt)
roots_bytes (r ∷ places) h =
    let rest = roots_bytes places h.1 in add_bytes (0 ∷ roots places) (poly_times r (roots places)) (omega arith, rest) (times_bytes r (roots places) h.0 rest)

zero_xor : (a : ℕ) → bit_xor 0 a ≡ a
zero_xor a = xor_comm 0 a ∙ xor_zero_r a

pub value-roots : (places : List ℕ) (x : ℕ) → AreBytes places → x < 256 → poly_value (roots places) x ≡ differences places x
unfolding differences poly_value
value-roots [] x h k = ap (bit_xor 1) (mul-zero x) ∙ xor_zero_r 1
value-roots (r ∷ places) x h k =
    value-add (0 ∷ roots places) (poly_times r (roots places)) x
    ∙ ap (λ m. bit_xor m (poly_value (poly_times r (roots places)) x)) (zero_xor (field_mul x (poly_value (roots places) x)))
    ∙ ap (bit_xor (field_mul x (poly_value (roots places) x))) (value-times r (roots places) x (roots_bytes places h.1) h.0 k)
    ∙ sym (mul-add_left x r (poly_value (roots places) x))
    ∙ ap (field_mul (bit_xor x r)) (value-roots places x h.1 k)

pub differences_fit : (places : List ℕ) (x : ℕ) → AreBytes places → x < 256 → differences places x < 256
unfolding differences
differences_fit [] x h k = omega arith
differences_fit (r ∷ places) x h k = mul-fits (bit_xor x r) (differences places x) (xor_lt 8 x r k h.0) (differences_fit places x h.1 k)

pub differences-append : (places more : List ℕ) (x : ℕ) → AreBytes places → AreBytes more → x < 256 → differences (places ++ more) x ≡ field_mul (differences places x) (differences more x)
unfolding differences
differences-append [] more x h k l = sym (one-mul (differences more x) (differences_fit more x k l))
differences-append (r ∷ places) more x h k l =
    ap (field_mul (bit_xor x r)) (differences-append places more x h.1 k l)
    ∙ sym (mul_assoc (bit_xor x r) (differences places x) (differences more x) (xor_lt 8 x r l h.0) (differences_fit places x h.1 l) (differences_fit more x k l))

-- one factor more
pub differences-drop : (places : List ℕ) (i x : ℕ) → i < length places → differences (drop i places) x ≡ field_mul (field_add x (slice_index places i)) (differences (drop (suc i) places) x)
unfolding differences
differences-drop places i x h = rw (drop-cons places i 0) refl

-- no place is x
abbrev pub IsElsewhere : ℕ → List ℕ → Type 0
IsElsewhere x places = AllByRecursion (λ r. r ≢ x) places

-- a product of elements other than 0 isn't 0
pub product_nonzero : (a b : ℕ) → a < 256 → b < 256 → a ≢ 0 → b ≢ 0 → field_mul a b ≢ 0
product_nonzero a b h k first second none =
    second (sym (one-mul b k) ∙ ap (λ m. field_mul m b) (sym (mul_comm (field_inv a) a (inv-fits a h) h ∙ mul-inv a h first))
    ∙ mul_assoc (field_inv a) a b (inv-fits a h) h k ∙ ap (field_mul (field_inv a)) none ∙ mul-zero (field_inv a))

pub differences_nonzero : (places : List ℕ) (x : ℕ) → AreBytes places → x < 256 → IsElsewhere x places → differences places x ≢ 0
unfolding differences
differences_nonzero [] x h k away = λ none. cc
differences_nonzero (r ∷ places) x h k away =
    product_nonzero (bit_xor x r) (differences places x) (xor_lt 8 x r k h.0) (differences_fit places x h.1 k)
    (λ none. away.0 (sym (same_of_sum x r none))) (differences_nonzero places x h.1 k away.1)

pub each_weaker : (P Q : ℕ → Type 0) → ((x : ℕ) → P x → Q x) → (xs : List ℕ) → AllByRecursion P xs → AllByRecursion Q xs
each_weaker P Q f [] h = tt
each_weaker P Q f (x ∷ xs) h = (f x h.0, each_weaker P Q f xs h.1)

-- at each of the places the product is 0
pub differences_vanish : (places : List ℕ) → AllByRecursion (λ s. differences places s ≡ 0) places
unfolding differences
differences_vanish [] = tt
differences_vanish (r ∷ places) = (
  ap (λ m. field_mul m (differences places r)) (xor_self r) ∙ zero-mul (differences places r),
  each_weaker (λ s. differences places s ≡ 0) (λ s. differences (r ∷ places) s ≡ 0) (λ s h. ap (field_mul (bit_xor s r)) h ∙ mul-zero (bit_xor s r)) places (differences_vanish places),
)

-- the value at x of the polynomial of least degree that is 0 at the places and 1 at r
abbrev pub basis : List ℕ → ℕ → ℕ → ℕ
basis places r x = field_mul (differences places x) (field_inv (differences places r))

-- that polynomial
abbrev pub basis_polynomial : List ℕ → ℕ → List ℕ
basis_polynomial places r = poly_times (field_inv (differences places r)) (roots places)

pub length-basis_polynomial : (places : List ℕ) (r : ℕ) → length (basis_polynomial places r) ≡ suc (length places)
length-basis_polynomial places r = length-times (field_inv (differences places r)) (roots places) ∙ length-roots places

pub basis_polynomial_bytes : (places : List ℕ) (r : ℕ) → AreBytes places → r < 256 → AreBytes (basis_polynomial places r)
basis_polynomial_bytes places r h k = times_bytes (field_inv (differences places r)) (roots places) (inv-fits (differences places r) (differences_fit places r h k)) (roots_bytes places h)

pub value-basis_polynomial : (places : List ℕ) (r x : ℕ) → AreBytes places → r < 256 → x < 256 → poly_value (basis_polynomial places r) x ≡ basis places r x
value-basis_polynomial places r x h k l =
    let inverse : field_inv (differences places r) < 256 = inv-fits (differences places r) (differences_fit places r h k) in
    value-times (field_inv (differences places r)) (roots places) x (roots_bytes places h) inverse l
    ∙ ap (field_mul (field_inv (differences places r))) (value-roots places x h l)
    ∙ mul_comm (field_inv (differences places r)) (differences places x) inverse (differences_fit places x h l)

pub basis_fits : (places : List ℕ) (r x : ℕ) → AreBytes places → r < 256 → x < 256 → basis places r x < 256
basis_fits places r x h k l = mul-fits (differences places x) (field_inv (differences places r)) (differences_fit places x h l) (inv-fits (differences places r) (differences_fit places r h k))

pub basis_here : (places : List ℕ) (r : ℕ) → AreBytes places → r < 256 → IsElsewhere r places → basis places r r ≡ 1
basis_here places r h k away = mul-inv (differences places r) (differences_fit places r h k) (differences_nonzero places r h k away)

pub basis_elsewhere : (places : List ℕ) (r : ℕ) → AllByRecursion (λ s. basis places r s ≡ 0) places
basis_elsewhere places r =
    each_weaker (λ s. differences places s ≡ 0) (λ s. basis places r s ≡ 0) (λ s h. ap (λ m. field_mul m (field_inv (differences places r))) h ∙ zero-mul (field_inv (differences places r))) places (differences_vanish places)
