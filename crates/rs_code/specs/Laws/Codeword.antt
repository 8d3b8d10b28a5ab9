-- What codewords are to one another. How far codewords differ is for `rot_scrub`, to come.
use Rattle.std.proofs.Common.{◌≡◌, inl, inr, ℕ, zero, suc, ◌+◌, ◌<◌, ◌≤◌, ◌≢◌, Bool, true, false, cond, List, [], ◌∷◌, length, map, take, refl, sym, ◌∙◌, ap, arith}
use Rattle.std.specs.Prelude.{bit_xor, slice_index, ◌==◌}
use Rattle.std.specs.List.{AllByRecursion, range_with_len}
use Rattle.std.specs.Int.Bits.{xor_zero_r}
use Rattle.std.proofs.lemmas.Bool.{eqb-true, cases_lt}
use Rattle.std.proofs.lemmas.Grind.{same_number_lists}
use Rattle.std.proofs.lemmas.List.{length-take-le}
use Rattle.std.proofs.lemmas.List.FromFn.{get_or-map-range_with_len}
use Rattle.gf256.specs.Field.{field_mul, poly_value}
use Rattle.gf256.specs.Laws.Bitwise.{xor_twice}
use Rattle.gf256.specs.Laws.Field.{mul-zero}
use Rattle.rs_code.specs.Codeword.{AreBytes, Known, IsCodeword, slope}
use Rattle.rs_code.specs.Polynomials.{poly_add, poly_times, quotient, quotient_bytes, length-quotient}
use Rattle.rs_code.specs.Through.{IsPoint, NotAt, AreApart, slope_is}
use Rattle.rs_code.specs.Roots.{IsElsewhere, each_weaker}
use Rattle.rs_code.specs.Combination.{AreDistinct}
use Rattle.rs_code.specs.Shards.{AreShards}
use Rattle.rs_code.specs.Interpolation.{IsBytePair, interpolated, length-interpolated, interpolated_bytes, interpolated-points}

-- ---- every K bytes at different shards are those of a codeword

abbrev known_at : List ℕ → List ℕ → Known
known_at [] values = []
known_at (r ∷ have) [] = []
known_at (r ∷ have) (y ∷ values) = (r, y) ∷ known_at have values

length-known_at : (have values : List ℕ) → length have ≡ length values → length (known_at have values) ≡ length have
length-known_at [] values h = refl
length-known_at (r ∷ have) [] h = absurd (omega arith)
length-known_at (r ∷ have) (y ∷ values) h = ap suc (length-known_at have values (omega arith))

known_bytes : (have values : List ℕ) → AreBytes have → AreBytes values → AllByRecursion IsBytePair (known_at have values)
known_bytes [] values h k = tt
known_bytes (r ∷ have) [] h k = tt
known_bytes (r ∷ have) (y ∷ values) h k = (record { place = h.0; value = k.0 }, known_bytes have values h.1 k.1)

known_not_at : (x : ℕ) (have values : List ℕ) → IsElsewhere x have → NotAt x (known_at have values)
known_not_at x [] values h = tt
known_not_at x (r ∷ have) [] h = tt
known_not_at x (r ∷ have) (y ∷ values) h = (h.0, known_not_at x have values h.1)

known_apart : (have values : List ℕ) → AreDistinct have → AreApart (known_at have values)
known_apart [] values h = tt
known_apart (r ∷ have) [] h = tt
known_apart (r ∷ have) (y ∷ values) h = (known_not_at r have values h.0, known_apart have values h.1)

values_of_points : (a have values : List ℕ) → length have ≡ length values → AllByRecursion (IsPoint a) (known_at have values) → map (poly_value a) have ≡ values
values_of_points a [] [] e h = refl
values_of_points a [] (y ∷ values) e h = absurd (omega arith)
values_of_points a (r ∷ have) [] e h = absurd (omega arith)
values_of_points a (r ∷ have) (y ∷ values) e h = λ i. (sym h.0.value i) ∷ (values_of_points a have values (omega arith) h.1 i)

-- the values of a polynomial at the first n places
abbrev pub word_of : List ℕ → ℕ → List ℕ
word_of a n = map (poly_value a) (range_with_len 0 n)

length-range : (a n : ℕ) → length (range_with_len a n) ≡ n
length-range a zero = refl
length-range a (suc n) = ap suc (length-range (a + 1) n)

length_map : {A B : Type 0} (f : A → B) (xs : List A) → length (map f xs) ≡ length xs
length_map f [] = refl
length_map f (x ∷ xs) = ap suc (length_map f xs)

value-word_of : (a : List ℕ) (n r : ℕ) → r < n → slice_index (word_of a n) r ≡ poly_value a r
value-word_of a n r h = get_or-map-range_with_len (poly_value a) 0 n r r 0 h (omega arith)

pub is_codeword : (k m : ℕ) (a : List ℕ) → length a ≡ k → AreBytes a → IsCodeword k m (word_of a (k + m))
is_codeword k m a degree bytes = record {
  width = length_map (poly_value a) (range_with_len 0 (k + m)) ∙ length-range 0 (k + m);
  coefficients = a;
  degree = degree;
  bytes = bytes;
  values = λ r h. value-word_of a (k + m) r h;
}

word_values : (a : List ℕ) (n : ℕ) (have : List ℕ) → AllByRecursion (λ r. r < n) have → map (slice_index (word_of a n)) have ≡ map (poly_value a) have
word_values a n [] h = refl
word_values a n (r ∷ have) h = λ i. (value-word_of a n r h.0 i) ∷ (word_values a n have h.1 i)

pub codeword_exists : (k m : ℕ) (have values : List ℕ) → k + m ≤ 256 → length have ≡ k → length values ≡ k → AreShards (k + m) have → AreBytes values
    → (c : List ℕ) × IsCodeword k m c × (map (slice_index c) have ≡ values)
codeword_exists k m have values few enough as_many shards bytes =
    let known : Known = known_at have values in
    let places : AreBytes have = each_weaker (λ r. r < k + m) (λ r. r < 256) (λ r h. omega arith) have shards.below in
    let pairs = known_bytes have values places bytes in
    let apart = known_apart have values shards.distinct in
    let a : List ℕ = interpolated (known_at have values) in
    let degree : length (interpolated (known_at have values)) ≡ k = length-interpolated (known_at have values) ∙ length-known_at have values (enough ∙ sym as_many) ∙ enough in (
      word_of (interpolated (known_at have values)) (k + m),
      is_codeword k m (interpolated (known_at have values)) degree (interpolated_bytes (known_at have values) pairs),
      word_values (interpolated (known_at have values)) (k + m) have shards.below
          ∙ values_of_points (interpolated (known_at have values)) have values (enough ∙ sym as_many) (interpolated-points (known_at have values) pairs apart),
    )

-- ---- a polynomial is known by its values at as many places as it has coefficients

-- the values at r of the ends of a list of coefficients
abbrev horner : List ℕ → ℕ → List ℕ
horner [] r = []
horner (c ∷ a) r = poly_value (c ∷ a) r ∷ horner a r

abbrev tail : List ℕ → List ℕ
tail [] = []
tail (x ∷ xs) = xs

horner-step : (a : List ℕ) (r : ℕ) → poly_add a (poly_times r (tail (horner a r))) ≡ horner a r
unfolding poly_value
horner-step [] r = refl
horner-step (c ∷ []) r = ap (λ v. v ∷ []) (sym (ap (bit_xor c) (mul-zero r) ∙ xor_zero_r c))
horner-step (c ∷ d ∷ a) r = λ i. bit_xor c (field_mul r (poly_value (d ∷ a) r)) ∷ horner-step (d ∷ a) r i

quotient-horner : (c : ℕ) (a : List ℕ) (r : ℕ) → quotient (c ∷ a) r ≡ horner a r
quotient-horner c [] r = refl
quotient-horner c (d ∷ a) r = ap (λ q. poly_add (d ∷ a) (poly_times r q)) (quotient-horner d a r) ∙ horner-step (d ∷ a) r

same_head : (c d t : ℕ) → bit_xor c t ≡ bit_xor d t → c ≡ d
same_head c d t e = sym (xor_twice c t) ∙ ap (λ v. bit_xor v t) e ∙ xor_twice d t

horner_injective : (a b : List ℕ) (r : ℕ) → horner a r ≡ horner b r → a ≡ b
unfolding poly_value
horner_injective [] [] r e = refl
horner_injective [] (d ∷ b) r e = absurd cc
horner_injective (c ∷ a) [] r e = absurd cc
horner_injective (c ∷ a) (d ∷ b) r e =
    let heads : bit_xor c (field_mul r (poly_value a r)) ≡ bit_xor d (field_mul r (poly_value b r)) = cc in
    let tails : horner a r ≡ horner b r = cc in
    (λ i. same_head c d (field_mul r (poly_value a r)) (heads ∙ ap (λ l. bit_xor d (field_mul r (poly_value l r))) (sym (horner_injective a b r tails))) i ∷ horner_injective a b r tails i)

abbrev Agrees : List ℕ → List ℕ → List ℕ → Type 0
Agrees a b places = AllByRecursion (λ r. poly_value a r ≡ poly_value b r) places

quotients_agree : (a b : List ℕ) (r : ℕ) (places : List ℕ) → AreBytes a → AreBytes b → r < 256 → AreBytes places → IsElsewhere r places → poly_value a r ≡ poly_value b r → Agrees a b places → Agrees (quotient a r) (quotient b r) places
quotients_agree a b r [] bytes_a bytes_b h shards away here same = tt
quotients_agree a b r (s ∷ places) bytes_a bytes_b h shards away here same = (
  sym (slope_is a r s (poly_value a s) bytes_a h shards.0 away.0 refl) ∙ (λ i. slope r (here i) s (same.0 i)) ∙ slope_is b r s (poly_value b s) bytes_b h shards.0 away.0 refl,
  quotients_agree a b r places bytes_a bytes_b h shards.1 away.1 here same.1,
)

-- two polynomials with the same values at as many places as they have coefficients are one
pub polynomial_unique : (a b places : List ℕ) → length a ≡ length places → length b ≡ length places → AreBytes a → AreBytes b → AreBytes places → AreDistinct places
    → AllByRecursion (λ r. poly_value a r ≡ poly_value b r) places → a ≡ b
unfolding poly_value
polynomial_unique [] [] [] long_a long_b bytes_a bytes_b shards distinct same = refl
polynomial_unique [] (d ∷ b) [] long_a long_b bytes_a bytes_b shards distinct same = absurd (omega arith)
polynomial_unique (c ∷ a) b [] long_a long_b bytes_a bytes_b shards distinct same = absurd (omega arith)
polynomial_unique [] b (r ∷ places) long_a long_b bytes_a bytes_b shards distinct same = absurd (omega arith)
polynomial_unique (c ∷ a) [] (r ∷ places) long_a long_b bytes_a bytes_b shards distinct same = absurd (omega arith)
polynomial_unique (c ∷ a) (d ∷ b) (r ∷ places) long_a long_b bytes_a bytes_b shards distinct same =
    let quotients : quotient (c ∷ a) r ≡ quotient (d ∷ b) r =
    polynomial_unique (quotient (c ∷ a) r) (quotient (d ∷ b) r) places (length-quotient (c ∷ a) r ∙ omega (arith, long_a)) (length-quotient (d ∷ b) r ∙ omega (arith, long_b))
    (quotient_bytes (c ∷ a) r bytes_a shards.0) (quotient_bytes (d ∷ b) r bytes_b shards.0) shards.1 distinct.1
    (quotients_agree (c ∷ a) (d ∷ b) r places bytes_a bytes_b shards.0 shards.1 distinct.0 same.0 same.1) in
    let ends : a ≡ b = horner_injective a b r (sym (quotient-horner c a r) ∙ quotients ∙ quotient-horner d b r) in
    (λ i. same_head c d (field_mul r (poly_value a r)) (same.0 ∙ ap (λ l. bit_xor d (field_mul r (poly_value l r))) (sym ends)) i ∷ ends i)

-- ---- any K bytes determine a codeword

polynomials_agree : (k m : ℕ) (c e have : List ℕ) (first : IsCodeword k m c) (second : IsCodeword k m e) → AllByRecursion (λ r. r < k + m) have → AllByRecursion (λ r. slice_index c r ≡ slice_index e r) have
    → Agrees first.coefficients second.coefficients have
polynomials_agree k m c e [] first second below same = tt
polynomials_agree k m c e (r ∷ have) first second below same =
    (sym (first.values r below.0) ∙ same.0 ∙ second.values r below.0, polynomials_agree k m c e have first second below.1 same.1)

pub same_codeword : (k m : ℕ) (c e have : List ℕ) → k + m ≤ 256 → IsCodeword k m c → IsCodeword k m e → length have ≡ k → AreShards (k + m) have → AllByRecursion (λ r. slice_index c r ≡ slice_index e r) have
    → c ≡ e
same_codeword k m c e have few first second enough shards same =
    let bytes : AreBytes have = each_weaker (λ r. r < k + m) (λ r. r < 256) (λ r h. omega arith) have shards.below in
    let one : first.coefficients ≡ second.coefficients =
    polynomial_unique first.coefficients second.coefficients have (first.degree ∙ sym enough) (second.degree ∙ sym enough) first.bytes second.bytes bytes shards.distinct
    (polynomials_agree k m c e have first second shards.below same) in
    same_number_lists c e (first.width ∙ sym second.width)
    (λ r h. let inside : r < k + m = omega (arith, first.width) in first.values r inside ∙ ap (λ a. poly_value a r) one ∙ sym (second.values r inside))

-- ---- two codewords

-- at how many of the first n places two words differ
abbrev pub differing : ℕ → List ℕ → List ℕ → ℕ
differing zero c e = 0
differing (suc n) c e = cond (slice_index c n == slice_index e n) 0 1 + differing n c e

-- the places below n at which they agree
abbrev agreeing : ℕ → List ℕ → List ℕ → List ℕ
agreeing zero c e = []
agreeing (suc n) c e = cond (slice_index c n == slice_index e n) (n ∷ agreeing n c e) (agreeing n c e)

agreeing-count : (n : ℕ) (c e : List ℕ) → length (agreeing n c e) + differing n c e ≡ n
agreeing-count zero c e = refl
agreeing-count (suc n) c e = by_test (slice_index c n == slice_index e n) (agreeing-count n c e)
  where
    by_test : (b : Bool) → length (agreeing n c e) + differing n c e ≡ n → length (cond b (n ∷ agreeing n c e) (agreeing n c e)) + (cond b 0 1 + differing n c e) ≡ suc n
    by_test true h = omega (arith, h)
    by_test false h = omega (arith, h)

agreeing-below : (n : ℕ) (c e : List ℕ) → AllByRecursion (λ r. r < n) (agreeing n c e)
agreeing-below zero c e = tt
agreeing-below (suc n) c e = by_test (slice_index c n == slice_index e n) (each_weaker (λ r. r < n) (λ r. r < suc n) (λ r h. omega arith) (agreeing n c e) (agreeing-below n c e))
  where
    by_test : (b : Bool) → AllByRecursion (λ r. r < suc n) (agreeing n c e) → AllByRecursion (λ r. r < suc n) (cond b (n ∷ agreeing n c e) (agreeing n c e))
    by_test true h = (omega arith, h)
    by_test false h = h

agreeing-agrees : (n : ℕ) (c e : List ℕ) → AllByRecursion (λ r. slice_index c r ≡ slice_index e r) (agreeing n c e)
agreeing-agrees zero c e = tt
agreeing-agrees (suc n) c e = by_test (slice_index c n == slice_index e n) refl (agreeing-agrees n c e)
  where
    by_test : (b : Bool) → (slice_index c n == slice_index e n) ≡ b → AllByRecursion (λ r. slice_index c r ≡ slice_index e r) (agreeing n c e) → AllByRecursion (λ r. slice_index c r ≡ slice_index e r) (cond b (n ∷ agreeing n c e) (agreeing n c e))
    by_test true test h = (eqb-true (slice_index c n) (slice_index e n) test, h)
    by_test false test h = h

agreeing-distinct : (n : ℕ) (c e : List ℕ) → AreDistinct (agreeing n c e)
agreeing-distinct zero c e = tt
agreeing-distinct (suc n) c e = by_test (slice_index c n == slice_index e n) (agreeing-distinct n c e)
  where
    by_test : (b : Bool) → AreDistinct (agreeing n c e) → AreDistinct (cond b (n ∷ agreeing n c e) (agreeing n c e))
    by_test true h = (each_weaker (λ r. r < n) (λ r. r ≢ n) (λ r k f. omega arith) (agreeing n c e) (agreeing-below n c e), h)
    by_test false h = h

all_take : (P : ℕ → Type 0) (n : ℕ) (xs : List ℕ) → AllByRecursion P xs → AllByRecursion P (take n xs)
all_take P zero [] h = tt
all_take P zero (x ∷ xs) h = tt
all_take P (suc n) [] h = tt
all_take P (suc n) (x ∷ xs) h = (h.0, all_take P n xs h.1)

distinct_take : (n : ℕ) (xs : List ℕ) → AreDistinct xs → AreDistinct (take n xs)
distinct_take zero [] h = tt
distinct_take zero (x ∷ xs) h = tt
distinct_take (suc n) [] h = tt
distinct_take (suc n) (x ∷ xs) h = (all_take (λ y. y ≢ x) n xs h.0, distinct_take n xs h.1)

-- two codewords that aren't one differ in more places than there are parity shards
pub codewords_differ : (k m : ℕ) (c e : List ℕ) → k + m ≤ 256 → IsCodeword k m c → IsCodeword k m e → c ≢ e → m + 1 ≤ differing (k + m) c e
codewords_differ k m c e few first second apart = elim (cases_lt (length (agreeing (k + m) c e)) k) [
  | inl below ↦ omega (arith, agreeing-count (k + m) c e)
  | inr above ↦ absurd (apart (same_codeword k m c e (take k (agreeing (k + m) c e)) few first second (length-take-le k (agreeing (k + m) c e) above)
      record { below = all_take (λ r. r < k + m) k (agreeing (k + m) c e) (agreeing-below (k + m) c e); distinct = distinct_take k (agreeing (k + m) c e) (agreeing-distinct (k + m) c e) }
      (all_take (λ r. slice_index c r ≡ slice_index e r) k (agreeing (k + m) c e) (agreeing-agrees (k + m) c e))))
]
