-- A polynomial through given points.
use Rattle.std.proofs.Common.{◌≡◌, ℕ, suc, ◌<◌, List, [], ◌∷◌, length, map, refl, sym, ◌∙◌, ap, arith}
use Rattle.std.specs.Prelude.{bit_xor}
use Rattle.std.specs.List.{AllByRecursion}
use Rattle.std.specs.Int.Bits.{xor_comm, xor_zero_r, xor_lt}
use Rattle.gf256.specs.Field.{field_add, field_mul, poly_value}
use Rattle.gf256.specs.Laws.Bitwise.{xor_twice}
use Rattle.gf256.specs.Laws.Field.{mul-zero}
use Rattle.gf256.specs.Powers.{mul-one}
use Rattle.rs_code.specs.Codeword.{AreBytes, Known}
use Rattle.rs_code.specs.Polynomials.{poly_add, poly_times, value_fits, value-add, value-times, add_bytes, times_bytes, length-times, length-add}
use Rattle.rs_code.specs.Through.{IsPoint, NotAt, AreApart}
use Rattle.rs_code.specs.Roots.{IsElsewhere, basis, basis_polynomial, length-basis_polynomial, basis_polynomial_bytes, value-basis_polynomial, basis_here, basis_elsewhere}

abbrev pub places_of : Known → List ℕ
places_of known = map (λ p. p.0) known

-- a place and its value, both bytes
pub record IsBytePair (p : ℕ × ℕ) : Type 0 where
  pub place : p.0 < 256
  pub value : p.1 < 256

-- a polynomial changed so that it goes through one point more, and stays as it was at the places
abbrev pub with_point : List ℕ → List ℕ → ℕ × ℕ → List ℕ
with_point a places p = poly_add (poly_times (field_add (poly_value a p.0) p.1) (basis_polynomial places p.0)) a

-- the polynomial of least degree through the points
unfoldable pub interpolated : Known → List ℕ
interpolated [] = []
interpolated (p ∷ known) = with_point (interpolated known) (places_of known) p

length-places : (known : Known) → length (places_of known) ≡ length known
length-places [] = refl
length-places (p ∷ known) = ap suc (length-places known)

places_bytes : (known : Known) → AllByRecursion IsBytePair known → AreBytes (places_of known)
places_bytes [] h = tt
places_bytes (p ∷ known) h = (h.0.place, places_bytes known h.1)

places_elsewhere : (r : ℕ) (known : Known) → NotAt r known → IsElsewhere r (places_of known)
places_elsewhere r [] h = tt
places_elsewhere r (p ∷ known) h = (h.0, places_elsewhere r known h.1)

pub length-interpolated : (known : Known) → length (interpolated known) ≡ length known
unfolding interpolated
length-interpolated [] = refl
length-interpolated (p ∷ known) =
    let factor : ℕ = field_add (poly_value (interpolated known) p.0) p.1 in
    let long : length (poly_times (field_add (poly_value (interpolated known) p.0) p.1) (basis_polynomial (places_of known) p.0)) ≡ suc (length known) =
    length-times (field_add (poly_value (interpolated known) p.0) p.1) (basis_polynomial (places_of known) p.0) ∙ length-basis_polynomial (places_of known) p.0 ∙ ap suc (length-places known) in
    length-add (poly_times (field_add (poly_value (interpolated known) p.0) p.1) (basis_polynomial (places_of known) p.0)) (interpolated known) (omega (arith, long, length-interpolated known)) ∙ long

pub interpolated_bytes : (known : Known) → AllByRecursion IsBytePair known → AreBytes (interpolated known)
unfolding interpolated
interpolated_bytes [] h = tt
interpolated_bytes (p ∷ known) h =
    let rest = interpolated_bytes known h.1 in
    let factor : field_add (poly_value (interpolated known) p.0) p.1 < 256 = xor_lt 8 (poly_value (interpolated known) p.0) p.1 (value_fits (interpolated known) p.0 rest h.0.place) h.0.value in
    add_bytes (poly_times (field_add (poly_value (interpolated known) p.0) p.1) (basis_polynomial (places_of known) p.0)) (interpolated known)
    (times_bytes (field_add (poly_value (interpolated known) p.0) p.1) (basis_polynomial (places_of known) p.0) factor (basis_polynomial_bytes (places_of known) p.0 (places_bytes known h.1) h.0.place)) rest

value-with_point : (a places : List ℕ) (p : ℕ × ℕ) (x : ℕ) → AreBytes a → AreBytes places → IsBytePair p → x < 256
    → poly_value (with_point a places p) x ≡ bit_xor (field_mul (field_add (poly_value a p.0) p.1) (basis places p.0 x)) (poly_value a x)
value-with_point a places p x bytes shards pair h =
    value-add (poly_times (field_add (poly_value a p.0) p.1) (basis_polynomial places p.0)) a x
    ∙ ap (λ m. bit_xor m (poly_value a x))
    (value-times (field_add (poly_value a p.0) p.1) (basis_polynomial places p.0) x (basis_polynomial_bytes places p.0 shards pair.place) (xor_lt 8 (poly_value a p.0) p.1 (value_fits a p.0 bytes pair.place) pair.value) h
    ∙ ap (field_mul (field_add (poly_value a p.0) p.1)) (value-basis_polynomial places p.0 x shards pair.place h))

through_point : (a places : List ℕ) (p : ℕ × ℕ) → AreBytes a → AreBytes places → IsBytePair p → IsElsewhere p.0 places → p.1 ≡ poly_value (with_point a places p) p.0
through_point a places p bytes shards pair away =
    let v : ℕ = poly_value a p.0 in
    let fits : field_add (poly_value a p.0) p.1 < 256 = xor_lt 8 (poly_value a p.0) p.1 (value_fits a p.0 bytes pair.place) pair.value in
    sym (value-with_point a places p p.0 bytes shards pair pair.place
    ∙ ap (λ m. bit_xor (field_mul (field_add (poly_value a p.0) p.1) m) (poly_value a p.0)) (basis_here places p.0 shards pair.place away)
    ∙ ap (λ m. bit_xor m (poly_value a p.0)) (mul-one (field_add (poly_value a p.0) p.1) fits ∙ xor_comm (poly_value a p.0) p.1)
    ∙ xor_twice p.1 (poly_value a p.0))

still_through : (a : List ℕ) (known : Known) (places : List ℕ) (p : ℕ × ℕ) → AreBytes a → AreBytes places → IsBytePair p → AllByRecursion (λ s. basis places p.0 s ≡ 0) (places_of known)
    → AllByRecursion (IsPoint a) known → AllByRecursion (IsPoint (with_point a places p)) known
still_through a [] places p bytes shards pair off points = tt
still_through a (q ∷ known) places p bytes shards pair off points = (
  record {
    place = points.0.place;
    value =
        points.0.value
        ∙ sym (value-with_point a places p q.0 bytes shards pair points.0.place
        ∙ ap (λ m. bit_xor (field_mul (field_add (poly_value a p.0) p.1) m) (poly_value a q.0)) off.0
        ∙ ap (λ m. bit_xor m (poly_value a q.0)) (mul-zero (field_add (poly_value a p.0) p.1))
        ∙ xor_comm 0 (poly_value a q.0) ∙ xor_zero_r (poly_value a q.0));
  },
  still_through a known places p bytes shards pair off.1 points.1,
)

pub interpolated-points : (known : Known) → AllByRecursion IsBytePair known → AreApart known → AllByRecursion (IsPoint (interpolated known)) known
unfolding interpolated
interpolated-points [] h apart = tt
interpolated-points (p ∷ known) h apart =
    let rest = interpolated_bytes known h.1 in
    let shards = places_bytes known h.1 in (
      record { place = h.0.place; value = through_point (interpolated known) (places_of known) p rest shards h.0 (places_elsewhere p.0 known apart.0) },
      still_through (interpolated known) known (places_of known) p rest shards h.0 (basis_elsewhere (places_of known) p.0) (interpolated-points known h.1 apart.1),
    )
