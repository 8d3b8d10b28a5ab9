-- The loop over the factors of a product of differences.
use Rattle.std.proofs.Common.{◌≡◌, ◌≢◌, ℕ, zero, suc, ◌+◌, ◌-◌, ◌<◌, ◌≤◌, List, [], ◌∷◌, length, get_or, take, drop, Fits, w8, refl, sym, ◌∙◌, ap, arith, take_all}
use Rattle.std.proofs.lemmas.Grind.{common_steps}
use Rattle.std.specs.List.{remove}
use Rattle.std.specs.Prelude.{slice_index}
use Rattle.std.specs.Int.Bits.{xor_lt}
use Rattle.gf256.specs.Field.{field_add, field_mul}
use Rattle.gf256.specs.Laws.Field.{mul_assoc, mul-fits, one-mul}
use Rattle.gf256.specs.Powers.{mul-one}
use Rattle.rs_code.specs.Codeword.{AreBytes}
use Rattle.rs_code.specs.Roots.{differences, differences_fit, differences-drop, differences-append, differences_nonzero}
use Rattle.rs_code.specs.Combination.{AreDistinct, bytes-take, bytes-drop}
use Rattle.rs_code.specs.Coefficients.{elsewhere_others, others_bytes}

pub bytes_from_fits : (xs : List ℕ) → ((k : ℕ) → Fits w8 (get_or xs k 0)) → AreBytes xs
bytes_from_fits [] h = tt
bytes_from_fits (x ∷ xs) h = ((h 0).fits, bytes_from_fits xs (λ k. h (suc k)))

-- the product of the first i factors, and of the rest
pub record IsProductSoFar (places : List ℕ) (x product i : ℕ) : Type 0 where
  pub fits : product < 256
  pub whole : field_mul product (differences (drop i places) x) ≡ differences places x

pub product_begins : (places : List ℕ) (x : ℕ) → AreBytes places → x < 256 → IsProductSoFar places x 1 0
product_begins places x bytes h = record { fits = omega arith; whole = one-mul (differences places x) (differences_fit places x bytes h) }

pub product_goes_on : (places : List ℕ) (x product i : ℕ) → AreBytes places → x < 256 → i < length places → slice_index places i < 256 → IsProductSoFar places x product i
    → IsProductSoFar places x (field_mul product (field_add x (slice_index places i))) (suc i)
product_goes_on places x product i bytes h room fits so_far =
    let factor : field_add x (slice_index places i) < 256 = xor_lt 8 x (slice_index places i) h fits in
    record {
      fits = mul-fits product (field_add x (slice_index places i)) so_far.fits factor;
      whole =
          mul_assoc product (field_add x (slice_index places i)) (differences (drop (suc i) places) x) so_far.fits factor (differences_fit (drop (suc i) places) x (bytes-drop places (suc i) bytes) h)
          ∙ ap (field_mul product) (sym (differences-drop places i x room)) ∙ so_far.whole;
    }

drop_all : (xs : List ℕ) (i : ℕ) → length xs ≤ i → drop i xs ≡ []
drop_all [] zero h = refl
drop_all [] (suc i) h = refl
drop_all (x ∷ xs) zero h = absurd (omega arith)
drop_all (x ∷ xs) (suc i) h = drop_all xs i (omega arith)

pub product_ends : (places : List ℕ) (x product i : ℕ) → length places ≤ i → IsProductSoFar places x product i → product ≡ differences places x
unfolding differences
product_ends places x product i over so_far =
    sym (mul-one product so_far.fits) ∙ ap (λ l. field_mul product (differences l x)) (sym (drop_all places i over)) ∙ so_far.whole

pub rest_is : (xs : List ℕ) (i : ℕ) → take (length xs - (i + 1)) (drop (i + 1) xs) ≡ drop (suc i) xs
rest_is xs i = grind (arith, common_steps, take_all)

-- the product over the places before i and that over the places behind it
pub product_of_others : (have : List ℕ) (i x before after product : ℕ) → AreBytes have → x < 256 → before ≡ differences (take i have) x → after ≡ differences (take (length have - (i + 1)) (drop (i + 1) have)) x
    → product ≡ field_mul before after → product ≡ differences (remove have i) x
product_of_others have i x before after product bytes h first second e =
    e ∙ (λ j. field_mul (first j) ((second ∙ ap (λ l. differences l x) (rest_is have i)) j))
    ∙ sym (differences-append (take i have) (drop (suc i) have) x (bytes-take have i bytes) (bytes-drop have (suc i) bytes) h)

pub others_nonzero : (have : List ℕ) (i product : ℕ) → AreBytes have → AreDistinct have → i < length have → slice_index have i < 256 → product ≡ differences (remove have i) (slice_index have i) → product ≢ 0
others_nonzero have i product bytes distinct h fits e none =
    differences_nonzero (remove have i) (slice_index have i) (others_bytes have i bytes) fits (elsewhere_others have i distinct h) (sym e ∙ none)
