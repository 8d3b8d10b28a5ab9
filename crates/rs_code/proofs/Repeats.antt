-- Whether a number stands again behind its place.
use Rattle.std.proofs.Common.{◌≡◌, ℕ, suc, ◌+◌, ◌-◌, ◌<◌, Bool, true, false, List, [], ◌∷◌, length, take, drop, refl, sym, ◌∙◌, ap}
use Rattle.std.specs.Prelude.{slice_index, ◌==◌, ◌||◌}
use Rattle.std.specs.List.{list_any}
use Rattle.std.proofs.lemmas.Bool.{eqb-false, ne_eqb}
use Rattle.rs_code.specs.Roots.{IsElsewhere}
use Rattle.rs_code.specs.Shards.{AreShards, IsApartAt, apart_from_shards}
use Rattle.rs_code.proofs.Products.{rest_is}

neither : (a b : Bool) → (a || b) ≡ false → (a ≡ false) × (b ≡ false)
neither true b e = absurd cc
neither false b e = (refl, e)

elsewhere_unless_found : (x : ℕ) (xs : List ℕ) → list_any (λ y. y == x) xs ≡ false → IsElsewhere x xs
elsewhere_unless_found x [] none = tt
elsewhere_unless_found x (y ∷ xs) none =
    let parts = neither (y == x) (list_any (λ y. y == x) xs) none in (eqb-false y x parts.0, elsewhere_unless_found x xs parts.1)

not_found : (x : ℕ) (xs : List ℕ) → IsElsewhere x xs → list_any (λ y. y == x) xs ≡ false
not_found x [] away = refl
not_found x (y ∷ xs) away = λ i. (ne_eqb y x away.0 i) || (not_found x xs away.1 i)

-- what a search in the places behind i says
abbrev pub found_again : List ℕ → ℕ → Bool
found_again numbers i = list_any (λ y. y == slice_index numbers i) (take (length numbers - (i + 1)) (drop (i + 1) numbers))

found_again-is : (numbers : List ℕ) (i : ℕ) → found_again numbers i ≡ list_any (λ y. y == slice_index numbers i) (drop (suc i) numbers)
found_again-is numbers i = ap (list_any (λ y. y == slice_index numbers i)) (rest_is numbers i)

pub apart_here : (n : ℕ) (numbers : List ℕ) (i : ℕ) (found : Bool) → slice_index numbers i < n → found ≡ found_again numbers i → found ≡ false → IsApartAt n numbers i
apart_here n numbers i found below e none =
    record { below = below; apart = elsewhere_unless_found (slice_index numbers i) (drop (suc i) numbers) (sym (found_again-is numbers i) ∙ sym e ∙ none) }

pub found_in_shards : (n : ℕ) (numbers : List ℕ) (i : ℕ) (found : Bool) → AreShards n numbers → i < length numbers → found ≡ found_again numbers i → found ≡ false
found_in_shards n numbers i found shards h e =
    e ∙ found_again-is numbers i ∙ not_found (slice_index numbers i) (drop (suc i) numbers) (apart_from_shards n numbers shards i h).apart
