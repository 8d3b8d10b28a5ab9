-- Entries by the places of their records: there is one such list of the live ones.
use Rattle.std.proofs.Common.{◌≡◌, ◌⊎◌, inl, inr, ⊎_elim, ℕ, suc, ◌+◌, ◌<◌, ◌≤◌, List, [], ◌∷◌, map, Bool, true, false, cond, All, refl, sym, ◌∙◌, ap, subst, arith}
use Rattle.std.specs.FinMap.{values}
use Rattle.std.specs.List.Sorted.{IsNonDecreasingBy}
use Rattle.std.proofs.lemmas.List.Sorted.{sum_by-IsPermutation}
use Rattle.std.proofs.lemmas.List.Elements.{All-cons, All-head, All-tail, All-weaker, All-from_get_or}
use Rattle.volume_forms.specs.declared.Entry.{Entry}
use Rattle.volume_forms.specs.Kept.{entry_eq}
use Rattle.volume_forms.specs.Laws.Kept.{same_entry, entry_eq-itself}
use Rattle.needle_record.specs.Spelling.{length_of_record}
use Rattle.needle_record.specs.Records.{Placed, entry_of, index_of, StandsIn}
use Rattle.volume_vacuum.specs.Live.{live_records}
use Rattle.volume_vacuum.specs.Laws.Lives.{total, total-sum}
use Rattle.volume_vacuum.specs.Laws.Needles.{live-entries}
use Rattle.volume_vacuum.specs.Copies.{IsByPlace}
use Rattle.volume_vacuum.proofs.Entries.{Apart, behind}

-- how often an entry stands in a list
abbrev is_it : Entry → Entry → ℕ
is_it y e = cond (entry_eq e y) 1 0

-- what stands in it has what all of it has
counted : (P : Entry → Type 0) (y : Entry) (xs : List Entry) → All P xs → 0 < total (is_it y) xs → P y
counted P y [] all some = absurd (omega (arith, some))
counted P y (x ∷ xs) all some = by_same (entry_eq x y) refl some (counted P y xs (All-tail P x xs all))
  where
    by_same : (b : Bool) → entry_eq x y ≡ b → 0 < cond b 1 0 + total (is_it y) xs → (0 < total (is_it y) xs → P y) → P y
    by_same true e some rest = subst P (same_entry x y e) (All-head P x xs all)
    by_same false e some rest = rest (omega (arith, some))

first_counts : (y : Entry) (ys : List Entry) → 0 < total (is_it y) (y ∷ ys)
first_counts y ys = by_same (entry_eq y y) (entry_eq-itself y)
  where
    by_same : (b : Bool) → b ≡ true → 0 < cond b 1 0 + total (is_it y) ys
    by_same true e = omega arith
    by_same false e = absurd cc

abbrev NonFalling : List Entry → Type 0
NonFalling [] = Unit {0}
NonFalling (y ∷ ys) = All (λ (e : Entry). y.offset ≤ e.offset) ys × NonFalling ys

abbrev Rising : List Entry → Type 0
Rising [] = Unit {0}
Rising (x ∷ xs) = All (λ (e : Entry). x.offset < e.offset) xs × Rising xs

non_falling : (ys : List Entry) → IsNonDecreasingBy (λ (e : Entry). e.offset) ys → NonFalling ys
non_falling [] h = tt
non_falling (y ∷ ys) h = (
  All-from_get_or (λ (e : Entry). y.offset ≤ e.offset) ys y (λ i below. h 0 (suc i) y (omega arith) (omega (arith, below))),
  non_falling ys (λ i j d le below. h (suc i) (suc j) d (omega (arith, le)) (omega (arith, below))),
)

-- rising entries are in one order alone
same_sorted : (xs ys : List Entry) → Rising xs → NonFalling ys → ((f : Entry → ℕ) → total f ys ≡ total f xs) → ys ≡ xs
same_sorted [] [] rise fall same = refl
same_sorted [] (y ∷ ys) rise fall same = absurd (omega (arith, same (λ e. 1)))
same_sorted (x ∷ xs) [] rise fall same = absurd (omega (arith, same (λ e. 1)))
same_sorted (x ∷ xs) (y ∷ ys) rise fall same =
    let low : y.offset ≤ x.offset =
    counted (λ (e : Entry). y.offset ≤ e.offset) x (y ∷ ys) (All-cons (λ (e : Entry). y.offset ≤ e.offset) y ys (omega arith) fall.0) (omega (arith, same (is_it x), first_counts x xs)) in
    let either : (y ≡ x) ⊎ (x.offset < y.offset) =
    counted (λ (e : Entry). (e ≡ x) ⊎ (x.offset < e.offset)) y (x ∷ xs)
    (All-cons (λ (e : Entry). (e ≡ x) ⊎ (x.offset < e.offset)) x xs (inl refl) (All-weaker (λ (e : Entry). x.offset < e.offset) (λ (e : Entry). (e ≡ x) ⊎ (x.offset < e.offset)) (λ e more. inr more) xs rise.0))
    (omega (arith, same (is_it y), first_counts y ys)) in
    let first : y ≡ x = ⊎_elim (λ (e : y ≡ x). e) (λ more. absurd (omega (arith, low, more))) either in
    let rest : ys ≡ xs = same_sorted xs ys rise.1 fall.1 (λ f. omega (arith, same f, ap f first)) in
    λ i. first i ∷ rest i

-- ---- live entries

module _ (dat : List ℕ) where
  rising : (end : ℕ) (ps : List Placed) → All (StandsIn dat) ps → Apart end ps → Rising (map entry_of ps)
  rising end [] all h = tt
  rising end (p ∷ ps) all h =
      let here = All-head (StandsIn dat) p ps all in
      let more = All-tail (StandsIn dat) p ps all in
      (behind dat p ps here more h.1, rising (p.0 + length_of_record p.1) ps more h.1)

  sum_entries : (f : Entry → ℕ) (ps : List Placed) → total f (map entry_of ps) ≡ total (λ p. f (entry_of p)) ps
  sum_entries f [] = refl
  sum_entries f (p ∷ ps) = ap (λ n. f (entry_of p) + n) (sum_entries f ps)

  pub live-by_place : (ps : List Placed) (es : List Entry) → All (StandsIn dat) (live_records ps) → Apart 8 (live_records ps) → IsByPlace (index_of ps) es → es ≡ map entry_of (live_records ps)
  live-by_place ps es all apart by =
      same_sorted (map entry_of (live_records ps)) es (rising 8 (live_records ps) all apart) (non_falling es by.rising)
      (λ f. total-sum f es ∙ sum_by-IsPermutation f (values (index_of ps)) es by.permutation ∙ sym (total-sum f (values (index_of ps))) ∙ live-entries f ps ∙ sym (sum_entries f (live_records ps)))
