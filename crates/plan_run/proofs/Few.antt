-- How many elements of a list pass, where each has a number of its own.
use Rattle.std.proofs.Common.{◌≡◌, ◌≢◌, ◌⊎◌, inl, inr, ℕ, zero, suc, ◌+◌, ◌<◌, ◌≤◌, Bool, true, false, cond, List, [], ◌∷◌, length, take, Some, refl, sym, ◌∙◌, ap, arith}
use Rattle.std.specs.Prelude.{◌==◌, ◌&&◌, not, filter, slice_get}
use Rattle.std.proofs.lemmas.Bool.{and_parts, and_from, eqb-true, eq-eqb, false≢true}

-- one that passes counts
one_more : {A : Type 0} (b : Bool) (x : A) (ys : List A) → length (cond b (x ∷ ys) ys) ≡ cond b 1 0 + length ys
one_more true x ys = omega arith
one_more false x ys = omega arith

-- each that passes does so by one of two tests
by_either : {A : Type 0} (p a b : A → Bool) (xs : List A) → ((k : ℕ) (x : A) → slice_get xs k ≡ Some x → p x ≡ true → (a x ≡ true) ⊎ (b x ≡ true))
    → length (filter p xs) ≤ length (filter a xs) + length (filter b xs)
by_either p a b [] each = omega arith
by_either {A} p a b (x ∷ xs) each = omega (
  arith,
  one_more (p x) x (filter p xs),
  one_more (a x) x (filter a xs),
  one_more (b x) x (filter b xs),
  by_either p a b xs (λ k y there pass. each (suc k) y there pass),
  first (p x) (a x) (b x) (each 0 x refl),
)
  where
    first : (p a b : Bool) → (p ≡ true → (a ≡ true) ⊎ (b ≡ true)) → ◌≤◌ (cond p 1 0) (cond a 1 0 + cond b 1 0)
    first true true b either = omega arith
    first true false true either = omega arith
    first true false false either = elim (either refl) [
      | inl e ↦ absurd (false≢true e)
      | inr e ↦ absurd (false≢true e)
    ]
    first false a b either = omega arith

none_pass : {A : Type 0} (p : A → Bool) (xs : List A) → ((k : ℕ) (x : A) → slice_get xs k ≡ Some x → p x ≡ true → ⊥) → length (filter p xs) ≡ 0
none_pass p [] none = refl
none_pass p (x ∷ xs) none = omega (arith, one_more (p x) x (filter p xs), none_pass p xs (λ k y there pass. none (suc k) y there pass), first (p x) (none 0 x refl))
  where
    first : (p : Bool) → (p ≡ true → ⊥) → ◌≡◌ {A = ℕ} (cond p 1 0) 0
    first true none = absurd (none refl)
    first false none = refl

one_passes : {A : Type 0} (p : A → Bool) (xs : List A) → ((i j : ℕ) (x y : A) → slice_get xs i ≡ Some x → slice_get xs j ≡ Some y → p x ≡ true → p y ≡ true → i ≡ j) → length (filter p xs) ≤ 1
one_passes p [] once = omega arith
one_passes {A} p (x ∷ xs) once = omega (
  arith,
  one_more (p x) x (filter p xs),
  by_first (p x) refl (one_passes p xs (λ i j y z at_i at_j a b. let same : suc i ≡ suc j = once (suc i) (suc j) y z at_i at_j a b in omega (arith, same))),
)
  where
    by_first : (b : Bool) → p x ≡ b → length (filter p xs) ≤ 1 → ◌≤◌ (cond b 1 0 + length (filter p xs)) 1
    by_first true pass rest = omega (arith, none_pass p xs (λ k y there other. let clash : 0 ≡ suc k = once 0 (suc k) x y refl there pass other in absurd (omega (arith, clash))))
    by_first false e rest = omega (arith, rest)

-- No more pass than there are numbers for them.
pub few_pass : {A : Type 0} (n : ℕ) (f : A → ℕ) (p : A → Bool) (xs : List A) → ((k : ℕ) (x : A) → slice_get xs k ≡ Some x → p x ≡ true → f x < n)
    → ((i j : ℕ) (x y : A) → slice_get xs i ≡ Some x → slice_get xs j ≡ Some y → p x ≡ true → p y ≡ true → f x ≡ f y → i ≡ j) → length (filter p xs) ≤ n
few_pass zero f p xs below once = omega (arith, none_pass p xs (λ k x there pass. absurd (omega (arith, below k x there pass))))
few_pass {A} (suc n) f p xs below once = omega (
  arith,
  by_either p lower last xs (λ k x there pass. either x pass),
  few_pass n f lower xs
      (λ k x there pass. let both = and_parts (p x) (not (f x == n)) pass in let most = below k x there both.0 in let other = apart x both.1 in omega (arith, most, other))
      (λ i j x y at_i at_j a b. once i j x y at_i at_j (and_parts (p x) (not (f x == n)) a).0 (and_parts (p y) (not (f y == n)) b).0),
  one_passes last xs
      (λ i j x y at_i at_j a b. let here = and_parts (p x) (f x == n) a in let there = and_parts (p y) (f y == n) b in once i j x y at_i at_j here.0 there.0 (eqb-true (f x) n here.1 ∙ sym (eqb-true (f y) n there.1))),
)
  where
    lower : A → Bool
    lower x = p x && not (f x == n)

    last : A → Bool
    last x = p x && (f x == n)

    apart : (x : A) → not (f x == n) ≡ true → f x ≢ n
    apart x e same = false≢true (ap not (sym (eq-eqb (f x) n same)) ∙ e)

    either : (x : A) → p x ≡ true → (lower x ≡ true) ⊎ (last x ≡ true)
    either x pass = by_last (f x == n) refl
      where
        by_last : (b : Bool) → (f x == n) ≡ b → (lower x ≡ true) ⊎ (last x ≡ true)
        by_last true e = inr (and_from (p x) (f x == n) pass e)
        by_last false e = inl (and_from (p x) (not (f x == n)) pass (ap not e))

-- nor of a front of the list
pub front_few : {A : Type 0} (p : A → Bool) (k : ℕ) (xs : List A) → length (filter p (take k xs)) ≤ length (filter p xs)
front_few p zero xs = omega arith
front_few p (suc k) [] = omega arith
front_few p (suc k) (x ∷ xs) = omega (arith, one_more (p x) x (filter p (take k xs)), one_more (p x) x (filter p xs), front_few p k xs)
