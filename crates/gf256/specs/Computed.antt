-- Facts that are computed at each number below a bound.
use Rattle.std.proofs.Common.{◌≡◌, inl, inr, ℕ, zero, suc, ◌<◌, Bool, true, false, refl, ◌∙◌, ap, arith}
use Rattle.std.specs.Prelude.{◌==◌, ◌&&◌}
use Rattle.std.proofs.lemmas.Bool.{cases_lt, eqb-true}

-- the test passes below n
abbrev pub all_below : ℕ → (ℕ → Bool) → Bool
all_below zero test = true
all_below (suc n) test = test n && all_below n test

pub both_true : (a b : Bool) → (a && b) ≡ true → (a ≡ true) × (b ≡ true)
both_true true b e = (refl, e)
both_true false b e = absurd cc

pub each_below : (n : ℕ) (test : ℕ → Bool) → all_below n test ≡ true → (i : ℕ) → i < n → test i ≡ true
each_below zero test e i h = absurd (omega arith)
each_below (suc n) test e i h =
    let parts = both_true (test n) (all_below n test) e in
    elim (cases_lt i n) [
      | inl below ↦ each_below n test parts.1 i below
      | inr above ↦ let same : i ≡ n = omega arith in ap test same ∙ parts.0
    ]

-- two functions that are equal below n
pub equal_below : (n : ℕ) (f g : ℕ → ℕ) → all_below n (λ i. f i == g i) ≡ true → (i : ℕ) → i < n → f i ≡ g i
equal_below n f g e i h = eqb-true (f i) (g i) (each_below n (λ i. f i == g i) e i h)

-- two functions that are equal at each pair below m and n
pub equal_below_both : (m n : ℕ) (f g : ℕ → ℕ → ℕ) → all_below m (λ i. all_below n (λ j. f i j == g i j)) ≡ true → (i j : ℕ) → i < m → j < n → f i j ≡ g i j
equal_below_both m n f g e i j h k = equal_below n (f i) (g i) (each_below m (λ i. all_below n (λ j. f i j == g i j)) e i h) j k
