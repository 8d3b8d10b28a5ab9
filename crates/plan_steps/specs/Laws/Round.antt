-- Shards that are dealt to servers in turn stand evenly.
use Rattle.std.proofs.Common.{◌≡◌, ◌≢◌, ◌⊎◌, inl, inr, ℕ, zero, suc, ◌+◌, ◌%◌, ◌<◌, ◌≤◌, Bool, true, false, cond, [], ◌∷◌, ◌++◌, refl, sym, ◌∙◌, ap, arith}
use Rattle.std.specs.Prelude.{◌&&◌, ◌==◌, nat_lt, count_by}
use Rattle.std.specs.List.{range_with_len}
use Rattle.std.proofs.Math.Nat.{suc-mod, mod-eq_of_lt, mod_self, zero-mod}
use Rattle.std.proofs.lemmas.List.Sums.{sum_by-append, sum_by-cons}
use Rattle.std.proofs.lemmas.Bool.{cases_eq, cases_lt, lt-ltb, le-ltb, eq-eqb, ne_eqb}

-- ---- counts

pub bit : Bool → ℕ
bit b = cond b 1 0

pub bit_most : (b : Bool) → bit b ≤ 1
unfolding bit
bit_most true = omega arith
bit_most false = omega arith

pub bool_same : (a b : Bool) → (a ≡ true → b ≡ true) → (b ≡ true → a ≡ true) → a ≡ b
bool_same true b to from = sym (to refl)
bool_same false true to from = from refl
bool_same false false to from = refl

-- tests that agree count the same
pub count_same : (p q : ℕ → Bool) (a n : ℕ) → ((i : ℕ) → a ≤ i → i < a + n → p i ≡ q i) → count_by p (range_with_len a n) ≡ count_by q (range_with_len a n)
count_same p q a zero same = refl
count_same p q a (suc n) same =
    sum_by-cons (λ i. cond (p i) 1 0) a (range_with_len (a + 1) n)
    ∙ (λ j. cond (same a (omega arith) (omega arith) j) 1 0 + count_same p q (a + 1) n (λ i from to. same i (omega (arith, from)) (omega (arith, to))) j)
    ∙ sym (sum_by-cons (λ i. cond (q i) 1 0) a (range_with_len (a + 1) n))

range_more : (a n : ℕ) → range_with_len a (suc n) ≡ range_with_len a n ++ (a + n) ∷ []
range_more a zero = let same : a ≡ a + 0 = omega arith in ap (λ k. k ∷ []) same
range_more a (suc n) = let same : a + 1 + n ≡ a + suc n = omega arith in ap (λ ks. a ∷ ks) (range_more (a + 1) n ∙ ap (λ k. range_with_len (a + 1) n ++ k ∷ []) same)

-- one number more
count_more : (p : ℕ → Bool) (n : ℕ) → count_by p (range_with_len 0 (suc n)) ≡ count_by p (range_with_len 0 n) + bit (p n)
unfolding bit
count_more p n =
    let same : 0 + n ≡ n = omega arith in
    ap (count_by p) (range_more 0 n ∙ ap (λ k. range_with_len 0 n ++ k ∷ []) same) ∙ sum_by-append (λ i. cond (p i) 1 0) (range_with_len 0 n) (n ∷ []) ∙ omega arith

-- ---- in turn

turned : (n : ℕ) → n + 0 + 1 ≡ n + 1 + 0
turned n = omega arith

first_none : (n : ℕ) → n + 0 + 1 ≡ n + 1
first_none n = omega arith

last_none : (n : ℕ) → n + 0 ≡ n
last_none n = omega arith

-- number i is one of n, and goes to server s of m
abbrev pub round_test : ℕ → ℕ → ℕ → ℕ → Bool
round_test n m s i = nat_lt i n && (i % m == s)

-- of the first k numbers each server has as many as each other, and those below the rest one more
pub record AreRound (n m k : ℕ) : Type 0 where
  pub full : ℕ
  pub rest : ℕ
  pub below : rest < m
  pub next : k < n → k % m ≡ rest
  pub each : (s : ℕ) → s < m → count_by (round_test n m s) (range_with_len 0 k) ≡ full + bit (nat_lt s rest)

pub round_counts : (n m k : ℕ) → 0 < m → AreRound n m k
unfolding bit
round_counts n m zero some = record { full = 0; rest = 0; below = some; next = λ _. zero-mod m; each = λ s h. ap (λ b. 0 + cond b 1 0) (sym (le-ltb s 0 (omega arith))) }
round_counts n m (suc k) some = by_number (cases_lt k n) (round_counts n m k some)
  where
    by_number : (k < n) ⊎ (n ≤ k) → AreRound n m k → AreRound n m (suc k)
    by_number (inr over) was = record {
      full = was.full;
      rest = was.rest;
      below = was.below;
      next = λ h. absurd (omega (arith, h, over));
      each = λ s h. count_more (round_test n m s) k ∙ ap (λ b. count_by (round_test n m s) (range_with_len 0 k) + bit (b && (k % m == s))) (le-ltb k n over) ∙ omega (arith, was.each s h);
    }
    by_number (inl less) was = by_rest (cases_eq (suc was.rest) m)
      where
        here : (s : ℕ) → s < m → count_by (round_test n m s) (range_with_len 0 (suc k)) ≡ was.full + bit (nat_lt s was.rest) + bit (was.rest == s)
        here s h =
            count_more (round_test n m s) k
            ∙ (λ j. was.each s h j + bit (lt-ltb k n less j && (was.next less j == s)))

        by_rest : (suc was.rest ≡ m) ⊎ (suc was.rest ≢ m) → AreRound n m (suc k)
        by_rest (inl full) = record {
          full = was.full + 1;
          rest = 0;
          below = some;
          next = λ h. suc-mod k m ∙ ap (λ q. suc q % m) (was.next less) ∙ ap (λ q. q % m) full ∙ mod_self m;
          each = λ s h. here s h ∙ all_full s h (cases_eq was.rest s);
        }
          where
            all_full : (s : ℕ) → s < m → (was.rest ≡ s) ⊎ (was.rest ≢ s) → was.full + bit (nat_lt s was.rest) + bit (was.rest == s) ≡ was.full + 1 + bit (nat_lt s 0)
            all_full s h (inl same) =
                (λ j. was.full + bit (le-ltb s was.rest (omega (arith, same)) j) + bit (eq-eqb was.rest s same j)) ∙ turned was.full ∙ (λ j. was.full + 1 + bit (sym (le-ltb s 0 (omega arith)) j))
            all_full s h (inr other) =
                (λ j. was.full + bit (lt-ltb s was.rest (omega (arith, h, full, other)) j) + bit (ne_eqb was.rest s other j)) ∙ (λ j. was.full + 1 + bit (sym (le-ltb s 0 (omega arith)) j))
        by_rest (inr more) = record {
          full = was.full;
          rest = suc was.rest;
          below = omega (arith, was.below, more);
          next = λ h. suc-mod k m ∙ ap (λ q. suc q % m) (was.next less) ∙ mod-eq_of_lt (omega (arith, was.below, more));
          each = λ s h. here s h ∙ one_more s (cases_eq was.rest s) (cases_lt s was.rest);
        }
          where
            one_more : (s : ℕ) → (was.rest ≡ s) ⊎ (was.rest ≢ s) → (s < was.rest) ⊎ (was.rest ≤ s) → was.full + bit (nat_lt s was.rest) + bit (was.rest == s) ≡ was.full + bit (nat_lt s (suc was.rest))
            one_more s (inl same) either = (λ j. was.full + bit (le-ltb s was.rest (omega (arith, same)) j) + bit (eq-eqb was.rest s same j)) ∙ first_none was.full ∙ (λ j. was.full + bit (sym (lt-ltb s (suc was.rest) (omega (arith, same))) j))
            one_more s (inr other) (inl before) = (λ j. was.full + bit (lt-ltb s was.rest before j) + bit (ne_eqb was.rest s other j)) ∙ last_none (was.full + 1) ∙ (λ j. was.full + bit (sym (lt-ltb s (suc was.rest) (omega (arith, before))) j))
            one_more s (inr other) (inr behind) = (λ j. was.full + bit (le-ltb s was.rest behind j) + bit (ne_eqb was.rest s other j)) ∙ last_none (was.full + 0) ∙ (λ j. was.full + bit (sym (le-ltb s (suc was.rest) (omega (arith, behind, other))) j))
