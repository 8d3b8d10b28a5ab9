-- A job's place in the list, and what an edit there does.
use Rattle.std.proofs.Common.{◌≡◌, ◌≢◌, ℕ, zero, suc, ◌+◌, ◌<◌, ◌≤◌, Bool, true, false, cond, not, ltb, List, [], ◌∷◌, length, map, get_or, set, Option, Some, None, IsSome, IsSomeAnd, inl, inr, refl, sym, ◌∙◌, ap, arith}
use Rattle.std.specs.List.{AllByRecursion, filter, find, position, position_or_len, remove}
use Rattle.std.proofs.lemmas.Bool.{cases_lt, eqb-true, false≢true}
use Rattle.std.proofs.lemmas.Bool.Decides.{nat_tests}
use Rattle.std.proofs.lemmas.List.Quantifiers.{position-Some}
use Rattle.job_board.specs.declared.Job.{Job}
use Rattle.job_board.specs.Jobs.{InOrder, IsOut, has_number, set_work}

module _ {X : Type 0} (p : X → Bool) where
  pass_none : (xs : List X) → length xs ≤ position_or_len p xs → AllByRecursion (λ x. p x ≡ false) xs
  pass_none [] h = tt
  pass_none (x ∷ xs) h = elim (p x) as (λ b. p x ≡ b → length (x ∷ xs) ≤ cond (not b) (1 + position_or_len p xs) 0 → (p x ≡ false) × AllByRecursion (λ y. p y ≡ false) xs) [
    | true ↦ λ e k. absurd (omega arith)
    | false ↦ λ e k. (e, pass_none xs (omega arith))
  ] refl h

  -- no place: none passes
  pub none_passes : (xs : List X) → position p xs ≡ None → AllByRecursion (λ x. p x ≡ false) xs
  none_passes xs e = elim (cases_lt (position_or_len p xs) (length xs)) [
    | inl lt ↦ absurd (some_is_none (ltb (position_or_len p xs) (length xs)) (grind (arith, nat_tests)) e)
    | inr ge ↦ pass_none xs ge
  ]
    where
      some_is_none : (b : Bool) → b ≡ true → cond b (Some (position_or_len p xs)) None ≡ None → ⊥
      some_is_none true t k = cc
      some_is_none false t k = false≢true t

  pub find_none : (xs : List X) → AllByRecursion (λ x. p x ≡ false) xs → find p xs ≡ None
  find_none [] h = refl
  find_none (x ∷ xs) h = ap (λ b. cond b (Some x) (find p xs)) h.0 ∙ find_none xs h.1

  -- the first place that passes
  pub find_first : (xs : List X) (i : ℕ) (d : X) → i < length xs → p (get_or xs i d) ≡ true → ((k : ℕ) → k < i → p (get_or xs k d) ≡ false) → find p xs ≡ Some (get_or xs i d)
  find_first [] i d low t f = absurd (omega arith)
  find_first (x ∷ xs) zero d low t f = ap (λ b. cond b (Some x) (find p xs)) t
  find_first (x ∷ xs) (suc i) d low t f =
      ap (λ b. cond b (Some x) (find p xs)) (f 0 (omega arith)) ∙ find_first xs i d (omega arith) t (λ k lt. f (suc k) (omega arith))

  pub filter_none : (xs : List X) → AllByRecursion (λ x. p x ≡ false) xs → filter (λ x. not (p x)) xs ≡ xs
  filter_none [] h = refl
  filter_none (x ∷ xs) h = ap (λ b. cond (not b) (x ∷ filter (λ y. not (p y)) xs) (filter (λ y. not (p y)) xs)) h.0 ∙ ap (λ (l : List X). x ∷ l) (filter_none xs h.1)

  -- the element at the place that `position` answers
  pub found_there : (xs : List X) (i : ℕ) (x : X) → Some i ≡ position p xs → x ≡ get_or xs i x → find p xs ≡ Some x
  found_there xs i x e read = let at = position-Some p xs i x (sym e) in find_first xs i x at.0 at.1 at.2 ∙ ap Some (sym read)

  pub found_nowhere : (xs : List X) → None ≡ position p xs → find p xs ≡ None
  found_nowhere xs e = find_none xs (none_passes xs (sym e))

  -- where `find` answers, so does `position`
  pub has_place : (xs : List X) (r : Option ℕ) → r ≡ position p xs → IsSome (find p xs) → IsSome r
  has_place xs None e some = absurd (false≢true (rw (found_nowhere xs e) at some))
  has_place xs (Some i) e some = refl

module _ {W : Type 0} where
  -- the number stands here, and later ones are greater
  others : (n : ℕ) (job : Job W) (more : List (Job W)) → job.number ≡ n → AllByRecursion (λ (later : Job W). (job.number < later.number) × (job.volume ≢ later.volume)) more → AllByRecursion (λ (later : Job W). has_number n later ≡ false) more
  others n job [] e h = tt
  others n job (later ∷ more) e h = (let lt : job.number < later.number = h.0.0 in grind (arith, nat_tests), others n job more e h.1)

  pub set_none : (n : ℕ) (w : Option W) (jobs : List (Job W)) → AllByRecursion (λ (job : Job W). has_number n job ≡ false) jobs → map {A = Job W} {B = Job W} (set_work n w) jobs ≡ jobs
  set_none n w [] h = refl
  set_none n w (job ∷ jobs) h = ap (λ b. cond b (record job { work = w }) job ∷ map {A = Job W} {B = Job W} (set_work n w) jobs) h.0 ∙ ap (λ (l : List (Job W)). job ∷ l) (set_none n w jobs h.1)

  pub set_at : (n : ℕ) (w : Option W) (jobs : List (Job W)) (i : ℕ) (d : Job W) → InOrder jobs → i < length jobs → has_number n (get_or jobs i d) ≡ true → ((k : ℕ) → k < i → has_number n (get_or jobs k d) ≡ false) → set jobs i (record (get_or jobs i d) { work = w }) ≡ map {A = Job W} {B = Job W} (set_work n w) jobs
  set_at n w [] i d h low t f = absurd (omega arith)
  set_at n w (job ∷ jobs) zero d h low t f =
      ap (λ b. cond b (record job { work = w }) job ∷ jobs) (sym t)
      ∙ ap (λ (l : List (Job W)). set_work n w job ∷ l) (sym (set_none n w jobs (others n job jobs (eqb-true _ _ t) h.0)))
  set_at n w (job ∷ jobs) (suc i) d h low t f =
      ap (λ (l : List (Job W)). job ∷ l) (set_at n w jobs i d h.1 (omega arith) t (λ k lt. f (suc k) (omega arith)))
      ∙ ap (λ b. cond b (record job { work = w }) job ∷ map {A = Job W} {B = Job W} (set_work n w) jobs) (sym (f 0 (omega arith)))

  pub remove_at : (n : ℕ) (jobs : List (Job W)) (i : ℕ) (d : Job W) → InOrder jobs → i < length jobs → has_number n (get_or jobs i d) ≡ true → ((k : ℕ) → k < i → has_number n (get_or jobs k d) ≡ false) → remove jobs i ≡ filter (λ job. not (has_number n job)) jobs
  remove_at n [] i d h low t f = absurd (omega arith)
  remove_at n (job ∷ jobs) zero d h low t f =
      sym (filter_none (has_number n) jobs (others n job jobs (eqb-true _ _ t) h.0))
      ∙ ap (λ b. cond (not b) (job ∷ filter (λ job. not (has_number n job)) jobs) (filter (λ job. not (has_number n job)) jobs)) (sym t)
  remove_at n (job ∷ jobs) (suc i) d h low t f =
      ap (λ (l : List (Job W)). job ∷ l) (remove_at n jobs i d h.1 (omega arith) t (λ k lt. f (suc k) (omega arith)))
      ∙ ap (λ b. cond (not b) (job ∷ filter (λ job. not (has_number n job)) jobs) (filter (λ job. not (has_number n job)) jobs)) (sym (f 0 (omega arith)))

  -- the same at the place that `position` answers
  pub set_there : (n : ℕ) (w : Option W) (jobs : List (Job W)) (i : ℕ) (job : Job W) → InOrder jobs → Some i ≡ position (has_number n) jobs → job ≡ get_or jobs i job → set jobs i (record job { work = w }) ≡ map {A = Job W} {B = Job W} (set_work n w) jobs
  set_there n w jobs i job h e read =
      let at = position-Some (has_number n) jobs i job (sym e) in
      ap (λ (j : Job W). set jobs i (record j { work = w })) read ∙ set_at n w jobs i job h at.0 at.1 at.2

  pub set_nowhere : (n : ℕ) (w : Option W) (jobs : List (Job W)) → None ≡ position (has_number n) jobs → jobs ≡ map {A = Job W} {B = Job W} (set_work n w) jobs
  set_nowhere n w jobs e = sym (set_none n w jobs (none_passes (has_number n) jobs (sym e)))

  pub removed_there : (n : ℕ) (jobs : List (Job W)) (i : ℕ) (job : Job W) → InOrder jobs → Some i ≡ position (has_number n) jobs → remove jobs i ≡ filter (λ job. not (has_number n job)) jobs
  removed_there n jobs i job h e = let at = position-Some (has_number n) jobs i job (sym e) in remove_at n jobs i job h at.0 at.1 at.2

  pub removed_nowhere : (n : ℕ) (jobs : List (Job W)) → None ≡ position (has_number n) jobs → jobs ≡ filter (λ job. not (has_number n job)) jobs
  removed_nowhere n jobs e = sym (filter_none (has_number n) jobs (none_passes (has_number n) jobs (sym e)))

  -- a job whose work is out is there
  pub out_there : (n : ℕ) (jobs : List (Job W)) (r : Option ℕ) → r ≡ position (has_number n) jobs → IsOut jobs n → IsSome r
  out_there n jobs r e out = has_place (has_number n) jobs r e (is_there (find (has_number n) jobs) out)
    where
      is_there : (o : Option (Job W)) → IsSomeAnd o (λ job. job.work ≡ None) → IsSome o
      is_there None h = absurd h
      is_there (Some job) h = refl
