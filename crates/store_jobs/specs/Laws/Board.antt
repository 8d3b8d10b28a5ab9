-- What a work that is given back, and a job that is finished, make of the board: of one volume, and of no other.
use Rattle.std.proofs.Common.{◌≡◌, ◌≢◌, ℕ, ◌<◌, Bool, true, false, List, [], ◌∷◌, ◌++◌, Option, Some, None, IsSome, refl, sym, ◌∙◌, ap, subst, arith}
use Rattle.std.specs.Prelude.{◌==◌, not, if◌then◌else◌, map, option_and_then, IsSomeAnd}
use Rattle.std.specs.List.{AllByRecursion, filter, find}
use Rattle.std.proofs.lemmas.Bool.{ne_eqb, eq-eqb, eqb-true}
use Rattle.job_board.specs.declared.Job.{Job}
use Rattle.job_board.specs.Jobs.{Jobs, InOrder, IsBoard, IsOut, has_number, has_volume, set_work, with_job, with_work, without, work_of}

module _ {W : Type 0} where
  abbrev pub work_on : List (Job W) → ℕ → Option W
  work_on jobs v = option_and_then (λ (job : Job W). job.work) (find (has_volume v) jobs)

  -- a job has the number exactly where it has the volume
  abbrev pub SameTests : ℕ → ℕ → List (Job W) → Type 0
  SameTests n v jobs = AllByRecursion (λ (k : Job W). (k.number == n) ≡ (k.volume == v)) jobs

  pub found_all : (P : Job W → Type 0) (n : ℕ) (jobs : List (Job W)) (job : Job W) → AllByRecursion P jobs → find (has_number n) jobs ≡ Some job → P job
  found_all P n [] job all found = absurd cc
  found_all P n (k ∷ jobs) job all found = by_number (k.number == n) refl (λ e. found_all P n jobs job all.1 e)
    where
      some_is : (a b : Job W) → Some a ≡ Some b → a ≡ b
      some_is a b e = cc

      by_number : (b : Bool) → (k.number == n) ≡ b → (find (has_number n) jobs ≡ Some job → P job) → P job
      by_number true e more = subst P (some_is k job (sym (ap (λ t. if t then Some k else find (has_number n) jobs) e) ∙ found)) all.0
      by_number false e more = more (sym (ap (λ t. if t then Some k else find (has_number n) jobs) e) ∙ found)

  pub later_apart : (n v : ℕ) (first : Job W) (jobs : List (Job W)) → first.number ≡ n → first.volume ≡ v
      → AllByRecursion (λ (later : Job W). (first.number < later.number) × (first.volume ≢ later.volume)) jobs → SameTests n v jobs
  later_apart n v first [] is has later = tt
  later_apart n v first (k ∷ jobs) is has later = (
    ne_eqb k.number n (λ e. omega (arith, e, is, later.0.0)) ∙ sym (ne_eqb k.volume v (λ e. later.0.1 (has ∙ sym e))),
    later_apart n v first jobs is has later.1,
  )

  pub same_tests : (n : ℕ) (jobs : List (Job W)) (job : Job W) → InOrder jobs → find (has_number n) jobs ≡ Some job → SameTests n job.volume jobs
  same_tests n [] job order found = tt
  same_tests n (k ∷ jobs) job order found = by_number (k.number == n) refl (λ e. (found_all (λ (later : Job W). (k.number < later.number) × (k.volume ≢ later.volume)) n jobs job order.0 e, same_tests n jobs job order.1 e))
    where
      some_is : (a b : Job W) → Some a ≡ Some b → a ≡ b
      some_is a b e = cc

      by_number : (b : Bool) → (k.number == n) ≡ b → (find (has_number n) jobs ≡ Some job → ((k.number < job.number) × (k.volume ≢ job.volume)) × SameTests n job.volume jobs) → SameTests n job.volume (k ∷ jobs)
      by_number true e more =
          let same : k ≡ job = some_is k job (sym (ap (λ t. if t then Some k else find (has_number n) jobs) e) ∙ found) in
          (e ∙ sym (eq-eqb k.volume job.volume (ap (λ (j : Job W). j.volume) same)), later_apart n job.volume k jobs (eqb-true k.number n e) (ap (λ (j : Job W). j.volume) same) order.0)
      by_number false e more =
          let rest = more (sym (ap (λ t. if t then Some k else find (has_number n) jobs) e) ∙ found) in
          (e ∙ sym (ne_eqb k.volume job.volume rest.0.1), rest.1)

  -- ---- a work that is set

  set_volume : (n q : ℕ) (w : Option W) (k : Job W) → has_volume q (set_work n w k) ≡ has_volume q k
  set_volume n q w k = by_number (k.number == n)
    where
      by_number : (b : Bool) → has_volume q (if b then record k { work = w } else k) ≡ has_volume q k
      by_number true = refl
      by_number false = refl

  pub work_set_others : (n v q : ℕ) (w : Option W) (jobs : List (Job W)) → SameTests n v jobs → q ≢ v → work_on (map {A = Job W} {B = Job W} (set_work n w) jobs) q ≡ work_on jobs q
  work_set_others n v q w [] same other = refl
  work_set_others n v q w (k ∷ jobs) same other = by_volume (work_set_others n v q w jobs same.1 other) (has_volume q k) refl
    where
      by_volume : work_on (map {A = Job W} {B = Job W} (set_work n w) jobs) q ≡ work_on jobs q → (b : Bool) → has_volume q k ≡ b → work_on (map {A = Job W} {B = Job W} (set_work n w) (k ∷ jobs)) q ≡ work_on (k ∷ jobs) q
      by_volume more true e =
          let not_n : (k.number == n) ≡ false = same.0 ∙ ne_eqb k.volume v (λ h. other (sym (eqb-true k.volume q e) ∙ h)) in
          ap (λ t. option_and_then (λ (j : Job W). j.work) (if t then Some (set_work n w k) else find (has_volume q) (map {A = Job W} {B = Job W} (set_work n w) jobs))) (set_volume n q w k ∙ e)
          ∙ ap (λ t. (if t then record k { work = w } else k).work) not_n
          ∙ sym (ap (λ t. option_and_then (λ (j : Job W). j.work) (if t then Some k else find (has_volume q) jobs)) e)
      by_volume more false e =
          ap (λ t. option_and_then (λ (j : Job W). j.work) (if t then Some (set_work n w k) else find (has_volume q) (map {A = Job W} {B = Job W} (set_work n w) jobs))) (set_volume n q w k ∙ e)
          ∙ more
          ∙ sym (ap (λ t. option_and_then (λ (j : Job W). j.work) (if t then Some k else find (has_volume q) jobs)) e)

  pub work_set : (n v : ℕ) (w : Option W) (jobs : List (Job W)) (job : Job W) → SameTests n v jobs → find (has_number n) jobs ≡ Some job → work_on (map {A = Job W} {B = Job W} (set_work n w) jobs) v ≡ w
  work_set n v w [] job same found = absurd cc
  work_set n v w (k ∷ jobs) job same found = by_number (k.number == n) refl (λ e. work_set n v w jobs job same.1 e)
    where
      by_number : (b : Bool) → (k.number == n) ≡ b → (find (has_number n) jobs ≡ Some job → work_on (map {A = Job W} {B = Job W} (set_work n w) jobs) v ≡ w) → work_on (map {A = Job W} {B = Job W} (set_work n w) (k ∷ jobs)) v ≡ w
      by_number true e more =
          ap (λ t. option_and_then (λ (j : Job W). j.work) (if t then Some (set_work n w k) else find (has_volume v) (map {A = Job W} {B = Job W} (set_work n w) jobs))) (set_volume n v w k ∙ sym same.0 ∙ e)
          ∙ ap (λ t. (if t then record k { work = w } else k).work) e
      by_number false e more =
          ap (λ t. option_and_then (λ (j : Job W). j.work) (if t then Some (set_work n w k) else find (has_volume v) (map {A = Job W} {B = Job W} (set_work n w) jobs))) (set_volume n v w k ∙ sym same.0 ∙ e)
          ∙ more (sym (ap (λ t. if t then Some k else find (has_number n) jobs) e) ∙ found)

  -- ---- a job that is finished

  pub work_without : (n v : ℕ) (jobs : List (Job W)) → SameTests n v jobs → work_on (filter (λ (job : Job W). not (has_number n job)) jobs) v ≡ None
  work_without n v [] same = refl
  work_without n v (k ∷ jobs) same = by_number (work_without n v jobs same.1) (k.number == n) refl
    where
      by_number : work_on (filter (λ (job : Job W). not (has_number n job)) jobs) v ≡ None → (b : Bool) → (k.number == n) ≡ b → work_on (filter (λ (job : Job W). not (has_number n job)) (k ∷ jobs)) v ≡ None
      by_number more true e = ap (λ t. work_on (if not t then k ∷ filter (λ (job : Job W). not (has_number n job)) jobs else filter (λ (job : Job W). not (has_number n job)) jobs) v) e ∙ more
      by_number more false e =
          ap (λ t. work_on (if not t then k ∷ filter (λ (job : Job W). not (has_number n job)) jobs else filter (λ (job : Job W). not (has_number n job)) jobs) v) e
          ∙ ap (λ t. option_and_then (λ (j : Job W). j.work) (if t then Some k else find (has_volume v) (filter (λ (job : Job W). not (has_number n job)) jobs))) (sym same.0 ∙ e)
          ∙ more

  pub work_without_others : (n v q : ℕ) (jobs : List (Job W)) → SameTests n v jobs → q ≢ v → work_on (filter (λ (job : Job W). not (has_number n job)) jobs) q ≡ work_on jobs q
  work_without_others n v q [] same other = refl
  work_without_others n v q (k ∷ jobs) same other = by_number (work_without_others n v q jobs same.1 other) (k.number == n) refl
    where
      by_number : work_on (filter (λ (job : Job W). not (has_number n job)) jobs) q ≡ work_on jobs q → (b : Bool) → (k.number == n) ≡ b → work_on (filter (λ (job : Job W). not (has_number n job)) (k ∷ jobs)) q ≡ work_on (k ∷ jobs) q
      by_number more true e =
          let not_q : (k.volume == q) ≡ false = ne_eqb k.volume q (λ h. other (sym h ∙ eqb-true k.volume v (sym same.0 ∙ e))) in
          ap (λ t. work_on (if not t then k ∷ filter (λ (job : Job W). not (has_number n job)) jobs else filter (λ (job : Job W). not (has_number n job)) jobs) q) e
          ∙ more
          ∙ sym (ap (λ t. option_and_then (λ (j : Job W). j.work) (if t then Some k else find (has_volume q) jobs)) not_q)
      by_number more false e =
          ap (λ t. work_on (if not t then k ∷ filter (λ (job : Job W). not (has_number n job)) jobs else filter (λ (job : Job W). not (has_number n job)) jobs) q) e
          ∙ by_volume (k.volume == q) refl
        where
          by_volume : (b : Bool) → (k.volume == q) ≡ b → work_on (k ∷ filter (λ (job : Job W). not (has_number n job)) jobs) q ≡ work_on (k ∷ jobs) q
          by_volume true f =
              ap (λ t. option_and_then (λ (j : Job W). j.work) (if t then Some k else find (has_volume q) (filter (λ (job : Job W). not (has_number n job)) jobs))) f
              ∙ sym (ap (λ t. option_and_then (λ (j : Job W). j.work) (if t then Some k else find (has_volume q) jobs)) f)
          by_volume false f =
              ap (λ t. option_and_then (λ (j : Job W). j.work) (if t then Some k else find (has_volume q) (filter (λ (job : Job W). not (has_number n job)) jobs))) f
              ∙ more
              ∙ sym (ap (λ t. option_and_then (λ (j : Job W). j.work) (if t then Some k else find (has_volume q) jobs)) f)

-- filtering by a test of what is kept
pub map_filter : {A B : Type 0} (f : A → B) (test : A → Bool) (other : B → Bool) → ((x : A) → other (f x) ≡ test x) → (xs : List A) → map f (filter test xs) ≡ filter other (map f xs)
map_filter f test other same [] = refl
map_filter f test other same (x ∷ xs) = by_test (map_filter f test other same xs) (test x) refl
  where
    by_test : map f (filter test xs) ≡ filter other (map f xs) → (b : Bool) → test x ≡ b → map f (filter test (x ∷ xs)) ≡ filter other (map f (x ∷ xs))
    by_test more true e =
        ap (λ t. map f (if t then x ∷ filter test xs else filter test xs)) e ∙ ap (λ ys. f x ∷ ys) more ∙ sym (ap (λ t. if t then f x ∷ filter other (map f xs) else filter other (map f xs)) (same x ∙ e))
    by_test more false e =
        ap (λ t. map f (if t then x ∷ filter test xs else filter test xs)) e ∙ more ∙ sym (ap (λ t. if t then f x ∷ filter other (map f xs) else filter other (map f xs)) (same x ∙ e))

module _ {W : Type 0} where
  -- a work that is in is that of a job
  pub found_work : (jobs : List (Job W)) (n : ℕ) (w : W) → work_of jobs n ≡ Some w → (job : Job W) × (find (has_number n) jobs ≡ Some job) × (job.work ≡ Some w)
  found_work jobs n w e = by_found (find (has_number n) jobs) refl e
    where
      by_found : (o : Option (Job W)) → find (has_number n) jobs ≡ o → option_and_then (λ (job : Job W). job.work) o ≡ Some w → (job : Job W) × (find (has_number n) jobs ≡ Some job) × (job.work ≡ Some w)
      by_found None found has = absurd cc
      by_found (Some job) found has = (job, found, has)

  -- a job whose work was taken
  pub found_set : (n : ℕ) (w : Option W) (jobs : List (Job W)) (job : Job W) → find (has_number n) jobs ≡ Some job → find (has_number n) (map {A = Job W} {B = Job W} (set_work n w) jobs) ≡ Some (record job { work = w })
  found_set n w [] job found = absurd cc
  found_set n w (k ∷ jobs) job found = by_number (k.number == n) refl (λ e. found_set n w jobs job e)
    where
      same_number : (b : Bool) → (if b then record k { work = w } else k).number ≡ k.number
      same_number true = refl
      same_number false = refl

      some_is : (a b : Job W) → Some a ≡ Some b → a ≡ b
      some_is a b e = cc

      by_number : (b : Bool) → (k.number == n) ≡ b → (find (has_number n) jobs ≡ Some job → find (has_number n) (map {A = Job W} {B = Job W} (set_work n w) jobs) ≡ Some (record job { work = w }))
          → find (has_number n) (map {A = Job W} {B = Job W} (set_work n w) (k ∷ jobs)) ≡ Some (record job { work = w })
      by_number true e more =
          ap (λ t. if t then Some (set_work n w k) else find (has_number n) (map {A = Job W} {B = Job W} (set_work n w) jobs)) (ap (λ m. m == n) (same_number (k.number == n)) ∙ e)
          ∙ ap (λ t. Some (if t then record k { work = w } else k)) e
          ∙ ap (λ (j : Job W). Some (record j { work = w })) (some_is k job (sym (ap (λ t. if t then Some k else find (has_number n) jobs) e) ∙ found))
      by_number false e more =
          ap (λ t. if t then Some (set_work n w k) else find (has_number n) (map {A = Job W} {B = Job W} (set_work n w) jobs)) (ap (λ m. m == n) (same_number (k.number == n)) ∙ e)
          ∙ more (sym (ap (λ t. if t then Some k else find (has_number n) jobs) e) ∙ found)

  -- and that is finished then, or whose work is given back
  pub filter_set : (n : ℕ) (w : Option W) (jobs : List (Job W)) → filter (λ (job : Job W). not (has_number n job)) (map {A = Job W} {B = Job W} (set_work n w) jobs) ≡ filter (λ (job : Job W). not (has_number n job)) jobs
  filter_set n w [] = refl
  filter_set n w (k ∷ jobs) = by_number (filter_set n w jobs) (k.number == n) refl
    where
      by_set : (b : Bool) → (k.number == n) ≡ b → (set : Bool) → set ≡ b → (more : List (Job W))
          → (if not ((if set then record k { work = w } else k).number == n) then (if set then record k { work = w } else k) ∷ more else more) ≡ (if not (k.number == n) then k ∷ more else more)
      by_set true e true f more = ap (λ t. if not t then record k { work = w } ∷ more else more) e ∙ sym (ap (λ t. if not t then k ∷ more else more) e)
      by_set false e false f more = refl
      by_set true e false f more = absurd cc
      by_set false e true f more = absurd cc

      by_number : filter (λ (job : Job W). not (has_number n job)) (map {A = Job W} {B = Job W} (set_work n w) jobs) ≡ filter (λ (job : Job W). not (has_number n job)) jobs → (b : Bool) → (k.number == n) ≡ b
          → filter (λ (job : Job W). not (has_number n job)) (map {A = Job W} {B = Job W} (set_work n w) (k ∷ jobs)) ≡ filter (λ (job : Job W). not (has_number n job)) (k ∷ jobs)
      by_number more b e =
          ap (λ (l : List (Job W)). if not ((if k.number == n then record k { work = w } else k).number == n) then (if k.number == n then record k { work = w } else k) ∷ l else l) more
          ∙ by_set b e (k.number == n) e (filter (λ (job : Job W). not (has_number n job)) jobs)

  pub set_set : (n : ℕ) (w x : Option W) (jobs : List (Job W)) → map {A = Job W} {B = Job W} (set_work n x) (map {A = Job W} {B = Job W} (set_work n w) jobs) ≡ map {A = Job W} {B = Job W} (set_work n x) jobs
  set_set n w x [] = refl
  set_set n w x (k ∷ jobs) = (λ i. by_number (k.number == n) refl i ∷ set_set n w x jobs i)
    where
      by_number : (b : Bool) → (k.number == n) ≡ b → (if (if b then record k { work = w } else k).number == n then record (if b then record k { work = w } else k) { work = x } else (if b then record k { work = w } else k))
          ≡ (if k.number == n then record k { work = x } else k)
      by_number true e = ap (λ t. if t then record k { work = x } else record k { work = w }) e ∙ sym (ap (λ t. if t then record k { work = x } else k) e)
      by_number false e = refl

  pub out_set : (n : ℕ) (jobs : List (Job W)) (w : W) → work_of jobs n ≡ Some w → IsOut (map {A = Job W} {B = Job W} (set_work n None) jobs) n
  out_set n jobs w e =
      let found = found_work jobs n w e in
      subst (λ o. IsSomeAnd o (λ (job : Job W). job.work ≡ None)) (sym (found_set n None jobs found.0 found.1)) refl

  -- a work was taken, and its job finished
  pub finished_taken : (old mid new : Jobs W) (n : ℕ) → mid ≡ with_work old n None → new ≡ without mid n → new ≡ without old n
  finished_taken old mid new n out done = done ∙ ap (λ (b : Jobs W). without b n) out ∙ (λ i. record { unfinished = filter_set n None old.unfinished i; next = old.next })

  -- or given back as it has become
  pub given_back : (old mid new : Jobs W) (n : ℕ) (w : W) → mid ≡ with_work old n None → new ≡ with_work mid n (Some w) → new ≡ with_work old n (Some w)
  given_back old mid new n w out back = back ∙ ap (λ (b : Jobs W). with_work b n (Some w)) out ∙ (λ i. record { unfinished = set_set n None (Some w) old.unfinished i; next = old.next })

-- ---- by number

no_other : (a n m : ℕ) → m ≢ n → (a == m) ≡ true → (a == n) ≡ false
no_other a n m other is = ne_eqb a n (λ e. other (sym (eqb-true a m is) ∙ e))

module _ {W : Type 0} where
  set_number : (n m : ℕ) (w : Option W) (k : Job W) → has_number m (set_work n w k) ≡ has_number m k
  set_number n m w k = by_number (k.number == n)
    where
      by_number : (b : Bool) → has_number m (if b then record k { work = w } else k) ≡ has_number m k
      by_number true = refl
      by_number false = refl

  -- other jobs have the work that they had
  pub work_of_set_others : (n m : ℕ) (w : Option W) (jobs : List (Job W)) → m ≢ n → work_of (map {A = Job W} {B = Job W} (set_work n w) jobs) m ≡ work_of jobs m
  work_of_set_others n m w [] other = refl
  work_of_set_others n m w (k ∷ jobs) other = by_number (work_of_set_others n m w jobs other) (k.number == m) refl
    where
      by_number : work_of (map {A = Job W} {B = Job W} (set_work n w) jobs) m ≡ work_of jobs m → (b : Bool) → (k.number == m) ≡ b → work_of (map {A = Job W} {B = Job W} (set_work n w) (k ∷ jobs)) m ≡ work_of (k ∷ jobs) m
      by_number more true e =
          ap (λ t. option_and_then (λ (j : Job W). j.work) (if t then Some (set_work n w k) else find (has_number m) (map {A = Job W} {B = Job W} (set_work n w) jobs))) (set_number n m w k ∙ e)
          ∙ ap (λ t. (if t then record k { work = w } else k).work) (no_other k.number n m other e)
          ∙ sym (ap (λ t. option_and_then (λ (j : Job W). j.work) (if t then Some k else find (has_number m) jobs)) e)
      by_number more false e =
          ap (λ t. option_and_then (λ (j : Job W). j.work) (if t then Some (set_work n w k) else find (has_number m) (map {A = Job W} {B = Job W} (set_work n w) jobs))) (set_number n m w k ∙ e)
          ∙ more
          ∙ sym (ap (λ t. option_and_then (λ (j : Job W). j.work) (if t then Some k else find (has_number m) jobs)) e)

  pub work_of_set : (n : ℕ) (w : Option W) (jobs : List (Job W)) (job : Job W) → find (has_number n) jobs ≡ Some job → work_of (map {A = Job W} {B = Job W} (set_work n w) jobs) n ≡ w
  work_of_set n w jobs job found = ap (option_and_then (λ (j : Job W). j.work)) (found_set n w jobs job found)

  pub work_of_without : (n : ℕ) (jobs : List (Job W)) → work_of (filter (λ (job : Job W). not (has_number n job)) jobs) n ≡ None
  work_of_without n [] = refl
  work_of_without n (k ∷ jobs) = by_number (work_of_without n jobs) (k.number == n) refl
    where
      by_number : work_of (filter (λ (job : Job W). not (has_number n job)) jobs) n ≡ None → (b : Bool) → (k.number == n) ≡ b → work_of (filter (λ (job : Job W). not (has_number n job)) (k ∷ jobs)) n ≡ None
      by_number more true e = ap (λ t. work_of (if not t then k ∷ filter (λ (job : Job W). not (has_number n job)) jobs else filter (λ (job : Job W). not (has_number n job)) jobs) n) e ∙ more
      by_number more false e =
          ap (λ t. work_of (if not t then k ∷ filter (λ (job : Job W). not (has_number n job)) jobs else filter (λ (job : Job W). not (has_number n job)) jobs) n) e
          ∙ ap (λ t. option_and_then (λ (j : Job W). j.work) (if t then Some k else find (has_number n) (filter (λ (job : Job W). not (has_number n job)) jobs))) e ∙ more

  pub work_of_without_others : (n m : ℕ) (jobs : List (Job W)) → m ≢ n → work_of (filter (λ (job : Job W). not (has_number n job)) jobs) m ≡ work_of jobs m
  work_of_without_others n m [] other = refl
  work_of_without_others n m (k ∷ jobs) other = by_number (work_of_without_others n m jobs other) (k.number == n) refl
    where
      by_number : work_of (filter (λ (job : Job W). not (has_number n job)) jobs) m ≡ work_of jobs m → (b : Bool) → (k.number == n) ≡ b → work_of (filter (λ (job : Job W). not (has_number n job)) (k ∷ jobs)) m ≡ work_of (k ∷ jobs) m
      by_number more true e =
          ap (λ t. work_of (if not t then k ∷ filter (λ (job : Job W). not (has_number n job)) jobs else filter (λ (job : Job W). not (has_number n job)) jobs) m) e
          ∙ more
          ∙ sym (ap (λ t. option_and_then (λ (j : Job W). j.work) (if t then Some k else find (has_number m) jobs)) (ne_eqb k.number m (λ h. other (sym h ∙ eqb-true k.number n e))))
      by_number more false e =
          ap (λ t. work_of (if not t then k ∷ filter (λ (job : Job W). not (has_number n job)) jobs else filter (λ (job : Job W). not (has_number n job)) jobs) m) e
          ∙ by_other (k.number == m) refl
        where
          by_other : (b : Bool) → (k.number == m) ≡ b → work_of (k ∷ filter (λ (job : Job W). not (has_number n job)) jobs) m ≡ work_of (k ∷ jobs) m
          by_other true f =
              ap (λ t. option_and_then (λ (j : Job W). j.work) (if t then Some k else find (has_number m) (filter (λ (job : Job W). not (has_number n job)) jobs))) f
              ∙ sym (ap (λ t. option_and_then (λ (j : Job W). j.work) (if t then Some k else find (has_number m) jobs)) f)
          by_other false f =
              ap (λ t. option_and_then (λ (j : Job W). j.work) (if t then Some k else find (has_number m) (filter (λ (job : Job W). not (has_number n job)) jobs))) f
              ∙ more
              ∙ sym (ap (λ t. option_and_then (λ (j : Job W). j.work) (if t then Some k else find (has_number m) jobs)) f)

  -- a job has its volume's work
  pub work_on_number : (n v : ℕ) (jobs : List (Job W)) → SameTests n v jobs → work_on jobs v ≡ work_of jobs n
  work_on_number n v [] same = refl
  work_on_number n v (k ∷ jobs) same =
      ap (λ t. option_and_then (λ (j : Job W). j.work) (if t then Some k else find (has_volume v) jobs)) (sym same.0)
      ∙ by_number (work_on_number n v jobs same.1) (k.number == n)
    where
      by_number : work_on jobs v ≡ work_of jobs n → (b : Bool)
          → option_and_then (λ (j : Job W). j.work) (if b then Some k else find (has_volume v) jobs) ≡ option_and_then (λ (j : Job W). j.work) (if b then Some k else find (has_number n) jobs)
      by_number more true = refl
      by_number more false = more

  -- ---- a job more

  behind : (test : Job W → Bool) (jobs : List (Job W)) (job : Job W) → find test jobs ≡ None → find test (jobs ++ job ∷ []) ≡ (if test job then Some job else None)
  behind test [] job none = refl
  behind test (k ∷ jobs) job none = by_test (test k) none (λ e. behind test jobs job e)
    where
      by_test : (b : Bool) → (if b then Some k else find test jobs) ≡ None → (find test jobs ≡ None → find test (jobs ++ job ∷ []) ≡ (if test job then Some job else None))
          → (if b then Some k else find test (jobs ++ job ∷ [])) ≡ (if test job then Some job else None)
      by_test true e more = absurd cc
      by_test false e more = more e

  before : (test : Job W → Bool) (jobs : List (Job W)) (job : Job W) → test job ≡ false → find test (jobs ++ job ∷ []) ≡ find test jobs
  before test [] job other = ap (λ t. if t then Some job else None) other
  before test (k ∷ jobs) job other = ap (λ o. if test k then Some k else o) (before test jobs job other)

  none_numbered : (n : ℕ) (jobs : List (Job W)) → AllByRecursion (λ (job : Job W). (0 < job.number) × (job.number < n)) jobs → find (has_number n) jobs ≡ None
  none_numbered n [] below = refl
  none_numbered n (k ∷ jobs) below = ap (λ t. if t then Some k else find (has_number n) jobs) (ne_eqb k.number n (λ e. omega (arith, e, below.0.1))) ∙ none_numbered n jobs below.1

  module _ (b : Jobs W) (v : ℕ) (w : W) (free : find (has_volume v) b.unfinished ≡ None) where
    abbrev its_job : Job W
    its_job = record { number = b.next; volume = v; work = Some w }

    pub started_work : work_on (with_job b v w).unfinished v ≡ Some w
    started_work = ap (option_and_then (λ (j : Job W). j.work)) (behind (has_volume v) b.unfinished its_job free ∙ ap (λ t. if t then Some its_job else None) (eq-eqb v v refl))

    pub started_others : (q : ℕ) → q ≢ v → work_on (with_job b v w).unfinished q ≡ work_on b.unfinished q
    started_others q other = ap (option_and_then (λ (j : Job W). j.work)) (before (has_volume q) b.unfinished its_job (ne_eqb v q (λ e. other (sym e))))

    pub started_number : IsBoard b → work_of (with_job b v w).unfinished b.next ≡ Some w
    started_number board = ap (option_and_then (λ (j : Job W). j.work)) (behind (has_number b.next) b.unfinished its_job (none_numbered b.next b.unfinished board.started) ∙ ap (λ t. if t then Some its_job else None) (eq-eqb b.next b.next refl))

    pub started_numbers : (m : ℕ) → m < b.next → work_of (with_job b v w).unfinished m ≡ work_of b.unfinished m
    started_numbers m below = ap (option_and_then (λ (j : Job W). j.work)) (before (has_number m) b.unfinished its_job (ne_eqb b.next m (λ e. omega (arith, e, below))))

  -- ---- no work is out

  pub all_in_set : (n : ℕ) (w : W) (jobs : List (Job W)) → AllByRecursion (λ (job : Job W). IsSome job.work) jobs → AllByRecursion (λ (job : Job W). IsSome job.work) (map {A = Job W} {B = Job W} (set_work n (Some w)) jobs)
  all_in_set n w [] all = tt
  all_in_set n w (k ∷ jobs) all = (by_number (k.number == n), all_in_set n w jobs all.1)
    where
      by_number : (t : Bool) → IsSome (if t then record k { work = Some w } else k).work
      by_number true = refl
      by_number false = all.0

  pub all_in_without : (n : ℕ) (jobs : List (Job W)) → AllByRecursion (λ (job : Job W). IsSome job.work) jobs → AllByRecursion (λ (job : Job W). IsSome job.work) (filter (λ (job : Job W). not (has_number n job)) jobs)
  all_in_without n [] all = tt
  all_in_without n (k ∷ jobs) all = by_kept (not (has_number n k)) (all_in_without n jobs all.1)
    where
      by_kept : (t : Bool) → AllByRecursion (λ (job : Job W). IsSome job.work) (filter (λ (job : Job W). not (has_number n job)) jobs)
          → AllByRecursion (λ (job : Job W). IsSome job.work) (if t then k ∷ filter (λ (job : Job W). not (has_number n job)) jobs else filter (λ (job : Job W). not (has_number n job)) jobs)
      by_kept true rest = (all.0, rest)
      by_kept false rest = rest

  pub all_in_behind : (jobs : List (Job W)) (job : Job W) → IsSome job.work → AllByRecursion (λ (k : Job W). IsSome k.work) jobs → AllByRecursion (λ (k : Job W). IsSome k.work) (jobs ++ job ∷ [])
  all_in_behind [] job some all = (some, tt)
  all_in_behind (k ∷ jobs) job some all = (all.0, all_in_behind jobs job some all.1)
