-- What the calls keep of a board.
use Rattle.std.proofs.Common.{◌≡◌, ◌≢◌, ℕ, ◌+◌, ◌<◌, Bool, true, false, cond, not, List, [], ◌∷◌, ◌++◌, map, Option, Some, None, refl, arith}
use Rattle.std.specs.List.{AllByRecursion, filter, find}
use Rattle.std.proofs.lemmas.Bool.Decides.{nat_tests}
use Rattle.job_board.specs.declared.Job.{Job}
use Rattle.job_board.specs.Jobs.{InOrder, IsBoard, Jobs, has_number, has_volume, set_work, with_job, with_work, without}

all_filter : {X : Type 0} (P : X → Type 0) (p : X → Bool) (xs : List X) → AllByRecursion P xs → AllByRecursion P (filter p xs)
all_filter P p [] h = tt
all_filter P p (x ∷ xs) h = elim (p x) as (λ b. AllByRecursion P (cond b (x ∷ filter p xs) (filter p xs))) [
  | true ↦ (h.0, all_filter P p xs h.1)
  | false ↦ all_filter P p xs h.1
]

all_push : {X : Type 0} (P : X → Type 0) (xs : List X) (x : X) → AllByRecursion P xs → P x → AllByRecursion P (xs ++ x ∷ [])
all_push P [] x h k = (k, tt)
all_push P (y ∷ xs) x h k = (h.0, all_push P xs x h.1 k)

all_weaker : {X : Type 0} (P Q : X → Type 0) (xs : List X) → ((x : X) → P x → Q x) → AllByRecursion P xs → AllByRecursion Q xs
all_weaker P Q [] f h = tt
all_weaker P Q (x ∷ xs) f h = (f x h.0, all_weaker P Q xs f h.1)

module _ {W : Type 0} where
  -- every job of the list, changed in its work alone
  module _ (f : Job W → Job W) (number : (job : Job W) → (f job).number ≡ job.number) (volume : (job : Job W) → (f job).volume ≡ job.volume) where
    all_map : (P : ℕ → ℕ → Type 0) (jobs : List (Job W)) → AllByRecursion (λ (job : Job W). P job.number job.volume) jobs → AllByRecursion (λ (job : Job W). P job.number job.volume) (map f jobs)
    all_map P [] h = tt
    all_map P (job ∷ jobs) h = (rw (number job, volume job) h.0, all_map P jobs h.1)

    in_order_map : (jobs : List (Job W)) → InOrder jobs → InOrder (map f jobs)
    in_order_map [] h = tt
    in_order_map (job ∷ jobs) h =
        (rw (number job, volume job) (all_map (λ n v. (job.number < n) × (job.volume ≢ v)) jobs h.0), in_order_map jobs h.1)

  set_number : (n : ℕ) (w : Option W) (job : Job W) → (set_work n w job).number ≡ job.number
  set_number n w job = elim (has_number n job) as (λ b. (cond b (record job { work = w }) job).number ≡ job.number) [ true ↦ refl | false ↦ refl ]

  set_volume : (n : ℕ) (w : Option W) (job : Job W) → (set_work n w job).volume ≡ job.volume
  set_volume n w job = elim (has_number n job) as (λ b. (cond b (record job { work = w }) job).volume ≡ job.volume) [ true ↦ refl | false ↦ refl ]

  pub IsBoard-with_work : (b : Jobs W) (n : ℕ) (w : Option W) → IsBoard b → IsBoard (with_work b n w)
  IsBoard-with_work b n w h = record {
    in_order = in_order_map (set_work n w) (set_number n w) (set_volume n w) b.unfinished h.in_order;
    started = all_map (set_work n w) (set_number n w) (set_volume n w) (λ number volume. (0 < number) × (number < b.next)) b.unfinished h.started;
  }

  in_order_filter : (p : Job W → Bool) (jobs : List (Job W)) → InOrder jobs → InOrder (filter p jobs)
  in_order_filter p [] h = tt
  in_order_filter p (job ∷ jobs) h = elim (p job) as (λ b. InOrder (cond b (job ∷ filter p jobs) (filter p jobs))) [
    | true ↦ (all_filter (λ (later : Job W). (job.number < later.number) × (job.volume ≢ later.volume)) p jobs h.0, in_order_filter p jobs h.1)
    | false ↦ in_order_filter p jobs h.1
  ]

  pub IsBoard-without : (b : Jobs W) (n : ℕ) → IsBoard b → IsBoard (without b n)
  IsBoard-without b n h = record {
    in_order = in_order_filter (λ job. not (has_number n job)) b.unfinished h.in_order;
    started = all_filter (λ (job : Job W). (0 < job.number) × (job.number < b.next)) (λ job. not (has_number n job)) b.unfinished h.started;
  }

  none_has : (v : ℕ) (jobs : List (Job W)) → find (has_volume v) jobs ≡ None → AllByRecursion (λ (job : Job W). job.volume ≢ v) jobs
  none_has v [] e = tt
  none_has v (job ∷ jobs) e = elim (has_volume v job) as (λ b. has_volume v job ≡ b → cond b (Some job) (find (has_volume v) jobs) ≡ None → (job.volume ≢ v) × AllByRecursion (λ (later : Job W). later.volume ≢ v) jobs) [
    | true ↦ λ t k. cc
    | false ↦ λ t k. (grind (arith, nat_tests), none_has v jobs k)
  ] refl e

  in_order_push : (jobs : List (Job W)) (new : Job W) → InOrder jobs → AllByRecursion (λ (job : Job W). job.number < new.number) jobs → AllByRecursion (λ (job : Job W). job.volume ≢ new.volume) jobs → InOrder (jobs ++ new ∷ [])
  in_order_push [] new h n v = (tt, tt)
  in_order_push (job ∷ jobs) new h n v =
      (all_push (λ (later : Job W). (job.number < later.number) × (job.volume ≢ later.volume)) jobs new h.0 (n.0, v.0), in_order_push jobs new h.1 n.1 v.1)

  pub IsBoard-with_job : (b : Jobs W) (v : ℕ) (work : W) → 0 < b.next → find (has_volume v) b.unfinished ≡ None → IsBoard b → IsBoard (with_job b v work)
  IsBoard-with_job b v work low free h =
      let new : Job W = record { number = b.next; volume = v; work = Some work } in
      record {
        in_order = in_order_push b.unfinished new h.in_order (all_weaker _ _ b.unfinished (λ job k. k.1) h.started) (none_has v b.unfinished free);
        started = all_push (λ (job : Job W). (0 < job.number) × (job.number < b.next + 1)) b.unfinished new
            (all_weaker (λ (job : Job W). (0 < job.number) × (job.number < b.next)) (λ (job : Job W). (0 < job.number) × (job.number < b.next + 1)) b.unfinished (λ job k. (k.0, omega arith)) h.started) (low, omega arith);
      }
