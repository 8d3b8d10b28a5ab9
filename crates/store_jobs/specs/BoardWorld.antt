-- The jobs of a board as those of the store's world: what a start, a step and an end of a job make of both.
use Rattle.std.proofs.Common.{◌≡◌, ◌≢◌, ℕ, ◌<◌, Bool, true, false, List, [], ◌∷◌, ◌++◌, Option, Some, None, IsSome, refl, sym, ◌∙◌, ap, subst, arith}
use Rattle.std.specs.Prelude.{◌==◌, not, if◌then◌else◌, map, filter, option_map}
use Rattle.std.specs.List.{AllByRecursion, find}
use Rattle.std.proofs.lemmas.Bool.{ne_eqb, eqb-true}
use Rattle.std.proofs.lemmas.List.{map-append}
use Rattle.site_model.specs.Disk.{Image}
use Rattle.world_model.specs.World as world
use Rattle.world_model.specs.Moves.{has_job, job_at}
use Rattle.job_board.specs.declared.Job.{Job}
use Rattle.job_board.specs.Jobs.{Jobs, InOrder, IsBoard, has_number, has_volume, set_work, volume_for, with_job, with_work, without, work_of}
use Rattle.image_meaning.specs.Jobs.{AreInOrder, HasJobs}
use Rattle.plan_steps.specs.AnyPlans.{Plans}
use Rattle.store_jobs.specs.Store.{Work, Store, work_at, command_in, job_in, store_world}
use Rattle.store_jobs.specs.Laws.Line.{found_job, found_at}
use Rattle.store_jobs.specs.Laws.Board.{SameTests, found_all, found_work, map_filter, same_tests, work_of_set, work_of_set_others, work_of_without, work_of_without_others, work_on_number, work_set, work_set_others, work_without, work_without_others, all_in_set, all_in_without}

module _ (plans : Plans) where
  -- ---- numbers and volumes

  all_later : (number volume : ℕ) (jobs : List (Job (Work plans))) → AllByRecursion (λ (later : Job (Work plans)). (number < later.number) × (volume ≢ later.volume)) jobs
      → AllByRecursion (λ (later : world.Job). (number < later.number) × (volume ≢ later.volume)) (map (job_in plans) jobs)
  all_later number volume [] all = tt
  all_later number volume (job ∷ jobs) all = (all.0, all_later number volume jobs all.1)

  in_order : (jobs : List (Job (Work plans))) → InOrder jobs → AreInOrder (map (job_in plans) jobs)
  in_order [] order = tt
  in_order (job ∷ jobs) order = (all_later job.number job.volume jobs order.0, in_order jobs order.1)

  all_started : (next : ℕ) (jobs : List (Job (Work plans))) → AllByRecursion (λ (job : Job (Work plans)). (0 < job.number) × (job.number < next)) jobs
      → AllByRecursion (λ (job : world.Job). job.number < next) (map (job_in plans) jobs)
  all_started next [] all = tt
  all_started next (job ∷ jobs) all = (all.0.1, all_started next jobs all.1)

  -- the jobs of the store's world are those of a board
  pub world_jobs : (store : Store plans) (image : Image) → IsBoard store.board → HasJobs (store_world plans store image)
  world_jobs store image board = record { in_order = in_order store.board.unfinished board.in_order; started = all_started store.board.next store.board.unfinished board.started }

  -- ---- a job that was found

  -- The job of this number is of this volume, and has this work.
  pub record HasWorkOf (board : Jobs (Work plans)) (n v : ℕ) (work : Work plans) : Type 0 where
    pub work_is : work_of board.unfinished n ≡ Some work
    pub volume_is : volume_for board.unfinished n ≡ Some v

  found_number : (n : ℕ) (jobs : List (Job (Work plans))) (job : Job (Work plans)) → find (has_number n) jobs ≡ Some job → job.number ≡ n
  found_number n [] job found = absurd cc
  found_number n (k ∷ jobs) job found = by_number (k.number == n) refl found (λ e. found_number n jobs job e)
    where
      by_number : (b : Bool) → (k.number == n) ≡ b → (if b then Some k else find (has_number n) jobs) ≡ Some job → (find (has_number n) jobs ≡ Some job → job.number ≡ n) → job.number ≡ n
      by_number true e is more = ap (λ (j : Job (Work plans)). j.number) (sym (some_is k job is)) ∙ eqb-true k.number n e
        where
          some_is : (a b : Job (Work plans)) → Some a ≡ Some b → a ≡ b
          some_is a b h = cc
      by_number false e is more = more is

  -- only the found job is changed where its work is
  set_none : (n : ℕ) (w : Option (Work plans)) (first : Job (Work plans)) (jobs : List (Job (Work plans))) → first.number ≡ n
      → AllByRecursion (λ (later : Job (Work plans)). (first.number < later.number) × (first.volume ≢ later.volume)) jobs → map {A = Job (Work plans)} {B = Job (Work plans)} (set_work n w) jobs ≡ jobs
  set_none n w first [] is later = refl
  set_none n w first (k ∷ jobs) is later = λ i. same i ∷ set_none n w first jobs is later.1 i
    where
      same : set_work n w k ≡ k
      same = ap (λ b. if b then record k { work = w } else k) (ne_eqb k.number n (λ e. omega (arith, e, is, later.0.0)))

  -- so the world has the same jobs where the new work has the same command
  pub same_jobs : (n : ℕ) (work : Work plans) (jobs : List (Job (Work plans))) (job : Job (Work plans)) → InOrder jobs → find (has_number n) jobs ≡ Some job → command_in plans (Some work) ≡ command_in plans job.work
      → map (job_in plans) (map {A = Job (Work plans)} {B = Job (Work plans)} (set_work n (Some work)) jobs) ≡ map (job_in plans) jobs
  same_jobs n work [] job order found same = refl
  same_jobs n work (k ∷ jobs) job order found same = by_number (k.number == n) refl (λ e. same_jobs n work jobs job order.1 e same)
    where
      some_is : (a b : Job (Work plans)) → Some a ≡ Some b → a ≡ b
      some_is a b h = cc

      by_number : (b : Bool) → (k.number == n) ≡ b
          → (find (has_number n) jobs ≡ Some job → map (job_in plans) (map {A = Job (Work plans)} {B = Job (Work plans)} (set_work n (Some work)) jobs) ≡ map (job_in plans) jobs)
          → map (job_in plans) (map {A = Job (Work plans)} {B = Job (Work plans)} (set_work n (Some work)) (k ∷ jobs)) ≡ map (job_in plans) (k ∷ jobs)
      by_number true e more = λ i. first i ∷ map (job_in plans) (set_none n (Some work) k jobs (eqb-true k.number n e) order.0 i)
        where
          its : k ≡ job
          its = some_is k job (sym (ap (λ t. if t then Some k else find (has_number n) jobs) e) ∙ found)

          first : job_in plans (set_work n (Some work) k) ≡ job_in plans k
          first = ap (λ t. job_in plans (if t then record k { work = Some work } else k)) e
              ∙ (λ i. record { number = k.number; volume = k.volume; command = (same ∙ ap (λ (j : Job (Work plans)). command_in plans j.work) (sym its)) i })
      by_number false e more = λ i. first i ∷ more (sym (ap (λ t. if t then Some k else find (has_number n) jobs) e) ∙ found) i
        where
          first : job_in plans (set_work n (Some work) k) ≡ job_in plans k
          first = ap (λ t. job_in plans (if t then record k { work = Some work } else k)) e

  module _ (b : Jobs (Work plans)) (n v : ℕ) (work : Work plans) (board : IsBoard b) (has : HasWorkOf b n v work) where
    its : (job : Job (Work plans)) × (find (has_number n) b.unfinished ≡ Some job) × (job.work ≡ Some work)
    its = found_work b.unfinished n work has.work_is

    volume_its : its.0.volume ≡ v
    volume_its = some_is its.0.volume v (sym (ap (option_map (λ (job : Job (Work plans)). job.volume)) its.1) ∙ has.volume_is)
      where
        some_is : (a c : ℕ) → Some a ≡ Some c → a ≡ c
        some_is a c e = cc

    tests : SameTests n v b.unfinished
    tests = subst (λ u. SameTests n u b.unfinished) volume_its (same_tests n b.unfinished its.0 board.in_order its.1)

    -- it is the work of the volume
    pub work_there : work_at plans b.unfinished v ≡ Some work
    work_there = work_on_number n v b.unfinished tests ∙ has.work_is

    -- its number was given
    pub number_given : n < b.next
    number_given = subst (λ k. k < b.next) (found_number n b.unfinished its.0 its.1)
        (found_all (λ (job : Job (Work plans)). (0 < job.number) × (job.number < b.next)) n b.unfinished its.0 board.started its.1).1

    -- and the world has the job
    pub job_there : has_job (map (job_in plans) b.unfinished) n ≡ Some (record { number = n; volume = v; command = (plans.plan work.running).command })
    job_there = found_job plans b.unfinished n ∙ ap (option_map (job_in plans)) its.1
        ∙ (λ i. Some (record { number = found_number n b.unfinished its.0 its.1 i; volume = volume_its i; command = command_in plans (its.2 i) }))

    -- ---- its work is given back

    module _ (after : Jobs (Work plans)) (is : Work plans) (given : after ≡ with_work b n (Some is)) where
      unfinished_set : after.unfinished ≡ map {A = Job (Work plans)} {B = Job (Work plans)} (set_work n (Some is)) b.unfinished
      unfinished_set = ap (λ (c : Jobs (Work plans)). c.unfinished) given

      pub given_there : work_at plans after.unfinished v ≡ Some is
      given_there = ap (λ jobs. work_at plans jobs v) unfinished_set ∙ work_set n v (Some is) b.unfinished its.0 tests its.1

      pub given_others : (q : ℕ) → q ≢ v → work_at plans after.unfinished q ≡ work_at plans b.unfinished q
      given_others q other = ap (λ jobs. work_at plans jobs q) unfinished_set ∙ work_set_others n v q (Some is) b.unfinished tests other

      pub given_number : work_of after.unfinished n ≡ Some is
      given_number = ap (λ jobs. work_of jobs n) unfinished_set ∙ work_of_set n (Some is) b.unfinished its.0 its.1

      pub given_numbers : (m : ℕ) → m ≢ n → work_of after.unfinished m ≡ work_of b.unfinished m
      given_numbers m other = ap (λ jobs. work_of jobs m) unfinished_set ∙ work_of_set_others n m (Some is) b.unfinished other

      pub given_jobs : (plans.plan is.running).command ≡ (plans.plan work.running).command → map (job_in plans) after.unfinished ≡ map (job_in plans) b.unfinished
      given_jobs same = ap (map (job_in plans)) unfinished_set ∙ same_jobs n is b.unfinished its.0 board.in_order its.1 (same ∙ sym (ap (command_in plans) its.2))

      pub given_all_in : AllByRecursion (λ (job : Job (Work plans)). IsSome job.work) b.unfinished → AllByRecursion (λ (job : Job (Work plans)). IsSome job.work) after.unfinished
      given_all_in all = subst (AllByRecursion (λ (job : Job (Work plans)). IsSome job.work)) (sym unfinished_set) (all_in_set n is b.unfinished all)

    -- ---- it is finished

    module _ (after : Jobs (Work plans)) (finished : after ≡ without b n) where
      unfinished_left : after.unfinished ≡ filter (λ (job : Job (Work plans)). not (has_number n job)) b.unfinished
      unfinished_left = ap (λ (c : Jobs (Work plans)). c.unfinished) finished

      pub finished_there : work_at plans after.unfinished v ≡ None
      finished_there = ap (λ jobs. work_at plans jobs v) unfinished_left ∙ work_without n v b.unfinished tests

      pub finished_others : (q : ℕ) → q ≢ v → work_at plans after.unfinished q ≡ work_at plans b.unfinished q
      finished_others q other = ap (λ jobs. work_at plans jobs q) unfinished_left ∙ work_without_others n v q b.unfinished tests other

      pub finished_number : work_of after.unfinished n ≡ None
      finished_number = ap (λ jobs. work_of jobs n) unfinished_left ∙ work_of_without n b.unfinished

      pub finished_numbers : (m : ℕ) → m ≢ n → work_of after.unfinished m ≡ work_of b.unfinished m
      finished_numbers m other = ap (λ jobs. work_of jobs m) unfinished_left ∙ work_of_without_others n m b.unfinished other

      pub finished_jobs : map (job_in plans) after.unfinished ≡ filter (λ (j : world.Job). not (j.number == n)) (map (job_in plans) b.unfinished)
      finished_jobs = ap (map (job_in plans)) unfinished_left
          ∙ map_filter (job_in plans) (λ (job : Job (Work plans)). not (has_number n job)) (λ (j : world.Job). not (j.number == n)) (λ job. refl) b.unfinished

      pub finished_all_in : AllByRecursion (λ (job : Job (Work plans)). IsSome job.work) b.unfinished → AllByRecursion (λ (job : Job (Work plans)). IsSome job.work) after.unfinished
      finished_all_in all = subst (AllByRecursion (λ (job : Job (Work plans)). IsSome job.work)) (sym unfinished_left) (all_in_without n b.unfinished all)

  -- ---- a job is started

  -- a volume that no job of the world has, no job of the board has
  pub free_there : (jobs : List (Job (Work plans))) (v : ℕ) → job_at (map (job_in plans) jobs) v ≡ None → find (has_volume v) jobs ≡ None
  free_there jobs v free = by_found (find (has_volume v) jobs) refl (sym (found_at plans jobs v) ∙ free)
    where
      by_found : (o : Option (Job (Work plans))) → find (has_volume v) jobs ≡ o → option_map (job_in plans) o ≡ None → find (has_volume v) jobs ≡ None
      by_found None is none = is
      by_found (Some job) is none = absurd cc

  pub started_jobs : (b : Jobs (Work plans)) (v : ℕ) (work : Work plans)
      → map (job_in plans) (with_job b v work).unfinished ≡ map (job_in plans) b.unfinished ++ record { number = b.next; volume = v; command = (plans.plan work.running).command } ∷ []
  started_jobs b v work = map-append (job_in plans) b.unfinished (record { number = b.next; volume = v; work = Some work } ∷ [])
