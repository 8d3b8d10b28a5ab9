-- A start, a step and an end of a job, by what the store does to its board. For `weed_shell` with jobs, to come.
use Rattle.std.proofs.Common.{◌≡◌, ◌≢◌, ℕ, ◌+◌, ◌<◌, ◌≤◌, true, [], ◌∷◌, ◌++◌, Option, Some, None, IsSome, refl, sym, ◌∙◌, ap, subst, arith}
use Rattle.std.specs.Prelude.{map, option_and_then}
use Rattle.std.specs.Option.{option_map_or}
use Rattle.std.specs.List.{AllByRecursion, find}
use Rattle.site_model.specs.Disk.{Files, Disk}
use Rattle.world_model.specs.declared.types.Command.{Command}
use Rattle.world_model.specs.declared.types.Line.TheVariants as line
use Rattle.world_model.specs.Moves.{refusal_of}
use Rattle.job_board.specs.declared.Job.{Job}
use Rattle.job_board.specs.Jobs.{IsBoard, has_volume, with_job, with_work, without, work_of}
use Rattle.image_meaning.specs.Files.{contents}
use Rattle.image_meaning.specs.Meaning.{max_volumes}
use Rattle.image_meaning.specs.Share.{Share, share_of}
use Rattle.plan_steps.specs.Told.{ToldPlan}
use Rattle.plan_steps.specs.AnyPlans.{Plans, Runs}
use Rattle.store_jobs.specs.Store.{Work, Store, FitsWork, Fits, job_in, store_world}
use Rattle.store_jobs.specs.Laws.Board.{started_work, started_others, started_number, started_numbers, all_in_behind}
use Rattle.store_jobs.specs.BoardWorld.{HasWorkOf, work_there, number_given, job_there, given_there, given_others, given_number, given_numbers, given_jobs, given_all_in, finished_there, finished_others, finished_number, finished_numbers, finished_jobs, finished_all_in, started_jobs, free_there}
use Rattle.store_jobs.specs.Laws.Line.{may_start}
use Rattle.shell_jobs.specs.Progress.{left_of}
use Rattle.shell_jobs.specs.Laws.Keeps.{StepsJob, GoesOn, Ends, Starts}

module _ (plans : Plans) (before after : Store plans) (servers : ℕ) (base : ℕ → Share) where
  left_as : (w : Option (Work plans)) (n : ℕ) → work_of after.board.unfinished n ≡ w → left_of plans after.board.unfinished n ≡ option_map_or (λ (work : Work plans). plans.left work.running) w 0
  left_as w n is = ap (λ o. option_map_or (λ (work : Work plans). plans.left work.running) o 0) is

  -- The job's work was taken and its plan went on by some steps. The number of servers and the limit stay, and so do the
  -- rows of other volumes.
  module _ (old new : Disk) (fits : Fits plans before servers old.files base) (n v : ℕ) (below : v < max_volumes) (work : Work plans) (has : HasWorkOf plans before.board n v work)
      (taken : ℕ) (running : plans.Running) (run : Runs plans taken v work.running running (before.rows v) (after.rows v) old new)
      (same_servers : after.servers ≡ before.servers) (same_limit : after.limit ≡ before.limit) (board : IsBoard after.board) (rows : (q : ℕ) → q ≢ v → after.rows q ≡ before.rows q) where
    abbrev moved : Work plans
    moved = record work { running = running }

    -- It was given back.
    module _ (given : after.board ≡ with_work before.board n (Some moved)) where
      given_steps : StepsJob plans before after old new v n
      given_steps = record {
        below = below;
        work = work;
        has = work_there plans before.board n v work fits.board has;
        number = number_given plans before.board n v work fits.board has;
        is_job = job_there plans before.board n v work fits.board has;
        running = running;
        row = after.rows v;
        taken = taken;
        run = run;
        same_servers = same_servers;
        same_limit = same_limit;
        same_next = ap (λ b. b.next) given;
        board = board;
        all_in = given_all_in plans before.board n v work fits.board has after.board moved given fits.all_in;
        row_there = refl;
        rows = rows;
        works = given_others plans before.board n v work fits.board has after.board moved given;
        left_others = λ job other. ap (λ o. option_map_or (λ (w : Work plans). plans.left w.running) o 0) (given_numbers plans before.board n v work fits.board has after.board moved given job other);
      }

      pub goes_on : (steps : ℕ) → after.slots ≡ before.slots → plans.left running + steps ≤ plans.left work.running → 0 < plans.left running
          → (did : StepsJob plans before after old new v n) × GoesOn plans before after old new v n steps did
      unfolding given_steps
      goes_on steps slots left some = (
        given_steps,
        record {
          slots = slots;
          there = given_there plans before.board n v work fits.board has after.board moved given;
          jobs = given_jobs plans before.board n v work fits.board has after.board moved given (ap (λ (p : ToldPlan). p.command) run.same_plan);
          left = omega (
            arith,
            left,
            ap (λ o. option_map_or (λ (w : Work plans). plans.left w.running) o 0) (given_number plans before.board n v work fits.board has after.board moved given),
            ap (λ o. option_map_or (λ (w : Work plans). plans.left w.running) o 0) has.work_is,
          );
          some = some;
        },
      )

    -- The job was finished.
    module _ (finished : after.board ≡ without before.board n) where
      finished_steps : StepsJob plans before after old new v n
      finished_steps = record {
        below = below;
        work = work;
        has = work_there plans before.board n v work fits.board has;
        number = number_given plans before.board n v work fits.board has;
        is_job = job_there plans before.board n v work fits.board has;
        running = running;
        row = after.rows v;
        taken = taken;
        run = run;
        same_servers = same_servers;
        same_limit = same_limit;
        same_next = ap (λ b. b.next) finished;
        board = board;
        all_in = finished_all_in plans before.board n v work fits.board has after.board finished fits.all_in;
        row_there = refl;
        rows = rows;
        works = finished_others plans before.board n v work fits.board has after.board finished;
        left_others = λ job other. ap (λ o. option_map_or (λ (w : Work plans). plans.left w.running) o 0) (finished_numbers plans before.board n v work fits.board has after.board finished job other);
      }

      pub has_ended : after.slots v ≡ Some work.after → ((q : ℕ) → q ≢ v → after.slots q ≡ before.slots q) → plans.left running ≡ 0
          → (did : StepsJob plans before after old new v n) × Ends plans before after old new v n did
      unfolding finished_steps
      has_ended slot slots over = (
        finished_steps,
        record {
          slot = slot;
          slots = slots;
          free = finished_there plans before.board n v work fits.board has after.board finished;
          jobs = finished_jobs plans before.board n v work fits.board has after.board finished;
          over = over;
          none_left = ap (λ o. option_map_or (λ (w : Work plans). plans.left w.running) o 0) (finished_number plans before.board n v work fits.board has after.board finished);
        },
      )

  -- A job was started.
  pub starts : (files : Files) (fits : Fits plans before servers files base) (v : ℕ) (command : Command) (work : Work plans) → v < max_volumes
      → refusal_of (store_world plans before (contents files)) (line.Start v command true) ≡ None → (plans.plan work.running).command ≡ command
      → after.board ≡ with_job before.board v work → after.servers ≡ before.servers → after.limit ≡ before.limit → after.slots ≡ before.slots → ((q : ℕ) → q ≢ v → after.rows q ≡ before.rows q)
      → IsBoard after.board → FitsWork plans servers work (before.slots v) v (after.rows v) (share_of files v) (share_of files v) → Starts plans servers before after files v command
  starts files fits v command work below accepted is_command started same_servers same_limit same_slots rows board fits_work =
      let free = free_there plans before.board.unfinished v (may_start (store_world plans before (contents files)) v command true accepted).free in
      record {
        below = below;
        accepted = accepted;
        idle = ap (option_and_then (λ (j : Job (Work plans)). j.work)) free;
        work = work;
        is_command = is_command;
        there = ap (λ b. option_and_then (λ (j : Job (Work plans)). j.work) (find (has_volume v) b.unfinished)) started ∙ started_work before.board v work free;
        same_servers = same_servers;
        same_limit = same_limit;
        same_slots = same_slots;
        next = ap (λ b. b.next) started;
        board = board;
        all_in = subst (λ b. AllByRecursion (λ (job : Job (Work plans)). IsSome job.work) b.unfinished) (sym started)
            (all_in_behind before.board.unfinished (record { number = before.board.next; volume = v; work = Some work }) refl fits.all_in);
        jobs = ap (λ b. map (job_in plans) b.unfinished) started ∙ started_jobs plans before.board v work
            ∙ ap (λ c. map (job_in plans) before.board.unfinished ++ record { number = before.board.next; volume = v; command = c } ∷ []) is_command;
        rows = rows;
        works = λ q other. ap (λ b. option_and_then (λ (j : Job (Work plans)). j.work) (find (has_volume q) b.unfinished)) started ∙ started_others before.board v work free q other;
        left_others = λ job h. ap (λ b. left_of plans b.unfinished job) started ∙ ap (λ o. option_map_or (λ (w : Work plans). plans.left w.running) o 0) (started_numbers before.board v work free job h);
        fits = fits_work;
        work_is = ap (λ b. work_of b.unfinished before.board.next) started ∙ started_number before.board v work free fits.board;
      }
