-- The end of the source: the jobs that are left are run to their ends, in the order of their numbers.
-- For `weed_shell` with jobs, to come.
use Rattle.std.proofs.Common.{◌≡◌, ◌≢◌, ℕ, ◌+◌, ◌-◌, ◌*◌, ◌^◌, ◌<◌, ◌≤◌, List, [], ◌∷◌, ◌++◌, take, Some, None, refl, sym, ◌∙◌, ap, subst, arith}
use Rattle.std.specs.Prelude.{◌==◌, not, if◌then◌else◌, filter}
use Rattle.std.specs.Option.{option_map_or}
use Rattle.std.specs.List.{AllByRecursion}
use Rattle.std.proofs.lemmas.Bool.{ne_eqb, eq-eqb}
use Rattle.std.proofs.lemmas.List.{append-nil}
use Rattle.site_model.specs.Disk.{Files, Disk}
use Rattle.world_model.specs.declared.types.Reply.{Reply}
use Rattle.world_model.specs.World.{Job, World}
use Rattle.world_model.specs.Moves.{has_job, with_ended, without_job}
use Rattle.world_model.specs.Jobs.{accepted_on, running_steps, with_ended_jobs, used_of}
use Rattle.image_meaning.specs.Files.{contents, files_of}
use Rattle.image_meaning.specs.Meaning.{max_volumes}
use Rattle.image_meaning.specs.Share.{share_of, finals}
use Rattle.image_meaning.specs.Jobs.{AreInOrder}
use Rattle.image_meaning.specs.Near.{IsLeftBy}
use Rattle.image_meaning.specs.Shards.{ShardsSo}
use Rattle.plan_steps.specs.AnyPlans.{Plans}
use Rattle.store_jobs.specs.Store.{Store, work_at, FitsVolume, store_world}
use Rattle.store_jobs.specs.Laws.Line.{end_leaves}
use Rattle.store_jobs.specs.BoardWorld.{world_jobs}
use Rattle.shell_jobs.specs.Progress.{Begin, world_at, number_at, IsStart, IsNumbered, StepsSo, commands_of, Knows, Progress, Finishing}
use Rattle.shell_jobs.specs.Laws.Keeps.{StepsJob, Ends, knows_over, store_over}

kept_later : (n : ℕ) (first : Job) (jobs : List Job) → first.number ≡ n → AllByRecursion (λ later. (first.number < later.number) × (first.volume ≢ later.volume)) jobs → filter (λ j. not (j.number == n)) jobs ≡ jobs
kept_later n first [] is later = refl
kept_later n first (job ∷ jobs) is later =
    ap (λ b. if not b then job ∷ filter (λ j. not (j.number == n)) jobs else filter (λ j. not (j.number == n)) jobs) (ne_eqb job.number n (λ e. omega (arith, e, is, later.0.0)))
    ∙ ap (λ js. job ∷ js) (kept_later n first jobs is later.1)

-- without its first job a world has the others
pub jobs_left : (w : World) (job : Job) (jobs : List Job) → w.jobs ≡ job ∷ jobs → AreInOrder w.jobs → (without_job w job.number).jobs ≡ jobs
jobs_left w job jobs is order =
    ap (λ o. (option_map_or (λ (j : Job). record (with_ended w j.volume j.command) { jobs = filter (λ k. not (k.number == job.number)) w.jobs }) o w).jobs) first_found
    ∙ ap (λ js. filter (λ k. not (k.number == job.number)) js) is
    ∙ ap (λ b. if not b then job ∷ filter (λ k. not (k.number == job.number)) jobs else filter (λ k. not (k.number == job.number)) jobs) (eq-eqb job.number job.number refl)
    ∙ kept_later job.number job jobs refl (subst AreInOrder is order).0
  where
    first_found : has_job w.jobs job.number ≡ Some job
    first_found = ap (λ js. has_job js job.number) is ∙ ap (λ b. if b then Some job else has_job jobs job.number) (eq-eqb job.number job.number refl)

-- The first job has ended: the world with all jobs ended is the same.
pub final_on : (w : World) (job : Job) (jobs : List Job) → w.jobs ≡ job ∷ jobs → AreInOrder w.jobs → with_ended_jobs (without_job w job.number).jobs (without_job w job.number) ≡ with_ended_jobs w.jobs w
final_on w job jobs is order = ap (λ js. with_ended_jobs js (without_job w job.number)) (jobs_left w job jobs is order) ∙ sym (ap (λ js. with_ended_jobs js w) is)

module _ (plans : Plans) where
  -- With no job left each volume has the shards that its accepted commands promise.
  pub shards_end : (begin : Begin) (store : Store plans) (files : Files) (replies : List Reply) (p : Knows plans begin replies store files) → store.board.unfinished ≡ []
      → (v : ℕ) → v < max_volumes → ShardsSo begin.servers (files_of (contents begin.opening) v) (files_of (contents files) v) (accepted_on v begin.lines replies)
  shards_end begin store files replies p none v h =
      subst (ShardsSo begin.servers (files_of (contents begin.opening) v) (files_of (contents files) v)) (sym commands_are)
      (subst (λ share. ShardsSo begin.servers (files_of (contents begin.opening) v) (finals share) (p.commands v)) (sym at_rest) (p.shards v h))
    where
      no_work : work_at plans store.board.unfinished v ≡ None
      no_work = ap (λ jobs. work_at plans jobs v) none

      commands_are : accepted_on v begin.lines replies ≡ p.commands v
      commands_are = p.so_far v h ∙ ap (λ w. p.commands v ++ commands_of plans w) no_work ∙ append-nil (p.commands v)

      at_rest : share_of files v ≡ p.base v
      at_rest = (subst (λ w. FitsVolume plans begin.servers w (store.slots v) v (store.rows v) (p.base v) (share_of files v)) no_work (p.fits.each v h)).2

  -- ---- jobs and their steps

  -- Of each job, started with `&` or without, fewer steps were answered `running` than the bound has.
  pub steps_end : (begin : Begin) (replies : List Reply) (store : Store plans) → StepsSo plans begin replies store → (place v : ℕ) → IsStart begin replies place v
      → running_steps (number_at begin replies place) begin.lines replies < 32 * used_of (world_at begin (take place replies)) v + 1000000
  steps_end begin replies store so place v start = omega (arith, so.started place v start)

  -- one line more, of which each starts a job at most
  pub numbered_on : (answered : ℕ) (before after : Store plans) → after.board.next ≤ before.board.next + 1 → IsNumbered plans answered before → IsNumbered plans (answered + 1) after
  numbered_on answered before after once numbered = omega (arith, once, numbered)

  -- so there is a number for the next job, as long as there are no more lines than a source has bytes
  pub number_left : (answered : ℕ) (store : Store plans) → answered ≤ 2 ^ 48 → IsNumbered plans answered store → store.board.next < 2 ^ 64 - 1
  number_left answered store few numbered = omega (arith, few, numbered)

  -- ---- one job after another

  pub finishing_begins : (begin : Begin) (store : Store plans) (files : Files) (p : Progress plans begin store files) → Finishing plans begin p.replies store files
  finishing_begins begin store files p = record {
    knows = p.knows;
    ending = ap (λ (w : World). with_ended_jobs w.jobs w) p.world;
    near = λ image left. subst (λ w. IsLeftBy w image) p.world left;
  }

  -- The first job has ended.
  pub finishing_on : (begin : Begin) (replies : List Reply) (before after : Store plans) (old new : Disk) (v : ℕ) (job : Job) (jobs : List Job) (f : Finishing plans begin replies before old.files)
      → (store_world plans before (contents old.files)).jobs ≡ job ∷ jobs
      → (did : StepsJob plans before after old new v job.number) → Ends plans before after old new v job.number did → Finishing plans begin replies after new.files
  finishing_on begin replies before after old new v job jobs f first did over =
      let w = store_world plans before (contents old.files) in
      let has = world_jobs plans before (contents old.files) f.knows.fits.board in
      let moved : store_world plans after (contents new.files) ≡ without_job w job.number = store_over plans begin replies before after old new v job.number f.knows did over in
      record {
        knows = knows_over plans begin replies before after old new v job.number f.knows did over;
        ending = ap (λ (x : World). with_ended_jobs x.jobs x) moved ∙ final_on w job jobs first has.in_order ∙ f.ending;
        near = λ image left. f.near image (end_leaves w job.number _ image has did.is_job (subst (λ x. IsLeftBy x image) moved left));
      }
