-- The lines of jobs. For the store with jobs, to come.
use Rattle.std.proofs.Common.{◌≡◌, ◌⊎◌, ℕ, Bool, true, false, List, [], ◌∷◌, Option, Some, None, refl, sym, ◌∙◌, ap, subst}
use Rattle.std.specs.Prelude.{◌==◌, if◌then◌else◌, map, option_map, MatchOption}
use Rattle.std.specs.Option.{option_map_or}
use Rattle.std.specs.List.{find}
use Rattle.site_model.specs.Disk.{Image}
use Rattle.world_model.specs.World.{Volume, World}
use Rattle.world_model.specs.World as world
use Rattle.world_model.specs.declared.types.Command.{Command}
use Rattle.world_model.specs.declared.types.Command.TheVariants.{Encode, Rebuild, Balance, Decode}
use Rattle.world_model.specs.declared.types.Mode.{Mode}
use Rattle.world_model.specs.declared.types.Mode.TheVariants as mode
use Rattle.world_model.specs.declared.types.Line.TheVariants as line
use Rattle.world_model.specs.declared.types.Reply.{Reply}
use Rattle.world_model.specs.declared.types.Reply.TheVariants as reply
use Rattle.world_model.specs.declared.types.Refusal.{Refusal}
use Rattle.world_model.specs.declared.types.Refusal.TheVariants as refusal
use Rattle.world_model.specs.Moves.{has_job, job_at, grammatical, Allowed, Accepted, busy, effect, first, is_lost, refusal_of, when, without_job, wrong_form}
use Rattle.job_board.specs.declared.Job.{Job}
use Rattle.job_board.specs.Jobs.{has_number, has_volume}
use Rattle.image_meaning.specs.Near.{IsLeftBy, IsLeftByEither}
use Rattle.image_meaning.specs.Jobs.{HasJobs, Suits, with_started, near_started, near_before_end}
use Rattle.plan_steps.specs.AnyPlans.{Plans}
use Rattle.store_jobs.specs.Store.{Work, job_in}

module _ (plans : Plans) where
  -- ---- the lines of jobs

  -- the board's jobs are found in the world
  pub found_job : (jobs : List (Job (Work plans))) (n : ℕ) → has_job (map (job_in plans) jobs) n ≡ option_map (job_in plans) (find (has_number n) jobs)
  found_job [] n = refl
  found_job (job ∷ jobs) n = by_number (found_job jobs n) (job.number == n) refl
    where
      by_number : has_job (map (job_in plans) jobs) n ≡ option_map (job_in plans) (find (has_number n) jobs) → (b : Bool) → (job.number == n) ≡ b
          → has_job (map (job_in plans) (job ∷ jobs)) n ≡ option_map (job_in plans) (find (has_number n) (job ∷ jobs))
      by_number more true e =
          ap (λ b. if b then Some (job_in plans job) else has_job (map (job_in plans) jobs) n) e ∙ sym (ap (λ b. option_map (job_in plans) (if b then Some job else find (has_number n) jobs)) e)
      by_number more false e =
          ap (λ b. if b then Some (job_in plans job) else has_job (map (job_in plans) jobs) n) e ∙ more ∙ sym (ap (λ b. option_map (job_in plans) (if b then Some job else find (has_number n) jobs)) e)

  pub found_at : (jobs : List (Job (Work plans))) (v : ℕ) → job_at (map (job_in plans) jobs) v ≡ option_map (job_in plans) (find (has_volume v) jobs)
  found_at [] v = refl
  found_at (job ∷ jobs) v = by_volume (found_at jobs v) (job.volume == v) refl
    where
      by_volume : job_at (map (job_in plans) jobs) v ≡ option_map (job_in plans) (find (has_volume v) jobs) → (b : Bool) → (job.volume == v) ≡ b
          → job_at (map (job_in plans) (job ∷ jobs)) v ≡ option_map (job_in plans) (find (has_volume v) (job ∷ jobs))
      by_volume more true e =
          ap (λ b. if b then Some (job_in plans job) else job_at (map (job_in plans) jobs) v) e ∙ sym (ap (λ b. option_map (job_in plans) (if b then Some job else find (has_volume v) jobs)) e)
      by_volume more false e =
          ap (λ b. if b then Some (job_in plans job) else job_at (map (job_in plans) jobs) v) e ∙ more ∙ sym (ap (λ b. option_map (job_in plans) (if b then Some job else find (has_volume v) jobs)) e)

-- a line on a job that there is
job_free : (w : World) (n : ℕ) (job : world.Job) → has_job w.jobs n ≡ Some job → option_map_or (λ (_ : world.Job). None) (has_job w.jobs n) (Some refusal.NoJob) ≡ None
job_free w n job found = ap (λ (o : Option world.Job). option_map_or (λ (_ : world.Job). None) o (Some refusal.NoJob)) found

pub step_allowed : (w : World) (n steps : ℕ) (job : world.Job) (r : Reply) → has_job w.jobs n ≡ Some job → (r ≡ reply.Running n) ⊎ (r ≡ reply.Ended n) → Allowed w (grammatical (line.Step n steps)) r
step_allowed w n steps job r found is =
    subst (λ (o : Option Refusal). MatchOption o (Accepted w (line.Step n steps) r) (λ why. r ≡ reply.Refused why)) (sym (job_free w n job found)) is

pub wait_allowed : (w : World) (n : ℕ) (job : world.Job) → has_job w.jobs n ≡ Some job → Allowed w (grammatical (line.Wait n)) (reply.Ended n)
wait_allowed w n job found =
    subst (λ (o : Option Refusal). MatchOption o (Accepted w (line.Wait n) (reply.Ended n)) (λ why. reply.Ended n ≡ reply.Refused why)) (sym (job_free w n job found)) refl

-- ---- a start that isn't refused

-- Its volume is there and suits the command, and no job has it.
pub record MayStart (w : World) (v : ℕ) (command : Command) : Type 0 where
  pub vol : Volume
  pub has : w.volumes v ≡ Some vol
  pub free : job_at w.jobs v ≡ None
  pub suits : Suits command vol.mode

no_row : (test : Bool) (r : Refusal) (rows : List (Option Refusal)) → first (when test r ∷ rows) ≡ None → (test ≡ false) × (first rows ≡ None)
no_row true r rows e = absurd cc
no_row false r rows e = (refl, e)

not_busy : (w : World) (v : ℕ) (o : Option world.Job) (rows : List (Option Refusal)) → first (option_map (λ (j : world.Job). refusal.Busy j.number) o ∷ rows) ≡ None → (o ≡ None) × (first rows ≡ None)
not_busy w v None rows e = (refl, e)
not_busy w v (Some j) rows e = absurd cc

right_form : (command : Command) (m : Mode) → is_lost m ≡ false → first (wrong_form command m ∷ []) ≡ None → Suits command m
right_form (Encode ratio) mode.Plain kept e = refl
right_form (Encode ratio) mode.Sealed kept e = refl
right_form (Encode ratio) mode.Coded kept e = absurd cc
right_form (Encode ratio) mode.Lost kept e = absurd cc
right_form Rebuild mode.Coded kept e = refl
right_form Rebuild mode.Plain kept e = absurd cc
right_form Rebuild mode.Sealed kept e = absurd cc
right_form Rebuild mode.Lost kept e = absurd cc
right_form Balance mode.Coded kept e = refl
right_form Balance mode.Plain kept e = absurd cc
right_form Balance mode.Sealed kept e = absurd cc
right_form Balance mode.Lost kept e = absurd cc
right_form Decode mode.Coded kept e = refl
right_form Decode mode.Plain kept e = absurd cc
right_form Decode mode.Sealed kept e = absurd cc
right_form Decode mode.Lost kept e = absurd cc

pub may_start : (w : World) (v : ℕ) (command : Command) (background : Bool) → refusal_of w (line.Start v command background) ≡ None → MayStart w v command
may_start w v command background accepted = by_volume (w.volumes v) refl accepted
  where
    by_volume : (o : Option Volume) → w.volumes v ≡ o
        → option_map_or (λ (vol : Volume). first (when (is_lost vol.mode) refusal.Lost ∷ (busy w v ∷ wrong_form command vol.mode ∷ []))) o (Some refusal.NoVolume) ≡ None → MayStart w v command
    by_volume None is e = absurd cc
    by_volume (Some vol) is e =
        let kept = no_row (is_lost vol.mode) refusal.Lost (busy w v ∷ wrong_form command vol.mode ∷ []) e in
        let idle = not_busy w v (job_at w.jobs v) (wrong_form command vol.mode ∷ []) kept.1 in
        record { vol = vol; has = is; free = idle.0; suits = right_form command vol.mode kept.0 idle.1 }

-- What is near the world with the job, started in the line, is near the world before the line or near the one after it.
pub line_leaves : (w : World) (v : ℕ) (command : Command) (r : Reply) (image : Image) → MayStart w v command → IsLeftBy (with_started w v command) image
    → IsLeftByEither w (effect w (line.Start v command false) r) image
line_leaves w v command r image may left = record { sound = left.sound; worlds = λ u means. near_started w v command may.vol r may.free may.has may.suits u (left.worlds u means) }

-- What is near the world after some job's end, at the end of the source, is near the world that no line has changed since.
pub end_leaves : (w : World) (n : ℕ) (job : world.Job) (image : Image) → HasJobs w → has_job w.jobs n ≡ Some job → IsLeftBy (without_job w n) image → IsLeftBy w image
end_leaves w n job image has found left = record { sound = left.sound; worlds = λ u may. near_before_end w n job has found u (left.worlds u may) }
