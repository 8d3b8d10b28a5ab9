-- What a step of a job makes of the board and of the slots.
use Rattle.std.specs.Prelude.{◌≡◌, ℕ, ◌==◌, if◌then◌else◌, Bool, true, false, Some, None, Result, Ok, Err, option_map}
use Rattle.std.specs.Ordering.{nat_cmp}
use Rattle.std.specs.BTreeMap.{BTreeMap, get}
use Rattle.job_board.specs.Jobs.{volume_for, with_work, without, work_of}
use Rattle.job_steps.specs.declared.StepFault.{StepFault}
use Rattle.job_steps.specs.declared.engine.Slot.{Slot}
use Rattle.job_steps.specs.declared.engine.Work.{Work}
use Rattle.job_steps.specs.declared.engine.Engine.{Engine}
use Rattle.job_steps.specs.declared.engine.Halt.{Halt}
use Rattle.job_steps.specs.declared.engine.Halt.TheVariants as halt

-- the volume has another slot, where it had one
abbrev pub HasSlot : BTreeMap ℕ Slot → BTreeMap ℕ Slot → ℕ → Slot → Type 0
HasSlot old new volume after = (v : ℕ) → get nat_cmp new v ≡ (if v == volume then option_map (λ _. after) (get nat_cmp old v) else get nat_cmp old v)

module _ {P : Type 0} (job : ℕ) (old new : Engine P) where
  -- the job has this work in place of that, which makes the same slot
  pub record HasWork (was is : Work P) : Type 0 where
    pub had : work_of old.board.unfinished job ≡ Some was
    pub same_after : is.after ≡ was.after
    pub slots : new.slots ≡ old.slots
    pub board : new.board ≡ with_work old.board job (Some is)

  -- the job had this work and is unfinished no more, and its volume has the slot that the work made
  pub record HasEnded (was : Work P) : Type 0 where
    pub had : work_of old.board.unfinished job ≡ Some was
    pub volume : ℕ
    pub of_volume : volume_for old.board.unfinished job ≡ Some volume
    pub slots : HasSlot old.slots new.slots volume was.after
    pub board : new.board ≡ without old.board job

  -- The plan went on by so many steps, to its end or not. The work is given back where a step failed, too.
  abbrev pub StepsJob : (Bool → P → P → Type 0) → Result Bool Halt → Type 0
  StepsJob went (Ok true) = (was : Work P) × (last : P) × HasEnded was × went true was.plan last
  StepsJob went (Ok false) = (was is : Work P) × HasWork was is × went false was.plan is.plan
  StepsJob went (Err halt.NoJob) = work_of old.board.unfinished job ≡ None
  StepsJob went (Err (halt.Step fault)) = (was is : Work P) × HasWork was is

-- a step that failed has this cause
abbrev pub HasHaltCause : (StepFault → Type 0) → Halt → Type 0
HasHaltCause cause halt.NoJob = Unit {0}
HasHaltCause cause (halt.Step fault) = cause fault
