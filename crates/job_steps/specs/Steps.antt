-- What a call that takes steps of a plan asks, and what it tells.
use Rattle.std.specs.Prelude.{◌≡◌, ℕ, ◌*◌, Bool, true, false}
use Rattle.site_model.specs.Disk.{Disk, Files}
use Rattle.site_model.specs.Counts.{Counts, Rose, IsLater, TakesCalls, widest_piece}
use Rattle.world_model.specs.declared.types.Command.TheVariants.{Decode}
use Rattle.shard_table.specs.Table.{Row}
use Rattle.image_meaning.specs.Share.{Share, share_of}
use Rattle.plan_steps.specs.AnyPlans.{Plans, Runs, ComesOn}
use Rattle.job_steps.specs.declared.More.{More}
use Rattle.job_steps.specs.declared.More.TheVariants.{Running, Done}
use Rattle.job_steps.specs.declared.StepFault.{StepFault}
use Rattle.job_steps.specs.declared.StepFault.TheVariants as step_fault

abbrev pub has_ended : More → Bool
has_ended Running = false
has_ended Done = true

-- So many steps: at most 64 calls each, none of more than 65,536 bytes. No count falls, and the site keeps its servers.
pub record TakesSteps (steps servers servers_now : ℕ) (old new : Counts) : Type 0 where
  pub calls : TakesCalls (64 * steps) widest_piece old new
  pub later : IsLater old new
  pub same_servers : servers_now ≡ servers
  pub says : new.say_faults ≡ old.say_faults

module _ (plans : Plans) (tells : Type 0) (r : plans.Running) where
  -- The table has the plan's shards, and where the site tells its contents the plan's files stand as it says.
  pub record CanStep (row : Row) (files : Files) : Type 0 where
    pub on_its_way : plans.IsOnItsWay r row
    pub told : tells → plans.StandsAsTold r (share_of files (plans.plan r).volume)

  -- So many steps were run, or fewer where they ended the plan.
  pub record Went (steps : ℕ) (ended : Bool) (s : plans.Running) (row onward : Row) (old new : Disk) : Type 0 where
    pub on : ComesOn plans steps ended r s onward
    pub runs : tells → Runs plans steps (plans.plan r).volume r s row onward old new

  -- rule 1 of the volume, which a decode finds broken
  pub record BlamesRecords (volume rule : ℕ) : Type 0 where
    pub volume_is : volume ≡ (plans.plan r).volume
    pub rule_is : rule ≡ 1
    pub decodes : (plans.plan r).command ≡ Decode

  -- Why one step failed: the count of the server rose, or the data file that is joined breaks off.
  abbrev pub HasStepCause : Files → Counts → Counts → StepFault → Type 0
  HasStepCause files old new (step_fault.Fault server) = Rose (old.faults server) (new.faults server)
  HasStepCause files old new (step_fault.Unsound volume rule) = BlamesRecords volume rule × (tells → plans.BreaksOff r (share_of files (plans.plan r).volume))

  -- Why one of several steps failed. It isn't a broken rule where the plan began with a sound volume.
  abbrev pub HasCauseWithin : Row → Files → Counts → Counts → StepFault → Type 0
  HasCauseWithin row files old new (step_fault.Fault server) = Rose (old.faults server) (new.faults server)
  HasCauseWithin row files old new (step_fault.Unsound volume rule) =
      BlamesRecords volume rule × (tells → (start : Share) → plans.Follows r row start (share_of files (plans.plan r).volume) → ⊥)
