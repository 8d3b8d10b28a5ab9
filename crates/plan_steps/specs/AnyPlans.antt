-- What the store knows of a plan that runs: the contract of the crates of plans, as a record over any of them.
use Rattle.std.specs.Prelude.{◌≡◌, ◌≢◌, ℕ, ◌+◌, ◌*◌, ◌<◌, ◌≤◌, Bool, true, false, List, Some}
use Rattle.world_model.specs.World.{Volume}
use Rattle.world_model.specs.declared.types.Command.TheVariants.{Decode}
use Rattle.needle_record.specs.Records.{Placed}
use Rattle.shard_table.specs.Table.{Row}
use Rattle.image_meaning.specs.Files.{files_of}
use Rattle.image_meaning.specs.Meaning.{volume_of}
use Rattle.site_model.specs.Disk.{Disk}
use Rattle.site_model.specs.Leaves.{Leaves}
use Rattle.site_model.specs.Touches.{Touches}
use Rattle.image_meaning.specs.Share.{Share, share_of, finals, IsFirmShare, IsOfVolume, ChangesFew}
use Rattle.image_meaning.specs.Near.{IsUnderway}
use Rattle.image_meaning.specs.Shards.{KeepsCopies}
use Rattle.plan_steps.specs.Told.{ToldPlan}
use Rattle.plan_steps.specs.Ending.{EndsBy}
use Rattle.plan_steps.specs.Reading.{StandAtPlaces, LeavesEnough, IsGoing, IsRead}

pub record Plans : Type 1 where
  pub Running : Type 0
  pub plan : Running → ToldPlan
  -- a bound on the steps that remain, 0 exactly at the end
  pub left : Running → ℕ
  -- of a decode that began with these files, the records of the data file that it makes
  pub made_records : ToldPlan → Share → List Placed
  -- it is a plan for so many servers
  pub IsPlan : Running → ℕ → Type 0
  -- its list is worked off from the front, and the row names a place of each shard that stands by now, and of no other
  pub IsOnItsWay : Running → Row → Type 0
  -- by name and length its files are as far as the plan has come, whatever they mean
  pub StandsAsTold : Running → Share → Type 0
  -- the data file that a decode joins isn't records to its end
  pub BreaksOff : Running → Share → Type 0
  -- it began with the files `start`, has come so far with the files `now`, and the table has the volume's shards at the row
  pub Follows : Running → Row → Share → Share → Type 0
  -- then the conditions of a step hold
  pub on_its_way : (r : Running) (row : Row) (start now : Share) → Follows r row start now → IsOnItsWay r row
  pub told : (r : Running) (row : Row) (start now : Share) → Follows r row start now → StandsAsTold r now
  -- on every site the shards of the row are long enough to be read, and a rebuild and a balance leave enough of them
  pub places : (r : Running) (row : Row) (now : Share) → IsOnItsWay r row → StandsAsTold r now → StandAtPlaces (plan r).info row (finals now)
  pub enough : (r : Running) (servers : ℕ) (row : Row) → IsOnItsWay r row → IsPlan r servers → LeavesEnough (plan r).command (plan r).info row
  -- no step finds rule 1 broken
  pub unbroken : (r : Running) (row : Row) (start now : Share) → Follows r row start now → BreaksOff r now → ⊥
  -- the bound lies below the one on a job's lines
  pub bound : (r : Running) (row : Row) (start now : Share) (vol : Volume) → Follows r row start now → volume_of (finals start) ≡ Some vol → left r ≤ 32 * vol.used + 999999
  -- at each progress the volume is what it was, in the one form or the other
  pub underway : (r : Running) (row : Row) (start now : Share) (vol : Volume) → Follows r row start now → volume_of (finals start) ≡ Some vol → IsUnderway (plan r).command vol (finals now)
  -- and it is read as it was
  pub reads : (r : Running) (row : Row) (start now : Share) → Follows r row start now → IsGoing (plan r).command (left r)
      → IsRead (plan r).command (plan r) (made_records (plan r) start) row (finals start) (finals now)
  -- files under their final names are firm where they were
  pub firm : (r : Running) (row : Row) (start now : Share) → Follows r row start now → IsFirmShare start → IsFirmShare now
  -- at the end the volume stands as the command has it
  pub ends : (r : Running) (servers : ℕ) (row : Row) (start now : Share) → Follows r row start now → IsPlan r servers → left r ≡ 0
      → EndsBy (plan r).command (plan r) (made_records (plan r) start) servers row start now

-- So many steps were tried: no other volume's file changes, and few of this one. A stop leaves the volume underway, and
-- no step but a decode's takes away the last copy of a shard.
pub record Tries (plans : Plans) (steps v : ℕ) (r : plans.Running) (row : Row) (old new : Disk) : Type 0 where
  pub touches : Touches (IsOfVolume v) old new
  pub few : ChangesFew steps old.files new.files
  pub leaves : (start : Share) (vol : Volume) → plans.Follows r row start (share_of old.files v) → IsFirmShare start → volume_of (finals start) ≡ Some vol
      → Leaves old new (λ image said. IsUnderway (plans.plan r).command vol (files_of image v))
  pub copies : (start : Share) → plans.Follows r row start (share_of old.files v) → (plans.plan r).command ≢ Decode → KeepsCopies (finals (share_of old.files v)) (finals (share_of new.files v))

-- They were run: the plan has come so much further, and stands as it says, whatever its files mean.
pub record Runs (plans : Plans) (steps v : ℕ) (r s : plans.Running) (row onward : Row) (old new : Disk) : Type 0 where
  pub tried : Tries plans steps v r row old new
  pub same_plan : plans.plan s ≡ plans.plan r
  pub planned : (servers : ℕ) → plans.IsPlan r servers → plans.IsPlan s servers
  pub told : plans.StandsAsTold r (share_of old.files v) → plans.StandsAsTold s (share_of new.files v)
  pub follows : (start : Share) → plans.Follows r row start (share_of old.files v) → plans.Follows s onward start (share_of new.files v)

-- the steps that remain after so many, where these have ended the plan or not
abbrev pub IsLeft : ℕ → Bool → ℕ → ℕ → Type 0
IsLeft steps true old new = new ≡ 0
IsLeft steps false old new = (new + steps ≤ old) × (0 < steps → 0 < new)

-- What is known of steps that were run on every site, whether it tells its contents or not.
pub record ComesOn (plans : Plans) (steps : ℕ) (ended : Bool) (r s : plans.Running) (onward : Row) : Type 0 where
  pub same_plan : plans.plan s ≡ plans.plan r
  pub on_its_way : plans.IsOnItsWay s onward
  pub left : IsLeft steps ended (plans.left r) (plans.left s)
