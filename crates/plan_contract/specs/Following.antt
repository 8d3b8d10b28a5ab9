-- What the store knows of a plan that runs, had from what plans say of themselves.
use Rattle.std.proofs.Common.{◌≡◌, ◌≢◌, ℕ, ◌+◌, ◌*◌, ◌≤◌, List, ◌++◌, Some}
use Rattle.site_model.specs.Disk.{Disk}
use Rattle.site_model.specs.Leaves.{Leaves}
use Rattle.world_model.specs.World.{Volume}
use Rattle.world_model.specs.declared.types.Command.TheVariants.{Decode}
use Rattle.needle_record.specs.Records.{Placed, records}
use Rattle.shard_table.specs.Table.{Row}
use Rattle.image_meaning.specs.Files.{files_of}
use Rattle.image_meaning.specs.Coded.{dat_of}
use Rattle.image_meaning.specs.Meaning.{volume_of}
use Rattle.image_meaning.specs.Near.{IsUnderway}
use Rattle.image_meaning.specs.Share.{Share, share_of, finals, IsFirmShare}
use Rattle.image_meaning.specs.Shards.{KeepsCopies}
use Rattle.plan_steps.specs.declared.plan.Plan.{Plan}
use Rattle.plan_steps.specs.Planned.{deletions}
use Rattle.plan_steps.specs.Legal.{FitsPlaces}
use Rattle.plan_steps.specs.Runs.{StepKeeps}
use Rattle.plan_steps.specs.Progressing.{Running, Follows}
use Rattle.plan_steps.specs.Laws.Progress.{progress_firm}
use Rattle.plan_steps.specs.Plans.{IsPlan}
use Rattle.plan_steps.specs.Left.{left_of}
use Rattle.plan_steps.specs.Laws.Used.{left_below}
use Rattle.plan_steps.specs.Laws.Underway.{progress_underway, step_underway}
use Rattle.plan_steps.specs.Told as store

-- as much of a plan as the store reads
abbrev pub told : Plan → store.ToldPlan
told plan = record { command = plan.command; volume = plan.volume; home = plan.home; info = plan.info; deleted = plan.deleted.items }

-- the records that its decode makes of these files
abbrev pub made_records : Plan → Share → List Placed
made_records plan start = records (dat_of (finals start) ++ deletions plan.deleted.items)

module _ (r : Running) (row : Row) (start now : Share) (follows : Follows r row start now) where
  -- the table tells of the shards
  pub placed : FitsPlaces r.plan r.states row
  placed = follows.fits.way.places

  -- the volume is what it was, in the one form or the other
  pub underway : (vol : Volume) → volume_of (finals start) ≡ Some vol → IsUnderway (told r.plan).command vol (finals now)
  underway vol means = progress_underway follows.w follows.f r row start now follows.fits vol means

  -- no more steps are left than a job has lines for them
  pub bound : (servers : ℕ) → IsPlan r.plan servers → (vol : Volume) → volume_of (finals start) ≡ Some vol → left_of r.plan r.states r.place ≤ 32 * vol.used + 999999
  bound servers is vol means = left_below follows.w follows.f r row start now follows.fits vol means servers is

  -- files under their final names are firm where they were
  pub firm : IsFirmShare start → IsFirmShare now
  firm is = progress_firm follows.w follows.f r row start now follows.fits is

-- what a step that was tried keeps, by the forms of each plan that has come so far
abbrev pub KeepsAll : Running → Row → Disk → Disk → Type 0
KeepsAll r row old new = (start : Share) (follows : Follows r row start (share_of old.files r.plan.volume)) → StepKeeps r.plan follows.f start old new

module _ (r : Running) (row : Row) (old new : Disk) (keeps : KeepsAll r row old new) where
  -- a stop leaves the volume underway
  pub leaves : (start : Share) (vol : Volume) → Follows r row start (share_of old.files r.plan.volume) → IsFirmShare start → volume_of (finals start) ≡ Some vol
      → Leaves old new (λ image said. IsUnderway (told r.plan).command vol (files_of image r.plan.volume))
  leaves start vol follows is_firm means = step_underway follows.w follows.f r row start (share_of old.files r.plan.volume) follows.fits vol means old new (keeps start follows) is_firm

  -- and no last copy of a shard goes, but in a decode
  pub copies : (start : Share) → Follows r row start (share_of old.files r.plan.volume) → (told r.plan).command ≢ Decode → KeepsCopies (finals (share_of old.files r.plan.volume)) (finals (share_of new.files r.plan.volume))
  copies start follows other = (keeps start follows).copies other
