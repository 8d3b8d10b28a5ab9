-- What it takes that a file of a plan is finished or goes, and what that leaves.
use Rattle.std.specs.Prelude.{◌≡◌, ◌⊎◌, ℕ, ◌<◌, true, false, List, length, slice_get, slice_set, Some, IsSome, Result, OnOk}
use Rattle.site_model.specs.Disk.{Place, Files, Disk}
use Rattle.site_model.specs.Touches.{Touches, At}
use Rattle.site_model.specs.declared.error.DeviceFault.{DeviceFault}
use Rattle.world_model.specs.World.{Volume}
use Rattle.file_names.specs.Names.{name_bytes, place_of}
use Rattle.shard_table.specs.Table.{Row}
use Rattle.image_meaning.specs.Meaning.{max_volumes}
use Rattle.image_meaning.specs.Share.{Share, share_of}
use Rattle.plan_steps.specs.declared.plan.Progress.{Progress}
use Rattle.plan_steps.specs.declared.plan.Stage.TheVariants as stage
use Rattle.plan_steps.specs.declared.plan.FileState.{FileState}
use Rattle.plan_steps.specs.Kept.{Forms}
use Rattle.plan_steps.specs.Planned.{planned}
use Rattle.plan_steps.specs.Runs.{StepKeeps}
use Rattle.plan_steps.specs.Fitting.{AreStates}
use Rattle.plan_steps.specs.Legal.{IsFound, IsNew, FitsPlaces, MayRegister, MayRemove}
use Rattle.plan_steps.specs.Order.{IsReached}
use Rattle.plan_steps.specs.AsTold.{IsPlannedLength, StandsAsTold}
use Rattle.plan_steps.specs.Progressing.{Running, FitsProgress}

-- the file at this place of the list, and its names
pub record IsNamedFile (volume servers : ℕ) (states : List FileState) (j : ℕ) (temp_name final_name : List ℕ) : Type 0 where
  pub file : FileState
  pub at : slice_get states j ≡ Some file
  pub server : file.server < servers
  pub temp : temp_name ≡ name_bytes (record { volume = volume; kind = file.kind; temp = true })
  pub final : final_name ≡ name_bytes (record { volume = volume; kind = file.kind; temp = false })

-- the file at this place of the list has another state, and nothing else of the progress
pub record Tells (j : ℕ) (next : FileState → FileState) (old new : Progress) : Type 0 where
  pub place : new.place ≡ old.place
  pub files : (s : FileState) → slice_get old.files.items j ≡ Some s → new.files.items ≡ slice_set old.files.items j (next s)

abbrev pub TempStands : Running → ℕ → Files → Type 0
TempStands r j files = (s : FileState) → slice_get r.states j ≡ Some s → IsSome (files (place_of r.plan.volume s.server s.kind true))

-- From files that fit, whatever the plan began with, and wherever the table has the shards: this holds of the file.
abbrev pub FromFit : Running → ℕ → Files → (Volume → Forms → Row → Share → FileState → Type 0) → Type 0
FromFit r j files P = (w : Volume) (f : Forms) (row : Row) (start : Share) (s : FileState) → FitsProgress w f r row start (share_of files r.plan.volume) → slice_get r.states j ≡ Some s → P w f row start s

-- These files are touched, this holds at every stop, and where the call is Ok this of what it leaves, by what the files hold
-- and by their names and lengths alone.
pub record Does {A : Type 0} (touched keeps fits tells : Type 0) (result : Result A DeviceFault) : Type 0 where
  pub touches : touched
  pub kept : keeps
  pub fitting : OnOk result fits
  pub told : OnOk result tells

-- the file under its final name, and as a temporary one
abbrev pub IsOfFile : ℕ → FileState → Place → Type 0
IsOfFile v s k = (k ≡ place_of v s.server s.kind false) ⊎ (k ≡ place_of v s.server s.kind true)

-- calls on the file at this place of the list alone
abbrev pub TouchesFile : Running → ℕ → Disk → Disk → Type 0
TouchesFile r j old new = (s : FileState) → slice_get r.states j ≡ Some s → Touches (IsOfFile r.plan.volume s) old new

-- or on its temporary one
abbrev pub TouchesTemp : Running → ℕ → Disk → Disk → Type 0
TouchesTemp r j old new = (s : FileState) → slice_get r.states j ≡ Some s → Touches (At (place_of r.plan.volume s.server s.kind true)) old new

-- From files that stand as told, where this holds of the file, they do so again.
abbrev pub StillTold : Running → ℕ → Files → Running → Files → (FileState → Type 0) → Type 0
StillTold r j old next new P = (s : FileState) → slice_get r.states j ≡ Some s → r.plan.volume < max_volumes → AreStates r.states → P s → StandsAsTold r.plan r.states (share_of old r.plan.volume)
    → StandsAsTold r.plan next.states (share_of new r.plan.volume)

-- a call on a temporary file keeps the volume at every stop
abbrev pub Keeps : Running → ℕ → Disk → Disk → Type 0
Keeps r j old new = FromFit r j old.files (λ w f row start s. StepKeeps r.plan f start old new)

-- all that is planned was written
abbrev pub IsComplete : Forms → FileState → Type 0
IsComplete f s = (bytes : List ℕ) → planned f.parts s.kind ≡ Some bytes → s.length ≡ length bytes

-- after a sync the files fit
abbrev pub Synced : Running → ℕ → Disk → Disk → Running → Type 0
Synced r j old new next = FromFit r j old.files (λ w f row start s. s.stage ≡ stage.Writing → IsComplete f s → FitsProgress w f next row start (share_of new.files r.plan.volume))

abbrev pub SyncedTold : Running → ℕ → Disk → Disk → Running → Type 0
SyncedTold r j old new next = StillTold r j old.files next new.files (λ s. (s.stage ≡ stage.Writing) × IsPlannedLength r.plan s.length s.kind)

-- a rename to the final name keeps the volume, where the file may be registered
abbrev pub Registers : Running → ℕ → Disk → Disk → Type 0
Registers r j old new = FromFit r j old.files (λ w f row start s. s.stage ≡ stage.Synced → MayRegister r.plan r.states s.server s.kind → StepKeeps r.plan f start old new)

-- and where it is the file's turn the files fit afterwards, once the table is told
abbrev pub Registered : Running → ℕ → Disk → Disk → Running → Type 0
Registered r j old new next = FromFit r j old.files (λ w f row start s. s.stage ≡ stage.Synced → MayRegister r.plan r.states s.server s.kind → IsReached r.plan r.states j
    → (onward : Row) → FitsPlaces r.plan next.states onward → FitsProgress w f next onward start (share_of new.files r.plan.volume))

abbrev pub RegisteredTold : Running → ℕ → Disk → Disk → Running → Type 0
RegisteredTold r j old new next = StillTold r j old.files next new.files (λ s. (s.stage ≡ stage.Synced) × IsNew r.plan s.server s.kind)

-- so does a removal, where the file may go
abbrev pub Clears : Running → ℕ → Disk → Disk → Type 0
Clears r j old new = FromFit r j old.files (λ w f row start s. s.stage ≡ stage.Registered → IsReached r.plan r.states j → MayRemove r.plan r.states row s.server s.kind → StepKeeps r.plan f start old new)

abbrev pub Cleared : Running → ℕ → Disk → Disk → Running → Type 0
Cleared r j old new next = FromFit r j old.files (λ w f row start s. s.stage ≡ stage.Registered → IsReached r.plan r.states j → MayRemove r.plan r.states row s.server s.kind
    → (onward : Row) → FitsPlaces r.plan next.states onward → FitsProgress w f next onward start (share_of new.files r.plan.volume))

abbrev pub ClearedTold : Running → ℕ → Disk → Disk → Running → Type 0
ClearedTold r j old new next = StillTold r j old.files next new.files (λ s. IsFound r.plan s.server s.kind)
