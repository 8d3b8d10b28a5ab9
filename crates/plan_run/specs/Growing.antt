-- What it takes that several files of a plan get a piece each in one step, and what that leaves.
use Rattle.std.specs.Prelude.{◌≡◌, ℕ, ◌/◌, ◌==◌, ◌&&◌, Bool, true, if◌then◌else◌, List, take, drop, flat_map, map, slice_get, Some, Result, OnOk}
use Rattle.site_model.specs.Disk.{Files, Disk, Appends, grown}
use Rattle.site_model.specs.Touches.{Touches}
use Rattle.site_model.specs.declared.error.DeviceFault.{DeviceFault}
use Rattle.world_model.specs.World.{Volume}
use Rattle.volume_forms.specs.Forms.{entry_bytes}
use Rattle.file_names.specs.Names.{place_of}
use Rattle.file_names.specs.declared.Kind.TheVariants.{Ecx}
use Rattle.shard_table.specs.Table.{Row}
use Rattle.image_meaning.specs.Share.{Share, share_of}
use Rattle.plan_steps.specs.declared.plan.Plan.{Plan}
use Rattle.plan_steps.specs.declared.plan.FileState.{FileState}
use Rattle.plan_steps.specs.declared.step.Step.{Step}
use Rattle.plan_steps.specs.Kept.{Forms}
use Rattle.plan_steps.specs.Left.{list_piece}
use Rattle.plan_steps.specs.Runs.{IsTempOf}
use Rattle.plan_steps.specs.Walk.{same_kind}
use Rattle.plan_steps.specs.Next.{is_behind}
use Rattle.plan_steps.specs.After.{after, grown_by}
use Rattle.plan_steps.specs.AsTold.{StandsAsTold}
use Rattle.plan_steps.specs.Progressing.{Running, FitsProgress}

-- ---- one file

-- an append to the temporary file at this place of the list, whether it succeeds or not
abbrev pub AppendsAt : Running → ℕ → List ℕ → Disk → Disk → Type 0
AppendsAt r j piece old new = (s : FileState) → slice_get r.states j ≡ Some s → Appends (place_of r.plan.volume s.server s.kind true) piece old new

-- it has the piece behind the bytes that it had
abbrev pub IsGrownAt : Running → ℕ → List ℕ → Files → Files → Type 0
IsGrownAt r j piece old new =
    (s : FileState) → slice_get r.states j ≡ Some s → new (place_of r.plan.volume s.server s.kind true) ≡ Some (grown (old (place_of r.plan.volume s.server s.kind true)) piece)

-- ---- all files of a step

-- the plan with its files at these states
abbrev pub with_states : Running → List FileState → Running
with_states r states = record r { states = states }

-- From the files as they were, calls on temporary files alone came to files that stand by these states.
pub record GrowsTo (r : Running) (states : List FileState) (old mid : Disk) : Type 0 where
  pub touches : Touches (IsTempOf r.plan.volume) old mid
  pub told : StandsAsTold r.plan r.states (share_of old.files r.plan.volume) → StandsAsTold r.plan states (share_of mid.files r.plan.volume)
  pub fits : (w : Volume) (f : Forms) (row : Row) (start : Share) → FitsProgress w f r row start (share_of old.files r.plan.volume) → FitsProgress w f (with_states r states) row start (share_of mid.files r.plan.volume)

-- Temporary files alone are touched, and where the calls succeed all files of the step have its pieces.
pub record GrowsAll {A : Type 0} (r : Running) (by : Step) (result : Result A DeviceFault) (old new : Disk) : Type 0 where
  pub touches : Touches (IsTempOf r.plan.volume) old new
  pub grows : OnOk result (GrowsTo r (map (after r.plan r.place 0 by) r.states) old new)

-- ---- the entries of an encode

-- the piece of the coded index that begins with this entry
abbrev pub entries_at : Plan → ℕ → List ℕ
entries_at plan at = flat_map entry_bytes (take list_piece (drop at plan.entries.items))

-- it goes behind this file
abbrev pub takes_entries : ℕ → FileState → Bool
takes_entries at s = is_behind s.stage && (same_kind s.kind Ecx && (at == s.length / 16))

-- the file once that is told of it
abbrev pub entries_told : (at count : ℕ) → FileState → FileState
entries_told at count s = if takes_entries at s then grown_by count s else s
