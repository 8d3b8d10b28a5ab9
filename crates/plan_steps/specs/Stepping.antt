-- What a step of a plan takes, and what it leaves.
-- For `run_step` of the running plans of `plan_run`, to come.
use Rattle.std.specs.Prelude.{◌≡◌, ◌≢◌, ℕ, true, List, slice_get, slice_set, Option, Some, None}
use Rattle.site_model.specs.Disk.{Disk}
use Rattle.site_model.specs.Touches.{Touches}
use Rattle.world_model.specs.World.{Volume}
use Rattle.file_names.specs.declared.Kind.{Kind}
use Rattle.file_names.specs.declared.Kind.TheVariants.{Dat, Idx, Cpd, Cpx, Shard, Ecx, Ecj, Vif}
use Rattle.shard_table.specs.Table.{Row}
use Rattle.image_meaning.specs.Share.{Share, share_of, IsOfVolume, ChangesFew}
use Rattle.plan_steps.specs.declared.plan.Plan.{Plan}
use Rattle.plan_steps.specs.declared.plan.Stage.{Stage}
use Rattle.plan_steps.specs.declared.plan.Stage.TheVariants.{Absent, Writing, Synced, Registered}
use Rattle.plan_steps.specs.declared.plan.FileState.{FileState}
use Rattle.plan_steps.specs.declared.step.Step.{Step}
use Rattle.plan_steps.specs.declared.step.Step.TheVariants.{PutInfo, WriteEntries, PutJournal, MakePiece, MendPiece, JoinPiece, JoinDeletes, CopyPiece, Sync, Register, Unregister, DropIndex, DropData}
use Rattle.plan_steps.specs.Kept.{Forms}
use Rattle.plan_steps.specs.Runs.{StepKeeps}
use Rattle.plan_steps.specs.Legal.{IsFound, IsNew, HasFile, FitsPlaces}
use Rattle.plan_steps.specs.Order.{IsReached}
use Rattle.plan_steps.specs.Next.{is_behind, is_whole}
use Rattle.plan_steps.specs.Legality.{goes_on}
use Rattle.plan_steps.specs.After.{AreShort, AreInUnits, IsAfter}
use Rattle.plan_steps.specs.AsTold.{StandsAsTold}
use Rattle.plan_steps.specs.Progressing.{Running, IsOnItsWay, FitsProgress}

-- ---- what holds of a progress on every site

-- a text is written whole
abbrev pub AreTextsWhole : List FileState → Type 0
AreTextsWhole states = (k : ℕ) (s : FileState) → slice_get states k ≡ Some s → s.kind ≡ Vif → s.stage ≢ Writing

-- The lengths are within what the plan writes.
pub record IsInBounds (plan : Plan) (states : List FileState) (place : ℕ) : Type 0 where
  pub short : AreShort plan states place
  pub units : AreInUnits plan states
  pub texts : AreTextsWhole states

-- ---- the file that a step is for

-- Its turn to be finished has come, and it is at this stage.
pub record HasTurn (r : Running) (server : ℕ) (kind : Kind) (stage : Stage) : Type 0 where
  pub at : ℕ
  pub file : FileState
  pub there : slice_get r.states at ≡ Some file
  pub server_is : file.server ≡ server
  pub kind_is : file.kind ≡ kind
  pub stage_is : file.stage ≡ stage
  pub turn : IsReached r.plan r.states at

-- All of it is written.
pub record IsWritten (r : Running) (server : ℕ) (kind : Kind) : Type 0 where
  pub at : ℕ
  pub file : FileState
  pub there : slice_get r.states at ≡ Some file
  pub server_is : file.server ≡ server
  pub kind_is : file.kind ≡ kind
  pub new : IsNew r.plan file.server file.kind
  pub stage_is : file.stage ≡ Writing
  pub whole : is_whole r.plan r.place file.length file.kind ≡ true

-- It is one of those to which the step's piece goes.
pub record HasPiece (r : Running) (step : Step) : Type 0 where
  pub at : ℕ
  pub file : FileState
  pub there : slice_get r.states at ≡ Some file
  pub new : IsNew r.plan file.server file.kind
  pub behind : is_behind file.stage ≡ true
  pub goes : goes_on r.plan r.place step file ≡ true

-- no step copies a text
abbrev pub CopiesNoText : Step → Type 0
CopiesNoText (PutInfo server) = Unit {0}
CopiesNoText (WriteEntries at) = Unit {0}
CopiesNoText (PutJournal server at) = Unit {0}
CopiesNoText (MakePiece row at) = Unit {0}
CopiesNoText (MendPiece at) = Unit {0}
CopiesNoText (JoinPiece row block at) = Unit {0}
CopiesNoText (JoinDeletes at) = Unit {0}
CopiesNoText (CopyPiece from to kind at) = kind ≢ Vif
CopiesNoText (Sync server kind) = Unit {0}
CopiesNoText (Register server kind) = Unit {0}
CopiesNoText (Unregister server kind) = Unit {0}
CopiesNoText (DropIndex server) = Unit {0}
CopiesNoText (DropData server) = Unit {0}

-- what is known of the file of the step that is next
abbrev pub IsDue : Running → Step → Type 0
IsDue r (PutInfo server) = HasTurn r server Vif Absent × IsNew r.plan server Vif
IsDue r (WriteEntries at) = HasPiece r (WriteEntries at)
IsDue r (PutJournal server at) = HasPiece r (PutJournal server at)
IsDue r (MakePiece row at) = HasPiece r (MakePiece row at)
IsDue r (MendPiece at) = HasPiece r (MendPiece at)
IsDue r (JoinPiece row block at) = HasPiece r (JoinPiece row block at)
IsDue r (JoinDeletes at) = HasPiece r (JoinDeletes at)
IsDue r (CopyPiece from to kind at) = HasPiece r (CopyPiece from to kind at) × (kind ≢ Vif)
IsDue r (Sync server kind) = IsWritten r server kind
IsDue r (Register server kind) = HasTurn r server kind Synced × IsNew r.plan server kind
IsDue r (Unregister server kind) = HasTurn r server kind Registered × IsFound r.plan server kind
IsDue r (DropIndex server) = HasTurn r server Idx Registered × IsFound r.plan server Idx
IsDue r (DropData server) = HasTurn r server Dat Registered × IsFound r.plan server Dat

-- ---- what it leaves

-- A step was tried, whether it succeeded or not: files of its volume alone are touched, and one under its final name at
-- most. Every stop keeps one of the plan's forms, from all files that fit, and no last copy of a shard goes but in a decode.
pub record TriesStep (r : Running) (old new : Disk) : Type 0 where
  pub touches : Touches (IsOfVolume r.plan.volume) old new
  pub few : ChangesFew 1 old.files new.files
  pub keeps : (w : Volume) (f : Forms) (row : Row) (start : Share) → FitsProgress w f r row start (share_of old.files r.plan.volume) → StepKeeps r.plan f start old new

-- The step succeeded, and the plan has come so far, once the table tells where the shards stand by now.
pub record TakesStep (tells : Type 0) (r : Running) (step : Step) (s : Running) (old new : Disk) : Type 0 where
  pub same_plan : s.plan ≡ r.plan
  pub after : IsAfter r.plan step r.states r.place s.states s.place
  pub way : (row onward : Row) → IsOnItsWay r row → FitsPlaces r.plan s.states onward → IsOnItsWay s onward
  pub told : tells → StandsAsTold r.plan r.states (share_of old.files r.plan.volume) → StandsAsTold r.plan s.states (share_of new.files r.plan.volume)
  pub follows : tells → (w : Volume) (f : Forms) (row onward : Row) (start : Share) → FitsProgress w f r row start (share_of old.files r.plan.volume) → FitsPlaces r.plan s.states onward
      → FitsProgress w f s onward start (share_of new.files r.plan.volume)

-- ---- the table

-- the shard stands there by the list, or nowhere
abbrev pub IsPlaceOf : Plan → List FileState → ℕ → Option ℕ → Type 0
IsPlaceOf plan states i None = (server : ℕ) → HasFile plan states server (Shard i) → ⊥
IsPlaceOf plan states i (Some server) = HasFile plan states server (Shard i)

-- the places once the table is told that of a file, if it is a shard
abbrev pub row_told : Kind → Option ℕ → Row → Row
row_told Dat place row = row
row_told Idx place row = row
row_told Cpd place row = row
row_told Cpx place row = row
row_told (Shard i) place row = slice_set row i place
row_told Ecx place row = row
row_told Ecj place row = row
row_told Vif place row = row

-- a step that neither names nor removes a shard
abbrev pub LeavesShards : Step → Type 0
LeavesShards (PutInfo server) = Unit {0}
LeavesShards (WriteEntries at) = Unit {0}
LeavesShards (PutJournal server at) = Unit {0}
LeavesShards (MakePiece row at) = Unit {0}
LeavesShards (MendPiece at) = Unit {0}
LeavesShards (JoinPiece row block at) = Unit {0}
LeavesShards (JoinDeletes at) = Unit {0}
LeavesShards (CopyPiece from to kind at) = Unit {0}
LeavesShards (Sync server kind) = Unit {0}
LeavesShards (Register server kind) = ⊥
LeavesShards (Unregister server kind) = ⊥
LeavesShards (DropIndex server) = Unit {0}
LeavesShards (DropData server) = Unit {0}
