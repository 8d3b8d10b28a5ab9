-- How a step that succeeds moves the files of a plan, and the place of a decode's next record.
-- For `run_step` of the running plans of `plan_run`, to come.
use Rattle.std.specs.Prelude.{◌≡◌, ◌⊎◌, ℕ, ◌+◌, ◌-◌, ◌*◌, ◌%◌, ◌≤◌, nat_lt, min, if◌then◌else◌, Bool, true, false, List, length, map, slice_get, Some}
use Rattle.world_model.specs.Sizes.{deletion_length}
use Rattle.site_model.specs.Counts.{widest_piece}
use Rattle.file_names.specs.declared.Kind.{Kind}
use Rattle.file_names.specs.declared.Kind.TheVariants.{Dat, Idx, Cpd, Cpx, Shard, Ecx, Ecj, Vif}
use Rattle.stripe_layout.specs.declared.Info.{Info}
use Rattle.stripe_layout.specs.Information.{info_text}
use Rattle.stripe_layout.specs.Stripes.{large_rows, shard_length}
use Rattle.plan_steps.specs.declared.plan.Plan.{Plan}
use Rattle.plan_steps.specs.declared.plan.Stage.{Stage}
use Rattle.plan_steps.specs.declared.plan.Stage.TheVariants.{Writing, Synced, Registered, Gone}
use Rattle.plan_steps.specs.declared.plan.FileState.{FileState}
use Rattle.plan_steps.specs.declared.step.Step.{Step}
use Rattle.plan_steps.specs.declared.step.Step.TheVariants.{PutInfo, WriteEntries, PutJournal, MakePiece, MendPiece, JoinPiece, JoinDeletes, CopyPiece, Sync, Register, Unregister, DropIndex, DropData}
use Rattle.plan_steps.specs.Planned.{is_encode}
use Rattle.plan_steps.specs.Walk.{is_file}
use Rattle.plan_steps.specs.Next.{entries_by, joined_length, is_behind}
use Rattle.plan_steps.specs.Legality.{goes_on_behind}
use Rattle.plan_steps.specs.Left.{list_piece, least_read}

-- ---- how many bytes the step's piece has

-- the size of a row's blocks
abbrev pub block_of : Info → ℕ → ℕ
block_of info row = if nat_lt row (large_rows info.geometry info.dat_size) then info.geometry.large else info.geometry.small

-- how long a file of this kind is that is copied
abbrev pub copied_length : Plan → Kind → ℕ
copied_length plan Dat = 0
copied_length plan Idx = 0
copied_length plan Cpd = 0
copied_length plan Cpx = 0
copied_length plan (Shard i) = shard_length plan.info.geometry plan.info.dat_size
copied_length plan Ecx = 16 * entries_by plan plan.command
copied_length plan Ecj = 0
copied_length plan Vif = 0

-- the entries from this one on; of a decode those that the reading took
abbrev pub entries_in_piece : Plan → ℕ → ℕ → Bool → ℕ
entries_in_piece plan taken at true = min list_piece (length plan.entries.items - at)
entries_in_piece plan taken at false = taken

abbrev pub piece_length : Plan → ℕ → ℕ → Step → ℕ
piece_length plan taken n (PutInfo server) = 0
piece_length plan taken n (WriteEntries at) = 16 * entries_in_piece plan taken at (is_encode plan.command)
piece_length plan taken n (PutJournal server at) = 16 * min list_piece (length plan.deleted.items - at)
piece_length plan taken n (MakePiece row at) = min (min widest_piece (block_of plan.info row - at)) (shard_length plan.info.geometry plan.info.dat_size - n)
piece_length plan taken n (MendPiece at) = min widest_piece (shard_length plan.info.geometry plan.info.dat_size - at)
piece_length plan taken n (JoinPiece row block at) = min (min widest_piece (block_of plan.info row - at)) (plan.info.dat_size - n)
piece_length plan taken n (JoinDeletes at) = deletion_length * min list_piece (length plan.deleted.items - at)
piece_length plan taken n (CopyPiece from to kind at) = min widest_piece (copied_length plan kind - at)
piece_length plan taken n (Sync server kind) = 0
piece_length plan taken n (Register server kind) = 0
piece_length plan taken n (Unregister server kind) = 0
piece_length plan taken n (DropIndex server) = 0
piece_length plan taken n (DropData server) = 0

-- ---- one file

abbrev pub grown_by : ℕ → FileState → FileState
grown_by n s = record s { length = s.length + n; stage = Writing }

abbrev pub at_stage : Stage → FileState → FileState
at_stage now s = record s { stage = now }

-- the text was written whole
abbrev pub put_whole : ℕ → FileState → FileState
put_whole n s = record s { length = n; stage = Registered }

-- a piece goes behind each file that isn't synced and ends where the piece begins
abbrev pub appended : Plan → ℕ → ℕ → Step → FileState → FileState
appended plan place taken step s = if goes_on_behind plan place step s then grown_by (piece_length plan taken s.length step) s else s

abbrev pub staged : ℕ → Kind → Stage → FileState → FileState
staged server kind stage s = if is_file server kind s then at_stage stage s else s

-- a file of the list after the step
abbrev pub after : Plan → ℕ → ℕ → Step → FileState → FileState
after plan place taken (PutInfo server) s = if is_file server Vif s then put_whole (length (info_text plan.info)) s else s
after plan place taken (WriteEntries at) s = appended plan place taken (WriteEntries at) s
after plan place taken (PutJournal server at) s = appended plan place taken (PutJournal server at) s
after plan place taken (MakePiece row at) s = appended plan place taken (MakePiece row at) s
after plan place taken (MendPiece at) s = appended plan place taken (MendPiece at) s
after plan place taken (JoinPiece row block at) s = appended plan place taken (JoinPiece row block at) s
after plan place taken (JoinDeletes at) s = appended plan place taken (JoinDeletes at) s
after plan place taken (CopyPiece from to kind at) s = appended plan place taken (CopyPiece from to kind at) s
after plan place taken (Sync server kind) s = staged server kind Synced s
after plan place taken (Register server kind) s = staged server kind Registered s
after plan place taken (Unregister server kind) s = staged server kind Gone s
after plan place taken (DropIndex server) s = staged server Idx Gone s
after plan place taken (DropData server) s = staged server Dat Gone s

-- ---- the place

-- a reading reaches the end, or passes all of a piece but what is less than a header
abbrev pub ReadsOn : (end place next : ℕ) → Type 0
ReadsOn end place next = (next ≡ end) ⊎ ((place + least_read ≤ next) × (next ≤ end))

abbrev pub WritesOn : Plan → ℕ → ℕ → Bool → Type 0
WritesOn plan place next true = next ≡ place
WritesOn plan place next false = ReadsOn (joined_length plan) place next

abbrev pub PlaceAfter : Plan → ℕ → ℕ → Step → Type 0
PlaceAfter plan place next (PutInfo server) = next ≡ place
PlaceAfter plan place next (WriteEntries at) = WritesOn plan place next (is_encode plan.command)
PlaceAfter plan place next (PutJournal server at) = next ≡ place
PlaceAfter plan place next (MakePiece row at) = next ≡ place
PlaceAfter plan place next (MendPiece at) = next ≡ place
PlaceAfter plan place next (JoinPiece row block at) = next ≡ place
PlaceAfter plan place next (JoinDeletes at) = next ≡ place
PlaceAfter plan place next (CopyPiece from to kind at) = next ≡ place
PlaceAfter plan place next (Sync server kind) = next ≡ place
PlaceAfter plan place next (Register server kind) = next ≡ place
PlaceAfter plan place next (Unregister server kind) = next ≡ place
PlaceAfter plan place next (DropIndex server) = next ≡ place
PlaceAfter plan place next (DropData server) = next ≡ place

-- After the step the files and the place are these.
pub record IsAfter (plan : Plan) (step : Step) (states : List FileState) (place : ℕ) (onward : List FileState) (next : ℕ) : Type 0 where
  -- of a reading: so many entries
  pub taken : ℕ
  pub files : onward ≡ map (after plan place taken step) states
  pub moves : PlaceAfter plan place next step

-- ---- the lengths that a progress tells

-- a file that is written is no longer than it is to be
abbrev pub IsShort : Plan → ℕ → Kind → Type 0
IsShort plan n Dat = n ≤ joined_length plan
IsShort plan n Idx = Unit {0}
IsShort plan n Cpd = Unit {0}
IsShort plan n Cpx = Unit {0}
IsShort plan n (Shard i) = n ≤ shard_length plan.info.geometry plan.info.dat_size
IsShort plan n Ecx = n ≤ 16 * entries_by plan plan.command
IsShort plan n Ecj = n ≤ 16 * length plan.deleted.items
IsShort plan n Vif = Unit {0}

-- and a decode's next record is none behind the end
pub record AreShort (plan : Plan) (states : List FileState) (place : ℕ) : Type 0 where
  pub next : place ≤ joined_length plan
  pub lengths : (k : ℕ) (s : FileState) → slice_get states k ≡ Some s → is_behind s.stage ≡ true → IsShort plan s.length s.kind

-- it has whole entries, pairs and deletions so far
abbrev pub IsInUnits : Plan → ℕ → Kind → Type 0
IsInUnits plan n Dat = (n - plan.info.dat_size) % deletion_length ≡ 0
IsInUnits plan n Idx = Unit {0}
IsInUnits plan n Cpd = Unit {0}
IsInUnits plan n Cpx = Unit {0}
IsInUnits plan n (Shard i) = Unit {0}
IsInUnits plan n Ecx = n % 16 ≡ 0
IsInUnits plan n Ecj = n % 16 ≡ 0
IsInUnits plan n Vif = Unit {0}

pub record AreInUnits (plan : Plan) (states : List FileState) : Type 0 where
  pub units : (k : ℕ) (s : FileState) → slice_get states k ≡ Some s → is_behind s.stage ≡ true → IsInUnits plan s.length s.kind
