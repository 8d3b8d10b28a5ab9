-- Which step is next: that of the first file of the list that isn't finished.
use Rattle.std.specs.Prelude.{ℕ, ◌+◌, ◌-◌, ◌*◌, ◌/◌, ◌%◌, ◌^◌, ◌<◌, ◌≤◌, nat_lt, ◌==◌, ◌&&◌, Bool, true, false, if◌then◌else◌, List, [], ◌∷◌, length, slice_get, Option, Some, None}
use Rattle.std.specs.List.{list_any, position}
use Rattle.std.specs.Option.{option_map_or}
use Rattle.world_model.specs.Sizes.{deletion_length, max_dat}
use Rattle.world_model.specs.declared.types.Command.{Command}
use Rattle.world_model.specs.declared.types.Command.TheVariants.{Encode, Rebuild, Balance, Decode}
use Rattle.file_names.specs.declared.Kind.{Kind}
use Rattle.file_names.specs.declared.Kind.TheVariants.{Dat, Idx, Cpd, Cpx, Shard, Ecx, Ecj, Vif}
use Rattle.stripe_layout.specs.declared.Info.{Info}
use Rattle.stripe_layout.specs.Stripes.{GeometryInRange, row_width, large_rows, shard_length}
use Rattle.stripe_layout.specs.Pieces.{large_part}
use Rattle.shard_table.specs.declared.moves.ShardMove.{ShardMove}
use Rattle.plan_steps.specs.declared.plan.Plan.{Plan}
use Rattle.plan_steps.specs.declared.plan.Stage.{Stage}
use Rattle.plan_steps.specs.declared.plan.Stage.TheVariants.{Absent, Writing, Synced, Registered, Gone}
use Rattle.plan_steps.specs.declared.plan.FileState.{FileState}
use Rattle.plan_steps.specs.declared.step.Step.{Step}
use Rattle.plan_steps.specs.declared.step.Step.TheVariants.{PutInfo, WriteEntries, PutJournal, MakePiece, MendPiece, JoinPiece, JoinDeletes, CopyPiece, Sync, Register, Unregister, DropIndex, DropData}
use Rattle.plan_steps.specs.Planned.{is_at, is_found}
use Rattle.plan_steps.specs.Walk.{position_of, first_open}

-- the numbers of a plan are those that a volume may have
pub record IsSized (plan : Plan) : Type 0 where
  pub geometry : GeometryInRange plan.info.geometry
  pub room : plan.info.dat_size + deletion_length * length plan.deleted.items ≤ max_dat
  pub entries : length plan.entries.items < 2 ^ 60
  pub count : plan.entry_count < 2 ^ 60

-- ---- where a file is complete

-- as many entries as the coded index has
abbrev pub entries_by : Plan → Command → ℕ
entries_by plan (Encode ratio) = length plan.entries.items
entries_by plan Rebuild = plan.entry_count
entries_by plan Balance = plan.entry_count
entries_by plan Decode = plan.entry_count

-- the length of the data file that a decode makes
abbrev pub joined_length : Plan → ℕ
joined_length plan = plan.info.dat_size + deletion_length * length plan.deleted.items

-- a file with so many bytes is complete, where a decode's next record has this place
abbrev pub is_whole : Plan → ℕ → ℕ → Kind → Bool
is_whole plan place n Dat = n == joined_length plan
is_whole plan place n Idx = place == joined_length plan
is_whole plan place n Cpd = false
is_whole plan place n Cpx = false
is_whole plan place n (Shard i) = n == shard_length plan.info.geometry plan.info.dat_size
is_whole plan place n Ecx = n == 16 * entries_by plan plan.command
is_whole plan place n Ecj = n == 16 * length plan.deleted.items
is_whole plan place n Vif = false

-- ---- the piece that a file needs next

-- of all shards, in rows of blocks of this size behind so many other rows
abbrev pub make_in_rows : (size from at : ℕ) → Step
make_in_rows size from at = MakePiece (from + at / size) (at % size)

abbrev pub make_step : Info → ℕ → Step
make_step info at =
    if nat_lt at (large_part info.geometry info.dat_size) then make_in_rows info.geometry.large 0 at
    else make_in_rows info.geometry.small (large_rows info.geometry info.dat_size) (at - large_part info.geometry info.dat_size)

-- of the data file, likewise in rows of so many blocks
abbrev pub join_in_rows : (width size from at : ℕ) → Step
join_in_rows width size from at = JoinPiece (from + at / size / width) (at / size % width) (at % size)

abbrev pub large_end : Info → ℕ
large_end info = row_width info.geometry * large_part info.geometry info.dat_size

abbrev pub join_step : Info → ℕ → Step
join_step info at =
    if nat_lt at (large_end info) then join_in_rows (row_width info.geometry) info.geometry.large 0 at
    else join_in_rows (row_width info.geometry) info.geometry.small (large_rows info.geometry info.dat_size) (at - large_end info)

-- the deletions stand behind what the shards hold
abbrev pub data_step : Info → ℕ → Step
data_step info n = if nat_lt n info.dat_size then join_step info n else JoinDeletes ((n - info.dat_size) / 32)

-- the plan makes this shard for the server
abbrev pub is_made : Plan → ℕ → ℕ → Bool
is_made plan i server = list_any (is_at i server) plan.targets.items

abbrev pub is_move_of : ℕ → ℕ → ShardMove → Bool
is_move_of i server m = (m.shard == i) && (m.to == server)

-- else it comes from where it was
abbrev pub source_at : List ShardMove → Option ℕ → ℕ → ℕ
source_at moves None home = home
source_at moves (Some at) home = option_map_or (λ (m : ShardMove). m.from) (slice_get moves at) home

abbrev pub move_place : Plan → ℕ → ℕ → Option ℕ
move_place plan i server = position (is_move_of i server) plan.moves.items

abbrev pub shard_source : Plan → ℕ → ℕ → ℕ
shard_source plan i server = source_at plan.moves.items (move_place plan i server) plan.home

abbrev pub mend_step : Plan → ℕ → ℕ → ℕ → Step
mend_step plan i server n = if is_made plan i server then MendPiece n else CopyPiece (shard_source plan i server) server (Shard i) n

abbrev pub shard_step : Plan → Command → ℕ → ℕ → ℕ → Step
shard_step plan (Encode ratio) i server n = make_step plan.info n
shard_step plan Rebuild i server n = mend_step plan i server n
shard_step plan Balance i server n = mend_step plan i server n
shard_step plan Decode i server n = mend_step plan i server n

-- an index is copied from the server of the first shard
abbrev pub first_holder : List (ℕ × ℕ) → ℕ → ℕ
first_holder [] home = home
first_holder (p ∷ places) home = p.1

abbrev pub copy_index : Plan → ℕ → ℕ → Step
copy_index plan server n = CopyPiece (first_holder plan.places.items plan.home) server Ecx n

abbrev pub index_step : Plan → Command → ℕ → ℕ → Step
index_step plan (Encode ratio) server n = WriteEntries (n / 16)
index_step plan Rebuild server n = copy_index plan server n
index_step plan Balance server n = copy_index plan server n
index_step plan Decode server n = copy_index plan server n

-- A text is written whole. No list has a file that a vacuum makes.
abbrev pub piece_step : Plan → ℕ → ℕ → ℕ → Kind → Step
piece_step plan place server n Dat = data_step plan.info n
piece_step plan place server n Idx = WriteEntries place
piece_step plan place server n Cpd = Sync server Cpd
piece_step plan place server n Cpx = Sync server Cpx
piece_step plan place server n (Shard i) = shard_step plan plan.command i server n
piece_step plan place server n Ecx = index_step plan plan.command server n
piece_step plan place server n Ecj = PutJournal server (n / 16)
piece_step plan place server n Vif = PutInfo server

-- ---- the step of a file

-- a file that was found goes
abbrev pub going_step : ℕ → Kind → Step
going_step server Dat = DropData server
going_step server Idx = DropIndex server
going_step server Cpd = Unregister server Cpd
going_step server Cpx = Unregister server Cpx
going_step server (Shard i) = Unregister server (Shard i)
going_step server Ecx = Unregister server Ecx
going_step server Ecj = Unregister server Ecj
going_step server Vif = Unregister server Vif

-- one that is written comes
abbrev pub coming_step : Plan → ℕ → FileState → Stage → Step
coming_step plan place s Absent = piece_step plan place s.server s.length s.kind
coming_step plan place s Writing = if is_whole plan place s.length s.kind then Sync s.server s.kind else piece_step plan place s.server s.length s.kind
coming_step plan place s Synced = Register s.server s.kind
coming_step plan place s Registered = Register s.server s.kind
coming_step plan place s Gone = piece_step plan place s.server s.length s.kind

abbrev pub file_step : Plan → ℕ → FileState → Step
file_step plan place s = if is_found plan plan.command s.server s.kind then going_step s.server s.kind else coming_step plan place s s.stage

-- ---- the next step

abbrev pub file_at : List FileState → Option ℕ → Option FileState
file_at states None = None
file_at states (Some at) = slice_get states at

-- the file isn't synced yet
abbrev pub is_behind : Stage → Bool
is_behind Absent = true
is_behind Writing = true
is_behind Synced = false
is_behind Registered = false
is_behind Gone = false

abbrev pub is_synced : Stage → Bool
is_synced Absent = false
is_synced Writing = false
is_synced Synced = true
is_synced Registered = false
is_synced Gone = false

abbrev pub is_data : Kind → Bool
is_data Dat = true
is_data Idx = false
is_data Cpd = false
is_data Cpx = false
is_data (Shard i) = false
is_data Ecx = false
is_data Ecj = false
is_data Vif = false

abbrev pub if_behind : Option FileState → FileState → FileState
if_behind None s = s
if_behind (Some index) s = if is_behind index.stage then index else s

-- A data file that is synced waits until the index beside it is.
abbrev pub turn_of : List FileState → FileState → FileState
turn_of states s = if is_data s.kind && is_synced s.stage then if_behind (file_at states (position_of s.server Idx states)) s else s

abbrev pub step_at : Plan → List FileState → ℕ → Option FileState → Option Step
step_at plan states place None = None
step_at plan states place (Some s) = Some (file_step plan place (turn_of states s))

-- The next step, and none at the end.
abbrev pub next_step : Plan → List FileState → ℕ → Option Step
next_step plan states place = step_at plan states place (file_at states (first_open plan states))
