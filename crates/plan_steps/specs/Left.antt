-- A bound on the steps of a plan that remain, file by file over its list.
-- For `run_step` of the running plans of `plan_run`, to come.
use Rattle.std.specs.Prelude.{ℕ, ◌+◌, ◌-◌, ◌*◌, ◌/◌, ◌%◌, nat_lt, max, if◌then◌else◌, List, length}
use Rattle.std.specs.List.{sum_by}
use Rattle.world_model.specs.Sizes.{deletion_length}
use Rattle.world_model.specs.declared.types.Command.{Command}
use Rattle.world_model.specs.declared.types.Command.TheVariants.{Encode, Rebuild, Balance, Decode}
use Rattle.site_model.specs.Counts.{widest_piece}
use Rattle.file_names.specs.declared.Kind.{Kind}
use Rattle.file_names.specs.declared.Kind.TheVariants.{Dat, Idx, Cpd, Cpx, Shard, Ecx, Ecj, Vif}
use Rattle.stripe_layout.specs.declared.Info.{Info}
use Rattle.stripe_layout.specs.Stripes.{rounded_up, shard_length}
use Rattle.stripe_layout.specs.Pieces.{large_part}
use Rattle.plan_steps.specs.declared.plan.Plan.{Plan}
use Rattle.plan_steps.specs.declared.plan.Stage.{Stage}
use Rattle.plan_steps.specs.declared.plan.Stage.TheVariants.{Absent, Writing, Synced, Registered, Gone}
use Rattle.plan_steps.specs.declared.plan.FileState.{FileState}
use Rattle.plan_steps.specs.Planned.{is_found}
use Rattle.plan_steps.specs.PieceCounts.{block_pieces}
use Rattle.plan_steps.specs.Next.{joined_length, large_end}

-- ---- how long pieces are

-- the entries, the pairs or the deletions of one piece
abbrev pub list_piece : ℕ
list_piece = 2048

-- the length of a record's header, which a reading takes whole or not at all
abbrev pub header_length : ℕ
header_length = 16

-- how far a reading of records comes at least that doesn't reach the end: less than a header is left over
abbrev pub least_read : ℕ
least_read = widest_piece + 1 - header_length

-- ---- the pieces that are left

-- of so many bytes to the end of rows of blocks, where no piece goes past its block
abbrev pub in_blocks : (size n : ℕ) → ℕ
in_blocks size n = n / size * block_pieces size + rounded_up (n % size) widest_piece

-- of a shard that is made, from its first n bytes on
abbrev pub make_left : Info → ℕ → ℕ
make_left info n =
    in_blocks info.geometry.large (large_part info.geometry info.dat_size - n)
    + in_blocks info.geometry.small (shard_length info.geometry info.dat_size - max (large_part info.geometry info.dat_size) n)

-- where the last block ends that a data file has a part of
abbrev pub join_end : Info → ℕ
join_end info = large_end info + rounded_up (info.dat_size - large_end info) info.geometry.small * info.geometry.small

-- of a data file, as far as the shards hold it
abbrev pub join_left : Info → ℕ → ℕ
join_left info n =
    if nat_lt n info.dat_size then in_blocks info.geometry.large (large_end info - n) + in_blocks info.geometry.small (join_end info - max (large_end info) n)
    else 0

-- and with the deletions behind that
abbrev pub data_left : Plan → ℕ → ℕ
data_left plan n = join_left plan.info n + rounded_up (joined_length plan - max plan.info.dat_size n) (deletion_length * list_piece)

-- a shard that isn't made of a data file goes in plain pieces
abbrev pub shard_left : Plan → Command → ℕ → ℕ
shard_left plan (Encode ratio) n = make_left plan.info n
shard_left plan Rebuild n = rounded_up (shard_length plan.info.geometry plan.info.dat_size - n) widest_piece
shard_left plan Balance n = rounded_up (shard_length plan.info.geometry plan.info.dat_size - n) widest_piece
shard_left plan Decode n = rounded_up (shard_length plan.info.geometry plan.info.dat_size - n) widest_piece

-- an index is written by an encode, and else copied
abbrev pub index_left : Plan → Command → ℕ → ℕ
index_left plan (Encode ratio) n = rounded_up (16 * length plan.entries.items - n) (16 * list_piece)
index_left plan Rebuild n = rounded_up (16 * plan.entry_count - n) widest_piece
index_left plan Balance n = rounded_up (16 * plan.entry_count - n) widest_piece
index_left plan Decode n = rounded_up (16 * plan.entry_count - n) widest_piece

-- of any file behind its first n bytes, where a decode's next record has this place
abbrev pub pieces_left : Plan → ℕ → ℕ → Kind → ℕ
pieces_left plan place n Dat = data_left plan n
pieces_left plan place n Idx = rounded_up (joined_length plan - place) least_read
pieces_left plan place n Cpd = 0
pieces_left plan place n Cpx = 0
pieces_left plan place n (Shard i) = shard_left plan plan.command n
pieces_left plan place n Ecx = index_left plan plan.command n
pieces_left plan place n Ecj = rounded_up (16 * length plan.deleted.items - n) (16 * list_piece)
pieces_left plan place n Vif = 0

-- ---- the steps that are left

-- A file is written in so many pieces, in one where it is empty; then it is synced and gets its name.
abbrev pub written_left : ℕ → Stage → ℕ
written_left pieces Absent = max 1 pieces + 2
written_left pieces Writing = pieces + 2
written_left pieces Synced = 1
written_left pieces Registered = 0
written_left pieces Gone = 1

-- a text comes by one step
abbrev pub text_left : Stage → ℕ
text_left Absent = 1
text_left Writing = 1
text_left Synced = 1
text_left Registered = 0
text_left Gone = 1

-- and so goes what was found
abbrev pub going_left : Stage → ℕ
going_left Absent = 1
going_left Writing = 1
going_left Synced = 1
going_left Registered = 1
going_left Gone = 0

abbrev pub coming_left : Plan → ℕ → ℕ → Stage → Kind → ℕ
coming_left plan place n stage Dat = written_left (pieces_left plan place n Dat) stage
coming_left plan place n stage Idx = written_left (pieces_left plan place n Idx) stage
coming_left plan place n stage Cpd = written_left (pieces_left plan place n Cpd) stage
coming_left plan place n stage Cpx = written_left (pieces_left plan place n Cpx) stage
coming_left plan place n stage (Shard i) = written_left (pieces_left plan place n (Shard i)) stage
coming_left plan place n stage Ecx = written_left (pieces_left plan place n Ecx) stage
coming_left plan place n stage Ecj = written_left (pieces_left plan place n Ecj) stage
coming_left plan place n stage Vif = text_left stage

abbrev pub file_left : Plan → ℕ → FileState → ℕ
file_left plan place s = if is_found plan plan.command s.server s.kind then going_left s.stage else coming_left plan place s.length s.stage s.kind

-- The steps that remain are at most so many, and none exactly where no step is next.
abbrev pub left_of : Plan → List FileState → ℕ → ℕ
left_of plan states place = sum_by (file_left plan place) states
