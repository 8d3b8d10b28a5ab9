-- Which step is legal: the table.
use Rattle.std.specs.Prelude.{ℕ, ◌-◌, ◌/◌, nat_lt, ◌==◌, ◌&&◌, not, Bool, true, false, if◌then◌else◌, List, Option, IfSome, IsTrue}
use Rattle.std.specs.List.{list_any}
use Rattle.file_names.specs.declared.Kind.{Kind}
use Rattle.file_names.specs.declared.Kind.TheVariants.{Dat, Idx, Cpd, Cpx, Shard, Ecx, Ecj, Vif}
use Rattle.file_names.specs.Names.{is_kind, is_coded_kind}
use Rattle.shard_table.specs.Table.{Row}
use Rattle.plan_steps.specs.declared.plan.Plan.{Plan}
use Rattle.plan_steps.specs.declared.plan.Stage.{Stage}
use Rattle.plan_steps.specs.declared.plan.Stage.TheVariants.{Absent, Writing, Synced, Registered, Gone}
use Rattle.plan_steps.specs.declared.plan.FileState.{FileState}
use Rattle.plan_steps.specs.declared.step.Step.{Step}
use Rattle.plan_steps.specs.declared.step.Step.TheVariants.{PutInfo, WriteEntries, PutJournal, MakePiece, MendPiece, JoinPiece, JoinDeletes, CopyPiece, Sync, Register, Unregister, DropIndex, DropData}
use Rattle.plan_steps.specs.declared.plan.Progress.{Progress}
use Rattle.plan_steps.specs.Planned.{is_encode}
use Rattle.plan_steps.specs.Plans.{IsPlan}
use Rattle.plan_steps.specs.Progressing.{running, IsOnItsWay}
use Rattle.plan_steps.specs.Walk.{is_file, has_file, same_kind}
use Rattle.plan_steps.specs.May.{has_some_shard, may_register, may_remove}
use Rattle.plan_steps.specs.Next.{is_behind, is_synced, is_data, is_made, is_whole, make_step, join_step}

-- ---- in order

-- the piece of shards has this row and this place
abbrev pub is_make : ℕ → ℕ → Step → Bool
is_make row at (PutInfo server) = false
is_make row at (WriteEntries a) = false
is_make row at (PutJournal server a) = false
is_make row at (MakePiece r a) = (r == row) && (a == at)
is_make row at (MendPiece a) = false
is_make row at (JoinPiece r b a) = false
is_make row at (JoinDeletes a) = false
is_make row at (CopyPiece from to kind a) = false
is_make row at (Sync server kind) = false
is_make row at (Register server kind) = false
is_make row at (Unregister server kind) = false
is_make row at (DropIndex server) = false
is_make row at (DropData server) = false

-- the piece of the data file has this row, this block and this place
abbrev pub is_join : ℕ → ℕ → ℕ → Step → Bool
is_join row block at (PutInfo server) = false
is_join row block at (WriteEntries a) = false
is_join row block at (PutJournal server a) = false
is_join row block at (MakePiece r a) = false
is_join row block at (MendPiece a) = false
is_join row block at (JoinPiece r b a) = (r == row) && (b == block) && (a == at)
is_join row block at (JoinDeletes a) = false
is_join row block at (CopyPiece from to kind a) = false
is_join row block at (Sync server kind) = false
is_join row block at (Register server kind) = false
is_join row block at (Unregister server kind) = false
is_join row block at (DropIndex server) = false
is_join row block at (DropData server) = false

abbrev pub is_shard : Kind → Bool
is_shard Dat = false
is_shard Idx = false
is_shard Cpd = false
is_shard Cpx = false
is_shard (Shard i) = true
is_shard Ecx = false
is_shard Ecj = false
is_shard Vif = false

-- a shard that the plan makes
abbrev pub is_made_kind : Plan → ℕ → Kind → Bool
is_made_kind plan server Dat = false
is_made_kind plan server Idx = false
is_made_kind plan server Cpd = false
is_made_kind plan server Cpx = false
is_made_kind plan server (Shard i) = is_made plan i server
is_made_kind plan server Ecx = false
is_made_kind plan server Ecj = false
is_made_kind plan server Vif = false

-- The step goes on where this file ends, which isn't synced yet. Entries go to all indexes and pieces to all shards.
abbrev pub entries_go_on : Plan → ℕ → ℕ → FileState → Bool
entries_go_on plan place at s = if is_encode plan.command then same_kind s.kind Ecx && (at == s.length / 16) else same_kind s.kind Idx && (at == place)

abbrev pub make_goes_on : Plan → ℕ → ℕ → FileState → Bool
make_goes_on plan row at s = is_shard s.kind && is_make row at (make_step plan.info s.length)

abbrev pub join_goes_on : Plan → ℕ → ℕ → ℕ → FileState → Bool
join_goes_on plan row block at s = is_data s.kind && nat_lt s.length plan.info.dat_size && is_join row block at (join_step plan.info s.length)

-- deletions come behind what the shards hold
abbrev pub is_behind_data : ℕ → ℕ → ℕ → Bool
is_behind_data size at n = if nat_lt n size then false else (at == (n - size) / 32)

abbrev pub deletes_go_on : Plan → ℕ → FileState → Bool
deletes_go_on plan at s = is_data s.kind && is_behind_data plan.info.dat_size at s.length

abbrev pub goes_on : Plan → ℕ → Step → FileState → Bool
goes_on plan place (PutInfo server) s = false
goes_on plan place (WriteEntries at) s = entries_go_on plan place at s
goes_on plan place (PutJournal server at) s = is_file server Ecj s && (at == s.length / 16)
goes_on plan place (MakePiece row at) s = make_goes_on plan row at s
goes_on plan place (MendPiece at) s = is_made_kind plan s.server s.kind && (at == s.length)
goes_on plan place (JoinPiece row block at) s = join_goes_on plan row block at s
goes_on plan place (JoinDeletes at) s = deletes_go_on plan at s
goes_on plan place (CopyPiece from to kind at) s = is_file to kind s && (at == s.length)
goes_on plan place (Sync server kind) s = false
goes_on plan place (Register server kind) s = false
goes_on plan place (Unregister server kind) s = false
goes_on plan place (DropIndex server) s = false
goes_on plan place (DropData server) s = false

abbrev pub goes_on_behind : Plan → ℕ → Step → FileState → Bool
goes_on_behind plan place step s = is_behind s.stage && goes_on plan place step s

-- some file of the list does
unfoldable pub is_in_order : Plan → List FileState → ℕ → Step → Bool
is_in_order plan states place step = list_any (goes_on_behind plan place step) states

-- ---- the files that a step finishes

abbrev pub is_writing : Stage → Bool
is_writing Absent = false
is_writing Writing = true
is_writing Synced = false
is_writing Registered = false
is_writing Gone = false

abbrev pub is_complete_as : Plan → ℕ → ℕ → Kind → FileState → Bool
is_complete_as plan place server kind s = is_file server kind s && is_writing s.stage && is_whole plan place s.length s.kind

-- the file is complete
unfoldable pub is_complete_file : Plan → List FileState → ℕ → ℕ → Kind → Bool
is_complete_file plan states place server kind = list_any (is_complete_as plan place server kind) states

-- the file is synced
unfoldable pub is_synced_file : List FileState → ℕ → Kind → Bool
is_synced_file states server kind = list_any (λ s. is_file server kind s && is_synced s.stage) states

-- a plain volume's files are dropped, not unregistered
abbrev pub may_unregister : Plan → List FileState → Row → ℕ → Kind → Bool
may_unregister plan states row server kind = is_kind kind && (is_coded_kind kind && may_remove plan states row server kind)

-- ---- the table

abbrev pub is_legal : Plan → List FileState → ℕ → Row → Step → Bool
is_legal plan states place row (PutInfo server) = not (has_some_shard plan states server)
is_legal plan states place row (WriteEntries at) = is_in_order plan states place (WriteEntries at)
is_legal plan states place row (PutJournal server at) = is_in_order plan states place (PutJournal server at)
is_legal plan states place row (MakePiece r at) = is_in_order plan states place (MakePiece r at) && has_file plan states plan.home Idx
is_legal plan states place row (MendPiece at) = is_in_order plan states place (MendPiece at)
is_legal plan states place row (JoinPiece r block at) = is_in_order plan states place (JoinPiece r block at)
is_legal plan states place row (JoinDeletes at) = is_in_order plan states place (JoinDeletes at)
is_legal plan states place row (CopyPiece from to kind at) = is_in_order plan states place (CopyPiece from to kind at)
is_legal plan states place row (Sync server kind) = is_complete_file plan states place server kind
is_legal plan states place row (Register server kind) = is_synced_file states server kind && may_register plan states server kind
is_legal plan states place row (Unregister server kind) = may_unregister plan states row server kind
is_legal plan states place row (DropIndex server) = may_remove plan states row server Idx
is_legal plan states place row (DropData server) = may_remove plan states row server Dat

-- On its way the plan gives a legal step, whichever of the servers that have a shard the table names.
abbrev pub IsLegalNext : Plan → Progress → Option Step → Type 0
IsLegalNext plan progress next =
    (servers : ℕ) (row : Row) → IsPlan plan servers → IsOnItsWay (running plan progress) row → IfSome next (λ step. IsTrue (is_legal plan progress.files.items progress.place row step))
