-- What is recorded of a site in memory, and what it makes of a disk.
use Rattle.std.specs.Prelude.{ℕ, ◌==◌, ◌&&◌, Bool, if◌then◌else◌, bytes_eq, String, string_bytes, Vec, List, [], ◌∷◌, ◌++◌, Option, Some, None}
use Rattle.std.specs.Borrow.{Bor}
use Rattle.std.specs.declared.alloc.Global.{Global}
use Rattle.site_model.specs.Disk.{File, Place, Files, Call, Disk, Moment, moment, grown, synced, cut_to, firm_file, appends, syncs, cuts, renames, removes, says}
use Rattle.site_mem.specs.declared.asked.Asked.{Asked}
use Rattle.site_mem.specs.declared.asked.Asked.TheVariants.{Add, Tell, Append, Sync, Cut, Rename, Remove, Say}

-- a file that was there at first, what had been said at first, or a call
pub data Event : Type 0 where
  added : Place → List ℕ → Event
  told : List ℕ → Event
  called : Call → Event

abbrev pub is_place : Place → Place → Bool
is_place p k = (k.0 == p.0) && bytes_eq k.1 p.1

-- the files with this at that place
abbrev pub put_file : Place → Option File → Files → Files
put_file p file files = λ k. if is_place p k then file else files k

-- what a call that is carried out makes of the files
abbrev pub files_called : Call → Files → Files
files_called (appends p bytes) files = put_file p (Some (grown (files p) bytes)) files
files_called (syncs p) files = put_file p (synced (files p)) files
files_called (cuts p n) files = put_file p (cut_to n (files p)) files
files_called (renames p q) files = put_file q (files p) (put_file p None files)
files_called (removes p) files = put_file p None files
files_called (says bytes) files = files

abbrev pub files_after : Event → Files → Files
files_after (added p bytes) files = put_file p (Some (firm_file bytes)) files
files_after (told bytes) files = files
files_after (called call) files = files_called call files

abbrev pub said_called : Call → List ℕ → List ℕ
said_called (appends p bytes) said = said
said_called (syncs p) said = said
said_called (cuts p n) said = said
said_called (renames p q) said = said
said_called (removes p) said = said
said_called (says bytes) said = said ++ bytes

abbrev pub said_after : Event → List ℕ → List ℕ
said_after (added p bytes) said = said
said_after (told bytes) said = said ++ bytes
said_after (called call) said = said_called call said

abbrev pub past_after : Event → Disk → List Moment
past_after (added p bytes) d = d.past
past_after (told bytes) d = d.past
past_after (called call) d = d.past ++ moment call d ∷ []

-- the disk after what was carried out
abbrev pub done : Event → Disk → Disk
done event d = record { files = files_after event d.files; said = said_after event d.said; past = past_after event d }

-- the disk after what was begun and had no effect
abbrev pub begun : Event → Disk → Disk
begun event d = record { files = d.files; said = d.said; past = past_after event d }

abbrev pub after : Bool → Event → Disk → Disk
after is_done event d = if is_done then done event d else begun event d

-- what is asked now
abbrev pub event_now : Asked (Bor (List ℕ)) (Bor (List ℕ)) → Event
event_now (Add server name bytes) = added (server, name.now) bytes.now
event_now (Tell bytes) = told bytes.now
event_now (Append server name bytes) = called (appends (server, name.now) bytes.now)
event_now (Sync server name) = called (syncs (server, name.now))
event_now (Cut server name length) = called (cuts (server, name.now) length)
event_now (Rename server old new) = called (renames (server, old.now) (server, new.now))
event_now (Remove server name) = called (removes (server, name.now))
event_now (Say bytes) = called (says bytes.now)

-- what was asked
abbrev pub event_kept : Asked (String Global) (Vec ℕ Global) → Event
event_kept (Add server name bytes) = added (server, string_bytes name) bytes.items
event_kept (Tell bytes) = told bytes.items
event_kept (Append server name bytes) = called (appends (server, string_bytes name) bytes.items)
event_kept (Sync server name) = called (syncs (server, string_bytes name))
event_kept (Cut server name length) = called (cuts (server, string_bytes name) length)
event_kept (Rename server old new) = called (renames (server, string_bytes old) (server, string_bytes new))
event_kept (Remove server name) = called (removes (server, string_bytes name))
event_kept (Say bytes) = called (says bytes.items)
