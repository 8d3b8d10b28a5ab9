-- How a deletion comes to all holders of a volume.
use Rattle.std.specs.Prelude.{◌≡◌, ℕ, ◌<◌, List, [], unwrap_or}
use Rattle.site_model.specs.Disk.{Place, Files, Image, IsFirm, bytes_of, Disk}
use Rattle.site_model.specs.Counts.{Counts, Rose}
use Rattle.site_model.specs.Leaves.{Leaves}
use Rattle.site_model.specs.Touches.{Touches}
use Rattle.wire_num.specs.Pairs.{journal_bytes}
use Rattle.wire_num.specs.Laws.Pair.{AreIds, HasOrGains}
use Rattle.shard_table.specs.Table.{Row}
use Rattle.shard_table.specs.Even.{count_on}
use Rattle.ecj_journal.specs.Journals.{AppendsPair}

-- the table has a shard of the volume there
abbrev pub HasShard : Row → ℕ → Type 0
HasShard row server = 0 < count_on row server

-- the journal of one of these servers
abbrev pub IsJournalPlace : ℕ → Row → List ℕ → Place → Type 0
IsJournalPlace servers row name k = (server : ℕ) × (server < servers) × HasShard row server × (k ≡ (server, name))

-- each journal is that of these ids
abbrev pub AreJournals : ℕ → Row → List ℕ → List ℕ → Files → Type 0
AreJournals servers row name ids files = (server : ℕ) → server < servers → HasShard row server → bytes_of (files (server, name)) ≡ journal_bytes ids

-- a file that is firm, or absent, and the journal of these ids
pub record IsFirmJournal (files : Files) (p : Place) (ids : List ℕ) : Type 0 where
  pub firm : IsFirm (files p)
  pub bytes : bytes_of (files p) ≡ journal_bytes ids

-- each is firm, too
abbrev pub AreFirmJournals : ℕ → Row → List ℕ → List ℕ → Files → Type 0
AreFirmJournals servers row name ids files = (server : ℕ) → server < servers → HasShard row server → IsFirmJournal files (server, name) ids

-- each journal has the ids, or this one more, and at most 16 bytes behind
abbrev pub AllHaveOrGain : ℕ → Row → List ℕ → List ℕ → ℕ → Image → Type 0
AllHaveOrGain servers row name ids id image = (server : ℕ) → server < servers → HasShard row server → HasOrGains ids id (unwrap_or (image (server, name)) [])

-- An id is put behind the journals of all servers with a shard. A stop leaves each with it or without.
pub record AppendsEverywhere (servers : ℕ) (row : Row) (name : List ℕ) (id : ℕ) (old new : Disk) : Type 0 where
  pub touches : Touches (IsJournalPlace servers row name) old new
  pub leaves : (ids : List ℕ) → AreIds ids → AreFirmJournals servers row name ids old.files → Leaves old new (λ image said. AllHaveOrGain servers row name ids id image)

-- The same at one server, if it has a shard.
pub record AppendsAt (row : Row) (server : ℕ) (name : List ℕ) (id : ℕ) (old new : Disk) : Type 0 where
  pub holder : HasShard row server → AppendsPair (server, name) id old new
  pub other : (HasShard row server → ⊥) → new ≡ old

-- the server's faults in calls that write rose
abbrev pub WritesRose : ℕ → Counts → Counts → Type 0
WritesRose server old new = Rose (old.write_faults server) (new.write_faults server)
