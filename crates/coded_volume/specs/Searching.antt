-- How an id is searched in the indexes of a volume, at one server with a shard after the other.
use Rattle.std.specs.Prelude.{◌≡◌, ◌⊎◌, ℕ, ◌+◌, ◌*◌, ◌/◌, ◌^◌, ◌<◌, ◌≤◌, List, Option, Some}
use Rattle.site_model.specs.Disk.{Files, length_of}
use Rattle.site_model.specs.Counts.{Counts, Rose, TakesCalls}
use Rattle.volume_forms.specs.declared.Entry.{Entry}
use Rattle.shard_table.specs.Table.{Row, place_in}
use Rattle.ecx_index.specs.Search.{IsEntryOf, entries_in}

-- one of the first shards of the row is at the server
abbrev pub HasOneOf : Row → ℕ → ℕ → Type 0
HasOneOf row shards server = (i : ℕ) × (i < shards) × (place_in row i ≡ Some server)

-- the index at one of these servers has this entry of the id, or none
pub record IsFound (files : Files) (row : Row) (shards : ℕ) (name : List ℕ) (id : ℕ) (found : Option Entry) : Type 0 where
  pub server : ℕ
  pub holds : HasOneOf row shards server
  pub entry : IsEntryOf (entries_in (files (server, name))) id found

-- none of these indexes has more entries
abbrev pub HaveAtMost : ℕ → Files → Row → ℕ → List ℕ → Type 0
HaveAtMost n files row shards name = (server : ℕ) → HasOneOf row shards server → length_of (files (server, name)) / 16 ≤ n

-- So many searches, each of one call more than these reads of an entry, which are none, or by one more than the binary logarithm of n at most.
pub record TakesSearches (searches n : ℕ) (old new : Counts) : Type 0 where
  pub reads : ℕ
  pub takes : TakesCalls (searches * (reads + 1)) 16 old new
  pub few : (reads ≡ 0) ⊎ (2 ^ reads ≤ 2 * n)

-- the faults rose of each server with a shard below this one
abbrev pub HaveFailed : Row → ℕ → ℕ → Counts → Counts → Type 0
HaveFailed row shards below old new = (server : ℕ) → server < below → HasOneOf row shards server → Rose (old.faults server) (new.faults server)
