-- What a search in an index finds, and in how many reads.
use Rattle.std.specs.Prelude.{◌≡◌, ◌≢◌, ◌⊎◌, ℕ, ◌+◌, ◌*◌, ◌^◌, ◌≤◌, List, map, Option, Some, None, Contains}
use Rattle.std.specs.List.{All}
use Rattle.std.specs.List.Sorted.{IsStrictlyIncreasing}
use Rattle.site_model.specs.Disk.{File, bytes_of}
use Rattle.site_model.specs.Counts.{Counts, TakesCalls}
use Rattle.volume_forms.specs.declared.Entry.{Entry}
use Rattle.volume_forms.specs.Forms.{entries}

-- the whole entries of a file
abbrev pub entries_in : Option File → List Entry
entries_in file = entries (bytes_of file)

-- the ids rise strictly, so none comes twice
abbrev pub HasRisingIds : List Entry → Type 0
HasRisingIds es = IsStrictlyIncreasing (map (λ e. e.id) es)

-- an entry of the id; or none has it, where the ids rise
abbrev pub IsEntryOf : List Entry → ℕ → Option Entry → Type 0
IsEntryOf es id None = HasRisingIds es → All (λ e. e.id ≢ id) es
IsEntryOf es id (Some e) = Contains es e × (e.id ≡ id)

-- one call more than these reads of an entry, which are none, or by one more than the binary logarithm of n at most
pub record TakesFewReads (n : ℕ) (old new : Counts) : Type 0 where
  pub reads : ℕ
  pub takes : TakesCalls (reads + 1) 16 old new
  pub few : (reads ≡ 0) ⊎ (2 ^ reads ≤ 2 * n)
