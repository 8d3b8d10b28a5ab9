-- What the headers of records tell, one after the other.
use Rattle.std.specs.Prelude.{ℕ, zero, suc, ◌+◌, ◌-◌, ◌^◌, ◌<◌, ◌≤◌, ◌||◌, nat_lt, if◌then◌else◌, Bool, List, [], ◌∷◌, length, drop, Result, Ok, Err}
use Rattle.wire_num.specs.Numbers.{number_of, record_length}
use Rattle.volume_forms.specs.declared.Entry.{Entry}
use Rattle.volume_forms.specs.Forms.{entry_for}
use Rattle.volume_fix.specs.declared.Past.{Past}

-- a header: cookie, id, size
abbrev pub header_length : ℕ
header_length = 16

abbrev pub id_of : List ℕ → ℕ
id_of header = number_of 8 (drop 4 header)

abbrev pub entry_size : List ℕ → ℕ
entry_size header = number_of 4 (drop 12 header)

-- the greatest size that an entry has
abbrev pub max_size : ℕ
max_size = 2 ^ 31 - 1

-- a record of this size ends past the end, or no entry has its size
abbrev pub is_past : ℕ → ℕ → ℕ → Bool
is_past end at size = nat_lt end (at + record_length size) || nat_lt max_size size

-- the entries of records, and the place behind the last of them, or the record that is past the end
pub record Walk : Type 0 where
  pub entries : List Entry
  pub next : Result ℕ Past

-- a walk that came to a next place left fewer bytes than a header has, and no record ended past the end
pub record LeavesNoHeader (end at count next : ℕ) : Type 0 where
  pub onward : at ≤ next
  pub left : at + count < next + header_length
  pub within : at ≤ end → next ≤ end

-- the entry and the length of a record at a place, by its id and size
abbrev pub entry_if_within : (end at id size : ℕ) → Result (Entry × ℕ) Past
entry_if_within end at id size =
    if is_past end at size then Err (record { at = at; length = record_length size }) else Ok (entry_for id at size, record_length size)

-- the same of the record whose header the bytes begin with
abbrev pub entry_or_past : ℕ → ℕ → List ℕ → Result (Entry × ℕ) Past
entry_or_past end at bytes = entry_if_within end at (id_of bytes) (entry_size bytes)

-- an entry, and then those of the walk from the end of its record
abbrev pub walk_on : (ℕ → List ℕ → Walk) → ℕ → List ℕ → Result (Entry × ℕ) Past → Walk
walk_on more at bytes (Err past) = record { entries = []; next = Err past }
walk_on more at bytes (Ok found) =
    record { entries = found.0 ∷ (more (at + found.1) (drop found.1 bytes)).entries; next = (more (at + found.1) (drop found.1 bytes)).next }

-- at most n records, the first at the place
unfoldable pub walk_within : ℕ → ℕ → ℕ → List ℕ → Walk
walk_within zero end at bytes = record { entries = []; next = Ok at }
walk_within (suc n) end at bytes = if nat_lt (length bytes) header_length then record { entries = []; next = Ok at } else walk_on (walk_within n end) at bytes (entry_or_past end at bytes)

-- The walk over the records whose headers lie whole in the bytes. The first record stands at the place, each other one where the one before it ends.
unfoldable pub walk : ℕ → ℕ → List ℕ → Walk
walk end at bytes = walk_within (length bytes) end at bytes
