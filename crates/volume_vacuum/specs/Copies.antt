-- What is made of index entries, in the order of their records' places.
use Rattle.std.specs.Prelude.{◌≡◌, ℕ, ◌+◌, ◌*◌, ◌/◌, ◌≤◌, nat_lt, if◌then◌else◌, List, [], ◌∷◌, ◌++◌, take, drop, flat_map, Option, Some, None}
use Rattle.std.specs.FinMap.{insert, values}
use Rattle.std.specs.List.Sorted.{IsPermutation, IsNonDecreasingBy}
use Rattle.wire_num.specs.Numbers.{record_length}
use Rattle.world_model.specs.declared.types.What.TheVariants as what
use Rattle.site_model.specs.Disk.{Place, Files, standing}
use Rattle.volume_forms.specs.declared.Entry.{Entry}
use Rattle.volume_forms.specs.Forms.{entry_bytes}
use Rattle.volume_forms.specs.Kept.{fields_size, entry_end}
use Rattle.needle_record.specs.Records.{Index}
use Rattle.dat_volume.specs.declared.reading.Place.{Place as Range}
use Rattle.dat_volume.specs.declared.fault.GetFault.{GetFault}
use Rattle.dat_volume.specs.declared.fault.GetFault.TheVariants as get_fault
use Rattle.dat_volume.specs.Needles.{Damage, damage_of, header_damage, first_damage}

-- the entries of an index, by the places of their records
pub record IsByPlace (index : Index) (es : List Entry) : Type 0 where
  pub permutation : IsPermutation (values index) es
  pub rising : IsNonDecreasingBy (λ e. e.offset) es

-- ---- the records one after the other

abbrev pub length_by : Entry → ℕ
length_by e = record_length (fields_size e.size)

-- the entry with its record at another place
abbrev pub entry_moved : ℕ → Entry → Entry
entry_moved place e = record e { offset = place / 8 }

-- their entries, of which the first has this place
unfoldable pub moved_entries : ℕ → List Entry → List Entry
moved_entries place [] = []
moved_entries place (e ∷ es) = entry_moved place e ∷ moved_entries (place + length_by e) es

-- where the last of them ends
unfoldable pub moved_end : ℕ → List Entry → ℕ
moved_end place [] = place
moved_end place (e ∷ es) = moved_end (place + length_by e) es

-- the index with these entries too
unfoldable pub with_all : Index → List Entry → Index
with_all index [] = index
with_all index (e ∷ es) = with_all (insert index e.id e) es

abbrev pub index_bytes : List Entry → List ℕ
index_bytes es = flat_map entry_bytes es

-- the bytes of the entry's record, as they stand in the data file
abbrev pub bytes_by : List ℕ → Entry → List ℕ
bytes_by dat e = take (length_by e) (drop (8 * e.offset) dat)

abbrev pub copied : List ℕ → List Entry → List ℕ
copied dat es = flat_map (bytes_by dat) es

-- the bytes of a range
abbrev pub range_bytes : List ℕ → Range → List ℕ
range_bytes dat range = take range.length (drop range.at dat)

-- each record ends within so many bytes
abbrev pub EndWithin : ℕ → List Entry → Type 0
EndWithin n [] = Unit {0}
EndWithin n (e ∷ es) = (entry_end e ≤ n) × EndWithin n es

-- the bytes are put behind those of the file, which stands
pub record Grows (p : Place) (bytes : List ℕ) (old new : Files) : Type 0 where
  pub behind : (front : List ℕ) → standing (old p) ≡ Some front → standing (new p) ≡ Some (front ++ bytes)

-- A front of the two ranges is put behind the file, and the range that is kept is the rest of them.
pub record Joins (p : Place) (dat : List ℕ) (range next kept : Range) (old new : Files) : Type 0 where
  pub front : List ℕ
  pub grows : Grows p front old new
  pub both : front ++ range_bytes dat kept ≡ range_bytes dat range ++ range_bytes dat next

-- ---- what is damaged

-- the first record is to begin no earlier than here, and each other one where the one before it ends or later
unfoldable pub overlap : ℕ → List Entry → Option Damage
overlap end [] = None
overlap end (e ∷ es) = if nat_lt (8 * e.offset) end then damage_of what.End end (8 * e.offset) else overlap (entry_end e) es

-- the first damage of their headers
unfoldable pub headers_damage : List ℕ → List Entry → Option Damage
headers_damage dat [] = None
headers_damage dat (e ∷ es) = first_damage (header_damage dat e) (headers_damage dat es)

-- a damage that is told is this one
abbrev pub TellsFirst : Option Damage → GetFault → Type 0
TellsFirst damage (get_fault.Fault device) = Unit {0}
TellsFirst damage (get_fault.Damaged w a b) = damage ≡ damage_of w a b
TellsFirst damage get_fault.Memory = Unit {0}
