-- What the record at an entry's place tells.
use Rattle.std.specs.Prelude.{◌≡◌, ◌≢◌, ℕ, ◌*◌, ◌==◌, not, nat_lt, if◌then◌else◌, IsTrue, List, ◌++◌, length, drop, Option, Some, None, Result, Ok, Err}
use Rattle.wire_num.specs.Numbers.{number_of}
use Rattle.world_model.specs.Sizes.{max_data}
use Rattle.world_model.specs.World.{Needle}
use Rattle.world_model.specs.declared.types.Content.{Content}
use Rattle.world_model.specs.declared.types.What.{What}
use Rattle.world_model.specs.declared.types.What.TheVariants as what
use Rattle.volume_forms.specs.declared.Entry.{Entry}
use Rattle.volume_forms.specs.Forms.{has_super}
use Rattle.volume_forms.specs.Kept.{fields_size, entry_end}
use Rattle.needle_record.specs.declared.Record.{Record}
use Rattle.needle_record.specs.declared.NeedleFault.{NeedleFault}
use Rattle.needle_record.specs.declared.NeedleFault.TheVariants as fault
use Rattle.needle_record.specs.Spelling.{length_of_record}
use Rattle.needle_record.specs.Reading.{needle_at, size_at}
use Rattle.needle_record.specs.Records.{Placed, Index, records, end_of, index_of, IsWholeDat}
use Rattle.dat_volume.specs.declared.fault.GetFault.{GetFault}
use Rattle.dat_volume.specs.declared.fault.GetFault.TheVariants as get_fault

-- what follows in the data file from the entry's place on
abbrev pub bytes_from : List ℕ → Entry → List ℕ
bytes_from dat e = drop (8 * e.offset) dat

-- two numbers of which the second was to be the first
pub record Damage : Type 0 where
  pub what : What
  pub a : ℕ
  pub b : ℕ

abbrev pub damage_of : What → ℕ → ℕ → Option Damage
damage_of w a b = Some (record { what = w; a = a; b = b })

-- The record is to end within the data file, and to begin with the entry's id and size.
unfoldable pub header_damage : List ℕ → Entry → Option Damage
header_damage dat e =
    if nat_lt (length dat) (entry_end e) then damage_of what.End (entry_end e) (length dat)
    else if not (number_of 8 (drop 4 (bytes_from dat e)) == e.id) then damage_of what.Id e.id (number_of 8 (drop 4 (bytes_from dat e)))
    else if not (size_at (bytes_from dat e) == fields_size e.size) then damage_of what.Size (fields_size e.size) (size_at (bytes_from dat e))
    else None

-- Its fields are to fill the size, its checksum is to be one of its data, and the data is neither empty nor too large.
abbrev pub reading_damage : Result (Record × ℕ) NeedleFault → Option Damage
reading_damage (Ok found) = None
reading_damage (Err fault.Short) = None
reading_damage (Err (fault.SizeMismatch size taken)) = damage_of what.Body size taken
reading_damage (Err (fault.Checksum stored computed)) = damage_of what.Checksum stored computed
reading_damage (Err (fault.EmptyBody size)) = damage_of what.Empty size 0
reading_damage (Err (fault.TooLarge long)) = damage_of what.Large long max_data
reading_damage (Err fault.Memory) = None

abbrev pub first_damage : Option Damage → Option Damage → Option Damage
first_damage None second = second
first_damage (Some d) second = Some d

-- the first of all these that is otherwise
abbrev pub record_damage : List ℕ → Entry → Option Damage
record_damage dat e = first_damage (header_damage dat e) (reading_damage (needle_at (bytes_from dat e)))

-- ---- answers

-- Nothing where the index has no entry, and else the record that is read at the entry's place.
abbrev pub IsRecordAt : List ℕ → Option Entry → Option Record → Type 0
IsRecordAt dat None found = found ≡ None
IsRecordAt dat (Some e) None = ⊥
IsRecordAt dat (Some e) (Some r) = (header_damage dat e ≡ None) × (needle_at (bytes_from dat e) ≡ Ok (r, length_of_record r))

-- the same of the cookie, for which the header alone is read
abbrev pub IsCookieAt : List ℕ → Option Entry → Option ℕ → Type 0
IsCookieAt dat None found = found ≡ None
IsCookieAt dat (Some e) None = ⊥
IsCookieAt dat (Some e) (Some cookie) = (header_damage dat e ≡ None) × (cookie ≡ number_of 4 (bytes_from dat e))

-- a damage that is told is the first one
abbrev pub TellsDamage : (Entry → Option Damage) → Option Entry → GetFault → Type 0
TellsDamage damage entry (get_fault.Fault device) = Unit {0}
TellsDamage damage entry (get_fault.Damaged w a b) = (e : Entry) × (entry ≡ Some e) × (damage e ≡ damage_of w a b)
TellsDamage damage entry get_fault.Memory = Unit {0}

-- and its two numbers differ
abbrev pub HasDifference : GetFault → Type 0
HasDifference (get_fault.Fault device) = Unit {0}
HasDifference (get_fault.Damaged w a b) = a ≢ b
HasDifference get_fault.Memory = Unit {0}

-- ---- a volume's needles

-- The data file begins with an accepted super block and these records. The index is their live entries, and so much is used.
pub record BeginsWith (dat : List ℕ) (index : Index) (used : ℕ) (ps : List Placed) : Type 0 where
  pub front : List ℕ
  pub more : List ℕ
  pub begins : dat ≡ front ++ more
  pub super : IsTrue (has_super front)
  pub whole : IsWholeDat front
  pub has : records front ≡ ps
  pub live : index ≡ index_of ps
  pub uses : used ≡ end_of ps

-- the record is the one of the id's needle
abbrev pub IsNeedle : ℕ → Option Record → Option Needle → Type 0
IsNeedle id None needle = needle ≡ None
IsNeedle id (Some r) needle = (c : Content) × (r.id ≡ id) × (r.content ≡ Some c) × (needle ≡ Some (record { cookie = r.cookie; content = c }))

abbrev pub IsCookie : Option ℕ → Option Needle → Type 0
IsCookie None needle = needle ≡ None
IsCookie (Some cookie) needle = (c : Content) × (needle ≡ Some (record { cookie = cookie; content = c }))

abbrev pub IsNoDamage : GetFault → Type 0
IsNoDamage (get_fault.Fault device) = Unit {0}
IsNoDamage (get_fault.Damaged w a b) = ⊥
IsNoDamage get_fault.Memory = Unit {0}
