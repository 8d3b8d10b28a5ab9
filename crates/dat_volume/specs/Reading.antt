-- What the steps of a reading tell.
use Rattle.std.specs.Prelude.{◌≡◌, ◌≢◌, ℕ, ◌<◌, ◌==◌, not, if◌then◌else◌, List, drop, Option, None}
use Rattle.wire_num.specs.Numbers.{number_of}
use Rattle.world_model.specs.Sizes.{max_data}
use Rattle.world_model.specs.declared.types.What.TheVariants as what
use Rattle.volume_forms.specs.declared.Entry.{Entry}
use Rattle.volume_forms.specs.Kept.{fields_size}
use Rattle.needle_record.specs.declared.NeedleFault.{NeedleFault}
use Rattle.needle_record.specs.declared.NeedleFault.TheVariants as fault
use Rattle.needle_record.specs.Reading.{size_at}
use Rattle.dat_volume.specs.declared.fault.GetFault.{GetFault}
use Rattle.dat_volume.specs.declared.fault.GetFault.TheVariants as get_fault
use Rattle.dat_volume.specs.Needles.{Damage, damage_of}

-- the bytes are to begin with the entry's id and size
unfoldable pub front_damage : List ℕ → Entry → Option Damage
front_damage bytes e =
    if not (number_of 8 (drop 4 bytes) == e.id) then damage_of what.Id e.id (number_of 8 (drop 4 bytes))
    else if not (size_at bytes == fields_size e.size) then damage_of what.Size (fields_size e.size) (size_at bytes)
    else None

-- the fault tells this damage, or that memory ran out
abbrev pub Tells : Option Damage → GetFault → Type 0
Tells damage (get_fault.Fault device) = ⊥
Tells damage (get_fault.Damaged w a b) = damage ≡ damage_of w a b
Tells damage get_fault.Memory = Unit {0}

-- a damage that is told is an end behind the file's
abbrev pub TellsEnd : ℕ → ℕ → GetFault → Type 0
TellsEnd end long (get_fault.Fault device) = Unit {0}
TellsEnd end long (get_fault.Damaged w a b) = (w ≡ what.End) × (a ≡ end) × (b ≡ long) × (long < end)
TellsEnd end long get_fault.Memory = Unit {0}

-- why a whole record isn't read
abbrev pub IsWholeFault : NeedleFault → Type 0
IsWholeFault fault.Short = ⊥
IsWholeFault (fault.SizeMismatch size taken) = size ≢ taken
IsWholeFault (fault.Checksum stored computed) = stored ≢ computed
IsWholeFault (fault.EmptyBody size) = size ≢ 0
IsWholeFault (fault.TooLarge long) = max_data < long
IsWholeFault fault.Memory = Unit {0}
