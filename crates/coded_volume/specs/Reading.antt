-- What a read of a coded volume's needle tells, and in how many calls.
use Rattle.std.specs.Prelude.{◌≡◌, ◌⊎◌, ℕ, ◌+◌, ◌*◌, ◌^◌, ◌≤◌, nat_eq, Bool, true, false, List, length, take, Option, None, Some}
use Rattle.std.specs.List.{list_any}
use Rattle.site_model.specs.Disk.{Files}
use Rattle.site_model.specs.Counts.{Counts, TakesCalls}
use Rattle.wire_num.specs.Numbers.{record_length}
use Rattle.file_names.specs.Names.{name_bytes}
use Rattle.file_names.specs.declared.Kind.TheVariants.{Ecx}
use Rattle.volume_forms.specs.declared.Entry.{Entry}
use Rattle.volume_forms.specs.Kept.{fields_size}
use Rattle.needle_record.specs.Records.{Placed, StandsIn, entry_of}
use Rattle.stripe_layout.specs.declared.Piece.{Piece}
use Rattle.stripe_layout.specs.Pieces.{AreLocated}
use Rattle.stripe_layout.specs.Stripes.{shards_in_all}
use Rattle.shard_table.specs.Table.{Row}
use Rattle.dat_volume.specs.declared.fault.GetFault.{GetFault}
use Rattle.dat_volume.specs.declared.fault.GetFault.TheVariants as get_fault
use Rattle.dat_volume.specs.Needles.{bytes_from, HasDifference, IsNoDamage}
use Rattle.dat_volume.specs.Reading.{front_damage}
use Rattle.degraded_read.specs.Reading.{shards_standing}
use Rattle.degraded_read.specs.Ranges.{parts_of}
use Rattle.degraded_read.specs.Reads.{IsFew}
use Rattle.coded_volume.specs.declared.volume.CodedVolume.{CodedVolume}
use Rattle.coded_volume.specs.Agrees.{IfAgrees, own_dat}
use Rattle.coded_volume.specs.Searching.{HaveAtMost, IsFound, TakesSearches}

-- the id is deleted
abbrev pub is_deleted : CodedVolume → ℕ → Bool
is_deleted volume id = list_any (λ other. nat_eq other id) volume.deleted.items

-- ---- faults

-- A server's fault is told only where fewer shards than give the others stand on servers whose faults didn't rise.
abbrev pub TellsFew : CodedVolume → Row → Counts → Counts → GetFault → Type 0
TellsFew volume row old new (get_fault.Fault device) = IsFew volume.info.geometry.ratio row old new
TellsFew volume row old new (get_fault.Damaged what a b) = Unit {0}
TellsFew volume row old new get_fault.Memory = Unit {0}

-- why the entry of an id isn't known
pub record IsSearchFault (volume : CodedVolume) (row : Row) (old new : Counts) (fault : GetFault) : Type 0 where
  pub undamaged : IsNoDamage fault
  pub few : TellsFew volume row old new fault

-- Why a record isn't read at its entry. The files of a volume that agree with it tell no damage.
pub record IsReadFault (tells : Type 0) (volume : CodedVolume) (row : Row) (files : Files) (e : Entry) (old new : Counts) (fault : GetFault) : Type 0 where
  pub differ : HasDifference fault
  pub undamaged : IfAgrees tells volume files ((p : Placed) → StandsIn (own_dat volume files) p → e ≡ entry_of p → IsNoDamage fault)
  pub few : TellsFew volume row old new fault

-- ---- what is found

abbrev pub index_name : CodedVolume → List ℕ
index_name volume = name_bytes (record { volume = volume.volume; kind = Ecx; temp = false })

-- some index beside a shard has this entry of the id, or none
abbrev pub IsListed : CodedVolume → Row → Files → ℕ → Option Entry → Type 0
IsListed volume row files id found = IsFound files row (shards_in_all volume.info.geometry) (index_name volume) id found

-- The entry of an id that isn't deleted, if there is one.
abbrev pub IsLookedUp : Type 0 → CodedVolume → Row → Files → ℕ → Option Entry → Type 0
IsLookedUp tells volume row files id None = tells → is_deleted volume id ≡ false → IsListed volume row files id None
IsLookedUp tells volume row files id (Some e) = (is_deleted volume id ≡ false) × (tells → IsListed volume row files id (Some e))

-- the first bytes of the entry's record, with its header
pub record IsFront (tells : Type 0) (volume : CodedVolume) (files : Files) (e : Entry) (count : ℕ) (bytes : List ℕ) : Type 0 where
  pub long : length bytes ≡ count
  pub header : front_damage bytes e ≡ None
  pub same : IfAgrees tells volume files (bytes ≡ take count (bytes_from (own_dat volume files) e))

-- ---- calls

-- the length of an entry's record
abbrev pub length_by : Entry → ℕ
length_by e = record_length (fields_size e.size)

-- so many parts are those of the pieces of this range
pub record ArePartsOf (volume : CodedVolume) (offset count parts : ℕ) : Type 0 where
  pub pieces : List Piece
  pub located : AreLocated volume.info.geometry volume.info.dat_size offset count pieces
  pub counted : parts ≡ parts_of pieces

-- A read of so many bytes of the entry's record, or none: at most one read of each standing shard for each part.
pub record TakesFront (volume : CodedVolume) (row : Row) (e : Entry) (count : ℕ) (old new : Counts) : Type 0 where
  pub parts : ℕ
  pub range : (parts ≡ 0) ⊎ ArePartsOf volume (8 * e.offset) count parts
  pub takes : TakesCalls (parts * shards_standing volume.info row) 65536 old new

-- Searches beside each standing shard at most, where none of the indexes has more than n entries. A deleted id takes no call.
pub record TakesLookUp (volume : CodedVolume) (row : Row) (files : Files) (id : ℕ) (old new : Counts) : Type 0 where
  pub deleted : is_deleted volume id ≡ true → TakesCalls 0 0 old new
  pub few : (n : ℕ) → HaveAtMost n files row (shards_in_all volume.info.geometry) (index_name volume) → TakesSearches (shards_standing volume.info row) n old new

-- Such searches, each of two calls more than the binary logarithm of n at most, and a read of so many bytes of the record that was found.
pub record TakesBoth (volume : CodedVolume) (row : Row) (files : Files) (id : ℕ) (count : Entry → ℕ) (n : ℕ) (old new : Counts) : Type 0 where
  pub reads : ℕ
  pub few : (reads ≡ 0) ⊎ (2 ^ reads ≤ 2 * n)
  pub parts : ℕ
  pub range : (parts ≡ 0) ⊎ ((e : Entry) × IsListed volume row files id (Some e) × ArePartsOf volume (8 * e.offset) (count e) parts)
  pub takes : TakesCalls ((parts + (reads + 1)) * shards_standing volume.info row) 65536 old new

-- A deleted id takes no call.
pub record TakesFewCalls (volume : CodedVolume) (row : Row) (files : Files) (id : ℕ) (count : Entry → ℕ) (old new : Counts) : Type 0 where
  pub deleted : is_deleted volume id ≡ true → TakesCalls 0 0 old new
  pub few : (n : ℕ) → HaveAtMost n files row (shards_in_all volume.info.geometry) (index_name volume) → TakesBoth volume row files id count n old new
