-- What an opening tests in a volume's two files, what it keeps of them, and what a stop leaves.
use Rattle.std.specs.Prelude.{◌≡◌, ◌⊎◌, ◌≤◌, ℕ, suc, ◌+◌, ◌-◌, ◌*◌, ◌==◌, ◌&&◌, ◌||◌, nat_lt, nat_le, if◌then◌else◌, Bool, false, IsTrue, ℤ, pos, negsuc, List, [], ◌∷◌, length, take, drop, slice_get, Option, Some, Result, Ok, Err}
use Rattle.std.specs.Option.{option_map_or}
use Rattle.std.specs.FinMap.{empty, insert, remove}
use Rattle.site_model.specs.Disk.{File, Files, LeftOf, firm_file, cut_to, Disk}
use Rattle.site_model.specs.Leaves.{Leaves}
use Rattle.site_model.specs.Touches.{Touches}
use Rattle.site_model.specs.declared.error.OpenFault.{OpenFault}
use Rattle.site_model.specs.declared.error.OpenFault.TheVariants as open_fault
use Rattle.volume_forms.specs.declared.Entry.{Entry}
use Rattle.volume_forms.specs.Forms.{entries, has_super}
use Rattle.volume_forms.specs.Kept.{entry_eq, entry_end, kept_length}
use Rattle.needle_record.specs.declared.Record.{Record}
use Rattle.needle_record.specs.declared.NeedleFault.{NeedleFault}
use Rattle.needle_record.specs.Reading.{needle_at}
use Rattle.needle_record.specs.Records.{Index, end_of, entry_of, index_of}
use Rattle.world_model.specs.Sizes.{max_dat}
use Rattle.image_meaning.specs.Plain.{kept, kept_records, FollowsRecords}
use Rattle.dat_volume.specs.declared.volume.DatVolume.{DatVolume}
use Rattle.dat_volume.specs.Places.{dat_place, idx_place, dat_in, idx_in, IsOneOfTwo, AreFirmRecords, LeavesRecords}

-- ---- what is tested

-- of a deletion, or of a content
abbrev pub is_size : ℤ → Bool
is_size (pos n) = nat_lt 0 n
is_size (negsuc n) = n == 0

-- how many of the entries follow each other without gaps, the first from this place on
unfoldable pub chained : ℕ → List Entry → ℕ
chained place [] = 0
chained place (e ∷ es) = if (8 * e.offset == place) && is_size e.size then suc (chained (entry_end e) es) else 0

-- a record was read that is the entry's, and ends within the greatest length
abbrev pub is_entry_of : Entry → Result (Record × ℕ) NeedleFault → Bool
is_entry_of e (Ok found) = entry_eq (entry_of (8 * e.offset, found.0)) e && nat_le (entry_end e) max_dat
is_entry_of e (Err why) = false

-- the record at the entry's place is the entry's
abbrev pub has_record : List ℕ → Entry → Bool
has_record dat e = is_entry_of e (needle_at (drop (8 * e.offset) dat))

-- the record of the entry with this number, which there is
abbrev pub has_record_of : List ℕ → List Entry → ℕ → Bool
has_record_of dat es n = option_map_or (has_record dat) (slice_get es n) false

-- the last entry follows and has its record
abbrev pub last_counts : List ℕ → List Entry → Bool
last_counts dat es = (chained 8 es == length es) && has_record_of dat es (length es - 1)

-- it is kept only then
abbrev pub accepted : List ℕ → List Entry → ℕ
accepted dat es = if last_counts dat es then length es else length es - 1

-- of so many entries the last two have their records
abbrev pub has_last_two : List ℕ → List Entry → ℕ → Bool
has_last_two dat es n = (nat_lt n 1 || has_record_of dat es (n - 1)) && (nat_lt n 2 || has_record_of dat es (n - 2))

-- How many entries are kept, or that rule 1 fails. All but the last are to follow each other, and the last two that are
-- kept are to have their records.
unfoldable pub counted : List ℕ → List ℕ → Result ℕ ℕ
counted dat idx =
    let es = entries idx in
    let k = accepted dat es in
    if nat_lt (chained 8 es + 1) (length es) then Err 1
    else if has_last_two dat es k then Ok k
    else Err 1

-- the same, where the data file has an accepted super block, and else that rule 3 fails
abbrev pub with_super : Bool → Result ℕ ℕ → Result ℕ ℕ
with_super super (Err rule) = Err rule
with_super super (Ok count) = if super then Ok count else Err 3

unfoldable pub tested : List ℕ → List ℕ → Result ℕ ℕ
tested dat idx = with_super (has_super dat) (counted dat idx)

-- where the records of the first n entries end
abbrev pub end_by : List ℕ → ℕ → ℕ
end_by idx n = kept_length (take n (entries idx))

-- ---- answers

-- The lengths to keep, of the data file and of the index. They are what is kept where the index follows the records.
pub record KeepsLengths (dat idx : List ℕ) (lengths : ℕ × ℕ) : Type 0 where
  pub count : ℕ
  pub passed : tested dat idx ≡ Ok count
  pub dat_length : lengths.0 ≡ end_by idx count
  pub idx_length : lengths.1 ≡ 16 * count
  pub dat_within : lengths.0 ≤ length dat
  pub idx_within : lengths.1 ≤ length idx
  pub super : IsTrue (has_super dat)
  pub follows : FollowsRecords dat idx → (count ≡ kept dat idx) × (end_by idx count ≡ end_of (kept_records dat idx))

-- the rule that fails is the one told, and it is false of these files
abbrev pub IsRuleBroken : List ℕ → List ℕ → ℕ → Type 0
IsRuleBroken dat idx rule = (tested dat idx ≡ Err rule) × (((rule ≡ 1) × (FollowsRecords dat idx → ⊥)) ⊎ ((rule ≡ 3) × (has_super dat ≡ false)))

abbrev pub TellsRule : ℕ → List ℕ → List ℕ → OpenFault → Type 0
TellsRule v dat idx (open_fault.Unsound volume rule) = (volume ≡ v) × IsRuleBroken dat idx rule
TellsRule v dat idx (open_fault.Fault server) = Unit {0}
TellsRule v dat idx open_fault.Memory = Unit {0}

-- the same of rule 1 alone
abbrev pub TellsCount : ℕ → List ℕ → List ℕ → OpenFault → Type 0
TellsCount v dat idx (open_fault.Unsound volume rule) = (volume ≡ v) × (rule ≡ 1) × (counted dat idx ≡ Err 1) × (FollowsRecords dat idx → ⊥)
TellsCount v dat idx (open_fault.Fault server) = Unit {0}
TellsCount v dat idx open_fault.Memory = Unit {0}

-- a rule is one of the volume, 1 or 3, and a fault one of the server
abbrev pub Blames : ℕ → ℕ → OpenFault → Type 0
Blames server v (open_fault.Unsound volume rule) = (volume ≡ v) × ((rule ≡ 1) ⊎ (rule ≡ 3))
Blames server v (open_fault.Fault blamed) = blamed ≡ server
Blames server v open_fault.Memory = Unit {0}

-- what a stop leaves of a file that is being cut
abbrev pub IsCutOrNot : ℕ → Option File → Option (List ℕ) → Type 0
IsCutOrNot n file found = LeftOf file found ⊎ LeftOf (cut_to n file) found

-- ---- an opening

-- an entry sets its id, or takes it out
abbrev pub index_after_entry : Index → Entry → ℤ → Index
index_after_entry index e (pos n) = insert index e.id e
index_after_entry index e (negsuc n) = remove index e.id

abbrev pub index_by_from : Index → List Entry → Index
index_by_from index [] = index
index_by_from index (e ∷ es) = index_by_from (index_after_entry index e e.size) es

-- the index that these entries make
abbrev pub index_by : List Entry → Index
index_by es = index_by_from empty es

-- A stop leaves what is kept, where the index follows the records and both files were firm.
pub record Opens (server v : ℕ) (old new : Disk) : Type 0 where
  pub touches : Touches (IsOneOfTwo server v) old new
  pub leaves : (dat idx : List ℕ) → old.files (dat_place server v) ≡ Some (firm_file dat) → old.files (idx_place server v) ≡ Some (firm_file idx)
      → FollowsRecords dat idx
      → Leaves old new (λ image said. LeavesRecords server v image (take (end_of (kept_records dat idx)) dat) (kept_records dat idx))

-- Both files end at the lengths to keep, and the volume has the index and the length of what is kept.
pub record IsOpened (server v : ℕ) (volume : DatVolume) (old new : Files) : Type 0 where
  pub lengths : ℕ × ℕ
  pub keeps : KeepsLengths (dat_in old server v) (idx_in old server v) lengths
  pub dat_file : new (dat_place server v) ≡ cut_to lengths.0 (old (dat_place server v))
  pub idx_file : new (idx_place server v) ≡ cut_to lengths.1 (old (idx_place server v))
  pub used : volume.used ≡ lengths.0
  pub index : volume.index ≡ index_by (take keeps.count (entries (idx_in old server v)))
  pub follows : FollowsRecords (dat_in old server v) (idx_in old server v) → volume.index ≡ index_of (kept_records (dat_in old server v) (idx_in old server v))
  pub exact : (dat idx : List ℕ) → old (dat_place server v) ≡ Some (firm_file dat) → old (idx_place server v) ≡ Some (firm_file idx) → FollowsRecords dat idx
      → AreFirmRecords server v new (take lengths.0 dat) (take lengths.1 idx) (kept_records dat idx)

-- The volume has the index and the length of what is kept of these files.
pub record IsLoaded (volume : DatVolume) (dat idx : List ℕ) : Type 0 where
  pub lengths : ℕ × ℕ
  pub keeps : KeepsLengths dat idx lengths
  pub used : volume.used ≡ lengths.0
  pub index : volume.index ≡ index_by (take keeps.count (entries idx))
  pub follows : FollowsRecords dat idx → volume.index ≡ index_of (kept_records dat idx)

-- ---- cuts

-- Both files are cut to these lengths. A stop leaves each as it was or cut.
pub record Trims (server v dat_length idx_length : ℕ) (old new : Disk) : Type 0 where
  pub touches : Touches (IsOneOfTwo server v) old new
  pub leaves : Leaves old new (λ image said. IsCutOrNot dat_length (old.files (dat_place server v)) (image (dat_place server v)) × IsCutOrNot idx_length (old.files (idx_place server v)) (image (idx_place server v)))

pub record AreTrimmed (server v dat_length idx_length : ℕ) (old new : Files) : Type 0 where
  pub dat_file : new (dat_place server v) ≡ cut_to dat_length (old (dat_place server v))
  pub idx_file : new (idx_place server v) ≡ cut_to idx_length (old (idx_place server v))
