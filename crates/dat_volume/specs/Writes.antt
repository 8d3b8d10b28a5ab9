-- What the making of a volume and a put do to its files, and what a stop leaves of them.
use Rattle.std.specs.Prelude.{◌≡◌, ◌⊎◌, ℕ, List, [], ◌∷◌, ◌++◌, length, Some, None}
use Rattle.site_model.specs.Disk.{Files, Image, firm_file, Disk}
use Rattle.site_model.specs.Leaves.{Leaves}
use Rattle.site_model.specs.Touches.{Touches}
use Rattle.volume_forms.specs.Forms.{entry_bytes}
use Rattle.needle_record.specs.declared.Record.{Record}
use Rattle.needle_record.specs.Spelling.{canonical}
use Rattle.needle_record.specs.Records.{Placed, Index, entry_of, index_after_content}
use Rattle.dat_volume.specs.Places.{dat_place, idx_place, dat_temp, idx_temp, dat_in, idx_in, IsOneOfTwo, IsOneOfFour, AreFirmRecords, LeavesRecords}

-- ---- the making of a volume

-- the data file of a volume without records: version 3, and the rest zero
abbrev pub new_dat : List ℕ
new_dat = 3 ∷ 0 ∷ 0 ∷ 0 ∷ 0 ∷ 0 ∷ 0 ∷ 0 ∷ []

-- neither of the two files stands, nor a temporary one
pub record NoneStands (server v : ℕ) (files : Files) : Type 0 where
  pub dat : files (dat_place server v) ≡ None
  pub idx : files (idx_place server v) ≡ None
  pub dat_temp : files (dat_temp server v) ≡ None
  pub idx_temp : files (idx_temp server v) ≡ None

-- no data file and no index, or the data file alone, or both
abbrev pub IsPartlyMade : ℕ → ℕ → Image → Type 0
IsPartlyMade server v image =
    ((image (dat_place server v) ≡ None) × (image (idx_place server v) ≡ None))
    ⊎ ((image (dat_place server v) ≡ Some new_dat) × (image (idx_place server v) ≡ None))
    ⊎ ((image (dat_place server v) ≡ Some new_dat) × (image (idx_place server v) ≡ Some []))

pub record Creates (server v : ℕ) (old new : Disk) : Type 0 where
  pub touches : Touches (IsOneOfFour server v) old new
  pub leaves : NoneStands server v old.files → Leaves old new (λ image said. IsPartlyMade server v image)

-- both files stand without records, firm, and no temporary file does
pub record IsCreated (server v : ℕ) (files : Files) : Type 0 where
  pub firm : AreFirmRecords server v files new_dat [] []
  pub no_dat_temp : files (dat_temp server v) ≡ None
  pub no_idx_temp : files (idx_temp server v) ≡ None

-- ---- a put

-- A stop leaves the records, with the new one or without.
pub record Puts (server v used : ℕ) (r : Record) (old new : Disk) : Type 0 where
  pub touches : Touches (IsOneOfTwo server v) old new
  pub leaves : (dat idx : List ℕ) (ps : List Placed) → AreFirmRecords server v old.files dat idx ps → used ≡ length dat
      → Leaves old new (λ image said. LeavesRecords server v image dat ps ⊎ LeavesRecords server v image dat (ps ++ (used, r) ∷ []))

-- The record is appended to the data file and its entry to the index, and both are firm.
pub record IsPut (server v used : ℕ) (r : Record) (old new : Files) : Type 0 where
  pub dat_file : new (dat_place server v) ≡ Some (firm_file (dat_in old server v ++ canonical r))
  pub idx_file : new (idx_place server v) ≡ Some (firm_file (idx_in old server v ++ entry_bytes (entry_of (used, r))))
  pub exact : (dat idx : List ℕ) (ps : List Placed) → AreFirmRecords server v old dat idx ps → used ≡ length dat
      → AreFirmRecords server v new (dat ++ canonical r) (idx ++ entry_bytes (entry_of (used, r))) (ps ++ (used, r) ∷ [])

-- one record more
abbrev pub index_with : Index → ℕ → Record → Index
index_with index used r = index_after_content index (used, r) r.content
