-- Where a plain volume's files stand at a server, and what they hold.
use Rattle.std.specs.Prelude.{◌≡◌, ◌⊎◌, ℕ, ◌++◌, List, Some}
use Rattle.site_model.specs.Disk.{Place, Files, Image, firm_file, bytes_of}
use Rattle.file_names.specs.declared.Kind.TheVariants.{Dat, Idx}
use Rattle.file_names.specs.Names.{final_place, temp_place}
use Rattle.needle_record.specs.Records.{Placed}
use Rattle.image_meaning.specs.Plain.{kept_records, FollowsRecords, IsExact}

abbrev pub dat_place : ℕ → ℕ → Place
dat_place server v = final_place server v Dat

abbrev pub idx_place : ℕ → ℕ → Place
idx_place server v = final_place server v Idx

abbrev pub dat_temp : ℕ → ℕ → Place
dat_temp server v = temp_place server v Dat

abbrev pub idx_temp : ℕ → ℕ → Place
idx_temp server v = temp_place server v Idx

-- an absent file counts as one without bytes
abbrev pub dat_in : Files → ℕ → ℕ → List ℕ
dat_in files server v = bytes_of (files (dat_place server v))

abbrev pub idx_in : Files → ℕ → ℕ → List ℕ
idx_in files server v = bytes_of (files (idx_place server v))

-- one of the volume's two files
abbrev pub IsOneOfTwo : ℕ → ℕ → Place → Type 0
IsOneOfTwo server v k = (k ≡ dat_place server v) ⊎ (k ≡ idx_place server v)

-- or one of those by which they are made
abbrev pub IsOneOfFour : ℕ → ℕ → Place → Type 0
IsOneOfFour server v k = IsOneOfTwo server v k ⊎ ((k ≡ dat_temp server v) ⊎ (k ≡ idx_temp server v))

-- The data file is these records to its end, the index is their entries, and both are firm.
pub record AreFirmRecords (server v : ℕ) (files : Files) (dat idx : List ℕ) (ps : List Placed) : Type 0 where
  pub dat_file : files (dat_place server v) ≡ Some (firm_file dat)
  pub idx_file : files (idx_place server v) ≡ Some (firm_file idx)
  pub exact : IsExact dat idx ps

-- A stop left the data file, with this front, and the index. All whole entries but perhaps the last are those of the first
-- records, and these records are kept.
pub record LeavesRecords (server v : ℕ) (image : Image) (front : List ℕ) (ps : List Placed) : Type 0 where
  pub more : List ℕ
  pub idx : List ℕ
  pub has_dat : image (dat_place server v) ≡ Some (front ++ more)
  pub has_idx : image (idx_place server v) ≡ Some idx
  pub follows : FollowsRecords (front ++ more) idx
  pub kept : kept_records (front ++ more) idx ≡ ps
