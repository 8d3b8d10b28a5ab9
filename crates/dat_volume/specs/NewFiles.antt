-- The files of a volume that is made, and what the making does to them.
use Rattle.std.specs.Prelude.{◌≡◌, ◌≢◌, ◌⊎◌, ℕ, List, [], Some, None, string_bytes}
use Rattle.site_model.specs.Disk.{Place, Files, Image, firm_file, Disk}
use Rattle.site_model.specs.Leaves.{Leaves}
use Rattle.site_model.specs.Touches.{Touches}
use Rattle.dat_volume.specs.declared.writing.NewNames.{NewNames}
use Rattle.dat_volume.specs.Places.{dat_place, idx_place, dat_temp, idx_temp}

-- the places of the two files, and of those by which they are made
pub record FourPlaces : Type 0 where
  pub dat : Place
  pub idx : Place
  pub dat_temp : Place
  pub idx_temp : Place

-- under these names
abbrev pub under_names : ℕ → NewNames → FourPlaces
under_names server names = record {
  dat = (server, string_bytes names.dat);
  idx = (server, string_bytes names.idx);
  dat_temp = (server, string_bytes names.dat_temp);
  idx_temp = (server, string_bytes names.idx_temp);
}

-- under those of a volume
abbrev pub of_volume : ℕ → ℕ → FourPlaces
of_volume server v = record { dat = dat_place server v; idx = idx_place server v; dat_temp = dat_temp server v; idx_temp = idx_temp server v }

-- no two of them are one
pub record AreApart (four : FourPlaces) : Type 0 where
  pub finals : four.dat ≢ four.idx
  pub temps : four.dat_temp ≢ four.idx_temp
  pub dat_own : four.dat ≢ four.dat_temp
  pub dat_other : four.dat ≢ four.idx_temp
  pub idx_own : four.idx ≢ four.idx_temp
  pub idx_other : four.idx ≢ four.dat_temp

abbrev pub IsAmong : FourPlaces → Place → Type 0
IsAmong four k = ((k ≡ four.dat) ⊎ (k ≡ four.idx)) ⊎ ((k ≡ four.dat_temp) ⊎ (k ≡ four.idx_temp))

-- none of them stands
pub record NoneOf (four : FourPlaces) (files : Files) : Type 0 where
  pub dat : files four.dat ≡ None
  pub idx : files four.idx ≡ None
  pub dat_temp : files four.dat_temp ≡ None
  pub idx_temp : files four.idx_temp ≡ None

-- no data file and no index, or the data file alone, or both
abbrev pub ArePartlyMade : FourPlaces → List ℕ → Image → Type 0
ArePartlyMade four bytes image =
    ((image four.dat ≡ None) × (image four.idx ≡ None))
    ⊎ ((image four.dat ≡ Some bytes) × (image four.idx ≡ None))
    ⊎ ((image four.dat ≡ Some bytes) × (image four.idx ≡ Some []))

pub record Makes (four : FourPlaces) (bytes : List ℕ) (old new : Disk) : Type 0 where
  pub touches : Touches (IsAmong four) old new
  pub leaves : NoneOf four old.files → Leaves old new (λ image said. ArePartlyMade four bytes image)

-- the data file is these bytes and the index is empty, both firm, and no temporary file stands
pub record AreMade (four : FourPlaces) (bytes : List ℕ) (files : Files) : Type 0 where
  pub dat : files four.dat ≡ Some (firm_file bytes)
  pub idx : files four.idx ≡ Some (firm_file [])
  pub dat_temp : files four.dat_temp ≡ None
  pub idx_temp : files four.idx_temp ≡ None
