-- What an append of a record and of its entry does to two files.
use Rattle.std.specs.Prelude.{◌≡◌, ◌⊎◌, ◌≤◌, ℕ, List, ◌++◌, length, Option, Some}
use Rattle.site_model.specs.Disk.{Place, Files, Image, firm_file, bytes_of, Disk}
use Rattle.site_model.specs.Leaves.{Leaves}
use Rattle.site_model.specs.Touches.{Touches}

-- the file with at most so many bytes of any content behind
abbrev pub HasMore : List ℕ → ℕ → Option (List ℕ) → Type 0
HasMore bytes n image = (more : List ℕ) × (length more ≤ n) × (image ≡ Some (bytes ++ more))

-- both files are these bytes, firm
pub record AreFirm (dat idx : Place) (d i : List ℕ) (files : Files) : Type 0 where
  pub dat_file : files dat ≡ Some (firm_file d)
  pub idx_file : files idx ≡ Some (firm_file i)

-- The record is on its way and its entry isn't begun, or the record stands whole.
abbrev pub IsBeforeOrAfter : Place → Place → List ℕ → List ℕ → List ℕ → List ℕ → Image → Type 0
IsBeforeOrAfter dat idx d i bytes entry image =
    (HasMore d (length bytes) (image dat) × (image idx ≡ Some i)) ⊎ ((image dat ≡ Some (d ++ bytes)) × HasMore i (length entry) (image idx))

pub record AppendsRecord (dat idx : Place) (bytes entry : List ℕ) (old new : Disk) : Type 0 where
  pub touches : Touches (λ k. (k ≡ dat) ⊎ (k ≡ idx)) old new
  pub leaves : (d i : List ℕ) → AreFirm dat idx d i old.files → Leaves old new (λ image said. IsBeforeOrAfter dat idx d i bytes entry image)

-- the record stands behind the data, its entry behind the index, and both files are firm
pub record IsAppended (dat idx : Place) (bytes entry : List ℕ) (old new : Files) : Type 0 where
  pub dat_file : new dat ≡ Some (firm_file (bytes_of (old dat) ++ bytes))
  pub idx_file : new idx ≡ Some (firm_file (bytes_of (old idx) ++ entry))
