-- What the calls of this crate do to a site's files.
use Rattle.std.specs.Prelude.{◌≡◌, ◌⊎◌, ℕ, List, length, Some, None}
use Rattle.site_model.specs.Disk.{Place, LeftOf, SameBut, firm_file, IsFirm, standing, IsPartlyGrown, Disk, appends}
use Rattle.site_model.specs.Leaves.{Leaves, WithinCall}
use Rattle.site_model.specs.Touches.{Touches, At}

-- An append in pieces: a stop leaves what a stop within one append of all the bytes may leave.
pub record AppendsAll (p : Place) (bytes : List ℕ) (old new : Disk) : Type 0 where
  pub leaves : Leaves old new (WithinCall (appends p bytes) old)
  pub said : new.said ≡ old.said
  pub others : SameBut p old.files new.files
  pub partly : IsPartlyGrown (length bytes) (old.files p) (new.files p)

-- The same, and then a sync: a stop leaves what a stop within one append may leave.
pub record AppendsFirm (p : Place) (bytes : List ℕ) (old new : Disk) : Type 0 where
  pub leaves : Leaves old new (WithinCall (appends p bytes) old)
  pub said : new.said ≡ old.said
  pub others : SameBut p old.files new.files

-- A file is removed, if it stands. A stop leaves it as a stop at the start might have left it, or none.
pub record Clears (p : Place) (old new : Disk) : Type 0 where
  pub touches : Touches (At p) old new
  pub leaves : Leaves old new (λ image said. LeftOf (old.files p) (image p) ⊎ (image p ≡ None))
  pub either : (new.files p ≡ old.files p) ⊎ (new.files p ≡ None)

-- A stop leaves the file as a stop at the start might have left it, or the new bytes whole. Of a firm file, or of none,
-- that is the old file, or none.
pub record WritesWhole (name temp : Place) (bytes : List ℕ) (old new : Disk) : Type 0 where
  pub touches : Touches (λ k. (k ≡ name) ⊎ (k ≡ temp)) old new
  pub leaves : Leaves old new (λ image said. LeftOf (old.files name) (image name) ⊎ (image name ≡ Some bytes))
  pub either : (new.files name ≡ old.files name) ⊎ (new.files name ≡ Some (firm_file bytes))
  pub firm : IsFirm (old.files name) → Leaves old new (λ image said. (image name ≡ standing (old.files name)) ⊎ (image name ≡ Some bytes))

pub record IsWritten (name temp : Place) (bytes : List ℕ) (new : Disk) : Type 0 where
  pub file : new.files name ≡ Some (firm_file bytes)
  pub no_temp : new.files temp ≡ None
