-- What cuts of a file, and of two files one after the other, do.
use Rattle.std.specs.Prelude.{◌≡◌, ◌⊎◌, ℕ}
use Rattle.site_model.specs.Disk.{Place, Files, SameBut, cut_to, Disk, cuts}
use Rattle.site_model.specs.Leaves.{Leaves, WithinCall}
use Rattle.site_model.specs.Touches.{Touches}
use Rattle.dat_volume.specs.Opening.{IsCutOrNot}

-- A file is cut, where it is longer.
pub record Shortens (p : Place) (n : ℕ) (old new : Disk) : Type 0 where
  pub leaves : Leaves old new (WithinCall (cuts p n) old)
  pub said : new.said ≡ old.said
  pub others : SameBut p old.files new.files
  pub either : (new.files p ≡ old.files p) ⊎ (new.files p ≡ cut_to n (old.files p))

-- Two files are cut.
pub record ShortensBoth (p q : Place) (m n : ℕ) (old new : Disk) : Type 0 where
  pub touches : Touches (λ k. (k ≡ p) ⊎ (k ≡ q)) old new
  pub leaves : Leaves old new (λ image said. IsCutOrNot m (old.files p) (image p) × IsCutOrNot n (old.files q) (image q))

pub record AreShortened (p q : Place) (m n : ℕ) (old new : Files) : Type 0 where
  pub first : new p ≡ cut_to m (old p)
  pub second : new q ≡ cut_to n (old q)
