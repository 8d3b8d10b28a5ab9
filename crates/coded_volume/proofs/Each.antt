-- One element after the other, and files that nobody changed.
use Rattle.std.proofs.Common.{◌≡◌, ℕ, ◌+◌, ◌<◌, ◌≤◌, List, length, subst, arith}
use Rattle.std.specs.Prelude.{slice_index_or}
use Rattle.std.specs.List.{All, AllWithin}
use Rattle.std.proofs.lemmas.List.{get_or_default}
use Rattle.std.proofs.lemmas.List.Elements.{AllWithin-more}
use Rattle.site_model.specs.Disk.{Disk}
use Rattle.image_meaning.specs.Files.{VolumeFiles}
use Rattle.coded_volume.specs.Checking.{files_on}

module _ {X : Type 0} (P : X → Type 0) (xs : List X) (n : ℕ) where
  pub each_next : (d : X) → n < length xs → AllWithin P xs 0 n → P (slice_index_or xs n d) → AllWithin P xs 0 (n + 1)
  each_next d fits all here = AllWithin-more P xs 0 n all (λ e. subst P (get_or_default xs n d e fits) here)

  pub each_all : length xs ≤ n → AllWithin P xs 0 n → All P xs
  each_all end all k d lt = all k d (omega arith) (omega arith)

-- what is so of a volume's files is so of those before
pub as_before : (P : VolumeFiles → Type 0) (v : ℕ) (new old : Disk) → new ≡ old → P (files_on new.files v) → P (files_on old.files v)
as_before P v new old same = subst (λ (d : Disk). P (files_on d.files v)) same
