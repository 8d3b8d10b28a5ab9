-- Files that are kept elsewhere, one after the other.
use Rattle.std.proofs.Common.{◌≡◌, ℕ, ◌+◌, ◌<◌, ◌≤◌, ◌||◌, false, List, length, take, get_or, sym, ◌∙◌, ap}
use Rattle.std.specs.List.{list_any}
use Rattle.std.proofs.lemmas.List.{take_all}
use Rattle.std.proofs.lemmas.List.Folds.{list_any_more}
use Rattle.site_model.specs.Disk.{Place}
use Rattle.site_dir.specs.declared.kept.KeptFile.{KeptFile}
use Rattle.site_dir.specs.Kept.{has_place, AreElsewhere}

module _ {F : Type 0} where
  pub one_more : (p : Place) (files : List (KeptFile F)) (i : ℕ) (kept : KeptFile F) → i < length files → kept ≡ get_or files i kept → AreElsewhere p (take i files) → has_place p kept ≡ false → AreElsewhere p (take (i + 1) files)
  one_more p files i kept within is before here = list_any_more (has_place p) files i kept within ∙ ap (λ b. b || has_place p (get_or files i kept)) before ∙ ap (λ k. has_place p k) (sym is) ∙ here

  pub all : (p : Place) (files : List (KeptFile F)) (n : ℕ) → length files ≤ n → AreElsewhere p (take n files) → AreElsewhere p files
  all p files n whole before = ap (λ l. list_any (has_place p) l) (sym (take_all n files whole)) ∙ before
