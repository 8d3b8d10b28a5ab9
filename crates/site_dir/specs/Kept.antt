-- The files that are kept open, by their places.
use Rattle.std.specs.Prelude.{◌≡◌, ℕ, ◌==◌, ◌<◌, ◌&&◌, not, Bool, true, false, bytes_eq, string_bytes, List, length, slice_index_or}
use Rattle.std.specs.List.{filter, list_any}
use Rattle.site_model.specs.Disk.{Place}
use Rattle.site_dir.specs.declared.kept.KeptFile.{KeptFile}

module _ {F : Type 0} where
  -- it is the file of this name at this server
  abbrev pub has_place : Place → KeptFile F → Bool
  has_place p kept = (kept.server == p.0) && bytes_eq (string_bytes kept.name) p.1

  -- the file of this place is kept there
  pub record IsAt (p : Place) (files : List (KeptFile F)) (at : ℕ) : Type 0 where
    pub within : at < length files
    pub place : (d : KeptFile F) → has_place p (slice_index_or files at d) ≡ true

  -- the file of this place is not kept
  abbrev pub AreElsewhere : Place → List (KeptFile F) → Type 0
  AreElsewhere p files = list_any (has_place p) files ≡ false

  abbrev pub without_place : Place → List (KeptFile F) → List (KeptFile F)
  without_place p files = filter (λ kept. not (has_place p kept)) files
