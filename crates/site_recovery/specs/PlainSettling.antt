-- What becomes of a plain volume's files, where these are listed. For the recovery of coded volumes, to come.
use Rattle.std.specs.Prelude.{◌≡◌, ◌⊎◌, ℕ, true, false, List, None, IsSome, Contains}
use Rattle.site_model.specs.Disk.{Files, IsSettled}
use Rattle.file_names.specs.declared.Kind.{Kind}
use Rattle.file_names.specs.declared.Kind.TheVariants.{Dat, Idx}
use Rattle.file_names.specs.Names.{IsKind, place_of}
use Rattle.image_meaning.specs.Files.{contents, files_of}
use Rattle.image_meaning.specs.Meaning.{mode_of}
use Rattle.site_recovery.specs.Recovering.{IsLeftPlain}
use Rattle.site_recovery.specs.Steps.{KeepsMeaning}
use Rattle.site_recovery.specs.declared.forms.Listed.{Listed}

-- an index or a data file at the home
abbrev pub IsKeptAt : ℕ → ℕ → Kind → Type 0
IsKeptAt home server kind = (server ≡ home) × ((kind ≡ Idx) ⊎ (kind ≡ Dat))

-- each other file of the volume that stands is among them
abbrev pub AreOthersListed : ℕ → ℕ → Files → List Listed → Type 0
AreOthersListed v home files its =
    (server : ℕ) (kind : Kind) → IsKind kind → (IsKeptAt home server kind → ⊥) → IsSome (files (place_of v server kind false)) → Contains its (record { server = server; file = record { volume = v; kind = kind; temp = false } })

-- It is left with its index and its data file at the home, cut to the lengths that the tests gave, and with no other file. No temporary
-- file is new.
pub record IsSettledPlain (v home : ℕ) (old new : Files) : Type 0 where
  pub same_mode : mode_of (files_of (contents new) v) ≡ mode_of (files_of (contents old) v)
  pub left : IsLeftPlain (files_of (contents old) v) (files_of (contents new) v) home
  pub keeps : KeepsMeaning (contents old) (contents new)
  pub temps : (server : ℕ) (kind : Kind) → IsKind kind → old (place_of v server kind true) ≡ None → new (place_of v server kind true) ≡ None
  pub settled : IsSettled old → IsSettled new
