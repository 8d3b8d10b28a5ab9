-- A file of a volume gets the name of another kind.
use Rattle.std.specs.Prelude.{◌≡◌, ℕ, Bool, false}
use Rattle.site_model.specs.Disk.{Files, Disk, Renames, IsRenamed}
use Rattle.file_names.specs.declared.Kind.{Kind}
use Rattle.image_meaning.specs.Files.{contents, files_of, stands}
use Rattle.file_names.specs.Names.{place_of}

-- the server has this file of the volume, or not
abbrev pub StandsAs : Bool → ℕ → ℕ → Kind → Files → Type 0
StandsAs has v server kind files = stands (files_of (contents files) v) server kind ≡ has

abbrev pub RenamesKind : ℕ → ℕ → Kind → Kind → Disk → Disk → Type 0
RenamesKind v server kind new_kind old new = Renames (place_of v server kind false) (place_of v server new_kind false) old new

abbrev pub IsRenamedKind : ℕ → ℕ → Kind → Kind → Disk → Disk → Type 0
IsRenamedKind v server kind new_kind old new = IsRenamed (place_of v server kind false) (place_of v server new_kind false) old.files new.files
