-- The files of a plain volume at its server, as a vacuum finds and leaves them.
use Rattle.std.specs.Prelude.{◌≡◌, ◌≢◌, ◌⊎◌, ℕ, ◌<◌, Bool, true, false, List, Some, None, string_bytes}
use Rattle.site_model.specs.Counts.{max_servers}
use Rattle.site_model.specs.Disk.{Place, Files, firm_file, bytes_of, Disk}
use Rattle.site_model.specs.Leaves.{Leaves}
use Rattle.site_model.specs.Touches.{Touches}
use Rattle.file_names.specs.declared.Kind.{Kind}
use Rattle.file_names.specs.declared.Kind.TheVariants.{Dat, Idx, Cpd, Cpx, Shard, Ecx, Ecj, Vif}
use Rattle.file_names.specs.Names.{IsPlainKind, name_bytes, place_of}
use Rattle.image_meaning.specs.Files.{VolumeFiles, files_of}
use Rattle.image_meaning.specs.Meaning.{max_volumes}
use Rattle.image_meaning.specs.Laws.Vacuum.{IsHeldAlone}
use Rattle.volume_vacuum.specs.declared.home.Home.{Home}

-- ---- names

abbrev pub spelled : ℕ → Kind → Bool → List ℕ
spelled v kind temp = name_bytes (record { volume = v; kind = kind; temp = temp })

-- the names are those of the volume's files
pub record IsNamed (home : Home) : Type 0 where
  pub small : home.volume < max_volumes
  pub dat : string_bytes home.dat ≡ spelled home.volume Dat false
  pub idx : string_bytes home.idx ≡ spelled home.volume Idx false
  pub cpd : string_bytes home.cpd ≡ spelled home.volume Cpd false
  pub cpx : string_bytes home.cpx ≡ spelled home.volume Cpx false
  pub cpd_temp : string_bytes home.cpd_temp ≡ spelled home.volume Cpd true
  pub cpx_temp : string_bytes home.cpx_temp ≡ spelled home.volume Cpx true

-- the place of a temporary file
abbrev pub temp_at : Home → Kind → Place
temp_at home kind = place_of home.volume home.server kind true

-- by what the names spell
abbrev pub dat_named : Home → Place
dat_named home = (home.server, string_bytes home.dat)

abbrev pub cpd_temp_named : Home → Place
cpd_temp_named home = (home.server, string_bytes home.cpd_temp)

abbrev pub cpx_temp_named : Home → Place
cpx_temp_named home = (home.server, string_bytes home.cpx_temp)

-- what the data file holds
abbrev pub own_dat : Files → Home → List ℕ
own_dat files home = bytes_of (files (dat_named home))

-- ---- what is touched

-- the kinds that a vacuum makes
abbrev pub IsMadeKind : Kind → Type 0
IsMadeKind Dat = ⊥
IsMadeKind Idx = ⊥
IsMadeKind Cpd = Unit {0}
IsMadeKind Cpx = Unit {0}
IsMadeKind (Shard i) = ⊥
IsMadeKind Ecx = ⊥
IsMadeKind Ecj = ⊥
IsMadeKind Vif = ⊥

-- the files of the plain form, and the temporary ones of the made kinds
abbrev pub IsTouchable : Kind → Bool → Type 0
IsTouchable kind false = IsPlainKind kind
IsTouchable kind true = IsMadeKind kind

abbrev pub IsTouched : ℕ → ℕ → Place → Type 0
IsTouched server v k = (kind : Kind) × (temp : Bool) × IsTouchable kind temp × (k ≡ place_of v server kind temp)

-- ---- which files stand

-- nothing that a vacuum made stands at the server, and no index of the volume at another
pub record IsOnlyHolder (server v : ℕ) (files : Files) : Type 0 where
  pub below : server < max_servers
  pub unmade : files (place_of v server Cpx false) ≡ None
  pub no_idx : (s : ℕ) → s < max_servers → s ≢ server → files (place_of v s Idx false) ≡ None
  pub no_cpx : (s : ℕ) → s < max_servers → s ≢ server → files (place_of v s Cpx false) ≡ None

-- the two files stand, firm, and are all that counts
pub record AreHeldFirm (server v : ℕ) (files : Files) (dat idx : List ℕ) : Type 0 where
  pub only : IsOnlyHolder server v files
  pub dat_file : files (place_of v server Dat false) ≡ Some (firm_file dat)
  pub idx_file : files (place_of v server Idx false) ≡ Some (firm_file idx)

-- beside them the new ones stand as temporary files, firm too
pub record AreWritten (server v : ℕ) (files : Files) (dat idx new_dat new_idx : List ℕ) : Type 0 where
  pub held : AreHeldFirm server v files dat idx
  pub cpd_temp : files (place_of v server Cpd true) ≡ Some (firm_file new_dat)
  pub cpx_temp : files (place_of v server Cpx true) ≡ Some (firm_file new_idx)

-- One index holder, with the old two files or with the new two.
abbrev pub IsHeldByEither : VolumeFiles → ℕ → List ℕ → List ℕ → List ℕ → List ℕ → Type 0
IsHeldByEither files home dat idx new_dat new_idx = IsHeldAlone files home dat idx ⊎ IsHeldAlone files home new_dat new_idx

-- The renames: a stop leaves the volume held by the old files or by the new ones.
pub record NamesFiles (server v : ℕ) (old new : Disk) : Type 0 where
  pub touches : Touches (IsTouched server v) old new
  pub leaves : (dat idx new_dat new_idx : List ℕ) → AreWritten server v old.files dat idx new_dat new_idx
      → Leaves old new (λ image said. IsHeldByEither (files_of image v) server dat idx new_dat new_idx)

-- what was written has its last names
pub record AreRenamed (server v : ℕ) (old new : Files) : Type 0 where
  pub dat : new (place_of v server Dat false) ≡ old (place_of v server Cpd true)
  pub idx : new (place_of v server Idx false) ≡ old (place_of v server Cpx true)
  pub no_cpd : new (place_of v server Cpd false) ≡ None
  pub no_cpx : new (place_of v server Cpx false) ≡ None
  pub no_cpd_temp : new (place_of v server Cpd true) ≡ None
  pub no_cpx_temp : new (place_of v server Cpx true) ≡ None

-- The new files are written, and take the place of the old ones.
pub record Replaces (server v : ℕ) (new_dat new_idx : List ℕ) (old new : Disk) : Type 0 where
  pub touches : Touches (IsTouched server v) old new
  pub leaves : (dat idx : List ℕ) → AreHeldFirm server v old.files dat idx → Leaves old new (λ image said. IsHeldByEither (files_of image v) server dat idx new_dat new_idx)

pub record AreReplaced (server v : ℕ) (new_dat new_idx : List ℕ) (new : Files) : Type 0 where
  pub dat : new (place_of v server Dat false) ≡ Some (firm_file new_dat)
  pub idx : new (place_of v server Idx false) ≡ Some (firm_file new_idx)
  pub no_cpd : new (place_of v server Cpd false) ≡ None
  pub no_cpx : new (place_of v server Cpx false) ≡ None
  pub no_cpd_temp : new (place_of v server Cpd true) ≡ None
  pub no_cpx_temp : new (place_of v server Cpx true) ≡ None
