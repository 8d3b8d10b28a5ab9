-- What a plan keeps of a volume while it changes the volume's form.
use Rattle.std.specs.Prelude.{◌≡◌, ◌⊎◌, ℕ, ◌<◌, Bool, true, IsTrue, List, None, IsSome}
use Rattle.world_model.specs.World.{Volume}
use Rattle.world_model.specs.declared.types.Mode.TheVariants as mode
use Rattle.file_names.specs.declared.Kind.TheVariants.{Cpx}
use Rattle.volume_forms.specs.Forms.{has_super}
use Rattle.needle_record.specs.Records.{Placed, fold_records}
use Rattle.image_meaning.specs.Files.{VolumeFiles, index_bytes, dat_bytes}
use Rattle.site_model.specs.Counts.{max_servers}
use Rattle.image_meaning.specs.Plain.{index_home, kept_at, FollowsRecords}
use Rattle.image_meaning.specs.Coded.{coded_with}
use Rattle.image_meaning.specs.Sound.{HasIndex}
use Rattle.image_meaning.specs.Ends.{NearMode}
use Rattle.image_meaning.specs.Parts.{Parts, AreSoundParts, IsCodedForm}
use Rattle.image_meaning.specs.HeldParts.{HoldsParts}

-- ---- the coded form

-- No index stands, the shards are the parts', and they suffice.
pub record IsKeptCoded (parts : Parts) (files : VolumeFiles) : Type 0 where
  pub form : IsCodedForm parts files
  pub holds : HoldsParts parts files

-- ---- the plain form

-- the same used and needles
abbrev pub IsSameVolume : Volume → Volume → Type 0
IsSameVolume w u = (u.used ≡ w.used) × (u.needles ≡ w.needles)

-- what stands beside an index: these records are kept, and the two files meet the rules
pub record StandsPlainAt (kept : List Placed) (files : VolumeFiles) (server : ℕ) : Type 0 where
  pub has : kept_at files server ≡ kept
  pub follows : FollowsRecords (dat_bytes files server) (index_bytes files server)
  pub super : IsTrue (has_super (dat_bytes files server))

-- no index that a vacuum made stands, so where `.idx` goes no index is left
abbrev pub HasNoneMade : VolumeFiles → Type 0
HasNoneMade files = (server : ℕ) → server < max_servers → files server Cpx ≡ None

-- An index stands, none that a vacuum made, and at each server with one the same records are kept.
pub record IsKeptPlain (kept : List Placed) (files : VolumeFiles) : Type 0 where
  pub some_index : IsSome (index_home files)
  pub none_made : HasNoneMade files
  pub each : (server : ℕ) → HasIndex files server → StandsPlainAt kept files server

-- ---- either form

-- A plan's volume in its two forms: the records that an index keeps, and the parts of the coded one. A plan that
-- doesn't change the form has the second one alone.
pub record Forms : Type 0 where
  pub changes : Bool
  pub kept : List Placed
  pub parts : Parts

-- Both forms mean this volume, and the coded one has its mode where it is the only one.
pub record AreForms (w : Volume) (f : Forms) : Type 0 where
  pub plain : f.changes ≡ true → IsSameVolume w (fold_records f.kept)
  pub coded : IsSameVolume w (coded_with f.parts.dat f.parts.info f.parts.deleted)
  pub coded_mode : NearMode f.changes w.mode mode.Coded
  pub parts : AreSoundParts f.parts

-- The files have one of the two forms.
abbrev pub HasAForm : Forms → VolumeFiles → Type 0
HasAForm f files = ((f.changes ≡ true) × IsKeptPlain f.kept files) ⊎ IsKeptCoded f.parts files
