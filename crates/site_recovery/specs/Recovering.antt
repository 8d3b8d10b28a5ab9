-- What a recovery finds, what it leaves, and what a stop within it leaves.
use Rattle.std.specs.Prelude.{◌≡◌, ◌⊎◌, ℕ, ◌<◌, Bool, IsSome, List, [], map, take, Option, Some, None, Contains, ◌↔◌}
use Rattle.std.specs.List.Sorted.{IsStrictlyIncreasing}
use Rattle.std.specs.FinMap.{empty}
use Rattle.site_model.specs.Disk.{Place, Files, Image, Disk, IsSettled}
use Rattle.site_model.specs.Leaves.{Leaves}
use Rattle.site_model.specs.Touches.{Touches}
use Rattle.site_model.specs.declared.error.OpenFault.{OpenFault}
use Rattle.site_model.specs.declared.error.OpenFault.TheVariants as open_fault
use Rattle.world_model.specs.World.{Volume}
use Rattle.world_model.specs.declared.types.Mode.{Mode}
use Rattle.world_model.specs.declared.types.Mode.TheVariants as mode
use Rattle.file_names.specs.declared.Kind.{Kind}
use Rattle.file_names.specs.declared.Kind.TheVariants.{Dat, Idx}
use Rattle.file_names.specs.Names.{IsKind, place_of, IsCodedKind}
use Rattle.image_meaning.specs.Files.{VolumeFiles, contents, files_of, temps_of, index_at, dat_at, index_bytes, dat_bytes}
use Rattle.image_meaning.specs.Plain.{index_home}
use Rattle.image_meaning.specs.Meaning.{mode_of, volume_in, max_volumes}
use Rattle.image_meaning.specs.Sound.{IsSound, IsPlain, KeepsRule, KeepsRecords, Stands}
use Rattle.image_meaning.specs.Ends.{IsTidy, MayHave, HasNoFiles}
use Rattle.dat_volume.specs.Opening.{KeepsLengths}
use Rattle.site_recovery.specs.declared.recovered.Recovered.{Recovered}
use Rattle.site_recovery.specs.Tests.{PassesTests, FailsFirst}

-- a file of some volume, by its name
abbrev pub IsNamed : Place → Type 0
IsNamed k = (v : ℕ) × (server : ℕ) × (kind : Kind) × (temp : Bool) × (v < max_volumes) × IsKind kind × (k ≡ place_of v server kind temp)

-- ---- coded volumes, which are not built yet

-- a file of the coded form stands for the volume, or a temporary one
abbrev pub HasCodedFile : Files → ℕ → Type 0
HasCodedFile files v = (server : ℕ) × (kind : Kind) × (temp : Bool) × IsCodedKind kind × IsSome (files (place_of v server kind temp))

-- the lowest volume for which one stands
pub record IsFirstCoded (files : Files) (v : ℕ) : Type 0 where
  pub below : v < max_volumes
  pub has : HasCodedFile files v
  pub first : (u : ℕ) → u < v → HasCodedFile files u → ⊥

abbrev pub HasNoCoded : Files → Type 0
HasNoCoded files = (v : ℕ) → v < max_volumes → HasCodedFile files v → ⊥

-- ---- why an opening fails

-- the lowest volume of which a test fails, and the first rule of which it does
pub record IsFirstBroken (files : Files) (v rule : ℕ) : Type 0 where
  pub below : v < max_volumes
  pub plain : IsPlain (files_of (contents files) v)
  pub none_coded : HasNoCoded files
  pub fails : FailsFirst (files_of (contents files) v) rule
  pub first : (u : ℕ) → u < v → PassesTests (files_of (contents files) u)
  -- so the rule is false, or where it is the second, this one or the first
  pub broken : KeepsRule rule (files_of (contents files) v) → (rule ≡ 2 → KeepsRecords (files_of (contents files) v)) → ⊥

-- a rule is told with no file changed
abbrev pub TellsWhy : OpenFault → Disk → Disk → Type 0
TellsWhy (open_fault.Unsound volume rule) old new = (((rule ≡ 0) × IsFirstCoded old.files volume) ⊎ IsFirstBroken old.files volume rule) × (new ≡ old)
TellsWhy (open_fault.Fault server) old new = Unit {0}
TellsWhy open_fault.Memory old new = Unit {0}

-- ---- what was found

abbrev pub IsModeOf : Files → ℕ → Mode → Type 0
IsModeOf files v m = (v < max_volumes) × (mode_of (files_of (contents files) v) ≡ Some m)

-- the plain volume stands at this server
pub record IsPlainAt (files : Files) (v home : ℕ) : Type 0 where
  pub below : v < max_volumes
  pub at : index_home (files_of (contents files) v) ≡ Some home

-- The answer lists the volumes by mode, each list rising, and where the plain ones stand.
pub record Finds (found : Recovered) (servers : ℕ) (files : Files) : Type 0 where
  pub table : found.table ≡ record { servers = servers; rows = empty }
  pub plain : (v home : ℕ) → Contains found.plain.items (v, home) ↔ IsPlainAt files v home
  pub plain_rise : IsStrictlyIncreasing (map (λ p. p.0) found.plain.items)
  pub none_coded : found.coded.items ≡ []
  pub lost : (v : ℕ) → Contains found.lost.items v ↔ IsModeOf files v mode.Lost
  pub lost_rise : IsStrictlyIncreasing found.lost.items

-- ---- what stands afterwards

-- Beside its index at the home stands its data file, both of the lengths that the tests gave, and no other file does.
pub record IsLeftPlain (old new : VolumeFiles) (home : ℕ) : Type 0 where
  pub lengths : ℕ × ℕ
  pub keeps : KeepsLengths (dat_bytes old home) (index_bytes old home) lengths
  pub dat_cut : (bytes : List ℕ) → dat_at old home ≡ Some bytes → new home Dat ≡ Some (take lengths.0 bytes)
  pub idx_cut : (bytes : List ℕ) → index_at old home ≡ Some bytes → new home Idx ≡ Some (take lengths.1 bytes)
  pub alone : (server : ℕ) (kind : Kind) → IsKind kind → Stands new server kind → (server ≡ home) × ((kind ≡ Idx) ⊎ (kind ≡ Dat))

-- what recovery makes of a volume's files
pub record IsSettledVolume (old new new_temps : VolumeFiles) : Type 0 where
  pub no_temps : HasNoFiles new_temps
  pub passes : PassesTests old
  pub same_mode : mode_of new ≡ mode_of old
  pub plain : (home : ℕ) → index_home old ≡ Some home → IsLeftPlain old new home
  pub lost : mode_of old ≡ Some mode.Lost → new ≡ old
  pub absent : mode_of old ≡ None → HasNoFiles new

abbrev pub IsRecovered : Files → Files → Type 0
IsRecovered old new = HasNoCoded old × ((v : ℕ) → v < max_volumes → IsSettledVolume (files_of (contents old) v) (files_of (contents new) v) (temps_of (contents new) v))

-- from a sound image: tidy, with the meaning that it had, and settled where it was
pub record IsTidied (old new : Files) : Type 0 where
  pub tidy : IsTidy (contents new)
  pub means : (v : ℕ) → volume_in (contents new) v ≡ volume_in (contents old) v
  pub sound : IsSound (contents new)
  pub settled : IsSettled old → IsSettled new

-- ---- stops

-- A stop leaves a sound image, and a loss then leaves of each volume what one might have left at the start.
pub record IsLeftSound (opening image : Image) : Type 0 where
  pub sound : IsSound image
  pub may_have : (v : ℕ) (it : Option Volume) → MayHave image v it → MayHave opening v it

pub record Recovers (old new : Disk) : Type 0 where
  pub touches : Touches IsNamed old new
  pub leaves : IsSettled old.files → IsSound (contents old.files) → Leaves old new (λ image said. IsLeftSound (contents old.files) image)
