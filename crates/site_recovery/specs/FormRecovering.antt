-- What a recovery of volumes of any form finds, and what it leaves. For the recovery of coded volumes, to come.
use Rattle.std.specs.Prelude.{◌≡◌, ◌↔◌, ℕ, ◌<◌, map, Contains}
use Rattle.std.specs.List.Sorted.{IsStrictlyIncreasing}
use Rattle.site_model.specs.Disk.{Files, Disk}
use Rattle.site_model.specs.declared.error.OpenFault.{OpenFault}
use Rattle.site_model.specs.declared.error.OpenFault.TheVariants as open_fault
use Rattle.world_model.specs.declared.types.Mode.TheVariants as mode
use Rattle.file_names.specs.Names.{max_shards}
use Rattle.shard_table.specs.Table.{Table, IsAdded, no_places, place_in, row_of}
use Rattle.image_meaning.specs.Files.{VolumeFiles, contents, files_of, temps_of, shard_home}
use Rattle.image_meaning.specs.Meaning.{max_volumes}
use Rattle.image_meaning.specs.Ends.{HasNoFiles}
use Rattle.site_recovery.specs.Recovering.{IsModeOf, IsPlainAt}
use Rattle.site_recovery.specs.Opening.{PassesForm, IsFirstFault}
use Rattle.site_recovery.specs.FormSettling.{AreLeft}
use Rattle.site_recovery.specs.declared.recovered.Recovered.{Recovered}

-- ---- why an opening fails

-- a rule is told of the lowest volume of which a test fails, with no file changed
abbrev pub TellsFirst : OpenFault → Disk → Disk → Type 0
TellsFirst (open_fault.Unsound volume rule) old new = IsFirstFault old.files volume rule × (new ≡ old)
TellsFirst (open_fault.Fault server) old new = Unit {0}
TellsFirst open_fault.Memory old new = Unit {0}

-- ---- what was found

-- The table has each shard of the coded volumes at its lowest server, and no other shard.
pub record HasShardsIn (files : Files) (table : Table) : Type 0 where
  pub added : (v : ℕ) → IsModeOf files v mode.Coded → IsAdded table v
  pub homes : (v i : ℕ) → IsModeOf files v mode.Coded → i < max_shards → place_in (row_of table v) i ≡ shard_home (files_of (contents files) v) i
  pub others : (v : ℕ) → (IsModeOf files v mode.Coded → ⊥) → row_of table v ≡ no_places

-- The answer lists the volumes by mode, each list rising, with where the plain ones and the shards of the coded ones stand.
pub record FindsForms (found : Recovered) (files : Files) : Type 0 where
  pub plain : (v home : ℕ) → Contains found.plain.items (v, home) ↔ IsPlainAt files v home
  pub plain_rise : IsStrictlyIncreasing (map (λ p. p.0) found.plain.items)
  pub coded : (v : ℕ) → Contains found.coded.items v ↔ IsModeOf files v mode.Coded
  pub coded_rise : IsStrictlyIncreasing found.coded.items
  pub lost : (v : ℕ) → Contains found.lost.items v ↔ IsModeOf files v mode.Lost
  pub lost_rise : IsStrictlyIncreasing found.lost.items
  pub table : HasShardsIn files found.table

-- ---- what stands afterwards

-- The volume passed the tests of its form, and its files are what recovery makes of them, with no temporary one.
pub record IsRecoveredVolume (old new new_temps : VolumeFiles) : Type 0 where
  pub passes : PassesForm old
  pub left : AreLeft old new
  pub no_temps : HasNoFiles new_temps

abbrev pub AreRecovered : Files → Files → Type 0
AreRecovered old new = (v : ℕ) → v < max_volumes → IsRecoveredVolume (files_of (contents old) v) (files_of (contents new) v) (temps_of (contents new) v)
