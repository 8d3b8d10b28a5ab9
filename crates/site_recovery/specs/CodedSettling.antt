-- What becomes of a coded volume's files. For the recovery of coded volumes, to come.
use Rattle.std.specs.Prelude.{◌≡◌, ◌⊎◌, ℕ, Bool, true, List, Option, Some, None}
use Rattle.site_model.specs.Disk.{Place, Files, IsSettled}
use Rattle.file_names.specs.declared.Kind.{Kind}
use Rattle.file_names.specs.Names.{IsKind, place_of}
use Rattle.image_meaning.specs.Files.{VolumeFiles, contents, files_of}
use Rattle.site_model.specs.declared.error.OpenFault.{OpenFault}
use Rattle.site_model.specs.declared.error.OpenFault.TheVariants as open_fault
use Rattle.image_meaning.specs.Sound.{IsCoded, IsLost, HasOneRatio}
use Rattle.image_meaning.specs.Coded.{volume_info}
use Rattle.image_meaning.specs.CodedTests.{PassesCoded, FailsCodedFirst}
use Rattle.wire_num.specs.Laws.Pair.{AreIds}
use Rattle.coded_volume.specs.declared.checking.Checked.{Checked}
use Rattle.site_recovery.specs.Steps.{KeepsMeaning}
use Rattle.site_recovery.specs.CodedSteps.{IsLeftCoded}

-- a file of the volume by its name, also a temporary one
abbrev pub IsVolumeFile : ℕ → Place → Type 0
IsVolumeFile v k = (server : ℕ) × (kind : Kind) × (temp : Bool) × IsKind kind × (k ≡ place_of v server kind temp)

-- The volume is coded and passes the tests, and these are the ids of its longest journal.
pub record IsTestedCoded (files : VolumeFiles) (ids : List ℕ) : Type 0 where
  pub coded : IsCoded files
  pub passes : PassesCoded files
  pub longest : passes.journal.longest ≡ ids

-- It is left tidy, of the same form, and keeps the rules that are tested. No temporary file is new. Where it was sound it is, with the
-- meaning that it had.
pub record IsSettledCoded (v : ℕ) (ids : List ℕ) (old new : Files) : Type 0 where
  pub tested : IsTestedCoded (files_of (contents new) v) ids
  pub left : IsLeftCoded (files_of (contents old) v) (files_of (contents new) v) ids
  pub ids_fit : AreIds ids
  pub keeps : KeepsMeaning (contents old) (contents new)
  pub temps : (server : ℕ) (kind : Kind) → IsKind kind → old (place_of v server kind true) ≡ None → new (place_of v server kind true) ≡ None
  pub settled : IsSettled old → IsSettled new

-- ---- the tests

-- The volume is coded, and passes the tests with this text and these ids.
pub record IsFoundCoded (files : VolumeFiles) (checked : Checked) : Type 0 where
  pub tested : IsTestedCoded files checked.deleted.items
  pub told : volume_info files ≡ Some checked.info

-- coded, with its text and the ids of the longest journal, or lost, with texts that tell one ratio
abbrev pub HasShardForm : VolumeFiles → Option Checked → Type 0
HasShardForm files (Some checked) = IsFoundCoded files checked
HasShardForm files None = IsLost files × HasOneRatio files

-- The volume is coded, and this is the first tested rule that is false of it, or it is lost, and its texts tell several ratios.
abbrev pub FailsShards : ℕ → VolumeFiles → OpenFault → Type 0
FailsShards v files (open_fault.Unsound volume rule) = (volume ≡ v) × ((IsCoded files × FailsCodedFirst files rule) ⊎ (IsLost files × (rule ≡ 4) × (HasOneRatio files → ⊥)))
FailsShards v files (open_fault.Fault server) = Unit {0}
FailsShards v files open_fault.Memory = Unit {0}
