-- What an opening tests of volumes of any form. For the recovery of coded volumes, to come.
use Rattle.std.specs.Prelude.{◌≡◌, ◌⊎◌, ℕ, ◌<◌, Bool, true, false, List, map, Option, Some, None, Contains}
use Rattle.std.specs.Global.{Vec}
use Rattle.site_model.specs.Disk.{Files}
use Rattle.site_model.specs.declared.error.OpenFault.{OpenFault}
use Rattle.site_model.specs.declared.error.OpenFault.TheVariants as open_fault
use Rattle.file_names.specs.declared.Kind.{Kind}
use Rattle.file_names.specs.declared.Kind.TheVariants.{Dat, Idx, Cpd, Cpx, Shard, Ecx, Ecj, Vif}
use Rattle.image_meaning.specs.Files.{VolumeFiles, contents, files_of, has_index}
use Rattle.image_meaning.specs.CodedTests.{PassesCoded, FailsCodedFirst}
use Rattle.image_meaning.specs.Meaning.{mode_of, max_volumes}
use Rattle.image_meaning.specs.Sound.{IsPlain, IsCoded, IsLost, HasOneRatio}
use Rattle.coded_volume.specs.declared.checking.Checked.{Checked}
use Rattle.coded_volume.specs.declared.checking.ShardCopy.{ShardCopy}
use Rattle.coded_volume.specs.Checking.{AreCopies, AreStanding, HasRoom}
use Rattle.site_recovery.specs.Tests.{PassesTests, FailsFirst}
use Rattle.site_recovery.specs.Homes.{IsHome, IsTestedPlain, IsBroken}
use Rattle.site_recovery.specs.CodedSettling.{IsFoundCoded}
use Rattle.site_recovery.specs.declared.forms.Home.{Home}
use Rattle.site_recovery.specs.declared.forms.Group.{Group}
use Rattle.site_recovery.specs.declared.forms.Listed.{Listed}
use Rattle.site_recovery.specs.declared.forms.ListedForm.{ListedForm}
use Rattle.site_recovery.specs.declared.forms.ListedForm.TheVariants as form
use Rattle.site_recovery.specs.declared.forms.TestedGroup.{TestedGroup}

-- ---- the servers with an index

-- the server of a file of this kind, if it is an index
abbrev pub index_by : ℕ → Bool → Kind → Option ℕ
index_by server true kind = None
index_by server false Dat = None
index_by server false Idx = Some server
index_by server false Cpd = None
index_by server false Cpx = Some server
index_by server false (Shard i) = None
index_by server false Ecx = None
index_by server false Ecj = None
index_by server false Vif = None

abbrev pub index_server : Listed → Option ℕ
index_server l = index_by l.server l.file.temp l.file.kind

-- the server's index, if it has one
abbrev pub IsHomeAt : VolumeFiles → ℕ → Option Home → Type 0
IsHomeAt files server None = has_index files server ≡ false
IsHomeAt files server (Some home) = IsHome files home

-- a home that was found is at this server
abbrev pub IsAtServer : ℕ → Option Home → Type 0
IsAtServer server None = Unit {0}
IsAtServer server (Some home) = home.server ≡ server

-- ---- what is tested

-- the tests of the volume's form: rules 1, 2 and 3 of a plain volume, 4, 5, 6 and 8 of a coded one, and 4 of a lost one
pub record PassesForm (files : VolumeFiles) : Type 0 where
  pub plain : IsPlain files → PassesTests files
  pub coded : IsCoded files → PassesCoded files
  pub lost : IsLost files → HasOneRatio files

-- the first rule that the tests of the form find broken
abbrev pub FailsForm : VolumeFiles → ℕ → Type 0
FailsForm files rule =
    (IsPlain files × FailsFirst files rule)
    ⊎ (IsCoded files × FailsCodedFirst files rule)
    ⊎ (IsLost files × (rule ≡ 4) × (HasOneRatio files → ⊥))

-- it is, so the rule is false, or where it is the second, this one or the first
abbrev pub FailsListed : ℕ → VolumeFiles → OpenFault → Type 0
FailsListed v files (open_fault.Unsound volume rule) = (volume ≡ v) × FailsForm files rule × IsBroken files rule
FailsListed v files (open_fault.Fault server) = Unit {0}
FailsListed v files open_fault.Memory = Unit {0}

-- ---- what is found

-- the volume's form, with where its files are and how much of them is kept
abbrev pub IsFound : VolumeFiles → ListedForm → Type 0
IsFound files (form.Plain home dat_length idx_length) = IsTestedPlain files home (dat_length, idx_length)
IsFound files (form.Coded copies checked) = AreStanding files copies.items × IsFoundCoded files checked
IsFound files form.Lost = IsLost files
IsFound files form.Absent = mode_of files ≡ None

-- it passes the tests of its form, which is this one
pub record IsTestedForm (files : VolumeFiles) (found : ListedForm) : Type 0 where
  pub passes : PassesForm files
  pub has : IsFound files found

-- What was found is within the bounds that hold whatever a site tells: its home or its copies are at so many servers, and a coded
-- volume has room for its deletions.
abbrev pub IsWithin : ℕ → ListedForm → Type 0
IsWithin servers (form.Plain home dat_length idx_length) = home < servers
IsWithin servers (form.Coded copies checked) = AreCopies servers copies.items × HasRoom checked.info checked.deleted.items
IsWithin servers form.Lost = Unit {0}
IsWithin servers form.Absent = Unit {0}

-- what was read of a volume with shards is within them
abbrev pub HasRoomFor : Option Checked → Type 0
HasRoomFor None = Unit {0}
HasRoomFor (Some checked) = HasRoom checked.info checked.deleted.items

-- a volume without index and shards, by whether it has a long data file
abbrev pub without_shards : Bool → ListedForm
without_shards true = form.Lost
without_shards false = form.Absent

-- a volume with these copies of shards, by what the tests answered
abbrev pub with_shards : Vec ShardCopy → Option Checked → ListedForm
with_shards copies None = form.Lost
with_shards copies (Some checked) = form.Coded copies checked

-- ---- all volumes

-- each of these groups was tested
pub record AreTestedGroups (files : Files) (groups : List Group) (tested : List TestedGroup) : Type 0 where
  pub groups_are : map (λ t. t.group) tested ≡ groups
  pub each : (t : TestedGroup) → Contains tested t → IsTestedForm (files_of (contents files) t.group.volume) t.form

-- the lowest volume of which a test fails, and the first rule of which it does
pub record IsFirstFault (files : Files) (v rule : ℕ) : Type 0 where
  pub below : v < max_volumes
  pub fails : FailsForm (files_of (contents files) v) rule
  pub broken : IsBroken (files_of (contents files) v) rule
  pub first : (u : ℕ) → u < v → PassesForm (files_of (contents files) u)

abbrev pub TellsFirstFault : Files → OpenFault → Type 0
TellsFirstFault files (open_fault.Unsound volume rule) = IsFirstFault files volume rule
TellsFirstFault files (open_fault.Fault server) = Unit {0}
TellsFirstFault files open_fault.Memory = Unit {0}
