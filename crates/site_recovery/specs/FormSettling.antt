-- What becomes of a volume's files, whatever its form. For the recovery of coded volumes, to come.
use Rattle.std.specs.Prelude.{◌≡◌, ◌≢◌, ℕ, ◌<◌, Bool, true, false, List, Some, None, Contains}
use Rattle.site_model.specs.Disk.{Files, IsSettled}
use Rattle.file_names.specs.declared.Kind.{Kind}
use Rattle.file_names.specs.Names.{IsKind, place_of}
use Rattle.image_meaning.specs.Files.{VolumeFiles, contents, files_of}
use Rattle.image_meaning.specs.Plain.{index_home}
use Rattle.image_meaning.specs.Meaning.{mode_of, max_volumes}
use Rattle.image_meaning.specs.Ends.{HasNoFiles}
use Rattle.image_meaning.specs.Sound.{IsCoded, IsLost}
use Rattle.wire_num.specs.Laws.Pair.{AreIds}
use Rattle.site_recovery.specs.Recovering.{IsLeftPlain}
use Rattle.site_recovery.specs.Steps.{KeepsMeaning}
use Rattle.site_recovery.specs.CodedSteps.{IsLeftCoded}
use Rattle.site_recovery.specs.CodedSettling.{IsTestedCoded}
use Rattle.site_recovery.specs.Removing.{HasFilesOf}
use Rattle.site_recovery.specs.Opening.{IsTestedForm}
use Rattle.site_recovery.specs.declared.forms.Listed.{Listed}
use Rattle.site_recovery.specs.declared.forms.ListedForm.{ListedForm}
use Rattle.site_recovery.specs.declared.forms.ListedForm.TheVariants as form
use Rattle.site_recovery.specs.declared.forms.Round.{Round}
use Rattle.site_recovery.specs.declared.forms.Round.TheVariants as round
use Rattle.site_recovery.specs.declared.forms.TestedGroup.{TestedGroup}

-- A coded volume has all that it had, and passes the tests with the longest list of deleted ids at each holder.
pub record IsLeftAsCoded (old new : VolumeFiles) : Type 0 where
  pub ids : List ℕ
  pub was : IsTestedCoded old ids
  pub tested : IsTestedCoded new ids
  pub left : IsLeftCoded old new ids
  pub ids_fit : AreIds ids

-- The volume is of the form that it had, and its files are what recovery makes of them.
pub record AreLeft (old new : VolumeFiles) : Type 0 where
  pub same_mode : mode_of new ≡ mode_of old
  pub plain : (home : ℕ) → index_home old ≡ Some home → IsLeftPlain old new home
  pub coded : IsCoded old → IsLeftAsCoded old new
  pub lost : IsLost old → new ≡ old
  pub absent : mode_of old ≡ None → HasNoFiles new

-- They are, and no other volume means less. No temporary file is new, and settled files stay settled.
pub record IsFormSettled (v : ℕ) (old new : Files) : Type 0 where
  pub left : AreLeft (files_of (contents old) v) (files_of (contents new) v)
  pub keeps : KeepsMeaning (contents old) (contents new)
  pub temps : (server : ℕ) (kind : Kind) → IsKind kind → old (place_of v server kind true) ≡ None → new (place_of v server kind true) ≡ None
  pub settled : IsSettled old → IsSettled new

-- ---- the rounds

-- a form is settled in this round
abbrev pub is_in : Round → ListedForm → Bool
is_in round.Plain (form.Plain home dat_length idx_length) = true
is_in round.Coded (form.Plain home dat_length idx_length) = false
is_in round.Absent (form.Plain home dat_length idx_length) = false
is_in round.Plain (form.Coded copies checked) = false
is_in round.Coded (form.Coded copies checked) = true
is_in round.Absent (form.Coded copies checked) = false
is_in r form.Lost = false
is_in round.Plain form.Absent = false
is_in round.Coded form.Absent = false
is_in round.Absent form.Absent = true

abbrev pub in_round : Round → TestedGroup → Bool
in_round r t = is_in r t.form

-- Of these volumes the files are listed, and they are of the forms that were found.
pub record IsDue (files : Files) (found : List Listed) (t : TestedGroup) : Type 0 where
  pub below : t.group.volume < max_volumes
  pub listed : HasFilesOf files t.group.volume found
  pub tested : IsTestedForm (files_of (contents files) t.group.volume) t.form

abbrev pub AreDue : Files → List Listed → (TestedGroup → Bool) → List TestedGroup → Type 0
AreDue files found which tested = (t : TestedGroup) → Contains tested t → which t ≡ true → IsDue files found t

abbrev pub every : TestedGroup → Bool
every t = true

-- a volume that isn't one of these
abbrev pub IsElsewhere : (TestedGroup → Bool) → List TestedGroup → ℕ → Type 0
IsElsewhere which tested v = (t : TestedGroup) → Contains tested t → which t ≡ true → v ≢ t.group.volume

-- These volumes are settled, and all files of others are as they were. No volume means less, no temporary file is new, and settled
-- files stay settled.
pub record HasSettled (which : TestedGroup → Bool) (tested : List TestedGroup) (old new : Files) : Type 0 where
  pub each : (t : TestedGroup) → Contains tested t → which t ≡ true → AreLeft (files_of (contents old) t.group.volume) (files_of (contents new) t.group.volume)
  pub others : (v server : ℕ) (kind : Kind) (temp : Bool) → v < max_volumes → IsElsewhere which tested v → new (place_of v server kind temp) ≡ old (place_of v server kind temp)
  pub keeps : KeepsMeaning (contents old) (contents new)
  pub temps : (v server : ℕ) (kind : Kind) → v < max_volumes → IsKind kind → old (place_of v server kind true) ≡ None → new (place_of v server kind true) ≡ None
  pub settled : IsSettled old → IsSettled new
