-- Which of the files that are listed are removed. For the recovery of coded volumes, to come.
use Rattle.std.specs.Prelude.{◌≡◌, ◌≢◌, ℕ, ◌<◌, Bool, true, false, List, slice_index_or, Option, Some, None, IsSome, Contains}
use Rattle.site_model.specs.Disk.{Place, Files, IsSettled}
use Rattle.file_names.specs.declared.Kind.{Kind}
use Rattle.file_names.specs.declared.Kind.TheVariants.{Ecj}
use Rattle.file_names.specs.Names.{IsKind, name_bytes, place_of, is_coded_kind}
use Rattle.image_meaning.specs.Files.{contents, files_of}
use Rattle.image_meaning.specs.Meaning.{max_volumes}
use Rattle.image_meaning.specs.Ends.{HasNoFiles}
use Rattle.site_recovery.specs.Listing.{IsFileIn}
use Rattle.site_recovery.specs.Steps.{KeepsMeaning}
use Rattle.site_recovery.specs.CodedGone.{IsBesideKind}
use Rattle.site_recovery.specs.declared.forms.Listed.{Listed}
use Rattle.site_recovery.specs.declared.forms.Goes.{Goes}
use Rattle.site_recovery.specs.declared.forms.Goes.TheVariants as goes

-- where the file stands
abbrev pub place_in : Listed → Place
place_in l = (l.server, name_bytes l.file)

abbrev pub IsGoing : Goes → Listed → Type 0
IsGoing goes.Temporary l = l.file.temp ≡ true
IsGoing goes.Coded l = (l.file.temp ≡ false) × (is_coded_kind l.file.kind ≡ true)
IsGoing goes.Final l = l.file.temp ≡ false
IsGoing (goes.OfKind volume kind keeper) l = (l.file ≡ record { volume = volume; kind = kind; temp = false }) × (keeper ≢ Some l.server)
IsGoing (goes.Beside volume) l = (l.file.temp ≡ false) × (l.file.volume ≡ volume) × IsBesideKind l.file.kind

-- the place of this file, if it goes
abbrev pub IsGoingAt : Goes → Listed → Place → Type 0
IsGoingAt which l k = IsGoing which l × (k ≡ place_in l)

-- the place of one of the files that goes
abbrev pub IsGoingAmong : Goes → List Listed → Place → Type 0
IsGoingAmong which found k = (l : Listed) × Contains found l × IsGoingAt which l k

-- of the files that go none stands
abbrev pub AreGone : Goes → List Listed → Files → Type 0
AreGone which found files = (l : Listed) → Contains found l → IsGoing which l → files (place_in l) ≡ None

-- the same of a volume's texts, indexes and journals, at servers that don't keep them
abbrev pub AreListedGone : ℕ → List Bool → List Listed → Files → Type 0
AreListedGone v keeps found files = (l : Listed) → Contains found l → IsGoing (goes.Beside v) l → slice_index_or keeps l.server false ≡ false → files (place_in l) ≡ None

-- each of these files of the volume that stands is among them, but the one that is kept
abbrev pub AreListedBut : Option ℕ → Files → ℕ → Kind → List Listed → Type 0
AreListedBut keeper files v kind found =
    (server : ℕ) → keeper ≢ Some server → IsSome (files (place_of v server kind false)) → Contains found (record { server = server; file = record { volume = v; kind = kind; temp = false } })

-- ---- what is left without them

-- all files of the volume are among these
abbrev pub HasFilesOf : Files → ℕ → List Listed → Type 0
HasFilesOf files v its = (l : Listed) → IsFileIn files l → l.file.volume ≡ v → Contains its l

-- each of the volume's files that stands is among these, but temporary ones, and the journals at such servers
abbrev pub HasFinalsBut : (ℕ → Type 0) → Files → ℕ → List Listed → Type 0
HasFinalsBut journals files v its =
    (server : ℕ) (kind : Kind) → IsKind kind → (kind ≡ Ecj → journals server → ⊥) → IsSome (files (place_of v server kind false)) → Contains its (record { server = server; file = record { volume = v; kind = kind; temp = false } })

-- the same but for all journals
abbrev pub HasAllButJournals : Files → ℕ → List Listed → Type 0
HasAllButJournals files v its = HasFinalsBut (λ server. Unit {0}) files v its

-- No temporary file is left, the others are as they were, and no volume means less. Settled files stay settled.
pub record AreTempsGone (old new : Files) : Type 0 where
  pub gone : (v server : ℕ) (kind : Kind) → v < max_volumes → IsKind kind → new (place_of v server kind true) ≡ None
  pub finals : (v server : ℕ) (kind : Kind) → v < max_volumes → new (place_of v server kind false) ≡ old (place_of v server kind false)
  pub keeps : KeepsMeaning (contents old) (contents new)
  pub settled : IsSettled old → IsSettled new

-- The volume has no file left, and no other one means less. No temporary file is new, and settled files stay settled.
pub record IsVolumeGone (v : ℕ) (old new : Files) : Type 0 where
  pub none : HasNoFiles (files_of (contents new) v)
  pub keeps : KeepsMeaning (contents old) (contents new)
  pub temps : (server : ℕ) (kind : Kind) → IsKind kind → old (place_of v server kind true) ≡ None → new (place_of v server kind true) ≡ None
  pub settled : IsSettled old → IsSettled new
