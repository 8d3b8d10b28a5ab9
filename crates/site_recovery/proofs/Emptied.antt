-- What is left where listed files are removed.
use Rattle.std.proofs.Common.{◌≡◌, ◌≢◌, inl, inr, ⊎_elim, ℕ, ◌<◌, Bool, true, false, List, Option, Some, None, is_some, refl, ◌∙◌, ap, subst}
use Rattle.std.specs.Prelude.{Contains}
use Rattle.std.specs.List.{All}
use Rattle.std.proofs.lemmas.List.Elements.{All-contains}
use Rattle.site_model.specs.Disk.{Place, File, Files, Image, Disk}
use Rattle.site_model.specs.Disk as disk
use Rattle.file_names.specs.declared.Kind.{Kind}
use Rattle.file_names.specs.declared.FileName.{FileName}
use Rattle.file_names.specs.Names.{IsKind, IsName, name_bytes, place_of}
use Rattle.image_meaning.specs.Files.{contents, files_of}
use Rattle.image_meaning.specs.Meaning.{mode_of, max_volumes}
use Rattle.image_meaning.specs.Laws.Copy.{temp_apart, volumes_apart}
use Rattle.std.proofs.lemmas.Bool.{cases_eq}
use Rattle.site_recovery.specs.declared.forms.Listed.{Listed}
use Rattle.site_recovery.specs.declared.forms.Goes.{Goes}
use Rattle.site_recovery.specs.declared.forms.Goes.TheVariants as goes
use Rattle.site_recovery.specs.Recovering.{IsNamed}
use Rattle.site_recovery.specs.Steps.{KeepsMeaning}
use Rattle.site_recovery.specs.Changes.{IsKindAt, LacksSome, TakesAway, Settles}
use Rattle.site_recovery.specs.CodedSettling.{IsVolumeFile}
use Rattle.site_recovery.specs.Listing.{IsFileIn, AreFilesIn}
use Rattle.site_recovery.specs.Removing.{place_in, IsGoing, IsGoingAmong, AreGone, AreListedBut, HasFilesOf, AreTempsGone, IsVolumeGone}
use Rattle.site_recovery.specs.Laws.Step.{keeps_temps, keeps_absent}
use Rattle.site_recovery.proofs.Taking.{lacks_settled, lacks_standing, settles_takes, settles_more}
use Rattle.site_recovery.proofs.Gone.{stays_gone}

-- the file of these parts
abbrev file_at : ℕ → ℕ → Kind → Bool → Listed
file_at v server kind temp = record { server = server; file = record { volume = v; kind = kind; temp = temp } }

module _ (found : List Listed) (named : All (λ (l : Listed). IsName l.file) found) where
  pub name_is : (l : Listed) → Contains found l → IsName l.file
  name_is l has = All-contains (λ (l : Listed). IsName l.file) found l named has

  -- they have names
  going_named : (which : Goes) (k : Place) → IsGoingAmong which found k → IsNamed k
  going_named which k (l, has, (is, at)) = (l.file.volume, l.server, l.file.kind, l.file.temp, (name_is l has).volume, (name_is l has).kind, at)

  -- the place of a temporary one
  temp_at : (k : Place) (l : Listed) → l.file.temp ≡ true → k ≡ place_in l → k ≡ place_of l.file.volume l.server l.file.kind true
  temp_at k l is at = at ∙ ap (λ (t : Bool). place_of l.file.volume l.server l.file.kind t) is

  keeps_no_temps : (old new : Image) → LacksSome (IsGoingAmong goes.Temporary found) old new → KeepsMeaning old new
  keeps_no_temps old new lacks = keeps_temps old new (λ k none. ⊎_elim (λ same. same) (λ taken. absurd (among k none taken.0)) (lacks k))
    where
      among : (k : Place) → ((v server : ℕ) (kind : Kind) → v < max_volumes → k ≡ place_of v server kind true → ⊥) → IsGoingAmong goes.Temporary found k → ⊥
      among k none (l, has, (is, at)) = none l.file.volume l.server l.file.kind (name_is l has).volume (temp_at k l is at)

  pub temps_settled : {old new : Disk} → TakesAway (IsGoingAmong goes.Temporary found) old new → Settles IsNamed old new
  temps_settled {old} takes = settles_more (going_named goes.Temporary) (settles_takes (λ image lacks. keeps_no_temps (contents old.files) image lacks) takes)

-- a file that was listed, if it stood, is gone
pub listed_gone : (which : Goes) (found : List Listed) (old new : Files) → LacksSome (IsGoingAmong which found) old new → AreGone which found new
    → (l : Listed) → IsName l.file → IsGoing which l → (IsFileIn old l → Contains found l) → new (place_in l) ≡ None
listed_gone which found old new lacks gone l name is among = by_old (old (place_in l)) refl
  where
    by_old : (o : Option File) → old (place_in l) ≡ o → new (place_in l) ≡ None
    by_old None e = stays_gone (place_in l) lacks e
    by_old (Some x) e = gone l (among (record { named = name; stands = ap is_some e })) is

-- a final file is none of the temporary ones
final_apart : (v w server t : ℕ) (kind other : Kind) → v < max_volumes → w < max_volumes → place_of v server kind false ≢ place_of w t other true
final_apart v w server t kind other h k = elim (cases_eq v w) [
  | inl same ↦ subst (λ u. place_of v server kind false ≢ place_of u t other true) same (temp_apart v server t kind other h)
  | inr apart ↦ volumes_apart v w server t kind other false true h k apart
]

pub temps_gone : (found : List Listed) → All (λ (l : Listed). IsName l.file) found → (old new : Files) → AreFilesIn old found → LacksSome (IsGoingAmong goes.Temporary found) old new → AreGone goes.Temporary found new → AreTempsGone old new
temps_gone found named old new are lacks gone = record {
  gone = λ v server kind h is. listed_gone goes.Temporary found old new lacks gone (file_at v server kind true) (record { volume = h; kind = is }) refl (λ file. (are (file_at v server kind true)).1 file);
  finals = λ v server kind h. ⊎_elim (λ same. same) (λ taken. absurd (temp v server kind h taken.0)) (lacks (place_of v server kind false));
  keeps = keeps_no_temps found named (contents old) (contents new) (lacks_standing lacks);
  settled = λ settled. lacks_settled lacks settled;
}
  where
    temp : (v server : ℕ) (kind : Kind) → v < max_volumes → IsGoingAmong goes.Temporary found (place_of v server kind false) → ⊥
    temp v server kind h (l, has, (going, at)) = final_apart v l.file.volume server l.server kind l.file.kind h (name_is found named l has).volume (temp_at found named (place_of v server kind false) l going at)

-- ---- an absent volume

module _ (v : ℕ) (h : v < max_volumes) (its : List Listed) (named : All (λ (l : Listed). IsName l.file) its) (of : All (λ (l : Listed). l.file.volume ≡ v) its) where
  of_volume : (l : Listed) → Contains its l → l.file.volume ≡ v
  of_volume l has = All-contains (λ (l : Listed). l.file.volume ≡ v) its l of has

  going_of : (k : Place) → IsGoingAmong goes.Final its k → IsVolumeFile v k
  going_of k (l, has, (is, at)) = (l.server, l.file.kind, l.file.temp, (name_is its named l has).kind, at ∙ ap (λ (w : ℕ). place_of w l.server l.file.kind l.file.temp) (of_volume l has))

  pub final_at : (k : Place) (l : Listed) → Contains its l → l.file.temp ≡ false → k ≡ place_in l → k ≡ place_of v l.server l.file.kind false
  final_at k l has is at = at ∙ ap (λ (w : ℕ). place_of w l.server l.file.kind l.file.temp) (of_volume l has) ∙ ap (λ (t : Bool). place_of v l.server l.file.kind t) is

  keeps_no_finals : (old new : Image) → mode_of (files_of old v) ≡ None → LacksSome (IsGoingAmong goes.Final its) old new → KeepsMeaning old new
  keeps_no_finals old new absent lacks = keeps_absent old new v h absent
      (λ k none. ⊎_elim (λ same. same) (λ taken. absurd (among k none taken.0)) (lacks k))
      (λ server kind. ⊎_elim (λ same. inl same) (λ taken. inr taken.1) (lacks (place_of v server kind false)))
    where
      among : (k : Place) → ((server : ℕ) (kind : Kind) → k ≡ place_of v server kind false → ⊥) → IsGoingAmong goes.Final its k → ⊥
      among k none (l, has, (is, at)) = none l.server l.file.kind (final_at k l has is at)

  pub none_settled : {old new : Disk} → mode_of (files_of (contents old.files) v) ≡ None → TakesAway (IsGoingAmong goes.Final its) old new → Settles (IsVolumeFile v) old new
  none_settled {old} absent takes = settles_more going_of (settles_takes (λ image lacks. keeps_no_finals (contents old.files) image absent lacks) takes)

  pub none_left : (old new : Files) → mode_of (files_of (contents old) v) ≡ None → HasFilesOf old v its → LacksSome (IsGoingAmong goes.Final its) old new → AreGone goes.Final its new → IsVolumeGone v old new
  none_left old new absent all lacks gone = record {
    keeps = keeps_no_finals (contents old) (contents new) absent (lacks_standing lacks);
    none = λ server kind low is. ap disk.standing (listed_gone goes.Final its old new lacks gone (file_at v server kind false) (record { volume = h; kind = is }) refl (λ file. all (file_at v server kind false) file refl));
    temps = λ server kind is none. stays_gone (place_of v server kind true) lacks none;
    settled = λ settled. lacks_settled lacks settled;
  }

-- ---- the files of one kind

-- those of this kind that go are at servers that don't keep theirs
pub kind_among : (v : ℕ) (kind : Kind) (keeper : Option ℕ) (found : List Listed) (k : Place) → IsGoingAmong (goes.OfKind v kind keeper) found k → IsKindAt v kind false keeper k
kind_among v kind keeper found k (l, has, (is, at)) = (l.server, at ∙ ap (λ (f : FileName). (l.server, name_bytes f)) is.0, is.1)

-- and they are gone, where they were listed
pub kind_gone : (v : ℕ) (kind : Kind) (keeper : Option ℕ) → v < max_volumes → IsKind kind → (found : List Listed) (old new : Files) → AreListedBut keeper old v kind found
    → LacksSome (IsGoingAmong (goes.OfKind v kind keeper) found) old new → AreGone (goes.OfKind v kind keeper) found new → (server : ℕ) → keeper ≢ Some server → new (place_of v server kind false) ≡ None
kind_gone v kind keeper h is found old new all lacks gone server other =
    listed_gone (goes.OfKind v kind keeper) found old new lacks gone (file_at v server kind false) (record { volume = h; kind = is }) (refl, other) (λ file. all server other file.stands)
