-- The steps of a recovery on a coded volume keep it sound, and what it means after any loss that it survives.
-- For the recovery of coded volumes, to come.
use Rattle.std.proofs.Common.{◌≡◌, ◌≢◌, ◌⊎◌, inl, inr, ⊎_elim, ℕ, ◌<◌, Bool, false, true, List, [], ◌∷◌, length, Some, sym, ◌∙◌, ap, subst, arith}
use Rattle.std.proofs.Math.ListN.{length-append}
use Rattle.std.proofs.lemmas.Bool.{cases_eq}
use Rattle.site_model.specs.Disk.{Place, Image, Disk}
use Rattle.site_model.specs.Leaves.{weaker, both}
use Rattle.site_model.specs.Touches.{firm_left}
use Rattle.file_names.specs.declared.Kind.{Kind}
use Rattle.file_names.specs.declared.Kind.TheVariants.{Ecj}
use Rattle.wire_num.specs.Pairs.{pairs, journal_bytes}
use Rattle.wire_num.specs.Laws.Pair.{AreIds, pairs_of_journal}
use Rattle.image_meaning.specs.Files.{VolumeFiles, contents, files_of}
use Rattle.file_names.specs.Names.{place_of}
use Rattle.image_meaning.specs.Coded.{deleted_at}
use Rattle.image_meaning.specs.Meaning.{volume_of, max_volumes}
use Rattle.image_meaning.specs.Sound.{IsHolder, IsCoded, IsSoundVolume}
use Rattle.image_meaning.specs.Ends.{IsStage, IsTidyCoded}
use Rattle.image_meaning.specs.Parts.{Parts, AllHave}
use Rattle.image_meaning.specs.Laws.Part.{HasParts, parts_of, made_sound}
use Rattle.image_meaning.specs.CodedCopies.{IsSpread, IsCodedThinned, spread_made, spread_form, spread_copies, thinned_made, thinned_form, thinned_copies}
use Rattle.image_meaning.specs.Laws.Copy.{HasFewerCopies, no_loss, survives_none, others_left, temp_apart}
use Rattle.image_meaning.specs.JournalPlaces.{journal_apart}
use Rattle.site_recovery.specs.Steps.{KeepsMeaning}
use Rattle.site_recovery.specs.Laws.Step.{same_volume}
use Rattle.site_recovery.specs.Changes.{Settles}
use Rattle.site_recovery.specs.Spreading.{IsJournalAmong, Spreads}
use Rattle.site_recovery.specs.CodedSteps.{IsLongest, HaveSameIds, IsLeftCoded}

-- ---- what steps keep

-- Only files of one volume change, temporary ones among them.
pub volume_alone : (old new : Image) (v : ℕ) → v < max_volumes → ((k : Place) → ((server : ℕ) (kind : Kind) (temp : Bool) → k ≢ place_of v server kind temp) → new k ≡ old k)
    → (IsSoundVolume (files_of old v) → IsSoundVolume (files_of new v) × HasFewerCopies (files_of old v) (files_of new v)) → KeepsMeaning old new
volume_alone old new v h others here w k = elim (cases_eq w v) [
  | inl same ↦ subst (λ u. IsSoundVolume (files_of old u) → IsSoundVolume (files_of new u) × HasFewerCopies (files_of old u) (files_of new u)) (sym same) here
  | inr other ↦ same_volume old new w (others_left w v new old k h other others)
]

-- a step that keeps the meaning after any loss keeps it after none
pub copies_mean : (files left : VolumeFiles) → HasFewerCopies files left → volume_of left ≡ volume_of files
copies_mean files left fewer = ⊎_elim (λ same. same) (λ same. same) (fewer.leaves no_loss (survives_none left))

-- ---- which ids are deleted

two_stages : (a b : List ℕ) → IsStage a b → IsStage b a → a ≡ b
two_stages a b (inl same) second = sym same
two_stages a b (inr more) (inl same) = same
two_stages a b (inr (x, e)) (inr (y, f)) = absurd (omega (arith, ap length e, ap length f, length-append b (x ∷ []), length-append a (y ∷ [])))

-- the longest list is that of the parts
longest_is : (files : VolumeFiles) (ids : List ℕ) (whole : HasParts files) → IsLongest files ids → whole.parts.deleted ≡ ids
longest_is files ids whole longest =
    two_stages whole.parts.deleted ids
    (subst (IsStage whole.parts.deleted) longest.has (whole.made.stages longest.server longest.holds))
    (subst (IsStage ids) whole.all.has (longest.stages whole.all.server whole.all.holds))

-- ---- journals spread

-- the same as a spread of the parts
spread_of : (files left : VolumeFiles) (ids : List ℕ) (parts : Parts) → parts.deleted ≡ ids → ((server : ℕ) (kind : Kind) → kind ≢ Ecj → left server kind ≡ files server kind)
    → ((server : ℕ) → IsHolder files server → (left server Ecj ≡ files server Ecj) ⊎ (left server Ecj ≡ Some (journal_bytes ids))) → IsSpread parts files left
spread_of files left ids parts same others journals = record {
  others = others;
  journals = λ server h. subst (λ l. (left server Ecj ≡ files server Ecj) ⊎ (left server Ecj ≡ Some (journal_bytes l))) (sym same) (journals server h);
}

-- From a sound coded volume, of which these ids are the longest list: some holders' journals have it by now.
pub keeps_spread : (old new : Image) (v : ℕ) (ids : List ℕ) → v < max_volumes → IsCoded (files_of old v) → IsLongest (files_of old v) ids → AreIds ids
    → ((k : Place) → ((server : ℕ) (kind : Kind) (temp : Bool) → k ≢ place_of v server kind temp) → new k ≡ old k)
    → ((server : ℕ) (kind : Kind) → kind ≢ Ecj → files_of new v server kind ≡ files_of old v server kind)
    → ((server : ℕ) → IsHolder (files_of old v) server → (files_of new v server Ecj ≡ files_of old v server Ecj) ⊎ (files_of new v server Ecj ≡ Some (journal_bytes ids)))
    → KeepsMeaning old new
keeps_spread old new v ids h coded longest fit others same journals = volume_alone old new v h others (λ sound.
    let whole = parts_of (files_of old v) coded sound in
    let is = longest_is (files_of old v) ids whole longest in
    let spread = spread_of (files_of old v) (files_of new v) ids whole.parts is same journals in
    let fits = subst AreIds (sym is) fit in (
      made_sound whole.parts (files_of new v) (spread_made whole.parts (files_of old v) (files_of new v) fits whole.made spread)
          (spread_form whole.parts (files_of old v) (files_of new v) fits whole.made spread whole.form) whole.sound,
      spread_copies whole.parts (files_of old v) (files_of new v) fits whole.made spread whole.form whole.sound whole.all,
    ))

-- ---- copies taken away

-- From a sound coded volume whose holders have the same deleted ids: some copies are gone by now.
pub keeps_coded_thinned : (old new : Image) (v : ℕ) → v < max_volumes → IsCoded (files_of old v) → HaveSameIds (files_of old v)
    → ((k : Place) → ((server : ℕ) (kind : Kind) (temp : Bool) → k ≢ place_of v server kind temp) → new k ≡ old k)
    → IsCodedThinned (files_of old v) (files_of new v) → KeepsMeaning old new
keeps_coded_thinned old new v h coded same others thinned = volume_alone old new v h others (λ sound.
    let whole = parts_of (files_of old v) coded sound in
    let all : AllHave whole.parts (files_of old v) = λ server holds. same server whole.all.server holds whole.all.holds ∙ whole.all.has in (
      made_sound whole.parts (files_of new v) (thinned_made whole.parts (files_of old v) (files_of new v) whole.made thinned)
          (thinned_form whole.parts (files_of old v) (files_of new v) whole.made thinned whole.form) whole.sound,
      thinned_copies whole.parts (files_of old v) (files_of new v) whole.made thinned all whole.form whole.sound,
    ))

-- ---- what is left is tidy

pub left_coded_tidy : (old new : VolumeFiles) (ids : List ℕ) → AreIds ids → IsLeftCoded old new ids → IsTidyCoded new
left_coded_tidy old new ids fit left = record {
  once = λ s t i h a b. some_is _ _ (sym (left.shards s i h a) ∙ left.shards t i h b);
  same_journal = λ s t a b. deleted_is s a ∙ sym (deleted_is t b);
  whole_journal = λ server h. left.journals server h ∙ ap journal_bytes (sym (deleted_is server h));
  no_dat = left.no_dat;
  no_cpd = left.no_cpd;
  at_holders = left.at_holders;
}
  where
    some_is : (x y : ℕ) → Some x ≡ Some y → x ≡ y
    some_is x y e = cc

    deleted_is : (server : ℕ) → IsHolder new server → deleted_at new server ≡ ids
    deleted_is server h = ap pairs (left.journals server h) ∙ pairs_of_journal ids fit

-- ---- the run that spreads the journals

-- each image that it leaves keeps the meaning
pub spread_settles : (v : ℕ) (servers ids : List ℕ) (old new : Disk) → v < max_volumes → IsCoded (files_of (contents old.files) v) → IsLongest (files_of (contents old.files) v) ids → AreIds ids
    → Spreads v servers ids old new → Settles (IsJournalAmong v servers) old new
spread_settles v servers ids old new h coded longest fit did = record {
  touches = did.touches;
  leaves = λ settled. weaker (both did.touches.leaves (did.leaves settled)) (λ image said left.
      keeps_spread (contents old.files) image v ids h coded longest fit
      (λ k none. firm_left (old.files k) (image k) (settled k) (left.0.0 k (λ is. none is.0 Ecj is.1 is.3)))
      (λ server kind other. firm_left (old.files (place_of v server kind false)) (image (place_of v server kind false)) (settled (place_of v server kind false))
      (left.0.0 (place_of v server kind false) (λ is. apart server kind other is.0 is.1 is.3)))
      (λ server holds. left.1 server));
}
  where
    apart : (server : ℕ) (kind : Kind) → kind ≢ Ecj → (t : ℕ) (temp : Bool) → place_of v server kind false ≢ place_of v t Ecj temp
    apart server kind other t false e = journal_apart v server t kind h other e
    apart server kind other t true e = temp_apart v server t kind Ecj h e
