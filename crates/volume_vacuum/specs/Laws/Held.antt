-- What the images that a vacuum leaves mean. For `store_core`, to come.
use Rattle.std.proofs.Common.{◌≡◌, ◌⊎◌, inl, inr, ⊎_elim, ℕ, ◌+◌, List, [], ◌∷◌, Bool, Some, IsTrue, sum_by, refl, sym, ◌∙◌, ap}
use Rattle.std.specs.FinMap.{values}
use Rattle.wire_num.specs.Laws.Number.{AreBytes}
use Rattle.world_model.specs.Sizes.{length_of_content}
use Rattle.world_model.specs.World.{Volume, Needle, empty_volume}
use Rattle.volume_forms.specs.Forms.{has_super}
use Rattle.needle_record.specs.Records.{Placed, after_record, fold_from, fold_records}
use Rattle.image_meaning.specs.Files.{VolumeFiles, lose_files}
use Rattle.image_meaning.specs.Plain.{IsExact}
use Rattle.image_meaning.specs.Meaning.{volume_of}
use Rattle.image_meaning.specs.Sound.{IsSoundVolume}
use Rattle.image_meaning.specs.Ends.{SurvivesIn}
use Rattle.image_meaning.specs.Laws.Plain.{exact_kept_records, exact_follows}
use Rattle.image_meaning.specs.Laws.Vacuum.{held_means, held_sound, held_left}
use Rattle.volume_vacuum.specs.Live.{vacuumed, new_dat, new_idx}
use Rattle.volume_vacuum.specs.Laws.Needles.{vacuumed-needles, vacuumed-length}
use Rattle.volume_vacuum.specs.Laws.Moves.{vacuumed-exact, new_dat-super}
use Rattle.volume_vacuum.specs.Home.{IsHeldByEither}

-- the world's volume, which uses the super block and the record of each needle
abbrev pub shrunk : Volume → Volume
shrunk v = record v { used = 8 + sum_by (λ (n : Needle). length_of_content n.content) (values v.needles) }

same_mode : (v : Volume) (ps : List Placed) → (fold_from v ps).mode ≡ v.mode
same_mode v [] = refl
same_mode v (p ∷ ps) = same_mode (after_record v p.1) ps

pub vacuumed-shrunk : (ps : List Placed) → fold_records (vacuumed ps) ≡ shrunk (fold_records ps)
vacuumed-shrunk ps =
    let mode = same_mode empty_volume (vacuumed ps) ∙ sym (same_mode empty_volume ps) in
    let used = vacuumed-length ps in
    let needles = vacuumed-needles ps in
    λ i. record { mode = mode i; used = used i; needles = needles i }

module _ (files : VolumeFiles) (home : ℕ) (dat idx : List ℕ) (ps : List Placed) (exact : IsExact dat idx ps) (bytes : AreBytes dat) (held : IsHeldByEither files home dat idx (new_dat dat ps) (new_idx ps)) where
  new_exact : IsExact (new_dat dat ps) (new_idx ps) (vacuumed ps)
  new_exact = vacuumed-exact dat idx ps exact bytes

  -- the volume as before, or shrunk
  pub either-means : (volume_of files ≡ Some (fold_records ps)) ⊎ (volume_of files ≡ Some (shrunk (fold_records ps)))
  either-means = ⊎_elim
      (λ old. inl (held_means files home dat idx old ∙ ap (λ qs. Some (fold_records qs)) (exact_kept_records dat idx ps exact)))
      (λ new. inr (
      held_means files home (new_dat dat ps) (new_idx ps) new ∙ ap (λ qs. Some (fold_records qs)) (exact_kept_records (new_dat dat ps) (new_idx ps) (vacuumed ps) new_exact)
      ∙ ap Some (vacuumed-shrunk ps)
      ))
      held

  pub either-sound : IsTrue (has_super dat) → IsSoundVolume files
  either-sound super = ⊎_elim
      (λ old. held_sound files home dat idx old (exact_follows dat idx ps exact) super)
      (λ new. held_sound files home (new_dat dat ps) (new_idx ps) new (exact_follows (new_dat dat ps) (new_idx ps) (vacuumed ps) new_exact) (new_dat-super dat ps super))
      held

  -- and so after each loss that it survives
  pub either-left : (lost : ℕ → Bool) → SurvivesIn files (lose_files files lost) → IsHeldByEither (lose_files files lost) home dat idx (new_dat dat ps) (new_idx ps)
  either-left lost survives = ⊎_elim
      (λ old. inl (held_left files home dat idx old lost survives))
      (λ new. inr (held_left files home (new_dat dat ps) (new_idx ps) new lost survives))
      held
