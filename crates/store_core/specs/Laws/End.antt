-- What the site of a store shows at rest: it is tidy, and means a world near the store's own.
use Rattle.std.proofs.Common.{◌≡◌, ◌⊎◌, inl, inr, ℕ, ◌<◌, ◌≤◌, Bool, true, false, Option, Some, None, refl, sym, ◌∙◌, ap, subst}
use Rattle.std.specs.Prelude.{nat_lt, if◌then◌else◌, option_map}
use Rattle.std.proofs.lemmas.Bool.{lt-ltb, le-ltb, cases_lt}
use Rattle.site_model.specs.Disk.{Files}
use Rattle.world_model.specs.declared.types.Mode.{Mode}
use Rattle.world_model.specs.declared.types.Mode.TheVariants as mode
use Rattle.world_model.specs.World.{Volume}
use Rattle.needle_record.specs.Records.{fold_records}
use Rattle.image_meaning.specs.Files.{VolumeFiles, contents, files_of, temps_of}
use Rattle.image_meaning.specs.Laws.Plain.{alone_plain, alone_tidy, no_files_absent, no_files_tidy, absent_mode, absent_means}
use Rattle.image_meaning.specs.Meaning.{mode_of, volume_of, meaning, max_volumes}
use Rattle.image_meaning.specs.Sound.{IsCoded}
use Rattle.image_meaning.specs.Ends.{IsTidyVolume, IsTidy, NearVolume, IsNear}
use Rattle.image_meaning.specs.Laws.Survivable.{not_both}
use Rattle.store_core.specs.declared.slot.Slot.{Slot}
use Rattle.store_core.specs.declared.slot.Slot.TheVariants as slot
use Rattle.store_core.specs.declared.store.Store.{Store}
use Rattle.store_core.specs.Store.{slot_of, FitsVolume, Fits, sealed_by, marked_by, store_world}
use Rattle.store_core.specs.Laws.Store.{Shows, fold_records-mode, lost_means, holds_means, fits_shows, near_marked, store_has, store_beyond}

-- ---- one volume

abbrev IsLost : VolumeFiles → Type 0
IsLost files = mode_of files ≡ Some mode.Lost

lost_no_other : (files : VolumeFiles) → IsLost files → (m : Option Mode) → mode_of files ≡ m → (m ≡ Some mode.Lost → ⊥) → ⊥
lost_no_other files lost m e other = other (sym e ∙ lost)

not_plain : Some mode.Plain ≡ Some mode.Lost → ⊥
not_plain e = cc

not_coded : Some mode.Coded ≡ Some mode.Lost → ⊥
not_coded e = cc

not_absent : ◌≡◌ {A = Option Mode} None (Some mode.Lost) → ⊥
not_absent e = cc

absent_not_coded : ◌≡◌ {A = Option Mode} None (Some mode.Coded) → ⊥
absent_not_coded e = cc

fits_tidy : (s : Option Slot) (v : ℕ) (files temps : VolumeFiles) → FitsVolume s v files temps → IsTidyVolume files temps
fits_tidy None v files temps fits = no_files_tidy files temps fits.0 fits.1
fits_tidy (Some slot.Lost) v files temps fits = record {
  no_temps = fits.1;
  plain = λ p. absurd (lost_no_other files fits.0 (Some mode.Plain) p not_plain);
  coded = λ c. absurd (lost_no_other files fits.0 (Some mode.Coded) c not_coded);
  absent = λ a. absurd (lost_no_other files fits.0 None a not_absent);
}
fits_tidy (Some (slot.Plain p)) v files temps fits = alone_tidy files temps p.volume.server fits.dat fits.idx fits.alone fits.ps fits.exact fits.no_temps

-- what its files mean is near what is in memory
fits_near : (s : Option Slot) (v : ℕ) (files temps : VolumeFiles) → FitsVolume s v files temps → NearVolume false (option_map (marked_by s) (volume_of files)) (volume_of files)
fits_near None v files temps fits = subst (λ o. NearVolume false (option_map (marked_by None) o) o) (sym (absent_means files (no_files_absent files fits.0))) tt
fits_near (Some slot.Lost) v files temps fits = subst (λ o. NearVolume false (option_map (marked_by (Some slot.Lost)) o) o) (sym (lost_means files fits.0)) (refl, refl, refl)
fits_near (Some (slot.Plain p)) v files temps fits =
    subst (λ o. NearVolume false (option_map (marked_by (Some (slot.Plain p))) o) o) (sym (holds_means p.volume v files temps fits))
    (near_marked p.sealed (fold_records fits.ps) (fold_records-mode fits.ps))

fits_not_coded : (s : Option Slot) (v : ℕ) (files temps : VolumeFiles) → FitsVolume s v files temps → IsCoded files → ⊥
fits_not_coded None v files temps fits coded = absent_not_coded (sym (absent_mode files (no_files_absent files fits.0)) ∙ coded)
fits_not_coded (Some slot.Lost) v files temps fits coded = lost_no_other files fits.0 (Some mode.Coded) coded not_coded
fits_not_coded (Some (slot.Plain p)) v files temps fits coded = not_both files (alone_plain files temps p.volume.server fits.dat fits.idx fits.alone) coded

some_is : (vol other : Volume) → Some vol ≡ Some other → vol ≡ other
some_is vol other e = cc

sealed_not_lost : (sealed : Bool) (vol : Volume) → vol.mode ≡ mode.Plain → (sealed_by sealed vol).mode ≡ mode.Lost → ⊥
sealed_not_lost true vol e h = cc
sealed_not_lost false vol e h = cc

-- what is shown as lost is lost
shown_lost : (files : VolumeFiles) (it : Option Volume) → Shows files it → (vol : Volume) → it ≡ Some vol → vol.mode ≡ mode.Lost → mode_of files ≡ Some mode.Lost
shown_lost files it (inl absent) vol e lost = absurd (none (sym absent.1 ∙ e))
  where
    none : ◌≡◌ {A = Option Volume} None (Some vol) → ⊥
    none h = cc
shown_lost files it (inr (inl shown)) vol e lost = shown.0
shown_lost files it (inr (inr plain)) vol e lost =
    absurd (sealed_not_lost plain.1 plain.0 plain.4 (ap (λ (x : Volume). x.mode) (some_is (sealed_by plain.1 plain.0) vol (sym plain.5 ∙ e)) ∙ lost))

-- ---- all volumes

module _ (store : Store) (servers : ℕ) (files : Files) (fits : Fits store servers files) where
  pub store_tidy : IsTidy (contents files)
  store_tidy v below = fits_tidy (slot_of store v) v (files_of (contents files) v) (temps_of (contents files) v) (fits.each v below)

  -- on any number of servers and with any limit, since no world's volumes depend on them
  pub store_near_itself : (on limit : ℕ) → IsNear (store_world store (contents files)) (meaning on limit (contents files))
  store_near_itself on limit v = by_number (cases_lt v max_volumes)
    where
      by_number : (v < max_volumes) ⊎ (max_volumes ≤ v) → NearVolume false ((store_world store (contents files)).volumes v) (if nat_lt v max_volumes then volume_of (files_of (contents files) v) else None)
      by_number (inl below) =
          subst (λ b. NearVolume false (option_map (marked_by (slot_of store v)) (if b then volume_of (files_of (contents files) v) else None)) (if b then volume_of (files_of (contents files) v) else None)) (sym (lt-ltb v max_volumes below))
          (fits_near (slot_of store v) v (files_of (contents files) v) (temps_of (contents files) v) (fits.each v below))
      by_number (inr beyond) =
          subst (λ b. NearVolume false (option_map (marked_by (slot_of store v)) (if b then volume_of (files_of (contents files) v) else None)) (if b then volume_of (files_of (contents files) v) else None)) (sym (le-ltb v max_volumes beyond)) tt

  pub store_lost : (v : ℕ) (vol : Volume) → (store_world store (contents files)).volumes v ≡ Some vol → vol.mode ≡ mode.Lost → mode_of (files_of (contents files) v) ≡ Some mode.Lost
  store_lost v vol has lost = by_number (cases_lt v max_volumes)
    where
      none : ◌≡◌ {A = Option Volume} None (Some vol) → ⊥
      none e = cc

      by_number : (v < max_volumes) ⊎ (max_volumes ≤ v) → mode_of (files_of (contents files) v) ≡ Some mode.Lost
      by_number (inl below) =
          shown_lost (files_of (contents files) v) (option_map (marked_by (slot_of store v)) (volume_of (files_of (contents files) v)))
          (fits_shows (slot_of store v) v (files_of (contents files) v) (temps_of (contents files) v) (fits.each v below)) vol (sym (store_has store servers files fits v below) ∙ has) lost
      by_number (inr beyond) = absurd (none (sym (store_beyond store servers files fits v beyond) ∙ has))

  pub store_not_coded : (v : ℕ) → v < max_volumes → IsCoded (files_of (contents files) v) → ⊥
  store_not_coded v below = fits_not_coded (slot_of store v) v (files_of (contents files) v) (temps_of (contents files) v) (fits.each v below)
