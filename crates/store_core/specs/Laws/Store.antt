-- What the store's world has of each volume, by the volume's files, and what a stop and a loss leave of it.
use Rattle.std.proofs.Common.{◌≡◌, ◌⊎◌, inl, inr, ⊎_elim, ℕ, ◌<◌, ◌≤◌, Bool, true, false, List, [], ◌∷◌, Option, Some, None, refl, sym, ◌∙◌, ap, subst}
use Rattle.std.specs.Prelude.{nat_lt, if◌then◌else◌, option_map}
use Rattle.std.proofs.lemmas.Bool.{lt-ltb, le-ltb, ltb-true, ltb-false}
use Rattle.site_model.specs.Disk.{Files, Image, LeftOfAll, Disk, IsSettled}
use Rattle.site_model.specs.Standing.{lose}
use Rattle.site_model.specs.Leaves.{starts}
use Rattle.site_model.specs.Touches.{firm_left}
use Rattle.world_model.specs.declared.types.Line.{Line}
use Rattle.world_model.specs.declared.types.Mode.TheVariants as mode
use Rattle.world_model.specs.World.{Volume, World, empty_volume}
use Rattle.needle_record.specs.Records.{Placed, after_record, fold_from, fold_records}
use Rattle.image_meaning.specs.Files.{VolumeFiles, contents, files_of, temps_of}
use Rattle.image_meaning.specs.Laws.Plain.{alone_plain, alone_means, alone_sound, exact_kept_records, exact_follows, no_files_absent, absent_mode, absent_means, absent_sound}
use Rattle.image_meaning.specs.Meaning.{mode_of, volume_of, volume_by, volume_in, lost_volume, max_volumes}
use Rattle.image_meaning.specs.Sound.{IsSound, IsSoundVolume}
use Rattle.image_meaning.specs.Ends.{IsAfterLoss, MayMean, NearVolume, IsNear, is_changing, unmarked}
use Rattle.image_meaning.specs.Laws.Losses.{law_of_loss}
use Rattle.image_meaning.specs.Laws.Survivable.{sound_neither}
use Rattle.dat_volume.specs.declared.volume.DatVolume.{DatVolume}
use Rattle.store_core.specs.declared.slot.Slot.{Slot}
use Rattle.store_core.specs.declared.slot.Slot.TheVariants as slot
use Rattle.store_core.specs.declared.store.Store.{Store}
use Rattle.store_core.specs.Store.{slot_of, FitsVolume, HoldsPlain, Fits, sealed_by, marked_by, store_world}
use Rattle.store_core.specs.Lines.{IsLeftNear, Stops}

-- ---- one volume

-- nothing, a lost volume, or the plain one that the files mean, sealed or not
abbrev pub Shows : VolumeFiles → Option Volume → Type 0
Shows files it =
    ((mode_of files ≡ None) × (it ≡ None))
    ⊎ (((mode_of files ≡ Some mode.Lost) × (it ≡ Some lost_volume))
    ⊎ ((vol : Volume) × (sealed : Bool) × (mode_of files ≡ Some mode.Plain) × (volume_of files ≡ Some vol) × (vol.mode ≡ mode.Plain) × (it ≡ Some (sealed_by sealed vol))))

-- records change no mode
fold_from-mode : (vol : Volume) (ps : List Placed) → (fold_from vol ps).mode ≡ vol.mode
fold_from-mode vol [] = refl
fold_from-mode vol (p ∷ ps) = fold_from-mode (after_record vol p.1) ps

pub fold_records-mode : (ps : List Placed) → (fold_records ps).mode ≡ mode.Plain
fold_records-mode ps = fold_from-mode empty_volume ps

pub lost_means : (files : VolumeFiles) → mode_of files ≡ Some mode.Lost → volume_of files ≡ Some lost_volume
unfolding volume_of
lost_means files e = ap (option_map (volume_by files)) e

-- the records are what the files mean
pub holds_means : (d : DatVolume) (v : ℕ) (files temps : VolumeFiles) (holds : HoldsPlain d v files temps) → volume_of files ≡ Some (fold_records holds.ps)
holds_means d v files temps holds =
    alone_means files temps d.server holds.dat holds.idx holds.alone ∙ ap (λ ps. Some (fold_records ps)) (exact_kept_records holds.dat holds.idx holds.ps holds.exact)

-- what is in memory of a volume shows what its files mean
pub fits_shows : (s : Option Slot) (v : ℕ) (files temps : VolumeFiles) → FitsVolume s v files temps → Shows files (option_map (marked_by s) (volume_of files))
fits_shows None v files temps fits =
    let absent = no_files_absent files fits.0 in inl (absent_mode files absent, ap (option_map (marked_by None)) (absent_means files absent))
fits_shows (Some slot.Lost) v files temps fits = inr (inl (fits.0, ap (option_map (marked_by (Some slot.Lost))) (lost_means files fits.0)))
fits_shows (Some (slot.Plain p)) v files temps fits = inr (inr (
  fold_records fits.ps,
  p.sealed,
  alone_plain files temps p.volume.server fits.dat fits.idx fits.alone,
  holds_means p.volume v files temps fits,
  fold_records-mode fits.ps,
  ap (option_map (marked_by (Some (slot.Plain p)))) (holds_means p.volume v files temps fits),
))

-- and the files are sound
pub fits_sound : (s : Option Slot) (v : ℕ) (files temps : VolumeFiles) → FitsVolume s v files temps → IsSoundVolume files
fits_sound None v files temps fits = absent_sound files (no_files_absent files fits.0)
fits_sound (Some slot.Lost) v files temps fits = sound_neither files (λ p. not_plain (sym fits.0 ∙ p)) (λ c. not_coded (sym fits.0 ∙ c)) (λ l. fits.2)
  where
    not_plain : Some mode.Lost ≡ Some mode.Plain → ⊥
    not_plain e = cc

    not_coded : Some mode.Lost ≡ Some mode.Coded → ⊥
    not_coded e = cc
fits_sound (Some (slot.Plain p)) v files temps fits =
    alone_sound files temps p.volume.server fits.dat fits.idx fits.alone (exact_follows fits.dat fits.idx fits.ps fits.exact) fits.super

-- what a loss leaves of a volume is near what was shown
pub near_marked : (sealed : Bool) (vol : Volume) → vol.mode ≡ mode.Plain → NearVolume false (Some (sealed_by sealed vol)) (Some vol)
near_marked true vol e = (refl, refl, e)
near_marked false vol e = (refl, refl, e ∙ ap unmarked (sym e))

pub shows_near : (files left : VolumeFiles) (it : Option Volume) → Shows files it → IsAfterLoss files left → NearVolume false it (volume_of left)
shows_near files left it (inl absent) after =
    subst (λ o. NearVolume false o (volume_of left)) (sym absent.1) (subst (NearVolume false None) (sym (after.absent absent.0)) tt)
shows_near files left it (inr (inl lost)) after = subst (λ o. NearVolume false o (volume_of left)) (sym lost.1)
    (⊎_elim (λ e. subst (NearVolume false (Some lost_volume)) (sym e) (refl, refl, refl)) (λ e. subst (NearVolume false (Some lost_volume)) (sym e) refl) (after.lost lost.0))
shows_near files left it (inr (inr plain)) after = subst (λ o. NearVolume false o (volume_of left)) (sym plain.5)
    (subst (NearVolume false (Some (sealed_by plain.1 plain.0))) (sym (after.plain plain.2 ∙ plain.3)) (near_marked plain.1 plain.0 plain.4))

-- ---- all volumes

-- The world has of each volume what the image shows, and there are no jobs.
pub record ShowsWorld (image : Image) (w : World) : Type 0 where
  pub no_jobs : w.jobs ≡ []
  pub sound : IsSound image
  pub shows : (v : ℕ) → v < max_volumes → Shows (files_of image v) (w.volumes v)
  pub beyond : (v : ℕ) → max_volumes ≤ v → w.volumes v ≡ None

-- What a survivable loss leaves is near it.
pub world_near : (image : Image) (w : World) → ShowsWorld image w → (u : World) → MayMean image u → IsNear w u
world_near image w is u may v =
    let means : volume_in (lose may.lost image) v ≡ u.volumes v = sym (ap (λ (x : World). x.volumes v) may.means) in
    subst (λ jobs. NearVolume (is_changing jobs v) (w.volumes v) (u.volumes v)) (sym is.no_jobs)
    (subst (NearVolume false (w.volumes v)) means (by_number (nat_lt v max_volumes) refl))
  where
    by_number : (b : Bool) → nat_lt v max_volumes ≡ b → NearVolume false (w.volumes v) (volume_in (lose may.lost image) v)
    by_number true e =
        let h = ltb-true v max_volumes e in
        subst (λ c. NearVolume false (w.volumes v) (if c then volume_of (files_of (lose may.lost image) v) else None)) (sym e)
        (shows_near (files_of image v) (files_of (lose may.lost image) v) (w.volumes v) (is.shows v h) (law_of_loss image may.lost is.sound may.survivable v h))
    by_number false e =
        subst (λ c. NearVolume false (w.volumes v) (if c then volume_of (files_of (lose may.lost image) v) else None)) (sym e)
        (subst (λ o. NearVolume false o None) (sym (is.beyond v (ltb-false v max_volumes e))) tt)

-- ---- a store that fits its site

module _ (store : Store) (servers : ℕ) (files : Files) (fits : Fits store servers files) where
  pub store_sound : IsSound (contents files)
  store_sound v h = fits_sound (slot_of store v) v (files_of (contents files) v) (temps_of (contents files) v) (fits.each v h)

  -- what its world has of a volume
  pub store_has : (v : ℕ) → v < max_volumes → (store_world store (contents files)).volumes v ≡ option_map (marked_by (slot_of store v)) (volume_of (files_of (contents files) v))
  store_has v h = ap (λ b. option_map (marked_by (slot_of store v)) (if b then volume_of (files_of (contents files) v) else None)) (lt-ltb v max_volumes h)

  pub store_beyond : (v : ℕ) → max_volumes ≤ v → (store_world store (contents files)).volumes v ≡ None
  store_beyond v h = ap (λ b. option_map (marked_by (slot_of store v)) (if b then volume_of (files_of (contents files) v) else None)) (le-ltb v max_volumes h)

  pub store_shows : ShowsWorld (contents files) (store_world store (contents files))
  store_shows = record {
    no_jobs = refl;
    sound = store_sound;
    shows = λ v h. subst (Shows (files_of (contents files) v)) (sym (store_has v h)) (fits_shows (slot_of store v) v (files_of (contents files) v) (temps_of (contents files) v) (fits.each v h));
    beyond = store_beyond;
  }

  -- settled, a stop leaves what stands, and a loss then what is near the store's world
  pub store_at_rest : IsSettled files → (l : Line) (image : Image) → LeftOfAll files image → IsLeftNear (store_world store (contents files)) l image
  store_at_rest settled l image left =
      let same : contents files ≡ image = λ i k. sym (firm_left (files k) (image k) (settled k) (left k)) i in
      subst (IsLeftNear (store_world store (contents files)) l) same (record {
        sound = store_sound;
        worlds = λ u may. inl (world_near (contents files) (store_world store (contents files)) store_shows u may);
      })

-- a call that does nothing
pub stops_idle : (l : Line) (store : Store) (d : Disk) (servers : ℕ) → Stops l store d d servers
stops_idle l store d servers = record { leaves = λ fits settled. starts d (λ image left. store_at_rest store servers d.files fits settled l image left) }
