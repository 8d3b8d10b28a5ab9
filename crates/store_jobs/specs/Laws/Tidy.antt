-- What stands of a store that fits its site, whether it is firm or not: it means a world near the store's own, and each
-- volume that no job has is tidy.
use Rattle.std.proofs.Common.{◌≡◌, ⊎_elim, ℕ, ◌<◌, Bool, true, false, Option, Some, None, refl, sym, ◌∙◌, ap, subst}
use Rattle.std.specs.Prelude.{if◌then◌else◌, option_map}
use Rattle.std.proofs.lemmas.Bool.{cases_lt}
use Rattle.site_model.specs.Disk.{Files}
use Rattle.world_model.specs.declared.types.Mode.{Mode}
use Rattle.world_model.specs.declared.types.Mode.TheVariants as mode
use Rattle.world_model.specs.World.{Volume, World}
use Rattle.shard_table.specs.Table.{Row}
use Rattle.image_meaning.specs.Files.{VolumeFiles, contents, files_of, temps_of}
use Rattle.image_meaning.specs.Laws.Plain.{alone_tidy, no_files_tidy, no_files_absent, absent_means}
use Rattle.image_meaning.specs.Laws.Copy.{no_loss, survives_none}
use Rattle.image_meaning.specs.Meaning.{mode_of, volume_of, meaning, max_volumes}
use Rattle.image_meaning.specs.Sound.{IsPlain, IsCoded, IsLost}
use Rattle.image_meaning.specs.Ends.{IsTidyVolume, IsNear}
use Rattle.image_meaning.specs.Jobs.{suits_not_lost}
use Rattle.image_meaning.specs.Laws.Survivable.{not_both, not_coded_lost}
use Rattle.image_meaning.specs.Share.{Share, share_of, finals, temps}
use Rattle.image_meaning.specs.Near.{IsLeftBy, image_near}
use Rattle.store_jobs.specs.Slots.{Slot, Plain, Coded, Lost, mode_in, marked_by, FitsSlot}
use Rattle.plan_steps.specs.AnyPlans.{Plans}
use Rattle.store_jobs.specs.Making.{suits_made}
use Rattle.store_jobs.specs.Store.{Work, Store, work_at, FitsVolume, Fits, store_world}
use Rattle.store_jobs.specs.Laws.Rest.{share_near, bounded, has_volume_in}

-- ---- one volume

none_coded : (files : VolumeFiles) → mode_of files ≡ None → IsCoded files → ⊥
none_coded files none coded = absurd (apart (sym none ∙ coded))
  where
    apart : ◌≡◌ {A = Option Mode} None (Some mode.Coded) → ⊥
    apart e = cc

lost_plain : (files : VolumeFiles) → IsLost files → IsPlain files → ⊥
lost_plain files lost plain = absurd (apart (sym lost ∙ plain))
  where
    apart : Some mode.Lost ≡ Some mode.Plain → ⊥
    apart e = cc

lost_absent : (files : VolumeFiles) → IsLost files → mode_of files ≡ None → ⊥
lost_absent files lost none = absurd (apart (sym none ∙ lost))
  where
    apart : ◌≡◌ {A = Option Mode} None (Some mode.Lost) → ⊥
    apart e = cc

pub slot_tidy : (slot : Option Slot) (v : ℕ) (share : Share) → FitsSlot slot v share → IsTidyVolume (finals share) (temps share)
slot_tidy None v share fits = no_files_tidy (finals share) (temps share) fits.0 fits.1
slot_tidy (Some (Plain d sealed)) v share fits = alone_tidy (finals share) (temps share) d.server fits.dat fits.idx fits.alone fits.ps fits.exact fits.no_temps
slot_tidy (Some (Coded c)) v share fits = record {
  no_temps = fits.no_temps;
  plain = λ plain. absurd (not_both (finals share) plain fits.coded);
  coded = λ coded. fits.tidy;
  absent = λ none. absurd (none_coded (finals share) none fits.coded);
}
slot_tidy (Some Lost) v share fits = record {
  no_temps = fits.2;
  plain = λ plain. absurd (lost_plain (finals share) fits.0 plain);
  coded = λ coded. absurd (not_coded_lost (finals share) coded fits.0);
  absent = λ none. absurd (lost_absent (finals share) fits.0 none);
}

-- the mode of a volume in memory is that of its slot
marked_mode : (slot : Slot) (o : Option Volume) (vol : Volume) → option_map (marked_by (Some slot)) o ≡ Some vol → vol.mode ≡ mode_in slot
marked_mode slot None vol e = absurd cc
marked_mode slot (Some w) vol e = ap (λ (x : Volume). x.mode) (some_is vol (record w { mode = mode_in slot }) (sym e))
  where
    some_is : (a b : Volume) → Some a ≡ Some b → a ≡ b
    some_is a b h = cc

not_lost : (sealed : Bool) → (if sealed then mode.Sealed else mode.Plain) ≡ mode.Lost → ⊥
not_lost true e = cc
not_lost false e = cc

coded_not_lost : mode.Coded ≡ mode.Lost → ⊥
coded_not_lost e = cc

slot_lost : (slot : Option Slot) (v : ℕ) (share : Share) → FitsSlot slot v share → (vol : Volume) → option_map (marked_by slot) (volume_of (finals share)) ≡ Some vol → vol.mode ≡ mode.Lost → IsLost (finals share)
slot_lost None v share fits vol has lost = absurd (none (sym (ap (option_map (marked_by None)) (absent_means (finals share) (no_files_absent (finals share) fits.0))) ∙ has))
  where
    none : ◌≡◌ {A = Option Volume} None (Some vol) → ⊥
    none e = cc
slot_lost (Some (Plain d sealed)) v share fits vol has lost = absurd (not_lost sealed (sym (marked_mode (Plain d sealed) (volume_of (finals share)) vol has) ∙ lost))
slot_lost (Some (Coded c)) v share fits vol has lost = absurd (coded_not_lost (sym (marked_mode (Coded c) (volume_of (finals share)) vol has) ∙ lost))
slot_lost (Some Lost) v share fits vol has lost = fits.0

module _ (plans : Plans) where
  -- a volume that is lost in memory is lost, and no job has it
  volume_lost : (servers : ℕ) (work : Option (Work plans)) (slot : Option Slot) (v : ℕ) (row : Row) (base now : Share) → FitsVolume plans servers work slot v row base now
      → (vol : Volume) → option_map (marked_by slot) (volume_of (finals now)) ≡ Some vol → vol.mode ≡ mode.Lost → IsLost (finals now)
  volume_lost servers None slot v row base now fits vol has lost = slot_lost slot v now (subst (FitsSlot slot v) (sym fits.2) fits.0) vol has lost
  volume_lost servers (Some work) slot v row base now fits vol has lost =
      let plan = plans.plan work.running in
      let mode_is = marked_mode fits.1.before (volume_of (finals now)) vol (ap (λ s. option_map (marked_by s) (volume_of (finals now))) (sym fits.1.had) ∙ has) in
      absurd (suits_not_lost plan.command (mode_in fits.1.before) (suits_made plan (plans.made_records plan base) fits.1.before work.after fits.1.makes) (sym mode_is ∙ lost))

  -- ---- all volumes

  module _ (store : Store plans) (servers : ℕ) (files : Files) (base : ℕ → Share) (fits : Fits plans store servers files base) where
    abbrev here : World
    here = store_world plans store (contents files)

    -- what stands is near the store's world, with any number of jobs
    pub contents_near : IsLeftBy here (contents files)
    contents_near = image_near here (contents files) (bounded plans store servers files base fits) (λ v h. share_near plans store servers files base fits v h)

    pub means_near : (on limit : ℕ) → IsNear here (meaning on limit (contents files))
    means_near on limit = contents_near.worlds (meaning on limit (contents files)) (record { lost = no_loss; survivable = λ v h. survives_none (files_of (contents files) v); means = refl })

    -- a volume that no job has is tidy
    pub store_tidy : (v : ℕ) → v < max_volumes → work_at plans store.board.unfinished v ≡ None → IsTidyVolume (files_of (contents files) v) (temps_of (contents files) v)
    store_tidy v below free =
        let here_fits = subst (λ w. FitsVolume plans servers w (store.slots v) v (store.rows v) (base v) (share_of files v)) free (fits.each v below) in
        slot_tidy (store.slots v) v (share_of files v) (subst (FitsSlot (store.slots v) v) (sym here_fits.2) here_fits.0)

    -- and one that is lost in the world is lost
    pub store_lost : (v : ℕ) (vol : Volume) → here.volumes v ≡ Some vol → vol.mode ≡ mode.Lost → mode_of (files_of (contents files) v) ≡ Some mode.Lost
    store_lost v vol has lost = ⊎_elim
        (λ below. volume_lost servers (work_at plans store.board.unfinished v) (store.slots v) v (store.rows v) (base v) (share_of files v) (fits.each v below) vol
        (sym (has_volume_in plans store servers files base fits v below) ∙ has) lost)
        (λ beyond. absurd (none (sym (bounded plans store servers files base fits v beyond) ∙ has)))
        (cases_lt v max_volumes)
      where
        none : ◌≡◌ {A = Option Volume} None (Some vol) → ⊥
        none e = cc
