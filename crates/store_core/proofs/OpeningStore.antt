-- The store that is opened on a sound site fits what the recovery left.
use Rattle.std.proofs.Common.{◌≡◌, ℕ, ◌<◌, ◌≤◌, Bool, IsTrue, List, [], length, Option, Some, None, refl, sym, ◌∙◌, ap, subst, arith}
use Rattle.std.specs.Prelude.{unwrap_or}
use Rattle.site_model.specs.Disk.{Files, Disk}
use Rattle.world_model.specs.declared.types.Mode.{Mode}
use Rattle.world_model.specs.declared.types.Mode.TheVariants as mode
use Rattle.file_names.specs.declared.Kind.TheVariants.{Dat, Idx}
use Rattle.volume_forms.specs.Forms.{has_super}
use Rattle.needle_record.specs.Records.{Placed, end_of, index_of}
use Rattle.image_meaning.specs.Files.{VolumeFiles, contents, files_of, temps_of, bytes_at, dat_bytes, index_bytes}
use Rattle.image_meaning.specs.Plain.{kept_at, index_home, IsExact}
use Rattle.image_meaning.specs.Laws.Plain.{IsAlone, cut_exact, cut_super, exact_kept_records, exact_follows}
use Rattle.image_meaning.specs.Laws.PlainLoss.{plain_home}
use Rattle.image_meaning.specs.Times.{records_in, records_of}
use Rattle.image_meaning.specs.Laws.Times.{plain_records, exact_records, absent_records}
use Rattle.image_meaning.specs.Meaning.{mode_of, max_volumes}
use Rattle.image_meaning.specs.Sound.{HasOneRatio, IsSoundVolume, IsSound}
use Rattle.image_meaning.specs.Ends.{HasNoFiles}
use Rattle.dat_volume.specs.declared.volume.DatVolume.{DatVolume}
use Rattle.dat_volume.specs.Places.{dat_in, idx_in}
use Rattle.dat_volume.specs.Opening.{IsLoaded}
use Rattle.site_recovery.specs.declared.recovered.Recovered.{Recovered}
use Rattle.site_recovery.specs.Recovering.{Finds, IsLeftPlain, IsRecovered, IsTidied}
use Rattle.site_recovery.specs.Laws.Test.{left_long, left_only, never_sealed, not_coded}
use Rattle.store_core.specs.declared.slot.Slot.{Slot}
use Rattle.store_core.specs.Slots.{plain_slot}
use Rattle.store_core.specs.declared.slot.Slot.TheVariants as slot
use Rattle.store_core.specs.declared.store.Store.{Store}
use Rattle.store_core.specs.Store.{slot_of, HoldsPlain, FitsVolume, IsOpenSlot, IsOpenedStore}
use Rattle.store_core.specs.Opening.{IsSlotOf, AreSlots}
use Rattle.store_core.specs.Written.{HasSameRecords}
use Rattle.store_core.proofs.OpeningFiles.{dat_standing, idx_standing}

-- ---- one plain volume

-- what was read of exact files is their records
module _ (d : DatVolume) (dat idx : List ℕ) (ps : List Placed) (exact : IsExact dat idx ps) (loaded : IsLoaded d dat idx) where
  loaded_live : d.index ≡ index_of ps
  loaded_live = loaded.follows (exact_follows dat idx ps exact) ∙ ap index_of (exact_kept_records dat idx ps exact)

  loaded_used : d.used ≡ length dat
  loaded_used =
      loaded.used ∙ loaded.keeps.dat_length ∙ (loaded.keeps.follows (exact_follows dat idx ps exact)).1
      ∙ ap end_of (exact_kept_records dat idx ps exact ∙ sym exact.has) ∙ exact.whole.to_end

holds_alone : (d : DatVolume) (v : ℕ) (files temps : VolumeFiles) (dat idx : List ℕ) (ps : List Placed) → d.volume ≡ v → (only : IsAlone files d.server dat idx) → IsExact dat idx ps → IsTrue (has_super dat) → HasNoFiles temps
    → IsLoaded d (bytes_at files d.server Dat) (bytes_at files d.server Idx) → HoldsPlain d v files temps
holds_alone d v files temps dat idx ps number only exact super none loaded =
    let same : IsLoaded d dat idx = subst (λ a. IsLoaded d a idx) (ap (λ (o : Option (List ℕ)). unwrap_or o []) only.has_dat) (subst (IsLoaded d (bytes_at files d.server Dat)) (ap (λ (o : Option (List ℕ)). unwrap_or o []) only.has_index) loaded) in
    record {
      dat = dat;
      idx = idx;
      ps = ps;
      number = number;
      alone = only;
      exact = exact;
      super = super;
      live = loaded_live d dat idx ps exact same;
      used = loaded_used d dat idx ps exact same;
      no_temps = none;
    }

holds_left : (d : DatVolume) (v : ℕ) (old new temps : VolumeFiles) → index_home old ≡ Some d.server → IsSoundVolume old → HasNoFiles temps → IsLeftPlain old new d.server → d.volume ≡ v
    → IsLoaded d (bytes_at new d.server Dat) (bytes_at new d.server Idx) → HoldsPlain d v new temps
holds_left d v old new temps at sound none left number loaded =
    let dat = dat_bytes old d.server in
    let idx = index_bytes old d.server in
    let long = left_long old new temps d.server at sound none left in
    holds_alone d v new temps _ _ (kept_at old d.server) number (left_only old new temps d.server at sound none left) (cut_exact dat idx long) (cut_super dat idx long left.keeps.super) none loaded

-- ---- all volumes

module _ (tells : Bool) (told : IsTrue tells) (old new : Files) (servers : ℕ) (found : Recovered) (finds : Finds found servers old) (recovered : IsRecovered old new) (sound : IsSound (contents old)) where
  fits_plain : (d : DatVolume) (sealed : Bool) (v : ℕ) → v < max_volumes → IsSlotOf tells new found.plain.items found.lost.items v (Some (plain_slot d sealed))
      → HoldsPlain d v (files_of (contents new) v) (temps_of (contents new) v)
  fits_plain d sealed v h is =
      let plain = (finds.plain v d.server).0 is.0 in
      let settled = recovered.1 v h in
      holds_left d v (files_of (contents old) v) (files_of (contents new) v) (temps_of (contents new) v) plain.at (sound v h) settled.no_temps (settled.plain d.server plain.at) is.1
      (subst (λ dat. IsLoaded d dat (bytes_at (files_of (contents new) v) d.server Idx)) (sym (dat_standing new d.server v))
      (subst (IsLoaded d (dat_in new d.server v)) (sym (idx_standing new d.server v))
      (subst (λ u. IsLoaded d (dat_in new d.server u) (idx_in new d.server u)) is.1 (is.3 told))))

  fits_none : (v : ℕ) → v < max_volumes → IsSlotOf tells new found.plain.items found.lost.items v None → HasNoFiles (files_of (contents new) v)
  fits_none v h is = by_mode (mode_of (files_of (contents old) v)) refl
    where
      by_mode : (m : Option Mode) → mode_of (files_of (contents old) v) ≡ m → HasNoFiles (files_of (contents new) v)
      by_mode None e = (recovered.1 v h).absent e
      by_mode (Some mode.Plain) e = let home = plain_home (files_of (contents old) v) e in absurd (is.0 home.0 ((finds.plain v home.0).1 (record { below = h; at = home.1 })))
      by_mode (Some mode.Sealed) e = absurd (never_sealed (files_of (contents old) v) e)
      by_mode (Some mode.Coded) e = absurd (not_coded old v (recovered.0 v h) e)
      by_mode (Some mode.Lost) e = absurd (is.1 ((finds.lost v).1 (h, e)))

  fits_slot : (s : Option Slot) (v : ℕ) → v < max_volumes → IsSlotOf tells new found.plain.items found.lost.items v s → FitsVolume s v (files_of (contents new) v) (temps_of (contents new) v)
  fits_slot None v h is = (fits_none v h is, (recovered.1 v h).no_temps)
  fits_slot (Some slot.Lost) v h is =
      let was = ((finds.lost v).0 is).1 in
      ((recovered.1 v h).same_mode ∙ was, (recovered.1 v h).no_temps, subst HasOneRatio (sym ((recovered.1 v h).lost was)) ((sound v h).info_rule.lost was))
  fits_slot (Some (slot.Plain p)) v h is = fits_plain p.volume p.sealed v h is

  -- one without a number has no slot
  none_beyond : (s : Option Slot) (v : ℕ) → max_volumes ≤ v → IsSlotOf tells new found.plain.items found.lost.items v s → s ≡ None
  none_beyond None v h is = refl
  none_beyond (Some slot.Lost) v h is = absurd (beyond v h ((finds.lost v).0 is).0)
    where
      beyond : (v : ℕ) → max_volumes ≤ v → v < max_volumes → ⊥
      beyond v h k = absurd (omega (arith, h, k))
  none_beyond (Some (slot.Plain p)) v h is = absurd (beyond v h ((finds.plain v p.volume.server).0 is.0).below)
    where
      beyond : (v : ℕ) → max_volumes ≤ v → v < max_volumes → ⊥
      beyond v h k = absurd (omega (arith, h, k))

-- what is cut off are no records
left_records : (old new temps : VolumeFiles) (home : ℕ) → index_home old ≡ Some home → IsSoundVolume old → HasNoFiles temps → IsLeftPlain old new home → records_of new ≡ records_of old
left_records old new temps home at sound none left =
    let long = left_long old new temps home at sound none left in
    exact_records new temps home _ _ (kept_at old home) (left_only old new temps home at sound none left) (cut_exact (dat_bytes old home) (index_bytes old home) long)
    ∙ sym (plain_records old home at)

recovered_records : (old new : Files) → IsRecovered old new → IsSound (contents old) → HasSameRecords (contents old) (contents new)
recovered_records old new recovered sound v h = by_mode (mode_of (files_of (contents old) v)) refl
  where
    by_mode : (m : Option Mode) → mode_of (files_of (contents old) v) ≡ m → records_in (contents new) v ≡ records_in (contents old) v
    by_mode None e = absent_records (files_of (contents new) v) ((recovered.1 v h).same_mode ∙ e) ∙ sym (absent_records (files_of (contents old) v) e)
    by_mode (Some mode.Plain) e =
        let home = plain_home (files_of (contents old) v) e in
        left_records (files_of (contents old) v) (files_of (contents new) v) (temps_of (contents new) v) home.0 home.1 (sound v h) (recovered.1 v h).no_temps ((recovered.1 v h).plain home.0 home.1)
    by_mode (Some mode.Sealed) e = absurd (never_sealed (files_of (contents old) v) e)
    by_mode (Some mode.Coded) e = absurd (not_coded old v (recovered.0 v h) e)
    by_mode (Some mode.Lost) e = ap records_of ((recovered.1 v h).lost e)

open_slot : (tells : Bool) (files : Files) (plain : List (ℕ × ℕ)) (lost : List ℕ) (v : ℕ) (s : Option Slot) → IsSlotOf tells files plain lost v s → IsOpenSlot s
open_slot tells files plain lost v None is = tt
open_slot tells files plain lost v (Some slot.Lost) is = tt
open_slot tells files plain lost v (Some (slot.Plain p)) is = is.2

pub opened_store : (tells : Bool) → IsTrue tells → (old new : Files) (servers : ℕ) (found : Recovered) (store : Store) → store.servers ≡ servers → Finds found servers old → IsRecovered old new → IsTidied old new → IsSound (contents old)
    → AreSlots tells new found.plain.items found.lost.items store.slots → IsOpenedStore store servers old new
opened_store tells told old new servers found store same finds recovered tidied sound are = record {
  fits = record {
    servers_are = same;
    each = λ v h. fits_slot tells told old new servers found finds recovered sound (slot_of store v) v h (are.each v);
    no_others = λ v h. none_beyond tells told old new servers found finds recovered sound (slot_of store v) v h (are.each v);
  };
  unsealed = λ v. open_slot tells new found.plain.items found.lost.items v (slot_of store v) (are.each v);
  means = tidied.means;
  records = recovered_records old new recovered sound;
  settled = tidied.settled;
}

-- what was read changed nothing
pub opened_on : (tells : Bool) → IsTrue tells → (old mid new : Disk) (servers : ℕ) (found : Recovered) (store : Store) → new ≡ mid → store.servers ≡ servers → Finds found servers old.files → IsRecovered old.files mid.files
    → IsTidied old.files mid.files → IsSound (contents old.files) → AreSlots tells mid.files found.plain.items found.lost.items store.slots → IsOpenedStore store servers old.files new.files
opened_on tells told old mid new servers found store look same finds recovered tidied sound are =
    subst (λ (d : Disk). IsOpenedStore store servers old.files d.files) (sym look) (opened_store tells told old.files mid.files servers found store same finds recovered tidied sound are)
