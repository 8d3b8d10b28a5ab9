-- What the slots say of the store's world: which lines it refuses, and what a mark makes of it.
use Rattle.std.proofs.Common.{◌≡◌, ◌≢◌, ◌⊎◌, inl, inr, ℕ, ◌<◌, Bool, true, false, cond, List, [], ◌∷◌, Option, Some, None, refl, sym, ◌∙◌, ap, subst, arith}
use Rattle.std.specs.Prelude.{◌==◌, if◌then◌else◌, option_map, MatchOption}
use Rattle.std.specs.Option.{option_map_or}
use Rattle.std.proofs.lemmas.Bool.{lt-ltb, eq-eqb, ne_eqb, cases_eq}
use Rattle.site_model.specs.Disk.{Files, Disk}
use Rattle.world_model.specs.declared.types.Mode.TheVariants as mode
use Rattle.world_model.specs.declared.types.Refusal.{Refusal}
use Rattle.world_model.specs.declared.types.Refusal.TheVariants as refusal
use Rattle.world_model.specs.declared.types.Line.TheVariants as line
use Rattle.world_model.specs.declared.types.Reply.TheVariants as reply
use Rattle.world_model.specs.World.{Volume}
use Rattle.world_model.specs.Moves.{is_lost, is_coded, when, first, refusal_of, Accepted, grammatical, next_world}
use Rattle.needle_record.specs.Records.{Placed, fold_records}
use Rattle.image_meaning.specs.Files.{VolumeFiles, contents, files_of, temps_of}
use Rattle.image_meaning.specs.Laws.Plain.{no_files_absent, absent_means}
use Rattle.image_meaning.specs.Meaning.{volume_of, volume_in, lost_volume, max_volumes}
use Rattle.dat_volume.specs.declared.volume.DatVolume.{DatVolume}
use Rattle.store_core.specs.declared.slot.Slot.{Slot}
use Rattle.store_core.specs.declared.slot.Slot.TheVariants as slot
use Rattle.store_core.specs.declared.store.Store.{Store}
use Rattle.store_core.specs.Slots.{plain_slot, unreadable, with_seal}
use Rattle.store_core.specs.Store.{slot_of, FitsVolume, Fits, sealed_by, marked_by, store_world}
use Rattle.store_core.specs.Laws.Store.{fold_records-mode, lost_means, holds_means, store_has}
use Rattle.store_core.specs.Lines.{Serves}

-- ---- one volume

-- what the world has where the store has this slot
abbrev pub HasOfSlot : Option Slot → Option Volume → Type 0
HasOfSlot None it = it ≡ None
HasOfSlot (Some slot.Lost) it = it ≡ Some lost_volume
HasOfSlot (Some (slot.Plain p)) it = (ps : List Placed) × (it ≡ Some (sealed_by p.sealed (fold_records ps)))

slot_has : (s : Option Slot) (v : ℕ) (files temps : VolumeFiles) → FitsVolume s v files temps → HasOfSlot s (option_map (marked_by s) (volume_of files))
slot_has None v files temps fits = ap (option_map (marked_by None)) (absent_means files (no_files_absent files fits.0))
slot_has (Some slot.Lost) v files temps fits = ap (option_map (marked_by (Some slot.Lost))) (lost_means files fits.0)
slot_has (Some (slot.Plain p)) v files temps fits = (fits.ps, ap (option_map (marked_by (Some (slot.Plain p)))) (holds_means p.volume v files temps fits))

pub world_has : (store : Store) (servers : ℕ) (files : Files) → Fits store servers files → (v : ℕ) → v < max_volumes → HasOfSlot (slot_of store v) ((store_world store (contents files)).volumes v)
world_has store servers files fits v h =
    subst (HasOfSlot (slot_of store v)) (sym (store_has store servers files fits v h)) (slot_has (slot_of store v) v (files_of (contents files) v) (temps_of (contents files) v) (fits.each v h))

-- a mark as it is in the world
marked_mode : (sealed : Bool) (ps : List Placed) → ((sealed_by sealed (fold_records ps)).mode ≡ mode.Sealed) ⊎ ((sealed_by sealed (fold_records ps)).mode ≡ mode.Plain)
marked_mode true ps = inl refl
marked_mode false ps = inr (fold_records-mode ps)

pub not_lost : (sealed : Bool) (ps : List Placed) → is_lost (sealed_by sealed (fold_records ps)).mode ≡ false
not_lost true ps = refl
not_lost false ps = ap is_lost (fold_records-mode ps)

pub not_coded : (sealed : Bool) (ps : List Placed) → is_coded (sealed_by sealed (fold_records ps)).mode ≡ false
not_coded true ps = refl
not_coded false ps = ap is_coded (fold_records-mode ps)

abbrev rows_on : Option Volume → (Volume → List (Option Refusal)) → Option Refusal
rows_on it rows = option_map_or (λ vol. first (when (is_lost vol.mode) refusal.Lost ∷ rows vol)) it (Some refusal.NoVolume)

-- a volume that can't be read refuses every line on it
pub unreadable_refuses : (s : Option Slot) (it : Option Volume) → HasOfSlot s it → (why : Refusal) → unreadable s ≡ Some why → (rows : Volume → List (Option Refusal)) → rows_on it rows ≡ Some why
unreadable_refuses None it has why e rows = ap (λ o. rows_on o rows) has ∙ e
unreadable_refuses (Some slot.Lost) it has why e rows = ap (λ o. rows_on o rows) has ∙ e
unreadable_refuses (Some (slot.Plain p)) it has why e rows = absurd cc

-- one that can be read refuses what the line's own rows do
pub readable_rows : (d : DatVolume) (sealed : Bool) (it : Option Volume) (has : HasOfSlot (Some (plain_slot d sealed)) it) (rows : Volume → List (Option Refusal)) → rows_on it rows ≡ first (rows (sealed_by sealed (fold_records has.0)))
readable_rows d sealed it has rows =
    ap (λ o. rows_on o rows) has.1 ∙ ap (λ b. first (when b refusal.Lost ∷ rows (sealed_by sealed (fold_records has.0)))) (not_lost sealed has.0)

-- ---- a mark

-- a refused mark
pub mark_refused : (store : Store) (servers v : ℕ) (sealed : Bool) (d : Disk) (why : Refusal) → v < max_volumes → Fits store servers d.files → unreadable (slot_of store v) ≡ Some why
    → Serves (line.Mark v sealed) store store d d (reply.Refused why) servers
mark_refused store servers v sealed d why h fits e = record {
  allowed =
      let w = store_world store (contents d.files) in
      let refuses : refusal_of w (line.Mark v sealed) ≡ Some why = unreadable_refuses (slot_of store v) (w.volumes v) (world_has store servers d.files fits v h) why e (λ vol. None ∷ when (is_coded vol.mode) refusal.Coded ∷ []) in
      subst (λ o. MatchOption o (Accepted w (line.Mark v sealed) (reply.Refused why)) (λ y. reply.Refused why ≡ reply.Refused y)) (sym refuses) refl;
  moves = refl;
  fits = fits;
  settled = λ settled. settled;
}

resealed : (sealed was : Bool) (vol : Volume) → vol.mode ≡ mode.Plain → sealed_by sealed vol ≡ record (sealed_by was vol) { mode = if sealed then mode.Sealed else mode.Plain }
resealed true true vol e = refl
resealed true false vol e = refl
resealed false true vol e = λ i. record { mode = e i; used = vol.used; needles = vol.needles }
resealed false false vol e = λ i. record { mode = e i; used = vol.used; needles = vol.needles }

-- where the slots are as before but for a mark
module _ (old new : Store) (servers v : ℕ) (sealed : Bool) (d : Disk) (below : v < max_volumes) (fits : Fits old servers d.files) (dat : DatVolume) (was : Bool)
    (had : slot_of old v ≡ Some (plain_slot dat was)) (same_servers : new.servers ≡ old.servers) (same_limit : new.settings.limit ≡ old.settings.limit)
    (slots : (q : ℕ) → slot_of new q ≡ (if q == v then option_map (with_seal sealed) (slot_of old q) else slot_of old q)) where
  slot_there : slot_of new v ≡ Some (plain_slot dat sealed)
  slot_there = slots v ∙ ap (λ b. cond b (option_map (with_seal sealed) (slot_of old v)) (slot_of old v)) (eq-eqb v v refl) ∙ ap (option_map (with_seal sealed)) had

  slot_elsewhere : (q : ℕ) → q ≢ v → slot_of new q ≡ slot_of old q
  slot_elsewhere q other = slots q ∙ ap (λ b. cond b (option_map (with_seal sealed) (slot_of old q)) (slot_of old q)) (ne_eqb q v other)

  -- the files mean this
  meant : (ps : List Placed) × (volume_in (contents d.files) v ≡ Some (fold_records ps))
  meant =
      let holds = subst (λ s. FitsVolume s v (files_of (contents d.files) v) (temps_of (contents d.files) v)) had (fits.each v below) in
      (holds.ps, ap (λ b. if b then volume_of (files_of (contents d.files) v) else None) (lt-ltb v max_volumes below) ∙ holds_means dat v (files_of (contents d.files) v) (temps_of (contents d.files) v) holds)

  abbrev change : Volume → Volume
  change vol = record vol { mode = if sealed then mode.Sealed else mode.Plain }

  volume_there : option_map (marked_by (slot_of new v)) (volume_in (contents d.files) v) ≡ option_map change (option_map (marked_by (slot_of old v)) (volume_in (contents d.files) v))
  volume_there =
      (λ i. option_map (marked_by (slot_there i)) (meant.1 i))
      ∙ ap Some (resealed sealed was (fold_records meant.0) (fold_records-mode meant.0))
      ∙ sym (λ i. option_map change (option_map (marked_by (had i)) (meant.1 i)))

  volumes_are : (q : ℕ) → option_map (marked_by (slot_of new q)) (volume_in (contents d.files) q)
      ≡ (if q == v then option_map change (option_map (marked_by (slot_of old v)) (volume_in (contents d.files) v)) else option_map (marked_by (slot_of old q)) (volume_in (contents d.files) q))
  volumes_are q = elim (cases_eq q v) [
    | inl e ↦ subst (λ p. option_map (marked_by (slot_of new p)) (volume_in (contents d.files) p)
        ≡ (if p == v then option_map change (option_map (marked_by (slot_of old v)) (volume_in (contents d.files) v)) else option_map (marked_by (slot_of old p)) (volume_in (contents d.files) p))) (sym e)
        (volume_there ∙ ap (λ b. cond b (option_map change (option_map (marked_by (slot_of old v)) (volume_in (contents d.files) v))) (option_map (marked_by (slot_of old v)) (volume_in (contents d.files) v))) (sym (eq-eqb v v refl)))
    | inr other ↦ ap (λ s. option_map (marked_by s) (volume_in (contents d.files) q)) (slot_elsewhere q other)
        ∙ ap (λ b. cond b (option_map change (option_map (marked_by (slot_of old v)) (volume_in (contents d.files) v))) (option_map (marked_by (slot_of old q)) (volume_in (contents d.files) q))) (sym (ne_eqb q v other))
  ]

  mark_moves : store_world new (contents d.files) ≡ next_world (store_world old (contents d.files)) (grammatical (line.Mark v sealed)) reply.Done
  mark_moves = λ i. record { servers = same_servers i; limit = same_limit i; volumes = λ q. volumes_are q i; jobs = []; next_job = 1 }

  mark_fits : Fits new servers d.files
  mark_fits = record {
    servers_are = same_servers ∙ fits.servers_are;
    each = λ q h. each q h (cases_eq q v);
    no_others = λ q h. slot_elsewhere q (λ e. absurd (omega (arith, e, h, below))) ∙ fits.no_others q h;
  }
    where
      each : (q : ℕ) → q < max_volumes → (q ≡ v) ⊎ (q ≢ v) → FitsVolume (slot_of new q) q (files_of (contents d.files) q) (temps_of (contents d.files) q)
      each q h (inl e) = subst (λ p. FitsVolume (slot_of new p) p (files_of (contents d.files) p) (temps_of (contents d.files) p)) (sym e)
          (subst (λ s. FitsVolume s v (files_of (contents d.files) v) (temps_of (contents d.files) v)) (sym slot_there)
          (subst (λ s. FitsVolume s v (files_of (contents d.files) v) (temps_of (contents d.files) v)) had (fits.each v below)))
      each q h (inr other) = subst (λ s. FitsVolume s q (files_of (contents d.files) q) (temps_of (contents d.files) q)) (sym (slot_elsewhere q other)) (fits.each q h)

  pub mark_done : Serves (line.Mark v sealed) old new d d reply.Done servers
  mark_done = record {
    allowed =
        let w = store_world old (contents d.files) in
        let has : HasOfSlot (Some (plain_slot dat was)) (w.volumes v) = subst (λ s. HasOfSlot s (w.volumes v)) had (world_has old servers d.files fits v below) in
        let free : refusal_of w (line.Mark v sealed) ≡ None =
        readable_rows dat was (w.volumes v) has (λ vol. None ∷ when (is_coded vol.mode) refusal.Coded ∷ [])
        ∙ ap (λ b. first (None ∷ when b refusal.Coded ∷ [])) (not_coded was has.0) in
        subst (λ o. MatchOption o (Accepted w (line.Mark v sealed) reply.Done) (λ y. reply.Done ≡ reply.Refused y)) (sym free) refl;
    moves = mark_moves;
    fits = mark_fits;
    settled = λ settled. settled;
  }
