-- A store that fits its site, at rest: what a stop and a loss leave is near its world, jobs and all.
use Rattle.std.proofs.Common.{◌≡◌, ◌≢◌, ℕ, ◌+◌, ◌*◌, ◌<◌, ◌≤◌, Bool, true, false, List, [], ◌∷◌, Option, Some, None, IsSome, refl, sym, ◌∙◌, ap, subst}
use Rattle.std.specs.Prelude.{◌==◌, ◌||◌, ◌&&◌, if◌then◌else◌, map, option_map, option_and_then}
use Rattle.std.specs.Option.{option_map_or}
use Rattle.std.specs.List.{AllByRecursion, find}
use Rattle.std.proofs.lemmas.Bool.{lt-ltb, le-ltb, ne_eqb, eqb-true}
use Rattle.site_model.specs.Disk.{Files, Image, LeftOfAll}
use Rattle.world_model.specs.declared.types.Mode.TheVariants as mode
use Rattle.world_model.specs.World.{Volume, World, empty_volume}
use Rattle.needle_record.specs.Records.{Placed, after_record, fold_from, fold_records}
use Rattle.job_board.specs.declared.Job.{Job}
use Rattle.job_board.specs.Jobs.{InOrder, has_volume}
use Rattle.image_meaning.specs.Files.{VolumeFiles, contents, files_of}
use Rattle.image_meaning.specs.Coded.{dat_of, coded_with}
use Rattle.image_meaning.specs.Meaning.{volume_of, lost_volume, max_volumes}
use Rattle.image_meaning.specs.Laws.Plain.{exact_kept_records, exact_follows, no_files_absent}
use Rattle.image_meaning.specs.Ends.{NearVolume, is_changing, changes_form, unmarked}
use Rattle.image_meaning.specs.Laws.Survivable.{sound_neither}
use Rattle.image_meaning.specs.Share.{Share, share_of, finals, temps, IsFirmShare, left_at_rest}
use Rattle.image_meaning.specs.Outlasts.{Outlasts, IsHeld, held_records, held_unmade, held_lost, held_coded}
use Rattle.image_meaning.specs.Near.{NearIn, IsLeftBy, IsBounded, IsUnderway, held_near, underway_near, image_near}
use Rattle.shard_table.specs.Table.{Row}
use Rattle.store_jobs.specs.Slots.{Slot, Plain, Coded, Lost, mode_in, marked_by, FitsSlot}
use Rattle.plan_steps.specs.AnyPlans.{Plans}
use Rattle.store_jobs.specs.Store.{Work, Store, work_at, FitsVolume, Fits, IsFirmBase, command_in, job_in, store_world, is_reforming}

-- ---- a slot

fold_from-mode : (vol : Volume) (ps : List Placed) → (fold_from vol ps).mode ≡ vol.mode
fold_from-mode vol [] = refl
fold_from-mode vol (p ∷ ps) = fold_from-mode (after_record vol p.1) ps

fold_records-mode : (ps : List Placed) → (fold_records ps).mode ≡ mode.Plain
fold_records-mode ps = fold_from-mode empty_volume ps

-- What the files of a volume hold whose slot they fit: in the mode of the slot, the mark apart.
pub record HeldAs (slot : Slot) (files : VolumeFiles) : Type 0 where
  pub vol : Volume
  pub held : IsHeld files (Some vol)
  pub marks : vol.mode ≡ unmarked (mode_in slot)

sealed_plain : (sealed : Bool) → mode.Plain ≡ unmarked (if sealed then mode.Sealed else mode.Plain)
sealed_plain true = refl
sealed_plain false = refl

pub slot_held : (slot : Slot) (v : ℕ) (share : Share) → FitsSlot (Some slot) v share → HeldAs slot (finals share)
slot_held (Plain d sealed) v share fits = record {
  vol = fold_records fits.ps;
  held = held_records (finals share) (temps share) d.server fits.dat fits.idx fits.ps fits.alone (exact_follows fits.dat fits.idx fits.ps fits.exact) fits.super
      (exact_kept_records fits.dat fits.idx fits.ps fits.exact);
  marks = fold_records-mode fits.ps ∙ sealed_plain sealed;
}
slot_held (Coded c) v share fits = record {
  vol = coded_with (dat_of (finals share)) fits.rules.info c.deleted;
  held = held_coded (finals share) fits.coded fits.rules c.deleted fits.deleted;
  marks = refl;
}
slot_held Lost v share fits = record {
  vol = lost_volume;
  held = held_lost (finals share) fits.0 (sound_neither (finals share) (λ p. not_plain (sym fits.0 ∙ p)) (λ c. not_coded (sym fits.0 ∙ c)) (λ l. fits.1));
  marks = refl;
}
  where
    not_plain : Some mode.Lost ≡ Some mode.Plain → ⊥
    not_plain e = cc

    not_coded : Some mode.Lost ≡ Some mode.Coded → ⊥
    not_coded e = cc

-- near what memory has of it
slot_near : (slot : Option Slot) (v : ℕ) (share : Share) → FitsSlot slot v share → Outlasts (NearVolume false (option_map (marked_by slot) (volume_of (finals share)))) (finals share)
slot_near None v share fits =
    let held = held_unmade (finals share) (no_files_absent (finals share) fits.0) in
    held_near (finals share) None false (option_map (marked_by None) (volume_of (finals share))) held
    (subst (λ o. NearVolume false (option_map (marked_by None) o) None) (sym held.means) tt)
slot_near (Some slot) v share fits =
    let is = slot_held slot v share fits in
    held_near (finals share) (Some is.vol) false (option_map (marked_by (Some slot)) (volume_of (finals share))) is.held
    (subst (λ o. NearVolume false (option_map (marked_by (Some slot)) o) (Some is.vol)) (sym is.held.means) (refl, refl, is.marks))

module _ (plans : Plans) where
  -- ---- a volume, held by a job or not

  module _ (servers : ℕ) (work : Work plans) (slot : Option Slot) (v : ℕ) (row : Row) (base now : Share) (fits : FitsVolume plans servers (Some work) slot v row base now) where
    -- what it held as the job began
    pub began : HeldAs fits.1.before (finals base)
    began = slot_held fits.1.before v base (subst (λ s. FitsSlot s v base) fits.1.had fits.0)

    pub underway : IsUnderway (plans.plan work.running).command began.vol (finals now)
    underway = plans.underway work.running row base now began.vol fits.1.follows began.held.means

    -- its world is that of the start, however far the plan has come
    pub worked_is : option_map (marked_by slot) (volume_of (finals now)) ≡ Some (record began.vol { mode = mode_in fits.1.before })
    worked_is = (λ i. option_map (marked_by (fits.1.had i)) (underway.held.means i))

    -- what remains of the plan lies below the bound on its job's lines
    pub left_bounded : plans.left work.running ≤ 32 * option_map_or (λ (vol : Volume). vol.used) (option_map (marked_by slot) (volume_of (finals now))) 0 + 999999
    left_bounded = subst (λ o. plans.left work.running ≤ 32 * option_map_or (λ (vol : Volume). vol.used) o 0 + 999999) (sym worked_is)
        (plans.bound work.running row base now began.vol fits.1.follows began.held.means)

    -- so files of the volume that hold this are near it, in whatever form
    pub form_near : (files : VolumeFiles) → IsUnderway (plans.plan work.running).command began.vol files
        → Outlasts (NearVolume (changes_form (plans.plan work.running).command) (option_map (marked_by slot) (volume_of (finals now)))) files
    form_near files is = subst (λ o. Outlasts (NearVolume (changes_form (plans.plan work.running).command) o) files) (sym worked_is)
        (underway_near (plans.plan work.running).command began.vol (record began.vol { mode = mode_in fits.1.before }) files is refl refl began.marks)

  pub volume_near : (servers : ℕ) (work : Option (Work plans)) (slot : Option Slot) (v : ℕ) (row : Row) (base now : Share) → FitsVolume plans servers work slot v row base now
      → Outlasts (NearVolume (is_reforming plans work) (option_map (marked_by slot) (volume_of (finals now)))) (finals now)
  volume_near servers None slot v row base now fits =
      subst (λ s. Outlasts (NearVolume false (option_map (marked_by slot) (volume_of (finals s)))) (finals s)) (sym fits.2) (slot_near slot v base fits.0)
  volume_near servers (Some work) slot v row base now fits = form_near servers work slot v row base now fits (finals now) (underway servers work slot v row base now fits)

  pub volume_firm : (servers : ℕ) (work : Option (Work plans)) (slot : Option Slot) (v : ℕ) (row : Row) (base now : Share) → FitsVolume plans servers work slot v row base now → IsFirmShare base → IsFirmShare now
  volume_firm servers None slot v row base now fits firm = subst IsFirmShare (sym fits.2) firm
  volume_firm servers (Some work) slot v row base now fits firm = plans.firm work.running row base now fits.1.follows firm

  -- ---- the jobs of the board are those of the world

  others_free : (v : ℕ) (first : Job (Work plans)) (jobs : List (Job (Work plans))) → (first.volume == v) ≡ true
      → AllByRecursion (λ (later : Job (Work plans)). (first.number < later.number) × (first.volume ≢ later.volume)) jobs → is_changing (map (job_in plans) jobs) v ≡ false
  others_free v first [] is later = refl
  others_free v first (job ∷ jobs) is later =
      ap (λ b. (b && changes_form (command_in plans job.work)) || is_changing (map (job_in plans) jobs) v) (ne_eqb job.volume v (λ e. later.0.1 (eqb-true first.volume v is ∙ sym e)))
      ∙ others_free v first jobs is later.1

  reforming_in : (work : Option (Work plans)) → IsSome work → (changes_form (command_in plans work) || false) ≡ is_reforming plans work
  reforming_in None some = absurd cc
  reforming_in (Some work) some = or_false (changes_form (plans.plan work.running).command)
    where
      or_false : (b : Bool) → (b || false) ≡ b
      or_false true = refl
      or_false false = refl

  pub changing_is : (jobs : List (Job (Work plans))) → InOrder jobs → AllByRecursion (λ (job : Job (Work plans)). IsSome job.work) jobs → (v : ℕ) → is_changing (map (job_in plans) jobs) v ≡ is_reforming plans (work_at plans jobs v)
  changing_is [] order all_in v = refl
  changing_is (job ∷ jobs) order all_in v = by_volume (changing_is jobs order.1 all_in.1 v) (job.volume == v) refl
    where
      by_volume : is_changing (map (job_in plans) jobs) v ≡ is_reforming plans (work_at plans jobs v) → (b : Bool) → (job.volume == v) ≡ b
          → ((job.volume == v) && changes_form (command_in plans job.work) || is_changing (map (job_in plans) jobs) v) ≡ is_reforming plans (work_at plans (job ∷ jobs) v)
      by_volume more true e =
          ap (λ b. (b && changes_form (command_in plans job.work)) || is_changing (map (job_in plans) jobs) v) e
          ∙ ap (λ b. changes_form (command_in plans job.work) || b) (others_free v job jobs e order.0)
          ∙ reforming_in job.work all_in.0
          ∙ sym (ap (λ b. is_reforming plans (option_and_then (λ (j : Job (Work plans)). j.work) (if b then Some job else find (has_volume v) jobs))) e)
      by_volume more false e =
          ap (λ b. (b && changes_form (command_in plans job.work)) || is_changing (map (job_in plans) jobs) v) e
          ∙ more
          ∙ sym (ap (λ b. is_reforming plans (option_and_then (λ (j : Job (Work plans)). j.work) (if b then Some job else find (has_volume v) jobs))) e)

  -- ---- all volumes

  module _ (store : Store plans) (servers : ℕ) (files : Files) (base : ℕ → Share) (fits : Fits plans store servers files base) where
    abbrev here : World
    here = store_world plans store (contents files)

    pub has_volume_in : (v : ℕ) → v < max_volumes → here.volumes v ≡ option_map (marked_by (store.slots v)) (volume_of (finals (share_of files v)))
    has_volume_in v h = ap (λ b. option_map (marked_by (store.slots v)) (if b then volume_of (files_of (contents files) v) else None)) (lt-ltb v max_volumes h)

    pub bounded : IsBounded here
    bounded v h = ap (λ b. option_map (marked_by (store.slots v)) (if b then volume_of (files_of (contents files) v) else None)) (le-ltb v max_volumes h)

    changing : (v : ℕ) → is_changing here.jobs v ≡ is_reforming plans (work_at plans store.board.unfinished v)
    changing v = changing_is store.board.unfinished fits.board.in_order fits.all_in v

    -- what is near the volume in memory is near it in the world
    pub near_in : (v : ℕ) → v < max_volumes → (left : VolumeFiles)
        → Outlasts (NearVolume (is_reforming plans (work_at plans store.board.unfinished v)) (option_map (marked_by (store.slots v)) (volume_of (finals (share_of files v))))) left → Outlasts (NearIn here v) left
    near_in v h left outlasts = subst (λ b. Outlasts (NearVolume b (here.volumes v)) left) (sym (changing v))
        (subst (λ o. Outlasts (NearVolume (is_reforming plans (work_at plans store.board.unfinished v)) o) left) (sym (has_volume_in v h)) outlasts)

    pub share_near : (v : ℕ) → v < max_volumes → Outlasts (NearIn here v) (finals (share_of files v))
    share_near v h = near_in v h (finals (share_of files v))
        (volume_near servers (work_at plans store.board.unfinished v) (store.slots v) v (store.rows v) (base v) (share_of files v) (fits.each v h))

    pub share_firm : IsFirmBase base → (v : ℕ) → v < max_volumes → IsFirmShare (share_of files v)
    share_firm firm v h = volume_firm servers (work_at plans store.board.unfinished v) (store.slots v) v (store.rows v) (base v) (share_of files v) (fits.each v h) (firm v h)

    -- At rest every image that a stop leaves is near the store's world, whatever it leaves of temporary files.
    pub store_rests : IsFirmBase base → (image : Image) → LeftOfAll files image → IsLeftBy here image
    store_rests firm image left = image_near here image bounded (λ v h. subst (Outlasts (NearIn here v)) (sym (left_at_rest files image v (share_firm firm v h) left)) (share_near v h))
