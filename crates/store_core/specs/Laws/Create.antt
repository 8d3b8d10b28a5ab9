-- Which makings of a volume the store's world refuses, what a stop within one leaves, and what it makes of the world.
use Rattle.std.proofs.Common.{◌≡◌, ◌≢◌, ◌⊎◌, inl, inr, ⊎_elim, ℕ, ◌<◌, ◌≤◌, Bool, true, false, cond, List, [], ◌∷◌, length, Option, Some, None, is_some, refl, sym, ◌∙◌, ap, subst, arith}
use Rattle.std.specs.Prelude.{◌==◌, nat_lt, not, if◌then◌else◌, option_map, unwrap_or, MatchOption}
use Rattle.std.specs.FinMap.{empty}
use Rattle.std.proofs.lemmas.Bool.{lt-ltb, le-ltb, eq-eqb, ne_eqb, cases_eq, cases_lt}
use mathlib.Core.Bool.{true≢false}
use Rattle.site_model.specs.Disk.{File, Place, Files, Image, IsFirm, Disk, IsSettled}
use Rattle.site_model.specs.Disk as disk
use Rattle.site_model.specs.Leaves.{Leaves, place_cases, both, weaker}
use Rattle.site_model.specs.Touches.{Touches, firm_left, touches_look, touches_more}
use Rattle.world_model.specs.declared.types.Line.TheVariants as line
use Rattle.world_model.specs.declared.types.Reply.TheVariants as reply
use Rattle.world_model.specs.declared.types.Refusal.{Refusal}
use Rattle.world_model.specs.declared.types.Refusal.TheVariants as refusal
use Rattle.world_model.specs.World.{Volume, World, empty_volume}
use Rattle.world_model.specs.Moves.{grammatical, when, first, refusal_of, next_world, Accepted, Allowed}
use Rattle.file_names.specs.declared.Kind.{Kind}
use Rattle.file_names.specs.declared.Kind.TheVariants.{Dat, Idx}
use Rattle.file_names.specs.declared.FileName.{FileName}
use Rattle.file_names.specs.Names.{IsKind, place_of}
use Rattle.file_names.specs.Laws.Name.{same_name}
use Rattle.needle_record.specs.Records.{fold_records}
use Rattle.image_meaning.specs.Files.{VolumeFiles, contents, files_of, temps_of, bytes_at, SameVolume}
use Rattle.site_model.specs.Counts.{max_servers}
use Rattle.image_meaning.specs.Laws.Plain.{IsAlone, IsAbsent, alone_plain, alone_means, alone_sound, exact_follows, exact_kept_records, no_files_absent, short_dats_absent, absent_mode, absent_means, absent_sound}
use Rattle.image_meaning.specs.Laws.Copy.{volumes_apart, temp_apart}
use Rattle.image_meaning.specs.Meaning.{volume_of, volume_in, max_volumes}
use Rattle.image_meaning.specs.Sound.{Stands, IsSound, IsSoundVolume}
use Rattle.image_meaning.specs.Ends.{HasNoFiles}
use Rattle.image_meaning.specs.Laws.Local.{same_files, same_meaning, same_soundness}
use Rattle.image_meaning.specs.Times.{records_in, records_of}
use Rattle.image_meaning.specs.Laws.Times.{absent_records, exact_records}
use Rattle.dat_volume.specs.Places.{dat_place, idx_place, dat_temp, idx_temp, IsOneOfFour}
use Rattle.dat_volume.specs.Writes.{new_dat, NoneStands, IsPartlyMade, IsCreated}
use Rattle.dat_volume.specs.Laws.Write.{new_super, new_exact}
use Rattle.dat_volume.specs.declared.volume.DatVolume.{DatVolume}
use Rattle.store_core.specs.declared.slot.Slot.{Slot}
use Rattle.store_core.specs.declared.slot.Slot.TheVariants as slot
use Rattle.store_core.specs.declared.store.Store.{Store}
use Rattle.store_core.specs.Creating.{IsNewAt, MayMake, HasNew}
use Rattle.store_core.specs.Refusals.{made_before, create_refusal}
use Rattle.store_core.specs.Store.{slot_of, FitsVolume, HoldsPlain, Fits, marked_by, store_world}
use Rattle.store_core.specs.Lines.{IsLeftNear, Serves, Stops}
use Rattle.image_meaning.specs.Share.{IsOfVolume}
use Rattle.store_core.specs.Laws.Store.{Shows, ShowsWorld, world_near, holds_means, store_sound, store_has, store_shows, store_beyond, stops_idle}
use Rattle.store_core.specs.Laws.World.{HasOfSlot, world_has}
use Rattle.store_core.specs.Written.{HasSameRecords}
use Rattle.store_core.specs.Laws.Written.{same_left}

-- ---- places

-- the name tells the kind
same_kind : (v s t : ℕ) (a b : Kind) (temp : Bool) → v < max_volumes → IsKind a → IsKind b → place_of v s a temp ≡ place_of v t b temp → (s ≡ t) × (a ≡ b)
same_kind v s t a b temp below is_a is_b e = (
  ap (λ (k : Place). k.0) e,
  ap (λ (f : FileName). f.kind)
      (same_name (record { volume = v; kind = a; temp = temp }) (record { volume = v; kind = b; temp = temp }) (record { volume = below; kind = is_a }) (record { volume = below; kind = is_b }) (ap (λ (k : Place). k.1) e)),
)

either : {P Q : Type 0} → P ⊎ ¬ P → Q ⊎ ¬ Q → (P ⊎ Q) ⊎ ¬ (P ⊎ Q)
either (inl p) q = inl (inl p)
either (inr np) (inl q) = inl (inr q)
either (inr np) (inr nq) = inr (λ is. ⊎_elim np nq is)

four_cases : (server v : ℕ) (k : Place) → IsOneOfFour server v k ⊎ ¬ IsOneOfFour server v k
four_cases server v k =
    either (either (place_cases k (dat_place server v)) (place_cases k (idx_place server v))) (either (place_cases k (dat_temp server v)) (place_cases k (idx_temp server v)))

of_volume : (server v : ℕ) (k : Place) → IsOneOfFour server v k → IsOfVolume v k
of_volume server v k (inl (inl e)) = (server, Dat, false, e)
of_volume server v k (inl (inr e)) = (server, Idx, false, e)
of_volume server v k (inr (inl e)) = (server, Dat, true, e)
of_volume server v k (inr (inr e)) = (server, Idx, true, e)

no_file : (file : Option File) → disk.standing file ≡ None → file ≡ None
no_file None e = refl
no_file (Some file) e = absurd cc

-- no call touches a file of another volume
pub make_touches : (store : Store) (v server : ℕ) (old new : Disk) → MayMake store v server old new → Touches (IsOfVolume v) old new
make_touches store v server old new (inl same) = touches_look same
make_touches store v server old new (inr making) = touches_more (of_volume server v) making.1.touches

pub make_others : (store : Store) (v server : ℕ) (old new : Disk) → MayMake store v server old new → (k : Place) → ¬ IsOneOfFour server v k → new.files k ≡ old.files k
make_others store v server old new (inl same) k other = ap (λ (d : Disk). d.files k) same
make_others store v server old new (inr making) k other = making.1.touches.others k other

-- ---- refusals

existing : (s : Option Slot) (it : Option Volume) → HasOfSlot s it → option_map (λ _. refusal.Exists) it ≡ made_before s
existing None it has = ap (option_map (λ _. refusal.Exists)) has
existing (Some slot.Lost) it has = ap (option_map (λ _. refusal.Exists)) has
existing (Some (slot.Plain p)) it has = ap (option_map (λ _. refusal.Exists)) has.1

create_rows : (at_one : Bool) (s : Option Slot) → first (when (not at_one) refusal.NoServer ∷ made_before s ∷ []) ≡ (if at_one then made_before s else Some refusal.NoServer)
create_rows false s = refl
create_rows true None = refl
create_rows true (Some s) = refl

module _ (store : Store) (servers : ℕ) (files : Files) (fits : Fits store servers files) (v : ℕ) (below : v < max_volumes) (server : ℕ) where
  abbrev world : World
  world = store_world store (contents files)

  -- a making is refused by the slot and the number of servers
  pub create_refuses : refusal_of world (line.Create v server) ≡ create_refusal (slot_of store v) server store.servers
  create_refuses =
      ap (λ o. first (when (not (nat_lt server store.servers)) refusal.NoServer ∷ o ∷ [])) (existing (slot_of store v) (world.volumes v) (world_has store servers files fits v below))
      ∙ create_rows (nat_lt server store.servers) (slot_of store v)

  -- ---- what a making leaves

  module _ (is_new : IsNewAt store v server) where
    few : server < max_servers
    few = omega (arith, is_new.home, store.few)

    absent : HasNoFiles (files_of (contents files) v) × HasNoFiles (temps_of (contents files) v)
    absent = subst (λ s. FitsVolume s v (files_of (contents files) v) (temps_of (contents files) v)) is_new.none (fits.each v below)

    pub none_stands : NoneStands server v files
    none_stands = record {
      dat = no_file (files (dat_place server v)) (absent.0 server Dat few tt);
      idx = no_file (files (idx_place server v)) (absent.0 server Idx few tt);
      dat_temp = no_file (files (dat_temp server v)) (absent.1 server Dat few tt);
      idx_temp = no_file (files (idx_temp server v)) (absent.1 server Idx few tt);
    }

    -- it isn't refused
    free : refusal_of world (line.Create v server) ≡ None
    free = create_refuses ∙ (λ i. if lt-ltb server store.servers is_new.home i then made_before (is_new.none i) else Some refusal.NoServer)

    abbrev next : World
    next = next_world world (grammatical (line.Create v server)) reply.Done

    allowed : Allowed world (grammatical (line.Create v server)) reply.Done
    allowed = subst (λ o. MatchOption o (Accepted world (line.Create v server) reply.Done) (λ why. reply.Done ≡ reply.Refused why)) (sym free) refl

    next_there : next.volumes v ≡ Some empty_volume
    next_there = ap (λ b. cond b (Some empty_volume) (world.volumes v)) (eq-eqb v v refl)

    next_elsewhere : (q : ℕ) → q ≢ v → next.volumes q ≡ world.volumes q
    next_elsewhere q other = ap (λ b. cond b (Some empty_volume) (world.volumes q)) (ne_eqb q v other)

    world_none : world.volumes v ≡ None
    world_none = store_has store servers files fits v below ∙ ap (option_map (marked_by (slot_of store v))) (absent_means (files_of (contents files) v) (no_files_absent (files_of (contents files) v) absent.0))

    not_four : (q s : ℕ) (kind : Kind) (temp : Bool) → q < max_volumes → q ≢ v → ¬ IsOneOfFour server v (place_of q s kind temp)
    not_four q s kind temp h other is = ⊎_elim
        (λ two. ⊎_elim (volumes_apart q v s server kind Dat temp false h below other) (volumes_apart q v s server kind Idx temp false h below other) two)
        (λ temps. ⊎_elim (volumes_apart q v s server kind Dat temp true h below other) (volumes_apart q v s server kind Idx temp true h below other) temps)
        is

    -- an image in which only the four files differ
    module _ (image : Image) (outside : (k : Place) → ¬ IsOneOfFour server v k → image k ≡ contents files k) where
      others_same : (q : ℕ) → q < max_volumes → q ≢ v → SameVolume q (contents files) image
      others_same q h other s kind = sym (outside (place_of q s kind false) (not_four q s kind false h other))

      -- no other file of the volume stands
      stood : (s : ℕ) (kind : Kind) → IsKind kind → Stands (files_of image v) s kind → (s ≡ server) × ((kind ≡ Idx) ⊎ (kind ≡ Dat))
      stood s kind is h = by_place (place_cases (place_of v s kind false) (dat_place server v)) (place_cases (place_of v s kind false) (idx_place server v))
        where
          by_place : (place_of v s kind false ≡ dat_place server v) ⊎ (place_of v s kind false ≢ dat_place server v)
              → (place_of v s kind false ≡ idx_place server v) ⊎ (place_of v s kind false ≢ idx_place server v) → (s ≡ server) × ((kind ≡ Idx) ⊎ (kind ≡ Dat))
          by_place (inl e) other = let same = same_kind v s server kind Dat false below is tt e in (same.0, inr same.1)
          by_place (inr ne) (inl e) = let same = same_kind v s server kind Idx false below is tt e in (same.0, inl same.1)
          by_place (inr ne) (inr me) =
              let elsewhere : ¬ IsOneOfFour server v (place_of v s kind false) =
              λ four. ⊎_elim (λ two. ⊎_elim ne me two) (λ temps. ⊎_elim (temp_apart v s server kind Dat below) (temp_apart v s server kind Idx below) temps) four in
              absurd (true≢false (sym h.1 ∙ ap is_some (outside (place_of v s kind false) elsewhere ∙ absent.0 s kind h.0 is)))

      -- with no index there is no volume, whether there is a data file or not
      no_volume : image (idx_place server v) ≡ None → length (bytes_at (files_of image v) server Dat) ≤ 8 → IsAbsent (files_of image v)
      no_volume no_index short = short_dats_absent (files_of image v) (λ s kind is h. by_kind s kind h (stood s kind is h).0 (stood s kind is h).1)
        where
          by_kind : (s : ℕ) (kind : Kind) → Stands (files_of image v) s kind → s ≡ server → (kind ≡ Idx) ⊎ (kind ≡ Dat) → (kind ≡ Dat) × (length (bytes_at (files_of image v) s kind) ≤ 8)
          by_kind s kind h at (inl e) = absurd (true≢false (sym h.1 ∙ (λ i. is_some (image (place_of v (at i) (e i) false))) ∙ ap is_some no_index))
          by_kind s kind h at (inr e) = (e, subst (λ n. n ≤ 8) (λ i. length (bytes_at (files_of image v) (sym at i) (sym e i))) short)

      -- with both it has no needles
      alone : image (dat_place server v) ≡ Some new_dat → image (idx_place server v) ≡ Some [] → IsAlone (files_of image v) server new_dat []
      alone dat idx = record { below = few; has_dat = dat; has_index = idx; alone = stood }

      -- the volume is sound, and the world shows it and else the store's
      sound : IsSoundVolume (files_of image v) → IsSound image
      sound of_v q h = elim (cases_eq q v) [
        | inl e ↦ subst (λ p. IsSoundVolume (files_of image p)) (sym e) of_v
        | inr other ↦ same_soundness q (contents files) image (others_same q h other) (store_sound store servers files fits q h)
      ]

      shows : IsSoundVolume (files_of image v) → (w : World) → w.jobs ≡ [] → Shows (files_of image v) (w.volumes v)
          → ((q : ℕ) → q ≢ v → w.volumes q ≡ world.volumes q) → ShowsWorld image w
      shows of_v w no_jobs there elsewhere = record {
        no_jobs = no_jobs;
        sound = sound of_v;
        shows = λ q h. by_number q h (cases_eq q v);
        beyond = λ q h. elsewhere q (λ e. absurd (omega (arith, e, h, below))) ∙ store_beyond store servers files fits q h;
      }
        where
          by_number : (q : ℕ) → q < max_volumes → (q ≡ v) ⊎ (q ≢ v) → Shows (files_of image q) (w.volumes q)
          by_number q h (inl e) = subst (λ p. Shows (files_of image p) (w.volumes p)) (sym e) there
          by_number q h (inr other) = subst (λ f. Shows f (w.volumes q)) (same_files q (contents files) image (others_same q h other))
              (subst (Shows (files_of (contents files) q)) (sym (elsewhere q other)) ((store_shows store servers files fits).shows q h))

      left_absent : IsAbsent (files_of image v) → IsLeftNear world (line.Create v server) image
      left_absent none =
          let of_v = absent_sound (files_of image v) none in
          record {
            sound = sound of_v;
            worlds = λ u may. inl (world_near image world (shows of_v world refl (inl (absent_mode (files_of image v) none, world_none)) (λ q other. refl)) u may);
          }

      left_made : IsAlone (files_of image v) server new_dat [] → IsLeftNear world (line.Create v server) image
      left_made only =
          let temps = temps_of image v in
          let of_v = alone_sound (files_of image v) temps server new_dat [] only (exact_follows new_dat [] [] new_exact) new_super in
          let means : volume_of (files_of image v) ≡ Some empty_volume =
          alone_means (files_of image v) temps server new_dat [] only ∙ ap (λ ps. Some (fold_records ps)) (exact_kept_records new_dat [] [] new_exact) in
          let there : Shows (files_of image v) (next.volumes v) =
          inr (inr (empty_volume, false, alone_plain (files_of image v) temps server new_dat [] only, means, refl, next_there)) in
          record {
            sound = sound of_v;
            worlds = λ u may. inr (
              grammatical (line.Create v server),
              refl,
              next,
              (reply.Done, allowed, refl),
              world_near image next (shows of_v next refl there next_elsewhere) u may,
            );
          }

      -- An image in which the volume is made in part is sound, and means the world before or the next one.
      pub make_left : IsPartlyMade server v image → IsLeftNear world (line.Create v server) image
      make_left (inl none) = left_absent (no_volume none.1 (subst (λ (o : Option (List ℕ)). length (unwrap_or o []) ≤ 8) (sym none.0) (omega arith)))
      make_left (inr (inl part)) = left_absent (no_volume part.1 (subst (λ (o : Option (List ℕ)). length (unwrap_or o []) ≤ 8) (sym part.0) (omega arith)))
      make_left (inr (inr whole)) = left_made (alone whole.0 whole.1)

      -- no volume has other records
      pub make_records : IsPartlyMade server v image → HasSameRecords (contents files) image
      make_records made q h = by_number (cases_eq q v)
        where
          after : IsPartlyMade server v image → records_in image v ≡ []
          after (inl none) = absent_records (files_of image v) (absent_mode (files_of image v) (no_volume none.1 (subst (λ (o : Option (List ℕ)). length (unwrap_or o []) ≤ 8) (sym none.0) (omega arith))))
          after (inr (inl part)) = absent_records (files_of image v) (absent_mode (files_of image v) (no_volume part.1 (subst (λ (o : Option (List ℕ)). length (unwrap_or o []) ≤ 8) (sym part.0) (omega arith))))
          after (inr (inr whole)) = exact_records (files_of image v) (temps_of image v) server new_dat [] [] (alone whole.0 whole.1) new_exact

          before : records_in (contents files) v ≡ []
          before = absent_records (files_of (contents files) v) (absent_mode (files_of (contents files) v) (no_files_absent (files_of (contents files) v) absent.0))

          by_number : (q ≡ v) ⊎ (q ≢ v) → records_in image q ≡ records_in (contents files) q
          by_number (inl e) = subst (λ p. records_in image p ≡ records_in (contents files) p) (sym e) (after made ∙ sym before)
          by_number (inr other) = ap records_of (sym (same_files q (contents files) image (others_same q h other)))

-- a stop within a call that may make the volume
pub create_stops : (store : Store) (servers v server : ℕ) (old new : Disk) → v < max_volumes → MayMake store v server old new → Stops (line.Create v server) store old new servers
create_stops store servers v server old new below (inl same) = subst (λ d. Stops (line.Create v server) store old d servers) (sym same) (stops_idle (line.Create v server) store old servers)
create_stops store servers v server old new below (inr making) = record {
  leaves = λ fits settled. weaker (both making.1.touches.leaves (making.1.leaves (none_stands store servers old.files fits v below server making.0)))
      (λ image said left. make_left store servers old.files fits v below server making.0 image (λ k other. firm_left (old.files k) (image k) (settled k) (left.0.0 k other)) left.1);
}

-- and what is left of the records of all volumes
pub create_leaves : (store : Store) (servers v server : ℕ) (old new : Disk) → v < max_volumes → MayMake store v server old new → Fits store servers old.files → IsSettled old.files
    → Leaves old new (λ image said. HasSameRecords (contents old.files) image ⊎ HasSameRecords (contents old.files) image)
create_leaves store servers v server old new below (inl same) fits settled =
    subst (λ d. Leaves old d (λ image said. HasSameRecords (contents old.files) image ⊎ HasSameRecords (contents old.files) image)) (sym same) (same_left None old settled)
create_leaves store servers v server old new below (inr making) fits settled =
    weaker (both making.1.touches.leaves (making.1.leaves (none_stands store servers old.files fits v below server making.0)))
    (λ image said left. inl (make_records store servers old.files fits v below server making.0 image (λ k other. firm_left (old.files k) (image k) (settled k) (left.0.0 k other)) left.1))

-- ---- a making that was refused

pub create_refused : (store : Store) (servers v server : ℕ) (d : Disk) (why : Refusal) → v < max_volumes → Fits store servers d.files → create_refusal (slot_of store v) server store.servers ≡ Some why
    → Serves (line.Create v server) store store d d (reply.Refused why) servers
create_refused store servers v server d why below fits e = record {
  allowed =
      let w = store_world store (contents d.files) in
      let refuses : refusal_of w (line.Create v server) ≡ Some why = create_refuses store servers d.files fits v below server ∙ e in
      subst (λ o. MatchOption o (Accepted w (line.Create v server) (reply.Refused why)) (λ y. reply.Refused why ≡ reply.Refused y)) (sym refuses) refl;
  moves = refl;
  fits = fits;
  settled = λ settled. settled;
}

-- ---- one that was done

module _ (before after : Store) (servers v server : ℕ) (old new : Disk) (below : v < max_volumes) (fits : Fits before servers old.files)
    (has : HasNew v server before after) (others : (k : Place) → ¬ IsOneOfFour server v k → new.files k ≡ old.files k) (created : IsCreated server v new.files) where
  outside : (k : Place) → ¬ IsOneOfFour server v k → contents new.files k ≡ contents old.files k
  outside k other = ap disk.standing (others k other)

  no_temps : HasNoFiles (temps_of (contents new.files) v)
  no_temps s kind h is = by_place (place_cases (place_of v s kind true) (dat_temp server v)) (place_cases (place_of v s kind true) (idx_temp server v))
    where
      by_place : (place_of v s kind true ≡ dat_temp server v) ⊎ (place_of v s kind true ≢ dat_temp server v)
          → (place_of v s kind true ≡ idx_temp server v) ⊎ (place_of v s kind true ≢ idx_temp server v) → contents new.files (place_of v s kind true) ≡ None
      by_place (inl e) other = ap (contents new.files) e ∙ ap disk.standing created.no_dat_temp
      by_place (inr ne) (inl e) = ap (contents new.files) e ∙ ap disk.standing created.no_idx_temp
      by_place (inr ne) (inr me) =
          let elsewhere : ¬ IsOneOfFour server v (place_of v s kind true) =
          λ four. ⊎_elim (λ two. ⊎_elim (λ e. temp_apart v server s Dat kind below (sym e)) (λ e. temp_apart v server s Idx kind below (sym e)) two) (λ temps. ⊎_elim ne me temps) four in
          outside (place_of v s kind true) elsewhere ∙ (absent before servers old.files fits v below server has.is_new).1 s kind h is

  abbrev made : DatVolume
  made = record { server = server; volume = v; index = empty; used = 8 }

  new_holds : HoldsPlain made v (files_of (contents new.files) v) (temps_of (contents new.files) v)
  new_holds = record {
    dat = new_dat;
    idx = [];
    ps = [];
    number = refl;
    alone = alone before servers old.files fits v below server has.is_new (contents new.files) outside (ap disk.standing created.firm.dat_file) (ap disk.standing created.firm.idx_file);
    exact = new_exact;
    super = new_super;
    live = refl;
    used = refl;
    no_temps = no_temps;
  }

  new_fits : Fits after servers new.files
  new_fits = record {
    servers_are = has.servers ∙ fits.servers_are;
    each = λ q h. by_number q h (cases_eq q v);
    no_others = λ q h. has.elsewhere q (λ e. absurd (omega (arith, e, h, below))) ∙ fits.no_others q h;
  }
    where
      by_number : (q : ℕ) → q < max_volumes → (q ≡ v) ⊎ (q ≢ v) → FitsVolume (slot_of after q) q (files_of (contents new.files) q) (temps_of (contents new.files) q)
      by_number q h (inl e) = subst (λ p. FitsVolume (slot_of after p) p (files_of (contents new.files) p) (temps_of (contents new.files) p)) (sym e)
          (subst (λ s. FitsVolume s v (files_of (contents new.files) v) (temps_of (contents new.files) v)) (sym has.there) new_holds)
      by_number q h (inr other) =
          let same : (temp : Bool) (s : ℕ) (kind : Kind) → contents old.files (place_of q s kind temp) ≡ contents new.files (place_of q s kind temp) =
          λ temp s kind. sym (outside (place_of q s kind temp) (not_four before servers old.files fits v below server has.is_new q s kind temp h other)) in
          subst (λ s. FitsVolume s q (files_of (contents new.files) q) (temps_of (contents new.files) q)) (sym (has.elsewhere q other))
          (subst (λ (f : VolumeFiles). FitsVolume (slot_of before q) q f (temps_of (contents new.files) q)) (λ i s kind. same false s kind i)
          (subst (λ (t : VolumeFiles). FitsVolume (slot_of before q) q (files_of (contents old.files) q) t) (λ i s kind. same true s kind i) (fits.each q h)))

  same_in : (q : ℕ) → q ≢ v → volume_in (contents new.files) q ≡ volume_in (contents old.files) q
  same_in q other = by_number (cases_lt q max_volumes)
    where
      by_number : (q < max_volumes) ⊎ (max_volumes ≤ q) → volume_in (contents new.files) q ≡ volume_in (contents old.files) q
      by_number (inl h) = sym (same_meaning q (contents old.files) (contents new.files) (others_same before servers old.files fits v below server has.is_new (contents new.files) outside q h other))
      by_number (inr h) =
          ap (λ b. if b then volume_of (files_of (contents new.files) q) else None) (le-ltb q max_volumes h)
          ∙ sym (ap (λ b. if b then volume_of (files_of (contents old.files) q) else None) (le-ltb q max_volumes h))

  new_there : option_map (marked_by (slot_of after v)) (volume_in (contents new.files) v) ≡ Some empty_volume
  unfolding new_holds
  new_there =
      store_has after servers new.files new_fits v below
      ∙ λ i. option_map (marked_by (has.there i)) (holds_means made v (files_of (contents new.files) v) (temps_of (contents new.files) v) new_holds i)

  volumes_are : (q : ℕ) → option_map (marked_by (slot_of after q)) (volume_in (contents new.files) q)
      ≡ (if q == v then Some empty_volume else option_map (marked_by (slot_of before q)) (volume_in (contents old.files) q))
  volumes_are q = elim (cases_eq q v) [
    | inl e ↦ subst (λ p. option_map (marked_by (slot_of after p)) (volume_in (contents new.files) p)
        ≡ (if p == v then Some empty_volume else option_map (marked_by (slot_of before p)) (volume_in (contents old.files) p))) (sym e)
        (new_there ∙ ap (λ b. cond b (Some empty_volume) (option_map (marked_by (slot_of before v)) (volume_in (contents old.files) v))) (sym (eq-eqb v v refl)))
    | inr other ↦ (λ i. option_map (marked_by (has.elsewhere q other i)) (same_in q other i))
        ∙ ap (λ b. cond b (Some empty_volume) (option_map (marked_by (slot_of before q)) (volume_in (contents old.files) q))) (sym (ne_eqb q v other))
  ]

  create_moves : store_world after (contents new.files) ≡ next_world (store_world before (contents old.files)) (grammatical (line.Create v server)) reply.Done
  create_moves = λ i. record { servers = has.servers i; limit = (has.settings i).limit; volumes = λ q. volumes_are q i; jobs = []; next_job = 1 }

  new_settled : IsSettled old.files → IsSettled new.files
  new_settled settled k = by_place (four_cases server v k)
    where
      by_place : IsOneOfFour server v k ⊎ ¬ IsOneOfFour server v k → IsFirm (new.files k)
      by_place (inl (inl (inl e))) = subst (λ p. IsFirm (new.files p)) (sym e) (subst IsFirm (sym created.firm.dat_file) (refl, refl))
      by_place (inl (inl (inr e))) = subst (λ p. IsFirm (new.files p)) (sym e) (subst IsFirm (sym created.firm.idx_file) (refl, refl))
      by_place (inl (inr (inl e))) = subst (λ p. IsFirm (new.files p)) (sym e) (subst IsFirm (sym created.no_dat_temp) tt)
      by_place (inl (inr (inr e))) = subst (λ p. IsFirm (new.files p)) (sym e) (subst IsFirm (sym created.no_idx_temp) tt)
      by_place (inr other) = subst IsFirm (sym (others k other)) (settled k)

  pub create_done : Serves (line.Create v server) before after old new reply.Done servers
  create_done = record {
    allowed = allowed before servers old.files fits v below server has.is_new;
    moves = create_moves;
    fits = new_fits;
    settled = new_settled;
  }

  pub create_records : HasSameRecords (contents old.files) (contents new.files)
  create_records = make_records before servers old.files fits v below server has.is_new (contents new.files) outside
      (inr (inr (ap disk.standing created.firm.dat_file, ap disk.standing created.firm.idx_file)))
