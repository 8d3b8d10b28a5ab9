-- What a vacuum makes of a volume whose files hold its records.
use Rattle.std.proofs.Common.{◌≡◌, ◌≢◌, ◌⊎◌, inl, inr, ⊎_elim, ℕ, ◌<◌, List, ◌++◌, length, map, take, drop, Bool, true, false, Some, None, IsTrue, All, refl, sym, ◌∙◌, ap, subst}
use Rattle.std.specs.FinMap.{empty}
use Rattle.site_model.specs.Disk.{Place, Files, Image, LeftOfAll, firm_file, bytes_of, IsPossible, Disk}
use Rattle.site_model.specs.Leaves.{Leaves, starts, by_look, weaker, joins}
use Rattle.site_model.specs.Touches.{Touches, At, touches_on, touches_more, touches_look}
use Rattle.wire_num.specs.Laws.Number.{AreBytes}
use Rattle.file_names.specs.declared.Kind.{Kind}
use Rattle.file_names.specs.declared.Kind.TheVariants.{Dat, Idx, Cpd, Cpx}
use Rattle.file_names.specs.Names.{IsPlainKind, place_of}
use Rattle.volume_forms.specs.declared.Entry.{Entry}
use Rattle.needle_record.specs.Records.{Placed, Index, entry_of, index_of, AreRecords, StandsIn}
use Rattle.needle_record.specs.Laws.Records.{records-stand, whole_dat-records}
use Rattle.image_meaning.specs.Files.{files_of}
use Rattle.image_meaning.specs.Meaning.{max_volumes}
use Rattle.image_meaning.specs.Plain.{IsExact}
use Rattle.dat_volume.specs.declared.volume.DatVolume.{DatVolume}
use Rattle.dat_volume.specs.declared.fault.GetFault.{GetFault}
use Rattle.dat_volume.specs.declared.fault.GetFault.TheVariants as get_fault
use Rattle.dat_volume.specs.Causes.{ReadBlamesServer}
use Rattle.dat_volume.specs.Needles.{damage_of, first_damage, HasDifference}
use Rattle.dat_volume.specs.Places.{dat_in}
use Rattle.volume_vacuum.specs.Live.{live_records, vacuumed, raised, new_dat, new_idx}
use Rattle.volume_vacuum.specs.Laws.Lives.{live-all, live-content}
use Rattle.volume_vacuum.specs.Laws.Moves.{vacuumed-exact, length-new_dat}
use Rattle.volume_vacuum.specs.Copies.{IsByPlace, moved_entries, moved_end, with_all, index_bytes, copied, EndWithin, overlap, headers_damage, TellsFirst}
use Rattle.volume_vacuum.specs.Home.{IsNamed, dat_named, own_dat, IsTouched, AreHeldFirm, AreWritten, IsHeldByEither, NamesFiles, AreRenamed, Replaces, AreReplaced}
use Rattle.volume_vacuum.specs.declared.home.Home.{Home}
use Rattle.volume_vacuum.specs.declared.preparing.Plan.{Plan}
use Rattle.volume_vacuum.specs.Vacuum.{HoldsRecords, Vacuums, IsPrepared, IsVacuumed, vacuum_damage, IsRefusal}
use Rattle.volume_vacuum.proofs.Entries.{moved-index, moved-bytes, moved_end-records, copied-records, raised-front, Apart, apart-records, apart-live, overlap-none, headers-right}
use Rattle.volume_vacuum.proofs.Sorted.{live-by_place}
use Rattle.volume_vacuum.specs.Laws.Apart.{kinds_apart, temp_apart, servers_apart, plain_kind, cpd_cpx}
use Rattle.volume_vacuum.proofs.Renames.{held_left}
use Rattle.volume_vacuum.proofs.Checked.{both_none, second_none, headers_within}

-- ---- of exact files

module _ (dat idx : List ℕ) (ps : List Placed) (exact : IsExact dat idx ps) (es : List Entry) (by : IsByPlace (index_of ps) es) where
  stand : All (StandsIn dat) (live_records ps)
  stand = live-all (StandsIn dat) ps (subst (All (StandsIn dat)) exact.has (records-stand dat exact.whole.super))

  apart : Apart 8 (live_records ps)
  apart = apart-live 8 ps (apart-records 8 (drop 8 dat) ps (subst (AreRecords 8 (drop 8 dat)) exact.has (whole_dat-records dat exact.whole)))

  are_live : es ≡ map entry_of (live_records ps)
  are_live = live-by_place dat ps es stand apart by

  pub exact_undamaged : vacuum_damage dat es ≡ None
  exact_undamaged =
      ap (vacuum_damage dat) are_live
      ∙ both_none (overlap 8 (map entry_of (live_records ps))) (headers_damage dat (map entry_of (live_records ps))) (overlap-none dat 8 (live_records ps) stand apart) (headers-right dat (live_records ps) stand)

  pub exact_dat : raised (take 8 dat) ++ copied dat es ≡ new_dat dat ps
  unfolding new_dat
  exact_dat = λ i. raised-front dat exact.whole.super i ++ (ap (copied dat) are_live ∙ copied-records dat (live_records ps) stand) i

  pub exact_idx : index_bytes (moved_entries 8 es) ≡ new_idx ps
  unfolding new_idx
  exact_idx = ap (λ l. index_bytes (moved_entries 8 l)) are_live ∙ moved-bytes 8 (live_records ps)

  pub exact_index : with_all empty (moved_entries 8 es) ≡ index_of (vacuumed ps)
  exact_index = ap (λ l. with_all empty (moved_entries 8 l)) are_live ∙ moved-index empty 8 (live_records ps) (live-content ps)

  pub exact_end : moved_end 8 es ≡ length (new_dat dat ps)
  exact_end = ap (moved_end 8) are_live ∙ moved_end-records 8 (live_records ps) ∙ sym (length-new_dat dat idx ps exact)

-- ---- the files of the volume

held_firm : {volume : DatVolume} {files : Files} {dat idx : List ℕ} {ps : List Placed} → HoldsRecords volume files dat idx ps → AreHeldFirm volume.server volume.volume files dat idx
held_firm h = record { only = h.only; dat_file = h.firm.dat_file; idx_file = h.firm.idx_file }

own : {volume : DatVolume} {files : Files} {dat idx : List ℕ} {ps : List Placed} → HoldsRecords volume files dat idx ps → dat_in files volume.server volume.volume ≡ dat
own h = ap bytes_of h.firm.dat_file

-- what is held, in each image that a stop may leave between two calls
pub left_held : (server v : ℕ) (files : Files) (dat idx new_dat new_idx : List ℕ) → AreHeldFirm server v files dat idx → (image : Image) → LeftOfAll files image → IsHeldByEither (files_of image v) server dat idx new_dat new_idx
left_held server v files dat idx new_dat new_idx held image left =
    inl (held_left server v files image dat idx held (left (place_of v server Dat false)) (left (place_of v server Idx false)) (left (place_of v server Cpx false)) (λ s kind other. left (place_of v s kind false)))

-- nothing was written
pub vacuums_none : (volume : DatVolume) {old new : Disk} → new ≡ old → Vacuums volume old new
vacuums_none volume {old} {new} same = record {
  touches = touches_look same;
  leaves = λ dat idx ps holds. by_look (starts old (left_held volume.server volume.volume old.files dat idx (new_dat dat ps) (new_idx ps) (held_firm holds))) same;
}

-- ---- the writes, and then the renames

module _ (server v : ℕ) (small : v < max_volumes) where
  abbrev IsTemp : Place → Type 0
  IsTemp k = (k ≡ place_of v server Cpd true) ⊎ (k ≡ place_of v server Cpx true)

  temp_touched : (k : Place) → IsTemp k → IsTouched server v k
  temp_touched k (inl e) = (Cpd, true, tt, e)
  temp_touched k (inr e) = (Cpx, true, tt, e)

  no_temp : (s : ℕ) (kind : Kind) → IsPlainKind kind → ¬ IsTemp (place_of v s kind false)
  no_temp s kind is temp = ⊎_elim (λ e. temp_apart v s server kind Cpd small (plain_kind kind is) tt e) (λ e. temp_apart v s server kind Cpx small (plain_kind kind is) tt e) temp

  module _ {old new : Disk} (only : Touches IsTemp old new) where
    -- temporary files alone were written
    temps_leave : (dat idx new_dat new_idx : List ℕ) → AreHeldFirm server v old.files dat idx → Leaves old new (λ image said. IsHeldByEither (files_of image v) server dat idx new_dat new_idx)
    temps_leave dat idx new_dat new_idx held = weaker only.leaves (λ image said left.
        inl (held_left server v old.files image dat idx held
        (left.0 (place_of v server Dat false) (no_temp server Dat tt)) (left.0 (place_of v server Idx false) (no_temp server Idx tt)) (left.0 (place_of v server Cpx false) (no_temp server Cpx tt))
        (λ s kind other. left.0 (place_of v s kind false) (λ is. ⊎_elim (servers_apart v s server kind Cpd false true other) (servers_apart v s server kind Cpx false true other) is))))

    pub replaces_temps : (new_dat new_idx : List ℕ) → Replaces server v new_dat new_idx old new
    replaces_temps new_dat new_idx = record { touches = touches_more temp_touched only; leaves = λ dat idx held. temps_leave dat idx new_dat new_idx held }

    temps_held : (dat idx : List ℕ) → AreHeldFirm server v old.files dat idx → AreHeldFirm server v new.files dat idx
    temps_held dat idx held = record {
      only = record {
        below = held.only.below;
        unmade = only.others (place_of v server Cpx false) (no_temp server Cpx tt) ∙ held.only.unmade;
        no_idx = λ s below other. only.others (place_of v s Idx false) (no_temp s Idx tt) ∙ held.only.no_idx s below other;
        no_cpx = λ s below other. only.others (place_of v s Cpx false) (no_temp s Cpx tt) ∙ held.only.no_cpx s below other;
      };
      dat_file = only.others (place_of v server Dat false) (no_temp server Dat tt) ∙ held.dat_file;
      idx_file = only.others (place_of v server Idx false) (no_temp server Idx tt) ∙ held.idx_file;
    }

  pub both_temps : {old mid new : Disk} → Touches (At (place_of v server Cpd true)) old mid → Touches (At (place_of v server Cpx true)) mid new → Touches IsTemp old new
  both_temps first second = touches_on (touches_more (λ k is. inl is) first) (touches_more (λ k is. inr is) second)

  pub first_temp : {old new : Disk} → Touches (At (place_of v server Cpd true)) old new → Touches IsTemp old new
  first_temp first = touches_more (λ k is. inl is) first

  module _ {old mid last : Disk} {new_dat new_idx : List ℕ} (first : Touches (At (place_of v server Cpd true)) old mid) (second : Touches (At (place_of v server Cpx true)) mid last)
      (dat_done : mid.files (place_of v server Cpd true) ≡ Some (firm_file new_dat)) (idx_done : last.files (place_of v server Cpx true) ≡ Some (firm_file new_idx)) where
    pub cpd_stays : last.files (place_of v server Cpd true) ≡ Some (firm_file new_dat)
    cpd_stays = second.others (place_of v server Cpd true) (kinds_apart v server server Cpd Cpx true true small tt tt cpd_cpx) ∙ dat_done

    written : (dat idx : List ℕ) → AreHeldFirm server v old.files dat idx → AreWritten server v last.files dat idx new_dat new_idx
    written dat idx held = record { held = temps_held (both_temps first second) dat idx held; cpd_temp = cpd_stays; cpx_temp = idx_done }

    pub replaces_all : {new : Disk} → NamesFiles server v last new → Replaces server v new_dat new_idx old new
    replaces_all {new} names = record {
      touches = touches_on (touches_more temp_touched (both_temps first second)) names.touches;
      leaves = λ dat idx held. joins (temps_leave (both_temps first second) dat idx new_dat new_idx held) (names.leaves dat idx new_dat new_idx (written dat idx held));
    }

    pub are_replaced : {new : Files} → AreRenamed server v last.files new → AreReplaced server v new_dat new_idx new
    are_replaced {new} done = record {
      dat = done.dat ∙ cpd_stays;
      idx = done.idx ∙ idx_done;
      no_cpd = done.no_cpd;
      no_cpx = done.no_cpx;
      no_cpd_temp = done.no_cpd_temp;
      no_cpx_temp = done.no_cpx_temp;
    }

-- ---- a vacuum

-- what is written is what the records make
module _ (volume : DatVolume) {files : Files} {es : List Entry} {front bytes : List ℕ} (by : IsByPlace volume.index es) (is_front : front ≡ take 8 (dat_in files volume.server volume.volume))
    (is_bytes : bytes ≡ index_bytes (moved_entries 8 es)) where
  module _ {dat idx : List ℕ} {ps : List Placed} (holds : HoldsRecords volume files dat idx ps) where
    by_records : IsByPlace (index_of ps) es
    by_records = subst (λ (i : Index). IsByPlace i es) holds.live by

    written_dat : raised front ++ copied (dat_in files volume.server volume.volume) es ≡ new_dat dat ps
    written_dat = (λ i. raised ((is_front ∙ ap (take 8) (own holds)) i) ++ copied (own holds i) es) ∙ exact_dat dat idx ps holds.firm.exact es by_records

    written_idx : bytes ≡ new_idx ps
    written_idx = is_bytes ∙ exact_idx dat idx ps holds.firm.exact es by_records

  pub vacuums_by : {old new : Disk} → old.files ≡ files → Replaces volume.server volume.volume (raised front ++ copied (dat_in files volume.server volume.volume) es) bytes old new → Vacuums volume old new
  vacuums_by {old} {new} same did = record {
    touches = did.touches;
    leaves = λ dat idx ps holds.
        let here : HoldsRecords volume files dat idx ps = subst (λ (f : Files). HoldsRecords volume f dat idx ps) same holds in
        weaker (did.leaves dat idx (held_firm holds)) (λ image said held.
        subst (λ (i : List ℕ). IsHeldByEither (files_of image volume.volume) volume.server dat idx (new_dat dat ps) i) (written_idx here)
        (subst (λ (d : List ℕ). IsHeldByEither (files_of image volume.volume) volume.server dat idx d bytes) (written_dat here) held));
  }

  -- the volume in memory goes with the new files
  pub is_vacuumed : {made : DatVolume} {old new : Disk} {index : Index} {end : ℕ} → old.files ≡ files → vacuum_damage (dat_in files volume.server volume.volume) es ≡ None → AreBytes (dat_in files volume.server volume.volume)
      → made ≡ record { server = volume.server; volume = volume.volume; index = index; used = end } → index ≡ with_all empty (moved_entries 8 es) → end ≡ moved_end 8 es
      → Touches (IsTouched volume.server volume.volume) old new → AreReplaced volume.server volume.volume (raised front ++ copied (dat_in files volume.server volume.volume) es) bytes new.files
      → IsVacuumed volume made old.files new.files
  is_vacuumed {made} {old} {new} {index} {end} same undamaged are_bytes is is_index is_end touches done = record {
    holds = λ dat idx ps holds.
        let here : HoldsRecords volume files dat idx ps = subst (λ (f : Files). HoldsRecords volume f dat idx ps) same holds in
        let value : DatVolume = record { server = volume.server; volume = volume.volume; index = index; used = end } in
        subst (λ (m : DatVolume). HoldsRecords m new.files (new_dat dat ps) (new_idx ps) (vacuumed ps) × (m.used ≡ length (new_dat dat ps))) (sym is) (
          record {
            firm = record {
              dat_file = done.dat ∙ ap (λ (d : List ℕ). Some (firm_file d)) (written_dat here);
              idx_file = done.idx ∙ ap (λ (i : List ℕ). Some (firm_file i)) (written_idx here);
              exact = vacuumed-exact dat idx ps here.firm.exact (subst AreBytes (own here) are_bytes);
            };
            only = record {
              below = here.only.below;
              unmade = done.no_cpx;
              no_idx = λ s below other. touches.others (place_of volume.volume s Idx false) (not_touched s Idx false other) ∙ ap (λ (f : Files). f (place_of volume.volume s Idx false)) same ∙ here.only.no_idx s below other;
              no_cpx = λ s below other. touches.others (place_of volume.volume s Cpx false) (not_touched s Cpx false other) ∙ ap (λ (f : Files). f (place_of volume.volume s Cpx false)) same ∙ here.only.no_cpx s below other;
            };
            live = is_index ∙ exact_index dat idx ps here.firm.exact es (by_records here);
          },
          is_end ∙ exact_end dat idx ps here.firm.exact es (by_records here),
        );
    undamaged = record { entries = es; by_place = by; first = ap (λ (f : Files). vacuum_damage (dat_in f volume.server volume.volume) es) same ∙ undamaged };
    no_cpd = done.no_cpd;
    no_cpd_temp = done.no_cpd_temp;
    no_cpx_temp = done.no_cpx_temp;
  }
    where
      not_touched : (s : ℕ) (kind : Kind) (temp : Bool) → s ≢ volume.server → ¬ IsTouched volume.server volume.volume (place_of volume.volume s kind temp)
      not_touched s kind temp other (k, t, is, e) = servers_apart volume.volume s volume.server kind k temp t other e

-- ---- refusals

module _ (tells : Bool) (volume : DatVolume) (files : Files) where
  -- the first damage of the live entries
  pub refusal_damage : {es : List Entry} → IsByPlace volume.index es → (fault : GetFault) → ReadBlamesServer volume.server fault → HasDifference fault
      → (IsTrue tells → TellsFirst (vacuum_damage (dat_in files volume.server volume.volume) es) fault) → IsRefusal tells volume files fault
  refusal_damage by (get_fault.Fault device) blame differ told = record { blame = blame; differ = differ; told = λ is. tt; sound = λ is dat idx ps holds. tt }
  refusal_damage {es} by (get_fault.Damaged w a b) blame differ told = record {
    blame = blame;
    differ = differ;
    told = λ is. record { entries = es; by_place = by; first = told is };
    sound = λ is dat idx ps holds.
        let none : vacuum_damage dat es ≡ None = exact_undamaged dat idx ps holds.firm.exact es (subst (λ (i : Index). IsByPlace i es) holds.live by) in
        let both : None ≡ damage_of w a b = sym none ∙ ap (λ d. vacuum_damage d es) (sym (own holds)) ∙ told is in
        cc;
  }
  refusal_damage by get_fault.Memory blame differ told = record { blame = blame; differ = differ; told = λ is. tt; sound = λ is dat idx ps holds. tt }

-- an overlap is told first
pub overlap_told : (dat : List ℕ) (es : List Entry) (fault : GetFault) → TellsFirst (overlap 8 es) fault → TellsFirst (vacuum_damage dat es) fault
overlap_told dat es (get_fault.Fault device) told = tt
overlap_told dat es (get_fault.Damaged w a b) told = ap (λ d. first_damage d (headers_damage dat es)) told
overlap_told dat es get_fault.Memory told = tt

-- a header where nothing overlaps
pub headers_told : (dat : List ℕ) (es : List Entry) (fault : GetFault) → overlap 8 es ≡ None → TellsFirst (headers_damage dat es) fault → TellsFirst (vacuum_damage dat es) fault
headers_told dat es (get_fault.Fault device) none told = tt
headers_told dat es (get_fault.Damaged w a b) none told = ap (λ d. first_damage d (headers_damage dat es)) none ∙ told
headers_told dat es get_fault.Memory none told = tt

-- ---- the data file by its name

pub own_place : (home : Home) {s v : ℕ} → IsNamed home → home.server ≡ s → home.volume ≡ v → dat_named home ≡ place_of v s Dat false
own_place home named at_server at_volume = (λ i. (home.server, named.dat i)) ∙ λ i. place_of (at_volume i) (at_server i) Dat false

-- also after a look at the site
pub own_file : (home : Home) {look old : Disk} {s v : ℕ} → IsNamed home → home.server ≡ s → home.volume ≡ v → look ≡ old → own_dat look.files home ≡ dat_in old.files s v
own_file home {look} {old} named at_server at_volume same = ap (λ (d : Disk). own_dat d.files home) same ∙ ap (λ (k : Place). bytes_of (old.files k)) (own_place home named at_server at_volume)

-- ---- what was prepared, written

-- such a file holds what a site can hold
pub holds_bytes : {servers : ℕ} (files : Files) (server v : ℕ) → IsPossible servers files → AreBytes (dat_in files server v)
holds_bytes files server v possible = possible.bytes (place_of v server Dat false)

module _ (tells : Bool) (volume : DatVolume) {start look : Disk} (plan : Plan) (prepared : IsPrepared tells volume start.files plan) (told : IsTrue tells) (same : look ≡ start) where
  dat_is : own_dat look.files plan.home ≡ dat_in start.files volume.server volume.volume
  dat_is = own_file plan.home prepared.named prepared.server prepared.number same

  -- each record that is copied ends within the data file
  pub plan_within : {es : List Entry} → es ≡ plan.entries.items → EndWithin (length (own_dat look.files plan.home)) es
  plan_within {es} is =
      let none = second_none (overlap 8 plan.entries.items) (headers_damage (dat_in start.files volume.server volume.volume) plan.entries.items) (prepared.undamaged told) in
      subst (EndWithin (length (own_dat look.files plan.home))) (sym is)
      (subst (λ (d : List ℕ). EndWithin (length d) plan.entries.items) (sym dat_is) (headers_within (dat_in start.files volume.server volume.volume) plan.entries.items none))

  module _ {es : List Entry} {bytes : List ℕ} (es_is : es ≡ plan.entries.items) (bytes_is : bytes ≡ plan.layout.bytes.items) where
    written_is : raised plan.front ++ copied (own_dat look.files plan.home) es ≡ raised plan.front ++ copied (dat_in start.files volume.server volume.volume) plan.entries.items
    written_is = λ i. raised plan.front ++ copied (dat_is i) (es_is i)

    pub plan_replaces : {new : Disk} → Replaces plan.home.server plan.home.volume (raised plan.front ++ copied (own_dat look.files plan.home) es) bytes look new → Vacuums volume start new
    plan_replaces {new} did =
        vacuums_by volume prepared.by_place (prepared.front told) (bytes_is ∙ prepared.bytes) refl
        (subst (λ (d : Disk). Replaces volume.server volume.volume (raised plan.front ++ copied (dat_in start.files volume.server volume.volume) plan.entries.items) bytes d new) same
        (subst (λ (l : List ℕ). Replaces volume.server volume.volume l bytes look new) written_is
        (subst (λ (v : ℕ). Replaces volume.server v (raised plan.front ++ copied (own_dat look.files plan.home) es) bytes look new) prepared.number
        (subst (λ (s : ℕ). Replaces s plan.home.volume (raised plan.front ++ copied (own_dat look.files plan.home) es) bytes look new) prepared.server did))))

    pub plan_vacuums : {new : Disk} {made : DatVolume} → AreBytes (dat_in start.files volume.server volume.volume)
        → made ≡ record { server = volume.server; volume = volume.volume; index = plan.layout.index; used = plan.layout.end }
        → Replaces plan.home.server plan.home.volume (raised plan.front ++ copied (own_dat look.files plan.home) es) bytes look new
        → AreReplaced plan.home.server plan.home.volume (raised plan.front ++ copied (own_dat look.files plan.home) es) bytes new.files → IsVacuumed volume made start.files new.files
    plan_vacuums {new} {made} are_bytes is did done =
        is_vacuumed volume prepared.by_place (prepared.front told) (bytes_is ∙ prepared.bytes) {old = start} {new = new} refl (prepared.undamaged told) are_bytes is prepared.index prepared.end (plan_replaces did).touches
        (subst (λ (l : List ℕ). AreReplaced volume.server volume.volume l bytes new.files) written_is
        (subst (λ (v : ℕ). AreReplaced volume.server v (raised plan.front ++ copied (own_dat look.files plan.home) es) bytes new.files) prepared.number
        (subst (λ (s : ℕ). AreReplaced s plan.home.volume (raised plan.front ++ copied (own_dat look.files plan.home) es) bytes new.files) prepared.server done)))
