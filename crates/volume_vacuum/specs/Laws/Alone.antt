-- A volume whose two files are all that stands of it, before a vacuum and after it. For `store_core`, to come.
use Rattle.std.proofs.Common.{◌≡◌, ◌≢◌, ◌⊎◌, inl, inr, ℕ, ◌<◌, Bool, true, false, List, Option, Some, None, is_some, refl, sym, ◌∙◌, ap, subst}
use Rattle.std.proofs.lemmas.Bool.{cases_eq}
use mathlib.Core.Bool.{true≢false}
use Rattle.site_model.specs.Counts.{max_servers}
use Rattle.site_model.specs.Disk.{File, Place, Files, firm_file, IsFirm, IsSettled, Disk}
use Rattle.site_model.specs.Disk as disk
use Rattle.site_model.specs.Leaves.{place_cases}
use Rattle.file_names.specs.declared.Kind.{Kind}
use Rattle.file_names.specs.declared.Kind.TheVariants.{Dat, Idx, Cpd, Cpx, Shard, Ecx, Ecj, Vif}
use Rattle.file_names.specs.Names.{IsKind, place_of}
use Rattle.needle_record.specs.Records.{Placed, index_of}
use Rattle.image_meaning.specs.Files.{contents, files_of, temps_of, stands}
use Rattle.image_meaning.specs.Plain.{IsExact}
use Rattle.image_meaning.specs.Meaning.{max_volumes}
use Rattle.image_meaning.specs.Ends.{HasNoFiles}
use Rattle.image_meaning.specs.Laws.Plain.{IsAlone}
use Rattle.dat_volume.specs.declared.volume.DatVolume.{DatVolume}
use Rattle.volume_vacuum.specs.Live.{vacuumed, new_dat, new_idx}
use Rattle.volume_vacuum.specs.Home.{IsTouchable, IsTouched}
use Rattle.volume_vacuum.specs.Vacuum.{HoldsRecords, Vacuums, IsVacuumed}
use Rattle.volume_vacuum.specs.Laws.Apart.{place_tells, plain_kind, servers_apart}

-- ---- before

firm_of : (file : Option File) (bytes : List ℕ) → disk.standing file ≡ Some bytes → IsFirm file → file ≡ Some (firm_file bytes)
firm_of None bytes stands firm = absurd cc
firm_of (Some file) bytes stands firm =
    let same : file.bytes ≡ bytes = cc in
    ap Some ((λ i. record { bytes = file.bytes; firm = firm.0 i; is_named = firm.1 i }) ∙ ap firm_file same)

absent : (file : Option File) → (is_some (disk.standing file) ≡ true → ⊥) → file ≡ None
absent None none = refl
absent (Some file) none = absurd (none refl)

module _ (volume : DatVolume) (files : Files) (dat idx : List ℕ) (ps : List Placed) (settled : IsSettled files) (alone : IsAlone (files_of (contents files) volume.volume) volume.server dat idx) where
  no_other : (s : ℕ) (kind : Kind) → s < max_servers → IsKind kind → s ≢ volume.server → files (place_of volume.volume s kind false) ≡ None
  no_other s kind below is other = absent (files (place_of volume.volume s kind false)) (λ stands. other (alone.alone s kind is (below, stands)).0)

  unmade : files (place_of volume.volume volume.server Cpx false) ≡ None
  unmade = absent (files (place_of volume.volume volume.server Cpx false)) (λ stands. neither (alone.alone volume.server Cpx tt (alone.below, stands)).1)
    where
      neither : (Cpx ≡ Idx) ⊎ (Cpx ≡ Dat) → ⊥
      neither (inl e) = cc
      neither (inr e) = cc

  -- its records are what the vacuum asks for
  pub alone-holds : IsExact dat idx ps → volume.index ≡ index_of ps → HoldsRecords volume files dat idx ps
  alone-holds exact live = record {
    firm = record {
      dat_file = firm_of (files (place_of volume.volume volume.server Dat false)) dat alone.has_dat (settled (place_of volume.volume volume.server Dat false));
      idx_file = firm_of (files (place_of volume.volume volume.server Idx false)) idx alone.has_index (settled (place_of volume.volume volume.server Idx false));
      exact = exact;
    };
    only = record {
      below = alone.below;
      unmade = unmade;
      no_idx = λ s below other. no_other s Idx below tt other;
      no_cpx = λ s below other. no_other s Cpx below tt other;
    };
    live = live;
  }

-- ---- what is not touched

touchable_kind : (kind : Kind) (temp : Bool) → IsTouchable kind temp → IsKind kind
touchable_kind kind false is = plain_kind kind is
touchable_kind Dat true is = tt
touchable_kind Idx true is = tt
touchable_kind Cpd true is = tt
touchable_kind Cpx true is = tt
touchable_kind (Shard i) true is = absurd is
touchable_kind Ecx true is = tt
touchable_kind Ecj true is = tt
touchable_kind Vif true is = tt

untouched : (server v s : ℕ) (kind : Kind) (temp : Bool) → v < max_volumes → IsKind kind → (IsTouchable kind temp → ⊥) → ¬ IsTouched server v (place_of v s kind temp)
untouched server v s kind temp small is other (k, t, touchable, e) =
    let same = place_tells v s server kind k temp t small is (touchable_kind k t touchable) e in
    other (subst (λ (x : Kind). IsTouchable x temp) (sym same.0) (subst (IsTouchable k) (sym same.1) touchable))

elsewhere : (server v s : ℕ) (kind : Kind) (temp : Bool) → s ≢ server → ¬ IsTouched server v (place_of v s kind temp)
elsewhere server v s kind temp other (k, t, touchable, e) = servers_apart v s server kind k temp t other e

-- ---- after

module _ {volume made : DatVolume} {old new : Disk} (small : volume.volume < max_volumes) (run : Vacuums volume old new) (done : IsVacuumed volume made old.files new.files)
    (at_server : made.server ≡ volume.server) (at_volume : made.volume ≡ volume.volume) (dat idx : List ℕ) (ps : List Placed) (holds : HoldsRecords volume old.files dat idx ps) where
  abbrev at : Kind → Bool → Place
  at kind temp = place_of volume.volume volume.server kind temp

  made_holds : HoldsRecords made new.files (new_dat dat ps) (new_idx ps) (vacuumed ps)
  made_holds = (done.holds dat idx ps holds).0

  new_dat_file : new.files (at Dat false) ≡ Some (firm_file (new_dat dat ps))
  new_dat_file = (λ i. new.files (place_of (sym at_volume i) (sym at_server i) Dat false)) ∙ made_holds.firm.dat_file

  new_idx_file : new.files (at Idx false) ≡ Some (firm_file (new_idx ps))
  new_idx_file = (λ i. new.files (place_of (sym at_volume i) (sym at_server i) Idx false)) ∙ made_holds.firm.idx_file

  no_cpx : new.files (at Cpx false) ≡ None
  no_cpx = (λ i. new.files (place_of (sym at_volume i) (sym at_server i) Cpx false)) ∙ made_holds.only.unmade

  -- ---- the new two files are all that stands

  none_stands : {A : Type 0} (file : Option File) → file ≡ None → is_some (disk.standing file) ≡ true → A
  none_stands file none stands = absurd (true≢false (sym stands ∙ ap (λ (f : Option File). is_some (disk.standing f)) none))

  pub vacuumed-alone : IsAlone (files_of (contents old.files) volume.volume) volume.server dat idx → IsAlone (files_of (contents new.files) volume.volume) volume.server (new_dat dat ps) (new_idx ps)
  vacuumed-alone alone = record {
    below = alone.below;
    has_dat = ap disk.standing new_dat_file;
    has_index = ap disk.standing new_idx_file;
    alone = λ s kind is stood. elim (cases_eq s volume.server) [
      | inl same ↦ (same, at_home kind is (subst (λ t. is_some (disk.standing (new.files (place_of volume.volume t kind false))) ≡ true) same stood.1))
      | inr other ↦ alone.alone s kind is (stood.0, ap (λ (f : Option File). is_some (disk.standing f)) (sym (run.touches.others (place_of volume.volume s kind false) (elsewhere volume.server volume.volume s kind false other))) ∙ stood.1)
    ];
  }
    where
      as_before : (kind : Kind) → IsKind kind → (IsTouchable kind false → ⊥) → is_some (disk.standing (new.files (at kind false))) ≡ true → (kind ≡ Idx) ⊎ (kind ≡ Dat)
      as_before kind is other stood =
          (alone.alone volume.server kind is (alone.below, ap (λ (f : Option File). is_some (disk.standing f)) (sym (run.touches.others (at kind false) (untouched volume.server volume.volume volume.server kind false small is other))) ∙ stood)).1

      at_home : (kind : Kind) → IsKind kind → is_some (disk.standing (new.files (at kind false))) ≡ true → (kind ≡ Idx) ⊎ (kind ≡ Dat)
      at_home Dat is stood = inr refl
      at_home Idx is stood = inl refl
      at_home Cpd is stood = none_stands (new.files (at Cpd false)) done.no_cpd stood
      at_home Cpx is stood = none_stands (new.files (at Cpx false)) no_cpx stood
      at_home (Shard i) is stood = as_before (Shard i) is (λ touchable. touchable) stood
      at_home Ecx is stood = as_before Ecx tt (λ touchable. touchable) stood
      at_home Ecj is stood = as_before Ecj tt (λ touchable. touchable) stood
      at_home Vif is stood = as_before Vif tt (λ touchable. touchable) stood

  pub vacuumed-temps : HasNoFiles (temps_of (contents old.files) volume.volume) → HasNoFiles (temps_of (contents new.files) volume.volume)
  vacuumed-temps none s kind below is = elim (cases_eq s volume.server) [
    | inl same ↦ subst (λ t. disk.standing (new.files (place_of volume.volume t kind true)) ≡ None) (sym same) (at_home kind is)
    | inr other ↦ ap disk.standing (run.touches.others (place_of volume.volume s kind true) (elsewhere volume.server volume.volume s kind true other)) ∙ none s kind below is
  ]
    where
      as_before : (kind : Kind) → IsKind kind → (IsTouchable kind true → ⊥) → disk.standing (new.files (at kind true)) ≡ None
      as_before kind is other = ap disk.standing (run.touches.others (at kind true) (untouched volume.server volume.volume volume.server kind true small is other)) ∙ none volume.server kind holds.only.below is

      at_home : (kind : Kind) → IsKind kind → disk.standing (new.files (at kind true)) ≡ None
      at_home Dat is = as_before Dat tt (λ touchable. touchable)
      at_home Idx is = as_before Idx tt (λ touchable. touchable)
      at_home Cpd is = ap disk.standing done.no_cpd_temp
      at_home Cpx is = ap disk.standing done.no_cpx_temp
      at_home (Shard i) is = as_before (Shard i) is (λ touchable. touchable)
      at_home Ecx is = as_before Ecx tt (λ touchable. touchable)
      at_home Ecj is = as_before Ecj tt (λ touchable. touchable)
      at_home Vif is = as_before Vif tt (λ touchable. touchable)

  -- ---- and nothing is pending

  firm_at : (k : Place) → (kind : Kind) (temp : Bool) → IsTouchable kind temp → k ≡ at kind temp → IsFirm (new.files k)
  firm_at k kind temp is e = subst (λ (p : Place). IsFirm (new.files p)) (sym e) (by_kind kind temp is)
    where
      by_none : (file : Option File) → file ≡ None → IsFirm file
      by_none file none = subst IsFirm (sym none) tt

      by_firm : (file : Option File) (bytes : List ℕ) → file ≡ Some (firm_file bytes) → IsFirm file
      by_firm file bytes firm = subst IsFirm (sym firm) (refl, refl)

      by_kind : (kind : Kind) (temp : Bool) → IsTouchable kind temp → IsFirm (new.files (at kind temp))
      by_kind Dat false is = by_firm (new.files (at Dat false)) (new_dat dat ps) new_dat_file
      by_kind Idx false is = by_firm (new.files (at Idx false)) (new_idx ps) new_idx_file
      by_kind Cpd false is = by_none (new.files (at Cpd false)) done.no_cpd
      by_kind Cpx false is = by_none (new.files (at Cpx false)) no_cpx
      by_kind Cpd true is = by_none (new.files (at Cpd true)) done.no_cpd_temp
      by_kind Cpx true is = by_none (new.files (at Cpx true)) done.no_cpx_temp
      by_kind Dat true is = absurd is
      by_kind Idx true is = absurd is
      by_kind (Shard i) false is = absurd is
      by_kind (Shard i) true is = absurd is
      by_kind Ecx false is = absurd is
      by_kind Ecx true is = absurd is
      by_kind Ecj false is = absurd is
      by_kind Ecj true is = absurd is
      by_kind Vif false is = absurd is
      by_kind Vif true is = absurd is

  outside : (k : Place) → k ≢ at Dat false → k ≢ at Idx false → k ≢ at Cpd false → k ≢ at Cpx false → k ≢ at Cpd true → k ≢ at Cpx true → ¬ IsTouched volume.server volume.volume k
  outside k a b c d x y (kind, temp, is, e) = by_kind kind temp is e
    where
      by_kind : (kind : Kind) (temp : Bool) → IsTouchable kind temp → k ≡ at kind temp → ⊥
      by_kind Dat false is e = a e
      by_kind Idx false is e = b e
      by_kind Cpd false is e = c e
      by_kind Cpx false is e = d e
      by_kind Cpd true is e = x e
      by_kind Cpx true is e = y e
      by_kind Dat true is e = is
      by_kind Idx true is e = is
      by_kind (Shard i) false is e = is
      by_kind (Shard i) true is e = is
      by_kind Ecx false is e = is
      by_kind Ecx true is e = is
      by_kind Ecj false is e = is
      by_kind Ecj true is e = is
      by_kind Vif false is e = is
      by_kind Vif true is e = is

  pub vacuumed-settled : IsSettled old.files → IsSettled new.files
  vacuumed-settled settled k = elim (place_cases k (at Dat false)) [
    | inl e ↦ firm_at k Dat false tt e
    | inr a ↦ elim (place_cases k (at Idx false)) [
      | inl e ↦ firm_at k Idx false tt e
      | inr b ↦ elim (place_cases k (at Cpd false)) [
        | inl e ↦ firm_at k Cpd false tt e
        | inr c ↦ elim (place_cases k (at Cpx false)) [
          | inl e ↦ firm_at k Cpx false tt e
          | inr d ↦ elim (place_cases k (at Cpd true)) [
            | inl e ↦ firm_at k Cpd true tt e
            | inr x ↦ elim (place_cases k (at Cpx true)) [
              | inl e ↦ firm_at k Cpx true tt e
              | inr y ↦ subst IsFirm (sym (run.touches.others k (outside k a b c d x y))) (settled k)
            ]
          ]
        ]
      ]
    ]
  ]
