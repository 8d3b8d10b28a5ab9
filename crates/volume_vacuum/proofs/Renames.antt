-- The four renames, and what a stop within each leaves.
use Rattle.std.proofs.Common.{◌≡◌, ◌≢◌, inl, inr, ⊎_elim, ℕ, ◌<◌, Bool, true, false, List, Option, Some, None, refl, sym, ◌∙◌, ap, subst}
use Rattle.std.specs.Prelude.{IsSome}
use Rattle.site_model.specs.Counts.{max_servers}
use Rattle.site_model.specs.Disk.{File, Place, Files, Image, LeftOf, LeftOfAll, firm_file, IsRenamed, Disk, Renames}
use Rattle.site_model.specs.Leaves.{Leaves, starts, now, by_rename}
use Rattle.site_model.specs.Touches.{Touches, touches_on, touches_more, touches_rename}
use Rattle.file_names.specs.declared.Kind.{Kind}
use Rattle.file_names.specs.declared.Kind.TheVariants.{Dat, Idx, Cpd, Cpx}
use Rattle.file_names.specs.Names.{place_of}
use Rattle.image_meaning.specs.Files.{files_of}
use Rattle.image_meaning.specs.Meaning.{max_volumes}
use Rattle.image_meaning.specs.Laws.Vacuum.{IsHeldAlone}
use Rattle.volume_vacuum.specs.Home.{IsTouchable, IsTouched, IsOnlyHolder, AreHeldFirm, AreWritten, IsHeldByEither, NamesFiles, AreRenamed}
use Rattle.volume_vacuum.specs.Laws.Apart.{kinds_apart, temp_apart, dat_idx, dat_cpd, dat_cpx, idx_cpd, idx_cpx, cpd_cpx, turned}
use Rattle.volume_vacuum.proofs.Held.{none_left, whole_left, HasNoOther, held_named, held_beside, held_between}

-- the place of a name at the server
pub named_at : (server : ℕ) {a b : List ℕ} → a ≡ b → ◌≡◌ {A = Place} (server, a) (server, b)
named_at server e = λ i. (server, e i)

-- a file that stands goes on to stand, at a place that is spelled otherwise
pub some_by : (old new : Files) (p : Place) {a b : Place} → a ≡ b → new b ≡ old p → IsSome (old p) → IsSome (new a)
some_by old new p {a} {b} at is some = subst (λ k. IsSome (new k)) (sym at) (subst (λ (f : Option File). IsSome f) (sym is) some)

-- a rename of places that are spelled otherwise
pub rename_at : {p q a b : Place} {old new : Disk} → p ≡ a → q ≡ b → Renames p q old new → Renames a b old new
rename_at {p} {q} {a} {b} {old} {new} from to did = subst (λ k. Renames a k old new) to (subst (λ k. Renames k q old new) from did)

pub renamed_at : {p q a b : Place} {old new : Files} → p ≡ a → q ≡ b → IsRenamed p q old new → IsRenamed a b old new
renamed_at {p} {q} {a} {b} {old} {new} from to did = subst (λ k. IsRenamed a k old new) to (subst (λ k. IsRenamed k q old new) from did)

module _ (server v : ℕ) where
  -- nothing of the volume that counts stands at another server
  pub record AreNoOthers (files : Files) : Type 0 where
    pub idx : (s : ℕ) → s < max_servers → s ≢ server → files (place_of v s Idx false) ≡ None
    pub cpx : (s : ℕ) → s < max_servers → s ≢ server → files (place_of v s Cpx false) ≡ None

  pub no_others : (files : Files) → IsOnlyHolder server v files → AreNoOthers files
  no_others files only = record { idx = only.no_idx; cpx = only.no_cpx }

  -- what is left of it
  others_left : (files : Files) (image : Image) → AreNoOthers files → ((s : ℕ) (kind : Kind) → s ≢ server → LeftOf (files (place_of v s kind false)) (image (place_of v s kind false))) → HasNoOther (files_of image v) server
  others_left files image none left = record {
    idx = λ s below other. none_left (files (place_of v s Idx false)) (image (place_of v s Idx false)) (none.idx s below other) (left s Idx other);
    cpx = λ s below other. none_left (files (place_of v s Cpx false)) (image (place_of v s Cpx false)) (none.cpx s below other) (left s Cpx other);
  }

  -- a file of the volume that stays, by a rename at this server
  elsewhere : (files : Files) (image : Image) (p q : Place) → p.0 ≡ server → q.0 ≡ server → ((k : Place) → k ≢ p → k ≢ q → LeftOf (files k) (image k))
      → (s : ℕ) (kind : Kind) → s ≢ server → LeftOf (files (place_of v s kind false)) (image (place_of v s kind false))
  elsewhere files image p q at_p at_q left s kind other =
      left (place_of v s kind false) (λ e. other (ap (λ (k : Place). k.0) e ∙ at_p)) (λ e. other (ap (λ (k : Place). k.0) e ∙ at_q))

  pub held_left : (files : Files) (image : Image) (dat idx : List ℕ) → AreHeldFirm server v files dat idx
      → LeftOf (files (place_of v server Dat false)) (image (place_of v server Dat false)) → LeftOf (files (place_of v server Idx false)) (image (place_of v server Idx false)) → LeftOf (files (place_of v server Cpx false)) (image (place_of v server Cpx false))
      → ((s : ℕ) (kind : Kind) → s ≢ server → LeftOf (files (place_of v s kind false)) (image (place_of v s kind false))) → IsHeldAlone (files_of image v) server dat idx
  held_left files image dat idx held d i x others =
      held_named (files_of image v) server dat idx held.only.below (others_left files image (no_others files held.only) others)
      (whole_left dat (files (place_of v server Dat false)) (image (place_of v server Dat false)) held.dat_file d) (whole_left idx (files (place_of v server Idx false)) (image (place_of v server Idx false)) held.idx_file i) (none_left (files (place_of v server Cpx false)) (image (place_of v server Cpx false)) held.only.unmade x)

  pub stay : {p q : Place} {old new : Disk} → Renames p q old new → p.0 ≡ server → q.0 ≡ server → AreNoOthers old.files → AreNoOthers new.files
  stay {p} {q} did at_p at_q none = record {
    idx = λ s below other. did.others (place_of v s Idx false) (λ e. other (ap (λ (k : Place). k.0) e ∙ at_p)) (λ e. other (ap (λ (k : Place). k.0) e ∙ at_q)) ∙ none.idx s below other;
    cpx = λ s below other. did.others (place_of v s Cpx false) (λ e. other (ap (λ (k : Place). k.0) e ∙ at_p)) (λ e. other (ap (λ (k : Place). k.0) e ∙ at_q)) ∙ none.cpx s below other;
  }

module _ (server v : ℕ) (small : v < max_volumes) where
  abbrev at : Kind → Place
  at kind = place_of v server kind false

  abbrev temp : Kind → Place
  temp kind = place_of v server kind true

  -- ---- how the files stand between the renames

  pub record HasCpd (files : Files) (dat idx new_dat new_idx : List ℕ) : Type 0 where
    pub held : AreHeldFirm server v files dat idx
    pub cpd : files (at Cpd) ≡ Some (firm_file new_dat)
    pub cpx_temp : files (temp Cpx) ≡ Some (firm_file new_idx)

  pub record HasBoth (files : Files) (new_dat new_idx : List ℕ) : Type 0 where
    pub below : server < max_servers
    pub others : AreNoOthers server v files
    pub cpd : files (at Cpd) ≡ Some (firm_file new_dat)
    pub cpx : files (at Cpx) ≡ Some (firm_file new_idx)

  pub record HasDat (files : Files) (new_dat new_idx : List ℕ) : Type 0 where
    pub below : server < max_servers
    pub others : AreNoOthers server v files
    pub dat : files (at Dat) ≡ Some (firm_file new_dat)
    pub no_cpd : files (at Cpd) ≡ None
    pub cpx : files (at Cpx) ≡ Some (firm_file new_idx)

  module _ {old s1 : Disk} (first : Renames (temp Cpd) (at Cpd) old s1) where
    -- the places that the first rename leaves
    first_dat : s1.files (at Dat) ≡ old.files (at Dat)
    first_dat = first.others (at Dat) (temp_apart v server server Dat Cpd small tt tt) (kinds_apart v server server Dat Cpd false false small tt tt dat_cpd)

    first_idx : s1.files (at Idx) ≡ old.files (at Idx)
    first_idx = first.others (at Idx) (temp_apart v server server Idx Cpd small tt tt) (kinds_apart v server server Idx Cpd false false small tt tt idx_cpd)

    first_cpx : s1.files (at Cpx) ≡ old.files (at Cpx)
    first_cpx = first.others (at Cpx) (temp_apart v server server Cpx Cpd small tt tt) (kinds_apart v server server Cpx Cpd false false small tt tt (turned cpd_cpx))

    pub first_cpx_temp : s1.files (temp Cpx) ≡ old.files (temp Cpx)
    first_cpx_temp =
        first.others (temp Cpx) (kinds_apart v server server Cpx Cpd true true small tt tt (turned cpd_cpx)) (kinds_apart v server server Cpx Cpd true false small tt tt (turned cpd_cpx))

    module _ (dat idx new_dat new_idx : List ℕ) where
      before : (files : Files) → AreHeldFirm server v files dat idx → (image : Image) → LeftOfAll files image → IsHeldByEither (files_of image v) server dat idx new_dat new_idx
      before files held image left = inl (held_left server v files image dat idx held (left (at Dat)) (left (at Idx)) (left (at Cpx)) (λ s kind other. left (place_of v s kind false)))

      pub leaves1 : AreWritten server v old.files dat idx new_dat new_idx → Leaves old s1 (λ image said. IsHeldByEither (files_of image v) server dat idx new_dat new_idx)
      leaves1 written =
          by_rename (starts old (before old.files written.held)) first (λ image left. ⊎_elim (before old.files written.held image)
          (λ after. inl (held_left server v old.files image dat idx written.held
          (after.0 (at Dat) (temp_apart v server server Dat Cpd small tt tt) (kinds_apart v server server Dat Cpd false false small tt tt dat_cpd))
          (after.0 (at Idx) (temp_apart v server server Idx Cpd small tt tt) (kinds_apart v server server Idx Cpd false false small tt tt idx_cpd))
          (after.0 (at Cpx) (temp_apart v server server Cpx Cpd small tt tt) (kinds_apart v server server Cpx Cpd false false small tt tt (turned cpd_cpx)))
          (elsewhere server v old.files image (temp Cpd) (at Cpd) refl refl after.0))) left)

      has1 : AreWritten server v old.files dat idx new_dat new_idx → IsRenamed (temp Cpd) (at Cpd) old.files s1.files → HasCpd s1.files dat idx new_dat new_idx
      has1 written done =
          let others = stay server v first refl refl (no_others server v old.files written.held.only) in
          record {
            held = record {
              only = record { below = written.held.only.below; unmade = first_cpx ∙ written.held.only.unmade; no_idx = others.idx; no_cpx = others.cpx };
              dat_file = first_dat ∙ written.held.dat_file;
              idx_file = first_idx ∙ written.held.idx_file;
            };
            cpd = done.there ∙ written.cpd_temp;
            cpx_temp = first_cpx_temp ∙ written.cpx_temp;
          }

      -- the moment of change
      pub leaves2 : {s2 : Disk} → AreWritten server v old.files dat idx new_dat new_idx → IsRenamed (temp Cpd) (at Cpd) old.files s1.files → Renames (temp Cpx) (at Cpx) s1 s2
          → Leaves old s2 (λ image said. IsHeldByEither (files_of image v) server dat idx new_dat new_idx)
      leaves2 {s2} written done second =
          let has = has1 written done in
          by_rename (leaves1 written) second (λ image left. ⊎_elim (before s1.files has.held image)
          (λ after. inr (held_beside (files_of image v) server new_dat new_idx has.held.only.below
          (others_left server v s1.files image (no_others server v s1.files has.held.only) (elsewhere server v s1.files image (temp Cpx) (at Cpx) refl refl after.0))
          (whole_left new_dat (s1.files (at Cpd)) (image (at Cpd)) has.cpd (after.0 (at Cpd) (temp_apart v server server Cpd Cpx small tt tt) (kinds_apart v server server Cpd Cpx false false small tt tt cpd_cpx)))
          (whole_left new_idx (s1.files (temp Cpx)) (image (at Cpx)) has.cpx_temp after.1))) left)

      has2 : {s2 : Disk} → AreWritten server v old.files dat idx new_dat new_idx → IsRenamed (temp Cpd) (at Cpd) old.files s1.files → Renames (temp Cpx) (at Cpx) s1 s2 → IsRenamed (temp Cpx) (at Cpx) s1.files s2.files
          → HasBoth s2.files new_dat new_idx
      has2 {s2} written done second second_done =
          let has = has1 written done in
          record {
            below = has.held.only.below;
            others = stay server v second refl refl (no_others server v s1.files has.held.only);
            cpd = second.others (at Cpd) (temp_apart v server server Cpd Cpx small tt tt) (kinds_apart v server server Cpd Cpx false false small tt tt cpd_cpx) ∙ has.cpd;
            cpx = second_done.there ∙ has.cpx_temp;
          }

      pub leaves3 : {s2 s3 : Disk} → AreWritten server v old.files dat idx new_dat new_idx → IsRenamed (temp Cpd) (at Cpd) old.files s1.files → Renames (temp Cpx) (at Cpx) s1 s2 → IsRenamed (temp Cpx) (at Cpx) s1.files s2.files
          → Renames (at Cpd) (at Dat) s2 s3 → Leaves old s3 (λ image said. IsHeldByEither (files_of image v) server dat idx new_dat new_idx)
      leaves3 {s2} {s3} written done second second_done third =
          let has = has2 written done second second_done in
          let so_far = leaves2 written done second in
          by_rename so_far third (λ image left. ⊎_elim (now so_far image)
          (λ after. inr (held_between (files_of image v) server new_dat new_idx has.below
          (others_left server v s2.files image has.others (elsewhere server v s2.files image (at Cpd) (at Dat) refl refl after.0))
          (whole_left new_dat (s2.files (at Cpd)) (image (at Dat)) has.cpd after.1)
          (after.2 (kinds_apart v server server Cpd Dat false false small tt tt (turned dat_cpd)))
          (whole_left new_idx (s2.files (at Cpx)) (image (at Cpx)) has.cpx
          (after.0 (at Cpx) (kinds_apart v server server Cpx Cpd false false small tt tt (turned cpd_cpx)) (kinds_apart v server server Cpx Dat false false small tt tt (turned dat_cpx))))))
          left)

      has3 : {s2 s3 : Disk} → AreWritten server v old.files dat idx new_dat new_idx → IsRenamed (temp Cpd) (at Cpd) old.files s1.files → Renames (temp Cpx) (at Cpx) s1 s2 → IsRenamed (temp Cpx) (at Cpx) s1.files s2.files
          → Renames (at Cpd) (at Dat) s2 s3 → IsRenamed (at Cpd) (at Dat) s2.files s3.files → HasDat s3.files new_dat new_idx
      has3 {s2} {s3} written done second second_done third third_done =
          let has = has2 written done second second_done in
          record {
            below = has.below;
            others = stay server v third refl refl has.others;
            dat = third_done.there ∙ has.cpd;
            no_cpd = third_done.gone (kinds_apart v server server Cpd Dat false false small tt tt (turned dat_cpd));
            cpx = third.others (at Cpx) (kinds_apart v server server Cpx Cpd false false small tt tt (turned cpd_cpx)) (kinds_apart v server server Cpx Dat false false small tt tt (turned dat_cpx)) ∙ has.cpx;
          }

      pub leaves4 : {s2 s3 s4 : Disk} → AreWritten server v old.files dat idx new_dat new_idx → IsRenamed (temp Cpd) (at Cpd) old.files s1.files → Renames (temp Cpx) (at Cpx) s1 s2 → IsRenamed (temp Cpx) (at Cpx) s1.files s2.files
          → Renames (at Cpd) (at Dat) s2 s3 → IsRenamed (at Cpd) (at Dat) s2.files s3.files → Renames (at Cpx) (at Idx) s3 s4
          → Leaves old s4 (λ image said. IsHeldByEither (files_of image v) server dat idx new_dat new_idx)
      leaves4 {s2} {s3} {s4} written done second second_done third third_done fourth =
          let has = has3 written done second second_done third third_done in
          let so_far = leaves3 written done second second_done third in
          by_rename so_far fourth (λ image left. ⊎_elim (now so_far image)
          (λ after. inr (held_named (files_of image v) server new_dat new_idx has.below
          (others_left server v s3.files image has.others (elsewhere server v s3.files image (at Cpx) (at Idx) refl refl after.0))
          (whole_left new_dat (s3.files (at Dat)) (image (at Dat)) has.dat
          (after.0 (at Dat) (kinds_apart v server server Dat Cpx false false small tt tt dat_cpx) (kinds_apart v server server Dat Idx false false small tt tt dat_idx)))
          (whole_left new_idx (s3.files (at Cpx)) (image (at Idx)) has.cpx after.1)
          (after.2 (kinds_apart v server server Cpx Idx false false small tt tt (turned idx_cpx)))))
          left)

    -- ---- what is touched

    touched : (a b : Kind) (x y : Bool) {from to : Disk} → IsTouchable a x → IsTouchable b y → Renames (place_of v server a x) (place_of v server b y) from to → Touches (IsTouched server v) from to
    touched a b x y is_a is_b did = touches_more (λ k is. ⊎_elim (λ e. (a, x, is_a, e)) (λ e. (b, y, is_b, e)) is) (touches_rename did)

    pub names1 : NamesFiles server v old s1
    names1 = record { touches = touched Cpd Cpd true false tt tt first; leaves = λ dat idx new_dat new_idx written. leaves1 dat idx new_dat new_idx written }

    module _ {s2 : Disk} (done : IsRenamed (temp Cpd) (at Cpd) old.files s1.files) (second : Renames (temp Cpx) (at Cpx) s1 s2) where
      pub names2 : NamesFiles server v old s2
      names2 = record { touches = touches_on names1.touches (touched Cpx Cpx true false tt tt second); leaves = λ dat idx new_dat new_idx written. leaves2 dat idx new_dat new_idx written done second }

      -- the data file stands until it has its last name
      pub second_cpd : s2.files (at Cpd) ≡ old.files (temp Cpd)
      second_cpd = second.others (at Cpd) (temp_apart v server server Cpd Cpx small tt tt) (kinds_apart v server server Cpd Cpx false false small tt tt cpd_cpx) ∙ done.there

      module _ {s3 : Disk} (second_done : IsRenamed (temp Cpx) (at Cpx) s1.files s2.files) (third : Renames (at Cpd) (at Dat) s2 s3) where
        pub names3 : NamesFiles server v old s3
        names3 = record {
          touches = touches_on names2.touches (touched Cpd Dat false false tt tt third);
          leaves = λ dat idx new_dat new_idx written. leaves3 dat idx new_dat new_idx written done second second_done third;
        }

        -- and the index
        pub third_cpx : s3.files (at Cpx) ≡ old.files (temp Cpx)
        third_cpx =
            third.others (at Cpx) (kinds_apart v server server Cpx Cpd false false small tt tt (turned cpd_cpx)) (kinds_apart v server server Cpx Dat false false small tt tt (turned dat_cpx))
            ∙ second_done.there ∙ first_cpx_temp

        module _ {s4 : Disk} (third_done : IsRenamed (at Cpd) (at Dat) s2.files s3.files) (fourth : Renames (at Cpx) (at Idx) s3 s4) where
          pub names4 : NamesFiles server v old s4
          names4 = record {
            touches = touches_on names3.touches (touched Cpx Idx false false tt tt fourth);
            leaves = λ dat idx new_dat new_idx written. leaves4 dat idx new_dat new_idx written done second second_done third third_done fourth;
          }

          pub renamed4 : IsRenamed (at Cpx) (at Idx) s3.files s4.files → AreRenamed server v old.files s4.files
          renamed4 fourth_done = record {
            dat =
                fourth.others (at Dat) (kinds_apart v server server Dat Cpx false false small tt tt dat_cpx) (kinds_apart v server server Dat Idx false false small tt tt dat_idx)
                ∙ third_done.there ∙ second_cpd;
            idx = fourth_done.there ∙ third_cpx;
            no_cpd =
                fourth.others (at Cpd) (kinds_apart v server server Cpd Cpx false false small tt tt cpd_cpx) (kinds_apart v server server Cpd Idx false false small tt tt (turned idx_cpd))
                ∙ third_done.gone (kinds_apart v server server Cpd Dat false false small tt tt (turned dat_cpd));
            no_cpx = fourth_done.gone (kinds_apart v server server Cpx Idx false false small tt tt (turned idx_cpx));
            no_cpd_temp =
                fourth.others (temp Cpd) (kinds_apart v server server Cpd Cpx true false small tt tt cpd_cpx) (kinds_apart v server server Cpd Idx true false small tt tt (turned idx_cpd))
                ∙ third.others (temp Cpd) (turned (temp_apart v server server Cpd Cpd small tt tt)) (kinds_apart v server server Cpd Dat true false small tt tt (turned dat_cpd))
                ∙ second.others (temp Cpd) (kinds_apart v server server Cpd Cpx true true small tt tt cpd_cpx) (kinds_apart v server server Cpd Cpx true false small tt tt cpd_cpx)
                ∙ done.gone (turned (temp_apart v server server Cpd Cpd small tt tt));
            no_cpx_temp =
                fourth.others (temp Cpx) (turned (temp_apart v server server Cpx Cpx small tt tt)) (kinds_apart v server server Cpx Idx true false small tt tt (turned idx_cpx))
                ∙ third.others (temp Cpx) (kinds_apart v server server Cpx Cpd true false small tt tt (turned cpd_cpx)) (kinds_apart v server server Cpx Dat true false small tt tt (turned dat_cpx))
                ∙ second_done.gone (turned (temp_apart v server server Cpx Cpx small tt tt));
          }
