-- How the files of a new volume are made.
use Rattle.std.proofs.Common.{◌≡◌, ◌⊎◌, inl, inr, ⊎_elim, ℕ, List, [], ◌++◌, Option, Some, None, refl, sym, ◌∙◌, ap, subst}
use Rattle.std.specs.Prelude.{IsSome}
use Rattle.site_model.specs.Disk.{File, Place, LeftOf, firm_file, bytes_of, IsRenamed, Disk, Renames}
use Rattle.site_model.specs.Leaves.{weaker, now, by_rename, left_none}
use Rattle.site_model.specs.Touches.{Touches, touches_on, touches_more, touches_rename, firm_left}
use Rattle.whole_file.specs.Whole.{AppendsFirm}
use Rattle.dat_volume.specs.NewFiles.{FourPlaces, AreApart, NoneOf, Makes, AreMade}
use Rattle.dat_volume.proofs.Recording.{touches_firm}

-- the place of a name at the server
pub here : (server : ℕ) {a b : List ℕ} → a ≡ b → ◌≡◌ {A = Place} (server, a) (server, b)
here server e = λ i. (server, e i)

-- what a stop leaves of an absent file, and of a firm one
none_left : (file : Option File) (image : Option (List ℕ)) → file ≡ None → LeftOf file image → image ≡ None
none_left file image is left = left_none image (subst (λ f. LeftOf f image) is left)

whole_left : (bytes : List ℕ) (file : Option File) (image : Option (List ℕ)) → file ≡ Some (firm_file bytes) → LeftOf file image → image ≡ Some bytes
whole_left bytes file image is left = firm_left (Some (firm_file bytes)) image (refl, refl) (subst (λ f. LeftOf f image) is left)

module _ (four : FourPlaces) (bytes : List ℕ) (apart : AreApart four) where
  abbrev AreTemps : Place → Type 0
  AreTemps k = (k ≡ four.dat_temp) ⊎ (k ≡ four.idx_temp)

  dat_final : ¬ AreTemps four.dat
  dat_final is = ⊎_elim apart.dat_own apart.dat_other is

  idx_final : ¬ AreTemps four.idx
  idx_final is = ⊎_elim apart.idx_other apart.idx_own is

  -- both temporary files are written, and nothing else
  pub record HasTemps (old mid : Disk) : Type 0 where
    pub touches : Touches AreTemps old mid
    pub dat_temp : NoneOf four old.files → mid.files four.dat_temp ≡ Some (firm_file bytes)
    pub idx_temp : NoneOf four old.files → mid.files four.idx_temp ≡ Some (firm_file [])

  -- the data file has its name
  pub record HasDat (old mid : Disk) : Type 0 where
    pub so_far : Makes four bytes old mid
    pub dat : NoneOf four old.files → mid.files four.dat ≡ Some (firm_file bytes)
    pub idx_temp : NoneOf four old.files → mid.files four.idx_temp ≡ Some (firm_file [])
    pub dat_temp : mid.files four.dat_temp ≡ None

  -- so far temporary files alone were touched
  pub only_temps : {old new : Disk} → Touches AreTemps old new → Makes four bytes old new
  only_temps {old} run = record {
    touches = touches_more (λ k is. inr is) run;
    leaves = λ none. weaker run.leaves (λ image said left. inl (
      none_left (old.files four.dat) (image four.dat) none.dat (left.0 four.dat dat_final),
      none_left (old.files four.idx) (image four.idx) none.idx (left.0 four.idx idx_final),
    ));
  }

  pub first_temp : {p : Place} {old new : Disk} → p ≡ four.dat_temp → AppendsFirm p bytes old new → Makes four bytes old new
  first_temp at did = only_temps (touches_more (λ k is. inl (is ∙ at)) (touches_firm did))

  pub second_temp : {p q : Place} {old mid new : Disk} → p ≡ four.dat_temp → q ≡ four.idx_temp → AppendsFirm p bytes old mid → AppendsFirm q [] mid new → Touches AreTemps old new
  second_temp at_dat at_idx first second = touches_on (touches_more (λ k is. inl (is ∙ at_dat)) (touches_firm first)) (touches_more (λ k is. inr (is ∙ at_idx)) (touches_firm second))

  pub both_temps : {p q : Place} {old mid new : Disk} → p ≡ four.dat_temp → q ≡ four.idx_temp
      → AppendsFirm p bytes old mid → mid.files p ≡ Some (firm_file (bytes_of (old.files p) ++ bytes)) → AppendsFirm q [] mid new → new.files q ≡ Some (firm_file (bytes_of (mid.files q) ++ [])) → HasTemps old new
  both_temps {p} {q} {old} {mid} {new} at_dat at_idx first first_done second second_done =
      let dat_done : mid.files four.dat_temp ≡ Some (firm_file (bytes_of (old.files four.dat_temp) ++ bytes)) = subst (λ k. mid.files k ≡ Some (firm_file (bytes_of (old.files k) ++ bytes))) at_dat first_done in
      let idx_done : new.files four.idx_temp ≡ Some (firm_file (bytes_of (mid.files four.idx_temp) ++ [])) = subst (λ k. new.files k ≡ Some (firm_file (bytes_of (mid.files k) ++ []))) at_idx second_done in
      record {
        touches = second_temp at_dat at_idx first second;
        dat_temp = λ none. second.others four.dat_temp (λ e. apart.temps (e ∙ at_idx)) ∙ dat_done ∙ ap (λ f. Some (firm_file (bytes_of f ++ bytes))) none.dat_temp;
        idx_temp = λ none. idx_done ∙ ap (λ f. Some (firm_file (bytes_of f ++ []))) (first.others four.idx_temp (λ e. apart.temps (sym (e ∙ at_dat))) ∙ none.idx_temp);
      }

  -- the data file has its name, or not yet
  first_name : {old mid new : Disk} → HasTemps old mid → Renames four.dat_temp four.dat mid new → Makes four bytes old new
  first_name {old} {mid} temps did =
      let so_far = only_temps temps.touches in
      record {
        touches = touches_on so_far.touches (touches_more (λ k is. ⊎_elim (λ e. inr (inl e)) (λ e. inl (inl e)) is) (touches_rename did));
        leaves = λ none. by_rename (so_far.leaves none) did (λ image left. ⊎_elim (λ before. now (so_far.leaves none) image before)
            (λ after. inr (inl (
              whole_left bytes (mid.files four.dat_temp) (image four.dat) (temps.dat_temp none) after.1,
              none_left (mid.files four.idx) (image four.idx) (temps.touches.others four.idx idx_final ∙ none.idx) (after.0 four.idx apart.idx_other (λ e. apart.finals (sym e))),
            ))) left);
      }

  pub names_dat : {p q : Place} {old mid new : Disk} → p ≡ four.dat_temp → q ≡ four.dat → HasTemps old mid → Renames p q mid new → Makes four bytes old new
  names_dat {p} {q} {old} {mid} {new} from to temps did =
      first_name temps (subst (λ k. Renames four.dat_temp k mid new) to (subst (λ k. Renames k q mid new) from did))

  pub has_dat : {p q : Place} {old mid new : Disk} → p ≡ four.dat_temp → q ≡ four.dat → HasTemps old mid → Renames p q mid new → IsRenamed p q mid.files new.files → HasDat old new
  has_dat {p} {q} {old} {mid} {new} from to temps did done = named
      (subst (λ k. Renames four.dat_temp k mid new) to (subst (λ k. Renames k q mid new) from did))
      (subst (λ k. IsRenamed four.dat_temp k mid.files new.files) to (subst (λ k. IsRenamed k q mid.files new.files) from done))
    where
      named : Renames four.dat_temp four.dat mid new → IsRenamed four.dat_temp four.dat mid.files new.files → HasDat old new
      named first first_done = record {
        so_far = first_name temps first;
        dat = λ none. first_done.there ∙ temps.dat_temp none;
        idx_temp = λ none. first.others four.idx_temp (λ e. apart.temps (sym e)) (λ e. apart.dat_other (sym e)) ∙ temps.idx_temp none;
        dat_temp = first_done.gone (λ e. apart.dat_own (sym e));
      }

  -- and the index too, or not yet
  second_name : {old mid new : Disk} → HasDat old mid → Renames four.idx_temp four.idx mid new → Makes four bytes old new
  second_name {old} {mid} has did = record {
    touches = touches_on has.so_far.touches (touches_more (λ k is. ⊎_elim (λ e. inr (inr e)) (λ e. inl (inr e)) is) (touches_rename did));
    leaves = λ none. by_rename (has.so_far.leaves none) did (λ image left. ⊎_elim (λ before. now (has.so_far.leaves none) image before)
        (λ after. inr (inr (
          whole_left bytes (mid.files four.dat) (image four.dat) (has.dat none) (after.0 four.dat apart.dat_other apart.finals),
          whole_left [] (mid.files four.idx_temp) (image four.idx) (has.idx_temp none) after.1,
        ))) left);
  }

  pub names_idx : {p q : Place} {old mid new : Disk} → p ≡ four.idx_temp → q ≡ four.idx → HasDat old mid → Renames p q mid new → Makes four bytes old new
  names_idx {p} {q} {old} {mid} {new} from to has did =
      second_name has (subst (λ k. Renames four.idx_temp k mid new) to (subst (λ k. Renames k q mid new) from did))

  pub made : {p q : Place} {old mid new : Disk} → p ≡ four.idx_temp → q ≡ four.idx → HasDat old mid → Renames p q mid new → IsRenamed p q mid.files new.files → NoneOf four old.files → AreMade four bytes new.files
  made {p} {q} {old} {mid} {new} from to has did done none = named
      (subst (λ k. Renames four.idx_temp k mid new) to (subst (λ k. Renames k q mid new) from did))
      (subst (λ k. IsRenamed four.idx_temp k mid.files new.files) to (subst (λ k. IsRenamed k q mid.files new.files) from done))
    where
      named : Renames four.idx_temp four.idx mid new → IsRenamed four.idx_temp four.idx mid.files new.files → AreMade four bytes new.files
      named second second_done = record {
        dat = second.others four.dat apart.dat_other apart.finals ∙ has.dat none;
        idx = second_done.there ∙ has.idx_temp none;
        dat_temp = second.others four.dat_temp apart.temps (λ e. apart.idx_other (sym e)) ∙ has.dat_temp;
        idx_temp = second_done.gone (λ e. apart.idx_own (sym e));
      }

  -- the temporary index stands until it has its name
  pub index_stands : {p q k : Place} {bytes' : List ℕ} {mid new : Disk} → p ≡ four.dat_temp → q ≡ four.dat → k ≡ four.idx_temp → mid.files k ≡ Some (firm_file bytes') → Renames p q mid new → IsSome (new.files k)
  index_stands {p} {q} {k} {bytes'} {mid} {new} from to at stands did =
      subst (λ (o : Option File). IsSome o) (sym (did.others k (λ e. apart.temps (sym (sym at ∙ e ∙ from))) (λ e. apart.dat_other (sym (sym at ∙ e ∙ to))) ∙ stands)) refl
