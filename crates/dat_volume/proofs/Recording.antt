-- How a record and its entry are written.
use Rattle.std.proofs.Common.{◌≡◌, ◌≢◌, inl, inr, ℕ, List, ◌++◌, length, Some, refl, sym, ◌∙◌, ap, subst}
use Rattle.site_model.specs.Disk.{Place, Files, Image, LeftOf, firm_file, bytes_of, IsPartlyGrown, LeftIn, Disk, appends}
use Rattle.site_model.specs.Leaves.{weaker, joins}
use Rattle.site_model.specs.Touches.{Touches, At, touches_on, touches_more, firm_left, grown_left}
use Rattle.whole_file.specs.Whole.{AppendsFirm}
use Rattle.dat_volume.specs.Writing.{HasMore, AreFirm, AppendsRecord, IsAppended}

pub name_differs : (server : ℕ) (a b : List ℕ) → a ≢ b → ◌≢◌ {A = Place} (server, a) (server, b)
name_differs server a b differ same = differ (ap (λ (p : Place). p.1) same)

pub touches_firm : {p : Place} {bytes : List ℕ} {old new : Disk} → AppendsFirm p bytes old new → Touches (At p) old new
touches_firm did = record { leaves = weaker did.leaves (λ image said left. (left.0.0, left.1)); others = did.others; said = did.said }

-- what a stop leaves of a firm file to which bytes are appended
more_left : (p : Place) (bytes held : List ℕ) (files : Files) (image : Image) → files p ≡ Some (firm_file held) → LeftIn (appends p bytes) files image → HasMore held (length bytes) (image p)
more_left p bytes held files image is left =
    grown_left held (length bytes) left.1.0 (image p) (subst (λ f. IsPartlyGrown (length bytes) f left.1.0) is left.1.1) left.1.2

-- what a stop leaves of another file that is firm
same_left : (p q : Place) (bytes held : List ℕ) (files : Files) (image : Image) → q ≢ p → files q ≡ Some (firm_file held) → LeftIn (appends p bytes) files image → image q ≡ Some held
same_left p q bytes held files image other is left =
    firm_left (Some (firm_file held)) (image q) (refl, refl) (subst (λ f. LeftOf f (image q)) is (left.0 q other))

module _ (dat idx : Place) (bytes entry : List ℕ) (differ : dat ≢ idx) where
  -- the record alone
  pub first : {old new : Disk} → AppendsFirm dat bytes old new → AppendsRecord dat idx bytes entry old new
  first {old} did = record {
    touches = touches_more (λ k is. inl is) (touches_firm did);
    leaves = λ d i firm. weaker did.leaves (λ image said left. inl (
      more_left dat bytes d old.files image firm.dat_file left.0,
      same_left dat idx bytes i old.files image (λ e. differ (sym e)) firm.idx_file left.0,
    ));
  }

  -- both are firm between
  firm_between : {old mid : Disk} → AppendsFirm dat bytes old mid → mid.files dat ≡ Some (firm_file (bytes_of (old.files dat) ++ bytes)) → (d i : List ℕ) → AreFirm dat idx d i old.files → AreFirm dat idx (d ++ bytes) i mid.files
  firm_between did done d i firm = record {
    dat_file = done ∙ ap (λ f. Some (firm_file (bytes_of f ++ bytes))) firm.dat_file;
    idx_file = did.others idx (λ e. differ (sym e)) ∙ firm.idx_file;
  }

  -- and then its entry
  pub second : {old mid new : Disk} → AppendsFirm dat bytes old mid → mid.files dat ≡ Some (firm_file (bytes_of (old.files dat) ++ bytes)) → AppendsFirm idx entry mid new → AppendsRecord dat idx bytes entry old new
  second {old} {mid} before done did =
      let so_far = first before in
      record {
        touches = touches_on so_far.touches (touches_more (λ k is. inr is) (touches_firm did));
        leaves = λ d i firm.
            let firm_now = firm_between before done d i firm in
            joins (so_far.leaves d i firm) (weaker did.leaves (λ image said left. inr (
              same_left idx dat entry (d ++ bytes) mid.files image differ firm_now.dat_file left.0,
              more_left idx entry i mid.files image firm_now.idx_file left.0,
            )));
      }

  -- both stand
  pub appended : {old mid new : Disk} → AppendsFirm dat bytes old mid → mid.files dat ≡ Some (firm_file (bytes_of (old.files dat) ++ bytes))
      → AppendsFirm idx entry mid new → new.files idx ≡ Some (firm_file (bytes_of (mid.files idx) ++ entry)) → IsAppended dat idx bytes entry old.files new.files
  appended before dat_done did idx_done = record {
    dat_file = did.others dat differ ∙ dat_done;
    idx_file = idx_done ∙ ap (λ f. Some (firm_file (bytes_of f ++ entry))) (before.others idx (λ e. differ (sym e)));
  }
