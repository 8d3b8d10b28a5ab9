-- How a file is written by a temporary one.
use Rattle.std.proofs.Common.{◌≡◌, ◌≢◌, ◌⊎◌, inl, inr, ⊎_elim, ℕ, ◌<◌, ◌^◌, Bool, true, false, List, Option, Some, None, refl, sym, ◌∙◌, ap, subst}
use Rattle.site_model.specs.Disk.{File, Place, Files, LeftOf, grown, firm_file, synced, Disk, Renames}
use Rattle.site_model.specs.Leaves.{Leaves, weaker, now, by_rename}
use Rattle.site_model.specs.Touches.{Touches, At, touches_on, touches_more, touches_rename, firm_left}
use Rattle.file_names.specs.declared.Kind.{Kind}
use Rattle.file_names.specs.declared.FileName.{FileName}
use Rattle.file_names.specs.Names.{IsKind, name_bytes}
use Rattle.file_names.specs.Laws.Name.{same_name}
use Rattle.whole_file.specs.Whole.{AppendsAll, WritesWhole}

pub touches_appended : {p : Place} {bytes : List ℕ} {old new : Disk} → AppendsAll p bytes old new → Touches (At p) old new
touches_appended did = record { leaves = weaker did.leaves (λ image said left. (left.0.0, left.1)); others = did.others; said = did.said }

pub name_differs : (server : ℕ) (a b : List ℕ) → a ≢ b → ◌≢◌ {A = Place} (server, a) (server, b)
name_differs server a b differ same = differ (ap (λ (p : Place). p.1) same)

-- a file that was absent, then written, then synced
pub firm_from : {a b c : Option File} {bytes : List ℕ} → a ≡ None → b ≡ Some (grown a bytes) → c ≡ synced b → c ≡ Some (firm_file bytes)
firm_from {bytes = bytes} none written firm = firm ∙ ap synced (written ∙ ap (λ f. Some (grown f bytes)) none)

-- of a firm file a stop leaves what stands
whole : {name temp : Place} {bytes : List ℕ} {old new : Disk} → Touches (λ k. (k ≡ name) ⊎ (k ≡ temp)) old new
    → Leaves old new (λ image said. LeftOf (old.files name) (image name) ⊎ (image name ≡ Some bytes))
    → (new.files name ≡ old.files name) ⊎ (new.files name ≡ Some (firm_file bytes)) → WritesWhole name temp bytes old new
whole {name} {temp} {bytes} {old} {new} touches leaves either = record {
  touches = touches;
  leaves = leaves;
  either = either;
  firm = λ is. weaker leaves (λ image said left. ⊎_elim (λ kept. inl (firm_left (old.files name) (image name) is kept)) (λ written. inr written) left);
}

module _ (name temp : Place) (bytes : List ℕ) (differ : name ≢ temp) where
  -- so far the temporary file alone was touched
  pub only_temp : (old new : Disk) → Touches (At temp) old new → WritesWhole name temp bytes old new
  only_temp old new run = whole
      (touches_more (λ k is. inr is) run)
      (weaker run.leaves (λ image said left. inl (left.0 name differ)))
      (inl (run.others name differ))

  pub renamed : (old mid new : Disk) → Touches (At temp) old mid → mid.files temp ≡ Some (firm_file bytes) → Renames temp name mid new → WritesWhole name temp bytes old new
  renamed old mid new run is did =
      let so_far = only_temp old mid run in
      whole
      (touches_on so_far.touches (touches_more (λ k here. ⊎_elim (λ e. inr e) (λ e. inl e) here) (touches_rename did)))
      (by_rename so_far.leaves did (λ image left. ⊎_elim (λ before. now so_far.leaves image before)
      (λ after. inr (firm_left (Some (firm_file bytes)) (image name) (refl, refl) (subst (λ f. LeftOf f (image name)) is after.1))) left))
      (⊎_elim (λ same. inl (ap (λ (files : Files). files name) same ∙ run.others name differ)) (λ moved. inr (moved.there ∙ is)) did.either)

-- a temporary file has another name
pub temp_differs : (volume : ℕ) (kind : Kind) → volume < 2 ^ 32 → IsKind kind → (a b : List ℕ)
    → a ≡ name_bytes (record { volume = volume; kind = kind; temp = false }) → b ≡ name_bytes (record { volume = volume; kind = kind; temp = true }) → a ≢ b
temp_differs volume kind small is a b final temp same =
    let one : ◌≡◌ {A = FileName} (record { volume = volume; kind = kind; temp = false }) (record { volume = volume; kind = kind; temp = true }) =
    same_name _ _ (record { volume = small; kind = is }) (record { volume = small; kind = is }) (sym final ∙ same ∙ temp) in
    let bit : ◌≡◌ {A = Bool} false true = ap (λ (n : FileName). n.temp) one in
    absurd cc
