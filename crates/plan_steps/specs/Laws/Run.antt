-- A run that changes one file which may be changed, or temporary files alone, keeps the volume at every stop, and its shards.
-- What nothing cites yet is for the running plans of `plan_run`, to come.
use Rattle.std.proofs.Common.{◌≡◌, ◌≢◌, ◌⊎◌, inl, inr, ⊎_elim, ℕ, ◌<◌, true, false, List, Option, Some, None, is_some, refl, sym, ◌∙◌, ap, subst}
use Rattle.site_model.specs.Disk.{Place, Files, Image, LeftOf, LeftOutside, IsRenamed, firm_file, Disk, Renames, Removes}
use Rattle.site_model.specs.Disk as disk
use Rattle.site_model.specs.Leaves.{Leaves, starts, joins, weaker, both, by_rename, by_remove, place_cases}
use Rattle.site_model.specs.Touches.{Touches, firm_left, touches_more, touches_on, touches_rename, touches_remove}
use Rattle.whole_file.specs.Whole.{Clears, WritesWhole}
use Rattle.world_model.specs.World.{Volume}
use Rattle.world_model.specs.declared.types.Command.TheVariants.{Decode}
use Rattle.file_names.specs.declared.Kind.{Kind}
use Rattle.file_names.specs.declared.Kind.TheVariants.{Shard}
use Rattle.image_meaning.specs.Files.{VolumeFiles, files_of}
use Rattle.file_names.specs.Names.{place_of}
use Rattle.site_model.specs.Counts.{max_servers}
use Rattle.image_meaning.specs.Plain.{index_home}
use Rattle.image_meaning.specs.Meaning.{max_volumes}
use Rattle.image_meaning.specs.Ends.{NearVolume}
use Rattle.image_meaning.specs.Laws.Copy.{temp_apart}
use Rattle.image_meaning.specs.Places.{finals_apart}
use Rattle.image_meaning.specs.Share.{Share, share_of, finals, IsFirmShare}
use Rattle.image_meaning.specs.Shards.{KeepsCopies}
use Rattle.image_meaning.specs.Outlasts.{Outlasts}
use Rattle.plan_steps.specs.declared.plan.Plan.{Plan}
use Rattle.plan_steps.specs.Kept.{Forms, AreForms, HasAForm}
use Rattle.plan_steps.specs.Laws.Kept.{kept_keeps}
use Rattle.plan_steps.specs.Changes.{IsChanged, TakesShard}
use Rattle.plan_steps.specs.Allowed.{IsAllowed}
use Rattle.plan_steps.specs.Laws.Allowed.{allowed_may, allowed_copies}
use Rattle.plan_steps.specs.Runs.{IsTempOf, ChangesOne, StepKeeps}

module _ (v : ℕ) (h : v < max_volumes) where
  no_temp : (server : ℕ) (kind : Kind) → IsTempOf v (place_of v server kind false) → ⊥
  no_temp server kind t = temp_apart v server t.0 kind t.1 h t.2

  -- where temporary files alone change, a stop leaves the files as they stand
  pub temps_same : (files : Files) (image : Image) → IsFirmShare (share_of files v) → LeftOutside (IsTempOf v) files image → files_of image v ≡ finals (share_of files v)
  temps_same files image firm left = λ i server kind.
      firm_left (files (place_of v server kind false)) (image (place_of v server kind false)) (firm server kind) (left (place_of v server kind false) (no_temp server kind)) i

  module _ (server : ℕ) (kind : Kind) (now : Option (List ℕ)) where
    abbrev place : Place
    place = place_of v server kind false

    abbrev Touched : Place → Type 0
    Touched k = IsTempOf v k ⊎ (k ≡ place)

    not_touched : (s : ℕ) (k : Kind) → place_of v s k false ≢ place → ¬ Touched (place_of v s k false)
    not_touched s k other (inl t) = no_temp s k t
    not_touched s k other (inr same) = other same

    -- files with different names stand at different places
    other_place : (s : ℕ) (k : Kind) → (s ≡ server → k ≡ kind → ⊥) → place_of v s k false ≢ place
    other_place s k other e = let same = finals_apart v s server k kind h e in other same.0 same.1

    -- while one file changes, a stop leaves the files as they stand, or with this change
    pub one_or_same : (files : Files) (image : Image) → IsFirmShare (share_of files v) → LeftOutside Touched files image → LeftOf (files place) (image place) ⊎ (image place ≡ now)
        → (files_of image v ≡ finals (share_of files v)) ⊎ IsChanged (finals (share_of files v)) (files_of image v) server kind now
    one_or_same files image firm left (inl here) = inl (λ i s k. by_place s k (place_cases (place_of v s k false) place) i)
      where
        by_place : (s : ℕ) (k : Kind) → (place_of v s k false ≡ place) ⊎ (place_of v s k false ≢ place) → files_of image v s k ≡ finals (share_of files v) s k
        by_place s k (inl same) = firm_left (files (place_of v s k false)) (image (place_of v s k false)) (firm s k) (subst (λ q. LeftOf (files q) (image q)) (sym same) here)
        by_place s k (inr other) = firm_left (files (place_of v s k false)) (image (place_of v s k false)) (firm s k) (left (place_of v s k false) (not_touched s k other))
    one_or_same files image firm left (inr here) = inr (record {
      here = here;
      others = λ s k other. firm_left (files (place_of v s k false)) (image (place_of v s k false)) (firm s k) (left (place_of v s k false) (not_touched s k (other_place s k other)));
    })

    -- ---- which runs change one file

    is_temp : IsTempOf v (place_of v server kind true)
    is_temp = (server, kind, refl)

    -- a firm temporary file gets its final name
    pub rename_one : {old new : Disk} (bytes : List ℕ) → now ≡ Some bytes → old.files (place_of v server kind true) ≡ Some (firm_file bytes) → Renames (place_of v server kind true) place old new → ChangesOne v server kind now old new
    rename_one {old} {new} bytes e there did = record {
      touches = touches_more (λ k. ⊎_elim (λ from. inl (server, kind, from)) (λ to. inr to)) (touches_rename did);
      leaves = by_rename (starts old (λ image left. inl (left place))) did (λ image left. ⊎_elim
          (λ all. inl (all place))
          (λ after. inr (firm_left (Some (firm_file bytes)) (image place) (refl, refl) (subst (λ f. LeftOf f (image place)) there after.1) ∙ sym e))
          left);
      either = ⊎_elim
          (λ same. inl (λ i. same i place))
          (λ (renamed : IsRenamed (place_of v server kind true) place old.files new.files). inr (ap disk.standing (renamed.there ∙ there) ∙ sym e))
          did.either;
    }

    -- a file is removed, if it stands
    pub clear_one : {old new : Disk} → now ≡ None → Clears place old new → ChangesOne v server kind now old new
    clear_one e did = record {
      touches = touches_more (λ k same. inr same) did.touches;
      leaves = weaker did.leaves (λ image said left. ⊎_elim (λ was. inl was) (λ gone. inr (gone ∙ sym e)) left);
      either = ⊎_elim (λ same. inl same) (λ gone. inr (ap disk.standing gone ∙ sym e)) did.either;
    }

    pub remove_one : {old new : Disk} → now ≡ None → Removes place old new → ChangesOne v server kind now old new
    remove_one {old} {new} e did = record {
      touches = touches_more (λ k same. inr same) (touches_remove did);
      leaves = by_remove (starts old (λ image left. inl (left place))) did (λ image left. ⊎_elim (λ was. inl was) (λ gone. inr (gone ∙ sym e)) left.1);
      either = ⊎_elim (λ same. inl same) (λ gone. inr (ap disk.standing gone ∙ sym e)) did.either;
    }

    -- a file is written whole by a temporary one
    pub write_one : {old new : Disk} (bytes : List ℕ) → now ≡ Some bytes → WritesWhole place (place_of v server kind true) bytes old new → ChangesOne v server kind now old new
    write_one bytes e did = record {
      touches = touches_more (λ k. ⊎_elim (λ to. inr to) (λ from. inl (server, kind, from))) did.touches;
      leaves = weaker did.leaves (λ image said left. ⊎_elim (λ was. inl was) (λ new. inr (new ∙ sym e)) left);
      either = ⊎_elim (λ same. inl same) (λ new. inr (ap disk.standing new ∙ sym e)) did.either;
    }

    -- after such a run, too, the files are as they stood or with this change
    pub one_after : {old new : Disk} → ChangesOne v server kind now old new → (finals (share_of new.files v) ≡ finals (share_of old.files v)) ⊎ IsChanged (finals (share_of old.files v)) (finals (share_of new.files v)) server kind now
    one_after {old} {new} run = ⊎_elim
        (λ same. inl (λ i s k. disk.standing (by_place same s k (place_cases (place_of v s k false) place) i)))
        (λ changed. inr (record { here = changed; others = λ s k other. ap disk.standing (elsewhere s k (other_place s k other)) }))
        run.either
      where
        elsewhere : (s : ℕ) (k : Kind) → place_of v s k false ≢ place → new.files (place_of v s k false) ≡ old.files (place_of v s k false)
        elsewhere s k other = run.touches.others (place_of v s k false) (not_touched s k other)

        by_place : new.files place ≡ old.files place → (s : ℕ) (k : Kind) → (place_of v s k false ≡ place) ⊎ (place_of v s k false ≢ place) → new.files (place_of v s k false) ≡ old.files (place_of v s k false)
        by_place same s k (inl at) = subst (λ q. new.files q ≡ old.files q) (sym at) same
        by_place same s k (inr other) = elsewhere s k other

-- the same files have the same copies
pub same_copies : (files left : VolumeFiles) → left ≡ files → KeepsCopies files left
same_copies files left same server i h st = (server, (st.0, (λ k. is_some (same k server (Shard i))) ∙ st.1))

-- ---- what keeps the volume

module _ (plan : Plan) (h : plan.volume < max_volumes) (f : Forms) (start : Share) (old : Disk) (firm : IsFirmShare start → IsFirmShare (share_of old.files plan.volume)) (kept : HasAForm f (finals (share_of old.files plan.volume))) where
  abbrev now : VolumeFiles
  now = finals (share_of old.files plan.volume)

  pub temps_keep : {new : Disk} → Touches (IsTempOf plan.volume) old new → StepKeeps plan f start old new
  temps_keep {new} run = record {
    touches = touches_more (λ k t. (t.0, t.1, true, t.2)) run;
    leaves = λ is_firm. weaker run.leaves (λ image said left. subst (HasAForm f) (sym (temps_same plan.volume h old.files image (firm is_firm) left.0)) kept);
    copies = λ no_decode. same_copies now (finals (share_of new.files plan.volume)) (λ i server kind. disk.standing (run.others (place_of plan.volume server kind false) (no_temp plan.volume h server kind) i));
  }

  -- One file changes that may be changed.
  pub one_keeps : {new : Disk} (server : ℕ) (kind : Kind) (bytes : Option (List ℕ)) → server < max_servers → IsAllowed f now server kind bytes → ((plan.command ≡ Decode → ⊥) → TakesShard kind bytes → index_home now ≡ None)
      → ChangesOne plan.volume server kind bytes old new → StepKeeps plan f start old new
  one_keeps {new} server kind bytes below allowed takes run = record {
    touches = touches_more (λ k. ⊎_elim (λ t. (t.0, t.1, true, t.2)) (λ same. (server, kind, false, same))) run.touches;
    leaves = λ is_firm. weaker (both run.touches.leaves run.leaves) (λ image said left. ⊎_elim
        (λ same. subst (HasAForm f) (sym same) kept)
        (λ changed. allowed_may f now server kind bytes below kept allowed (files_of image plan.volume) changed)
        (one_or_same plan.volume h server kind bytes old.files image (firm is_firm) left.0.0 left.1));
    copies = λ no_decode. ⊎_elim
        (λ same. same_copies now (finals (share_of new.files plan.volume)) same)
        (λ changed. allowed_copies f now (finals (share_of new.files plan.volume)) server kind bytes below allowed changed (takes no_decode))
        (one_after plan.volume h server kind bytes run);
  }

-- ---- runs put together

-- one call after another
pub keeps_on : {plan : Plan} {f : Forms} {start : Share} {old mid new : Disk} → StepKeeps plan f start old mid → StepKeeps plan f start mid new → StepKeeps plan f start old new
keeps_on first second = record {
  touches = touches_on first.touches second.touches;
  leaves = λ firm. joins (first.leaves firm) (second.leaves firm);
  copies = λ no_decode server i h st. let mid = first.copies no_decode server i h st in second.copies no_decode mid.0 i h mid.1;
}

-- a look
pub keeps_look : {plan : Plan} {f : Forms} {start : Share} {old mid new : Disk} → StepKeeps plan f start old mid → new ≡ mid → StepKeeps plan f start old new
keeps_look {plan} {f} {start} {old} keeps same = subst (StepKeeps plan f start old) (sym same) keeps

-- a stop within a run leaves files that are sound, and mean the volume after each loss that it survives
pub keeps_outlast : (plan : Plan) (w : Volume) (f : Forms) (start : Share) (old new : Disk) → AreForms w f → StepKeeps plan f start old new → IsFirmShare start
    → Leaves old new (λ image said. Outlasts (NearVolume f.changes (Some w)) (files_of image plan.volume))
keeps_outlast plan w f start old new forms keeps firm = weaker (keeps.leaves firm) (λ image said kept. kept_keeps w f (files_of image plan.volume) forms kept)
