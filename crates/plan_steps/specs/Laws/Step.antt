-- What the calls of a step leave: at every stop files that keep the volume, and after success files that fit again.
use Rattle.std.proofs.Common.{◌≡◌, ◌≢◌, ◌⊎◌, inl, inr, ⊎_elim, ℕ, ◌+◌, ◌<◌, ◌≤◌, true, false, List, [], ◌++◌, length, take, drop, Option, Some, None, refl, sym, ◌∙◌, ap, subst, arith}
use Rattle.std.specs.Prelude.{slice_get, slice_set}
use Rattle.std.proofs.Math.Seq.{take-add}
use Rattle.std.proofs.lemmas.List.{take_all}
use Rattle.site_model.specs.Disk.{File, Place, IsRenamed, firm_file, grown, synced, Disk, Appends, Syncs, Renames}
use Rattle.site_model.specs.Disk as disk
use Rattle.site_model.specs.Touches.{Touches, touches_more, touches_append, touches_sync}
use Rattle.whole_file.specs.Whole.{Clears, WritesWhole, IsWritten}
use Rattle.world_model.specs.declared.types.Command.TheVariants.{Decode}
use Rattle.file_names.specs.declared.Kind.{Kind}
use Rattle.file_names.specs.Names.{IsKind, place_of}
use Rattle.image_meaning.specs.Files.{VolumeFiles}
use Rattle.site_model.specs.Counts.{max_servers}
use Rattle.image_meaning.specs.Plain.{index_home}
use Rattle.image_meaning.specs.Meaning.{max_volumes}
use Rattle.image_meaning.specs.Laws.Copy.{temp_apart}
use Rattle.image_meaning.specs.Share.{Share, share_of, finals, IsFirmShare}
use Rattle.plan_steps.specs.declared.plan.Plan.{Plan}
use Rattle.plan_steps.specs.declared.plan.Stage.{Stage}
use Rattle.plan_steps.specs.declared.plan.Stage.TheVariants.{Absent, Writing, Synced, Registered, Gone}
use Rattle.plan_steps.specs.declared.plan.FileState.{FileState}
use Rattle.plan_steps.specs.Kept.{Forms, HasAForm}
use Rattle.plan_steps.specs.Changes.{IsChanged, TakesShard}
use Rattle.plan_steps.specs.Allowed.{IsAllowed}
use Rattle.plan_steps.specs.Laws.Allowed.{allowed_may}
use Rattle.plan_steps.specs.Runs.{StepKeeps, ChangesOne}
use Rattle.plan_steps.specs.Laws.Run.{rename_one, clear_one, write_one, temps_keep, one_keeps}
use Rattle.plan_steps.specs.Fitting.{IsReady, StandsBy, StandsAt, AreStates, FitsStates}
use Rattle.plan_steps.specs.Laws.Fitting.{IsSameBut, same_but, fits_on}

take_more : {A : Type 0} (n m : ℕ) (xs : List A) → take n xs ++ take m (drop n xs) ≡ take (n + m) xs
take_more n m xs = sym (take-add n m xs)

module _ (f : Forms) (plan : Plan) (h : plan.volume < max_volumes) (given : ℕ → Kind → Option File) (start : Share) (states : List FileState) (are : AreStates states) (old : Disk)
    (fits : FitsStates f given start states (share_of old.files plan.volume)) (firm : IsFirmShare start → IsFirmShare (share_of old.files plan.volume)) (j : ℕ) (s : FileState) (at : slice_get states j ≡ Some s) where
  abbrev final : Place
  final = place_of plan.volume s.server s.kind false

  abbrev temp : Place
  temp = place_of plan.volume s.server s.kind true

  abbrev was : VolumeFiles
  was = finals (share_of old.files plan.volume)

  named : IsKind s.kind × (s.server < max_servers)
  named = are.named j s at

  abbrev moved_to : FileState → List FileState
  moved_to next = slice_set states j next

  -- what stood at this stage
  stood : (stage : Stage) → s.stage ≡ stage → StandsBy stage s.length (given s.server s.kind) (old.files final) (old.files temp)
  stood stage e = subst (λ stage. StandsBy stage s.length (given s.server s.kind) (old.files final) (old.files temp)) e (fits.each j s at)

  -- ---- the file with its final name

  module _ (new : Disk) (now : Option (List ℕ)) (is_now : disk.standing (new.files final) ≡ now) (others : (k : Place) → k ≢ final → k ≢ temp → new.files k ≡ old.files k) where
    same : IsSameBut s.server s.kind (share_of old.files plan.volume) (share_of new.files plan.volume)
    same = same_but plan.volume s.server s.kind old.files new.files h named.0 others

    changed : IsChanged was (finals (share_of new.files plan.volume)) s.server s.kind now
    changed = record { here = is_now; others = λ n c other. ap disk.standing (same.finals n c other) }

    -- After a change that is allowed the files fit, with this state of the file.
    changed_fits : IsAllowed f was s.server s.kind now → (next : FileState) → next.server ≡ s.server → next.kind ≡ s.kind → StandsAt given (share_of new.files plan.volume) next
        → FitsStates f given start (moved_to next) (share_of new.files plan.volume)
    changed_fits allowed next server kind stands =
        fits_on states j s next at server kind f given start (share_of old.files plan.volume) (share_of new.files plan.volume) are fits same stands
        (allowed_may f was s.server s.kind now named.1 fits.kept allowed (finals (share_of new.files plan.volume)) changed)

  abbrev keeps_by : {new : Disk} (now : Option (List ℕ)) → IsAllowed f was s.server s.kind now → ((plan.command ≡ Decode → ⊥) → TakesShard s.kind now → index_home was ≡ None) → ChangesOne plan.volume s.server s.kind now old new
      → StepKeeps plan f start old new
  keeps_by now allowed takes run = one_keeps plan h f start old firm fits.kept s.server s.kind now named.1 allowed takes run

  -- nothing that comes takes a shard
  takes_none : (bytes : List ℕ) → (plan.command ≡ Decode → ⊥) → TakesShard s.kind (Some bytes) → index_home was ≡ None
  takes_none bytes no_decode (i, is, none) = absurd (some_none none)
    where
      some_none : Some bytes ≡ None → ⊥
      some_none e = cc

  -- A file that is ready gets its final name.
  module _ (synced_stage : s.stage ≡ Synced) where
    pub ready : IsReady s.length (given s.server s.kind) (old.files temp)
    ready = (stood Synced synced_stage).1

    module _ (allowed : IsAllowed f was s.server s.kind (Some ready.whole)) where
      pub register_keeps : {new : Disk} → Renames temp final old new → StepKeeps plan f start old new
      register_keeps did = keeps_by (Some ready.whole) allowed (takes_none ready.whole) (rename_one plan.volume h s.server s.kind (Some ready.whole) ready.whole refl ready.there did)

      abbrev registered : FileState
      registered = record s { stage = Registered }

      pub register_fits : {new : Disk} → Renames temp final old new → IsRenamed temp final old.files new.files → FitsStates f given start (moved_to registered) (share_of new.files plan.volume)
      register_fits {new} did done =
          let there : new.files final ≡ Some (firm_file ready.whole) = done.there ∙ ready.there in
          changed_fits new (Some ready.whole) (ap disk.standing there) (λ k a b. did.others k b a) allowed registered refl refl
          (there ∙ sym ready.planned, done.gone (λ e. temp_apart plan.volume s.server s.server s.kind s.kind h (sym e)))

  -- A file is removed.
  module _ (stage : s.stage ≡ Registered) (allowed : IsAllowed f was s.server s.kind None) where
    pub clear_keeps : ((plan.command ≡ Decode → ⊥) → TakesShard s.kind None → index_home was ≡ None) → {new : Disk} → Clears final old new → StepKeeps plan f start old new
    clear_keeps takes did = keeps_by None allowed takes (clear_one plan.volume h s.server s.kind None refl did)

    abbrev gone : FileState
    gone = record s { stage = Gone }

    pub clear_fits : {new : Disk} → Clears final old new → new.files final ≡ None → FitsStates f given start (moved_to gone) (share_of new.files plan.volume)
    clear_fits {new} did done =
        changed_fits new None (ap disk.standing done) (λ k a b. did.touches.others k (λ same. a same)) allowed gone refl refl
        (done, did.touches.others temp (λ same. temp_apart plan.volume s.server s.server s.kind s.kind h (sym same)) ∙ (stood Registered stage).1)

  -- A file is written whole.
  module _ (stage : s.stage ≡ Absent) (bytes : List ℕ) (is : given s.server s.kind ≡ Some (firm_file bytes)) (allowed : IsAllowed f was s.server s.kind (Some bytes)) where
    pub write_keeps : {new : Disk} → WritesWhole final temp bytes old new → StepKeeps plan f start old new
    write_keeps did = keeps_by (Some bytes) allowed (takes_none bytes) (write_one plan.volume h s.server s.kind (Some bytes) bytes refl did)

    abbrev written : FileState
    written = record s { stage = Registered; length = length bytes }

    pub write_fits : {new : Disk} → WritesWhole final temp bytes old new → IsWritten final temp bytes new → FitsStates f given start (moved_to written) (share_of new.files plan.volume)
    write_fits {new} did done =
        changed_fits new (Some bytes) (ap disk.standing done.file) (λ k a b. did.touches.others k (⊎_elim a b)) allowed written refl refl
        (done.file ∙ sym is, done.no_temp)

  -- ---- the temporary file

  -- the files with their final names stay
  module _ (new : Disk) (run : Touches (λ k. k ≡ temp) old new) where
    final_same : (n : ℕ) (c : Kind) → new.files (place_of plan.volume n c false) ≡ old.files (place_of plan.volume n c false)
    final_same n c = run.others (place_of plan.volume n c false) (λ same. temp_apart plan.volume n s.server c s.kind h same)

    pub temp_keeps : StepKeeps plan f start old new
    temp_keeps = temps_keep plan h f start old firm fits.kept (touches_more (λ k same. (s.server, s.kind, same)) run)

    temp_fits : (next : FileState) → next.server ≡ s.server → next.kind ≡ s.kind → StandsAt given (share_of new.files plan.volume) next → FitsStates f given start (moved_to next) (share_of new.files plan.volume)
    temp_fits next server kind stands =
        fits_on states j s next at server kind f given start (share_of old.files plan.volume) (share_of new.files plan.volume) are fits
        (same_but plan.volume s.server s.kind old.files new.files h named.0 (λ k a b. run.others k b)) stands
        (subst (HasAForm f) (λ i n c. disk.standing (sym (final_same n c) i)) fits.kept)

  -- All of the file is made firm.
  module _ (stage : s.stage ≡ Writing) (all : (bytes : List ℕ) → given s.server s.kind ≡ Some (firm_file bytes) → s.length ≡ length bytes) where
    abbrev firmed : FileState
    firmed = record s { stage = Synced }

    pub sync_fits : {new : Disk} → Syncs temp old new → new.files temp ≡ synced (old.files temp) → FitsStates f given start (moved_to firmed) (share_of new.files plan.volume)
    sync_fits {new} did done =
        let before = stood Writing stage in
        let count : s.length ≡ length before.1.whole = all before.1.whole before.1.planned in
        temp_fits new (touches_sync did) firmed refl refl (
          final_same new (touches_sync did) s.server s.kind ∙ before.0,
          record {
            whole = before.1.whole;
            planned = before.1.planned;
            count = count;
            there = done ∙ ap synced before.1.there ∙ ap (λ bytes. Some (firm_file bytes)) (before.1.front ∙ take_whole s.length before.1.whole count);
          },
        )
      where
        take_whole : (n : ℕ) (xs : List ℕ) → n ≡ length xs → take n xs ≡ xs
        take_whole n xs e = ap (λ m. take m xs) e ∙ take_all (length xs) xs (omega arith)

  -- More of the file is written.
  module _ (whole : List ℕ) (is : given s.server s.kind ≡ Some (firm_file whole)) (piece : List ℕ) (right : piece ≡ take (length piece) (drop s.length whole)) (room : s.length + length piece ≤ length whole) where
    abbrev longer : FileState
    longer = record s { stage = Writing; length = s.length + length piece }

    more_front : (front : List ℕ) → front ≡ take s.length whole → front ++ piece ≡ take (s.length + length piece) whole
    more_front front e = (λ i. e i ++ right i) ∙ take_more s.length (length piece) whole

    pub append_fits : {new : Disk} → (s.stage ≡ Absent) ⊎ (s.stage ≡ Writing) → Appends temp piece old new → new.files temp ≡ Some (grown (old.files temp) piece) → FitsStates f given start (moved_to longer) (share_of new.files plan.volume)
    append_fits {new} (inl stage) did done =
        let before = stood Absent stage in
        temp_fits new (touches_append did) longer refl refl (
          final_same new (touches_append did) s.server s.kind ∙ before.0,
          record {
            whole = whole;
            planned = is;
            within = room;
            found = grown None piece;
            there = done ∙ ap (λ file. Some (grown file piece)) before.1;
            front = more_front [] (ap (λ n. take n whole) (sym before.2));
          },
        )
    append_fits {new} (inr stage) did done =
        let before = stood Writing stage in
        let same : before.1.whole ≡ whole = one_whole before.1.whole whole (sym before.1.planned ∙ is) in
        temp_fits new (touches_append did) longer refl refl (
          final_same new (touches_append did) s.server s.kind ∙ before.0,
          record {
            whole = whole;
            planned = is;
            within = room;
            found = grown (Some before.1.found) piece;
            there = done ∙ ap (λ file. Some (grown file piece)) before.1.there;
            front = more_front before.1.found.bytes (before.1.front ∙ ap (take s.length) same);
          },
        )
      where
        one_whole : (a b : List ℕ) → Some (firm_file a) ≡ Some (firm_file b) → a ≡ b
        one_whole a b e = ap disk.bytes_of e
