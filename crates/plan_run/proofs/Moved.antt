-- Steps that move one file of a plan.
use Rattle.std.proofs.Common.{◌≡◌, ◌≢◌, ◌⊎◌, inl, inr, ⊎_elim, ℕ, zero, suc, ◌<◌, ◌≤◌, Bool, true, false, List, [], ◌∷◌, length, map, Some, refl, sym, ◌∙◌, ap, subst, arith}
use Rattle.std.specs.Prelude.{if◌then◌else◌, slice_get, slice_set, Result, Ok, Err, MatchResult, IsErr, IfErr, IsErrOf}
use Rattle.std.proofs.lemmas.Bool.{cases_eq, false≢true}
use Rattle.std.proofs.lemmas.List.Elements.{Contains-push}
use Rattle.std.specs.Prelude.{Contains}
use Rattle.image_meaning.specs.Laws.Options.{none_some, some_is}
use Rattle.image_meaning.specs.Laws.Copy.{temp_apart, volumes_apart}
use Rattle.image_meaning.specs.Meaning.{max_volumes}
use Rattle.image_meaning.specs.Share.{Share, share_of, IsOfVolume, ChangesFew}
use Rattle.site_model.specs.Disk.{Place, Disk}
use Rattle.site_model.specs.Counts.{Counts, Rose, HasWriteCause, widest_piece}
use Rattle.site_model.specs.Laws.Count.{later_write, takes_within, takes_write}
use Rattle.site_model.specs.Touches.{Touches, At, touches_more}
use Rattle.site_model.specs.declared.error.DeviceFault.{DeviceFault}
use Rattle.world_model.specs.World.{Volume}
use Rattle.file_names.specs.declared.Kind.{Kind}
use Rattle.file_names.specs.declared.Kind.TheVariants.{Dat, Idx, Vif}
use Rattle.world_model.specs.declared.types.Command.TheVariants.{Decode}
use Rattle.file_names.specs.Names.{place_of}
use Rattle.stripe_layout.specs.Information.{info_text}
use Rattle.shard_table.specs.Table.{Row}
use Rattle.plan_steps.specs.declared.plan.Plan.{Plan}
use Rattle.plan_steps.specs.declared.plan.Progress.{Progress}
use Rattle.plan_steps.specs.declared.plan.Stage.TheVariants.{Absent, Writing, Gone}
use Rattle.plan_steps.specs.declared.plan.Stage.TheVariants as stage
use Rattle.plan_steps.specs.declared.plan.FileState.{FileState}
use Rattle.plan_steps.specs.declared.step.Step.{Step}
use Rattle.plan_steps.specs.declared.step.Step.TheVariants as step
use Rattle.plan_steps.specs.Kept.{Forms}
use Rattle.plan_steps.specs.Runs.{StepKeeps}
use Rattle.plan_steps.specs.Planned.{planned}
use Rattle.plan_steps.specs.Fitting.{AreStates}
use Rattle.plan_steps.specs.Legal.{IsFound, IsNew, FitsPlaces, MayRegister, MayRemove}
use Rattle.plan_steps.specs.Order.{IsUnfinished, IsReached}
use Rattle.plan_steps.specs.Walk.{is_file}
use Rattle.plan_steps.specs.Laws.Walk.{file_is, is_this}
use Rattle.plan_steps.specs.Laws.Way.{way_still, way_on, next_still}
use Rattle.plan_steps.specs.Next.{is_whole}
use Rattle.plan_steps.specs.Legality.{goes_on_behind}
use Rattle.plan_steps.specs.After.{piece_length, grown_by, at_stage, put_whole, appended, after, PlaceAfter}
use Rattle.plan_steps.specs.Laws.Complete.{whole_long, complete_length}
use Rattle.plan_steps.specs.AsTold.{IsPlannedLength}
use Rattle.plan_steps.specs.Progressing.{Running, running, IsOnItsWay, IsNextPlace, FitsProgress}
use Rattle.plan_steps.specs.Stepping.{TriesStep}
use Rattle.plan_run.specs.Faults.{IsBlamed, WritesAt}
use Rattle.plan_run.specs.Finishing.{Tells, Does, IsOfFile, TouchesFile, TouchesTemp, Keeps, Synced, SyncedTold, Registers, Registered, RegisteredTold, Clears, Cleared, ClearedTold}
use Rattle.plan_run.specs.Writing.{Grown, GrownTold, Puts, Put, PutTold}
use Rattle.plan_run.specs.Pieces.{IsPiece}
use Rattle.plan_run.specs.Stepping.{Steps, TakesFew, FailsWriting}

-- ---- the list

-- one member changes where only it passes
set_map : (test : FileState → Bool) (g : FileState → FileState) (states : List FileState) (j : ℕ) (s : FileState) → slice_get states j ≡ Some s → test s ≡ true
    → ((k : ℕ) (u : FileState) → slice_get states k ≡ Some u → test u ≡ true → k ≡ j) → slice_set states j (g s) ≡ map (λ u. if test u then g u else u) states
set_map test g [] j s at passes only = absurd (none_some at)
set_map test g (x ∷ xs) zero s at passes only = λ i. first i ∷ rest xs none i
  where
    here : x ≡ s
    here = some_is x s at

    first : g s ≡ (if test x then g x else x)
    first = ap g (sym here) ∙ ap (λ b. if b then g x else x) (sym (ap test here ∙ passes))

    none : (k : ℕ) (u : FileState) → slice_get xs k ≡ Some u → test u ≡ true → ⊥
    none k u there pass = let clash : suc k ≡ zero = only (suc k) u there pass in omega (arith, clash)

    rest : (ys : List FileState) → ((k : ℕ) (u : FileState) → slice_get ys k ≡ Some u → test u ≡ true → ⊥) → ys ≡ map (λ u. if test u then g u else u) ys
    rest [] no_other = refl
    rest (y ∷ ys) no_other = λ i. same i ∷ rest ys (λ k u there. no_other (suc k) u there) i
      where
        idle : (b : Bool) → test y ≡ b → y ≡ (if b then g y else y)
        idle true pass = absurd (no_other 0 y refl pass)
        idle false other = refl

        same : y ≡ (if test y then g y else y)
        same = idle (test y) refl
set_map test g (x ∷ xs) (suc j) s at passes only = λ i. first i ∷ set_map test g xs j s at passes (λ k u there pass. back k (only (suc k) u there pass)) i
  where
    back : (k : ℕ) → suc k ≡ suc j → k ≡ j
    back k e = omega (arith, e)

    idle : (b : Bool) → test x ≡ b → x ≡ (if b then g x else x)
    idle true pass = let clash : zero ≡ suc j = only 0 x refl pass in absurd (omega (arith, clash))
    idle false other = refl

    first : x ≡ (if test x then g x else x)
    first = idle (test x) refl

pub set_file : (server : ℕ) (kind : Kind) (g : FileState → FileState) (states : List FileState) (j : ℕ) (s : FileState) → AreStates states → slice_get states j ≡ Some s → s.server ≡ server → s.kind ≡ kind
    → slice_set states j (g s) ≡ map (λ u. if is_file server kind u then g u else u) states
set_file server kind g states j s are at a b =
    set_map (is_file server kind) g states j s at (is_this server kind s a b)
    (λ k u there pass. let is = file_is server kind u pass in are.apart k j u s there at (is.0 ∙ sym a) (is.1 ∙ sym b))

-- ---- what is touched

module _ (v : ℕ) (below : v < max_volumes) (s : FileState) where
  not_temp : (q server : ℕ) (kind : Kind) → q < max_volumes → place_of q server kind false ≢ place_of v s.server s.kind true
  not_temp q server kind h same = elim (cases_eq q v) [
    | inl e ↦ temp_apart v server s.server kind s.kind below (subst (λ n. place_of n server kind false ≡ place_of v s.server s.kind true) e same)
    | inr other ↦ volumes_apart q v server s.server kind s.kind false true h below other same
  ]

  file_few : {old new : Disk} → Touches (IsOfFile v s) old new → ChangesFew 1 old.files new.files
  file_few run = record {
    places = place_of v s.server s.kind false ∷ [];
    few = omega arith;
    others = λ q server kind h other. run.others (place_of q server kind false) (⊎_elim
        (λ same. other (subst (λ (k : Place). Contains (k ∷ []) (place_of q server kind false)) same (Contains-push [] (place_of q server kind false))))
        (λ same. not_temp q server kind h same));
  }

  file_touches : {old new : Disk} → Touches (IsOfFile v s) old new → Touches (IsOfVolume v) old new
  file_touches run = touches_more (λ k. ⊎_elim (λ same. (s.server, s.kind, false, same)) (λ same. (s.server, s.kind, true, same))) run

-- ---- one file moves on

-- the table tells the same in another way
other_row : (w : Volume) (f : Forms) (r : Running) (row onward : Row) (start now : Share) → FitsProgress w f r row start now → FitsPlaces r.plan r.states onward → FitsProgress w f r onward start now
other_row w f r row onward start now fits places = record {
  below = fits.below;
  forms = fits.forms;
  begins = fits.begins;
  way = record { listed = fits.way.listed; apart = fits.way.apart; reached = fits.way.reached; places = places };
  next = fits.next;
  fits = fits.fits;
}

abbrev Answer : Type 0
Answer = Result (Unit {0}) DeviceFault

module _ (tells : Type 0) (plan : Plan) (below : plan.volume < max_volumes) (p q : Progress) (are : AreStates p.files.items) (j : ℕ) (s : FileState) (at : slice_get p.files.items j ≡ Some s) (old new : Disk) where
  abbrev r : Running
  r = running plan p

  abbrev m : Running
  m = running plan q

  same_run : {g : FileState → FileState} → Tells j g p q → m ≡ record r { states = slice_set p.files.items j (g s) }
  same_run state = λ i. record { plan = plan; states = state.files s at i; place = state.place i }

  tries : Touches (IsOfFile plan.volume s) old new → ((w : Volume) (f : Forms) (row : Row) (start : Share) → FitsProgress w f r row start (share_of old.files plan.volume) → StepKeeps plan f start old new) → TriesStep r old new
  tries run keeps = record { touches = file_touches plan.volume below s run; few = file_few plan.volume below s run; keeps = keeps }

  as_file : Touches (At (place_of plan.volume s.server s.kind true)) old new → Touches (IsOfFile plan.volume s) old new
  as_file run = touches_more (λ k same. inr same) run

  -- ---- a sync

  module _ (server : ℕ) (kind : Kind) (a : s.server ≡ server) (b : s.kind ≡ kind) (new_file : IsNew plan s.server s.kind) (at_stage_now : s.stage ≡ Writing) (whole : is_whole plan p.place s.length s.kind ≡ true)
      (decode : s.kind ≡ Idx → plan.command ≡ Decode) where
    abbrev SyncDoes : Answer → Type 0
    SyncDoes result = Does (TouchesTemp r j old new) (Keeps r j old new) (Synced r j old new m) (SyncedTold r j old new m) result

    sync_tried : (result : Answer) → SyncDoes result → TriesStep r old new
    sync_tried result did = tries (as_file (did.touches s at)) (λ w f row start fits. did.kept w f row start s fits at)

    pub sync_steps : (result : Answer) → (tells → SyncDoes result) → MatchResult result (λ _. Tells j (at_stage stage.Synced) p q) (λ _. q ≡ p) → Steps tells r (step.Sync server kind) m result old new
    sync_steps (Err fault) did state = record { tried = λ t. sync_tried (Err fault) (did t); taken = tt; same = ap (running plan) state }
    sync_steps (Ok value) did state = record {
      tried = λ t. sync_tried (Ok value) (did t);
      taken = record {
        same_plan = refl;
        after = record { taken = 0; files = state.files s at ∙ set_file server kind (at_stage stage.Synced) p.files.items j s are at a b; moves = state.place };
        way = λ row onward was places.
            let still = way_still r row was j s (at_stage stage.Synced s) at refl refl (subst IsUnfinished (sym at_stage_now) tt) tt in
            subst (λ (x : Running). IsOnItsWay x onward) (sym (same_run state))
            (record { listed = still.listed; apart = still.apart; reached = still.reached; places = subst (λ (x : Running). FitsPlaces plan x.states onward) (same_run state) places });
        told = λ t was. (did t).told s at below are (at_stage_now, whole_long plan p.place s.length s.kind whole) was;
        follows = λ t w f row onward start fits places.
            other_row w f m row onward start (share_of new.files plan.volume)
            ((did t).fitting w f row start s fits at at_stage_now (complete_length w f r row start (share_of old.files plan.volume) fits j s at new_file at_stage_now whole decode)) places;
      };
      same = tt;
    }

  -- ---- a rename to the final name

  module _ (server : ℕ) (kind : Kind) (a : s.server ≡ server) (b : s.kind ≡ kind) (new_file : IsNew plan s.server s.kind) (at_stage_now : s.stage ≡ stage.Synced) (turn : IsReached plan p.files.items j)
      (may : MayRegister plan p.files.items s.server s.kind) where
    abbrev RegisterDoes : Answer → Type 0
    RegisterDoes result = Does (TouchesFile r j old new) (Registers r j old new) (Registered r j old new m) (RegisteredTold r j old new m) result

    register_tried : (result : Answer) → RegisterDoes result → TriesStep r old new
    register_tried result did = tries (did.touches s at) (λ w f row start fits. did.kept w f row start s fits at at_stage_now may)

    pub register_steps : (result : Answer) → (tells → RegisterDoes result) → MatchResult result (λ _. Tells j (at_stage stage.Registered) p q) (λ _. q ≡ p)
        → Steps tells r (step.Register server kind) m result old new
    register_steps (Err fault) did state = record { tried = λ t. register_tried (Err fault) (did t); taken = tt; same = ap (running plan) state }
    register_steps (Ok value) did state = record {
      tried = λ t. register_tried (Ok value) (did t);
      taken = record {
        same_plan = refl;
        after = record { taken = 0; files = state.files s at ∙ set_file server kind (at_stage stage.Registered) p.files.items j s are at a b; moves = state.place };
        way = λ row onward was places. subst (λ (x : Running). IsOnItsWay x onward) (sym (same_run state))
            (way_on r row was j s (at_stage stage.Registered s) at refl refl onward turn (λ _. refl) (λ found. absurd (false≢true (sym new_file ∙ found)))
            (subst (λ (x : Running). FitsPlaces plan x.states onward) (same_run state) places));
        told = λ t was. (did t).told s at below are (at_stage_now, new_file) was;
        follows = λ t w f row onward start fits places. (did t).fitting w f row start s fits at at_stage_now may turn onward places;
      };
      same = tt;
    }

  -- ---- a removal

  module _ (server : ℕ) (kind : Kind) (a : s.server ≡ server) (b : s.kind ≡ kind) (found_file : IsFound plan s.server s.kind) (at_stage_now : s.stage ≡ stage.Registered) (turn : IsReached plan p.files.items j)
      (may : (row : Row) → MayRemove plan p.files.items row s.server s.kind)
      (by : Step) (how : (u : FileState) → after plan p.place 0 by u ≡ (if is_file server kind u then at_stage Gone u else u)) (still : (n : ℕ) → n ≡ p.place → PlaceAfter plan p.place n by) where
    abbrev ClearDoes : Answer → Type 0
    ClearDoes result = Does (TouchesFile r j old new) (Clears r j old new) (Cleared r j old new m) (ClearedTold r j old new m) result

    clear_tried : (result : Answer) → ClearDoes result → TriesStep r old new
    clear_tried result did = tries (did.touches s at) (λ w f row start fits. did.kept w f row start s fits at at_stage_now turn (may row))

    pub clear_steps : (result : Answer) → (tells → ClearDoes result) → MatchResult result (λ _. Tells j (at_stage Gone) p q) (λ _. q ≡ p) → Steps tells r by m result old new
    clear_steps (Err fault) did state = record { tried = λ t. clear_tried (Err fault) (did t); taken = tt; same = ap (running plan) state }
    clear_steps (Ok value) did state = record {
      tried = λ t. clear_tried (Ok value) (did t);
      taken = record {
        same_plan = refl;
        after = record {
          taken = 0;
          files = state.files s at ∙ set_file server kind (at_stage Gone) p.files.items j s are at a b ∙ λ i. map (λ u. sym (how u) i) p.files.items;
          moves = still q.place state.place;
        };
        way = λ row onward was places. subst (λ (x : Running). IsOnItsWay x onward) (sym (same_run state))
            (way_on r row was j s (at_stage Gone s) at refl refl onward turn (λ new. absurd (false≢true (sym new ∙ found_file))) (λ _. refl)
            (subst (λ (x : Running). FitsPlaces plan x.states onward) (same_run state) places));
        told = λ t was. (did t).told s at below are found_file was;
        follows = λ t w f row onward start fits places. (did t).fitting w f row start s fits at at_stage_now turn (may row) onward places;
      };
      same = tt;
    }

  -- ---- a text that is written whole

  module _ (server : ℕ) (a : s.server ≡ server) (b : s.kind ≡ Vif) (new_file : IsNew plan s.server s.kind) (at_stage_now : s.stage ≡ Absent) (turn : IsReached plan p.files.items j)
      (text : List ℕ) (is : text ≡ info_text plan.info) where
    abbrev PutDoes : Answer → Type 0
    PutDoes result = Does (TouchesFile r j old new) (Puts r j text old new) (Put r j text old new m) (PutTold r j text old new m) result

    may : MayRegister plan p.files.items s.server s.kind
    may = subst (MayRegister plan p.files.items s.server) (sym b) tt

    planned_text : (w : Volume) (f : Forms) (row : Row) (start now : Share) → FitsProgress w f r row start now → planned f.parts s.kind ≡ Some text
    planned_text w f row start now fits = subst (λ c. planned f.parts c ≡ Some text) (sym b) (ap (λ info. Some (info_text info)) fits.begins.tells.info ∙ ap Some (sym is))

    put_tried : (result : Answer) → PutDoes result → TriesStep r old new
    put_tried result did = tries (did.touches s at)
        (λ w f row start fits. did.kept w f row start s fits at at_stage_now (planned_text w f row start (share_of old.files plan.volume) fits) may)

    not_index : s.kind ≡ Idx → ⊥
    not_index idx = let clash : ◌≡◌ {A = Kind} Vif Idx = sym b ∙ idx in cc

    pub put_steps : (result : Answer) → (tells → PutDoes result) → MatchResult result (λ _. Tells j (put_whole (length text)) p q) (λ _. q ≡ p) → Steps tells r (step.PutInfo server) m result old new
    put_steps (Err fault) did state = record { tried = λ t. put_tried (Err fault) (did t); taken = tt; same = ap (running plan) state }
    put_steps (Ok value) did state = record {
      tried = λ t. put_tried (Ok value) (did t);
      taken = record {
        same_plan = refl;
        after = record {
          taken = 0;
          files = state.files s at ∙ set_file server Vif (put_whole (length text)) p.files.items j s are at a b
              ∙ ap (λ n. map (λ u. if is_file server Vif u then put_whole n u else u) p.files.items) (ap length is);
          moves = state.place;
        };
        way = λ row onward was places. subst (λ (x : Running). IsOnItsWay x onward) (sym (same_run state))
            (way_on r row was j s (put_whole (length text) s) at refl refl onward turn (λ _. refl) (λ found. absurd (false≢true (sym new_file ∙ found)))
            (subst (λ (x : Running). FitsPlaces plan x.states onward) (same_run state) places));
        told = λ t was. (did t).told s at below are (new_file, subst (IsPlannedLength plan (length text)) (sym b) (ap length is)) was;
        follows = λ t w f row onward start fits places.
            (did t).fitting w f row start s fits at at_stage_now (planned_text w f row start (share_of old.files plan.volume) fits) may turn onward places q.place
            (subst (IsNextPlace f.parts) (sym (same_run state)) (next_still r row fits.way j s (put_whole (length text) s) at refl refl f.parts (λ idx. absurd (not_index idx)) fits.next));
      };
      same = tt;
    }

  -- ---- a piece of one file

  module _ (by : Step) (taken : ℕ) (piece : List ℕ) (begun : (s.stage ≡ Absent) ⊎ (s.stage ≡ Writing)) (count : piece_length plan taken s.length by ≡ length piece) (goes : goes_on_behind plan p.place by s ≡ true)
      (only : (k : ℕ) (u : FileState) → slice_get p.files.items k ≡ Some u → goes_on_behind plan p.place by u ≡ true → k ≡ j)
      (right : tells → (w : Volume) (f : Forms) (row : Row) (start : Share) → FitsProgress w f r row start (share_of old.files plan.volume) → IsPiece f.parts s piece)
      (no_index : s.kind ≢ Idx) (how : (u : FileState) → after plan p.place taken by u ≡ appended plan p.place taken by u) (still : (n : ℕ) → n ≡ p.place → PlaceAfter plan p.place n by) where
    abbrev GrowDoes : Answer → Type 0
    GrowDoes result = Does (TouchesTemp r j old new) (Keeps r j old new) (Grown r j piece old new m) (GrownTold r j old new m) result

    grow_tried : (result : Answer) → GrowDoes result → TriesStep r old new
    grow_tried result did = tries (as_file (did.touches s at)) (λ w f row start fits. did.kept w f row start s fits at)

    unfinished : IsUnfinished s.stage
    unfinished = ⊎_elim (λ e. subst IsUnfinished (sym e) tt) (λ e. subst IsUnfinished (sym e) tt) begun

    pub grow_steps : (result : Answer) → (tells → GrowDoes result) → MatchResult result (λ _. Tells j (grown_by (length piece)) p q) (λ _. q ≡ p) → Steps tells r by m result old new
    grow_steps (Err fault) did state = record { tried = λ t. grow_tried (Err fault) (did t); taken = tt; same = ap (running plan) state }
    grow_steps (Ok value) did state = record {
      tried = λ t. grow_tried (Ok value) (did t);
      taken = record {
        same_plan = refl;
        after = record {
          taken = taken;
          files = state.files s at ∙ ap (λ n. slice_set p.files.items j (grown_by n s)) (sym count)
              ∙ set_map (goes_on_behind plan p.place by) (λ u. grown_by (piece_length plan taken u.length by) u) p.files.items j s at goes only ∙ λ i. map (λ u. sym (how u) i) p.files.items;
          moves = still q.place state.place;
        };
        way = λ row onward was places.
            let on = way_still r row was j s (grown_by (length piece) s) at refl refl unfinished tt in
            subst (λ (x : Running). IsOnItsWay x onward) (sym (same_run state))
            (record { listed = on.listed; apart = on.apart; reached = on.reached; places = subst (λ (x : Running). FitsPlaces plan x.states onward) (same_run state) places });
        told = λ t was. (did t).told s at below are begun was;
        follows = λ t w f row onward start fits places.
            let is = right t w f row start fits in
            other_row w f m row onward start (share_of new.files plan.volume)
            ((did t).fitting w f row start s fits at begun is.whole is.planned_is is.follows is.within q.place
            (subst (IsNextPlace f.parts) (sym (same_run state)) (next_still r row fits.way j s (grown_by (length piece) s) at refl refl f.parts (λ idx. absurd (no_index idx)) fits.next))) places;
      };
      same = tt;
    }

    -- the same of these bytes by another name
    pub grow_steps_of : (bytes : List ℕ) → bytes ≡ piece → (result : Answer) → (tells → Does (TouchesTemp r j old new) (Keeps r j old new) (Grown r j bytes old new m) (GrownTold r j old new m) result)
        → MatchResult result (λ _. Tells j (grown_by (length bytes)) p q) (λ _. q ≡ p) → Steps tells r by m result old new
    grow_steps_of bytes e result did state = grow_steps result
        (λ t. subst (λ (x : List ℕ). Does (TouchesTemp r j old new) (Keeps r j old new) (Grown r j x old new m) (GrownTold r j old new m) result) e (did t))
        (subst (λ (x : List ℕ). MatchResult result (λ _. Tells j (grown_by (length x)) p q) (λ _. q ≡ p)) e state)

-- the files of a plain volume go by a step of their own
module _ {tells : Type 0} {r m : Running} {server : ℕ} {old new : Disk} where
  pub drops_index : (result : Answer) → Steps tells r (step.Unregister server Idx) m result old new → Steps tells r (step.DropIndex server) m result old new
  drops_index (Err fault) did = record { tried = did.tried; taken = tt; same = did.same }
  drops_index (Ok value) did = record {
    tried = did.tried;
    taken = record {
      same_plan = did.taken.same_plan;
      after = record { taken = did.taken.after.taken; files = did.taken.after.files; moves = did.taken.after.moves };
      way = did.taken.way;
      told = did.taken.told;
      follows = did.taken.follows;
    };
    same = tt;
  }

  pub drops_data : (result : Answer) → Steps tells r (step.Unregister server Dat) m result old new → Steps tells r (step.DropData server) m result old new
  drops_data (Err fault) did = record { tried = did.tried; taken = tt; same = did.same }
  drops_data (Ok value) did = record {
    tried = did.tried;
    taken = record {
      same_plan = did.taken.same_plan;
      after = record { taken = did.taken.after.taken; files = did.taken.after.files; moves = did.taken.after.moves };
      way = did.taken.way;
      told = did.taken.told;
      follows = did.taken.follows;
    };
    same = tt;
  }

-- ---- calls

module _ {A S : Type 0} {counts : S → Counts} {count : S → ℕ} {old new : S} where
  pub blamed_few : {server calls width : ℕ} (result : Result A DeviceFault) → IsBlamed counts count server calls width result old new → calls ≤ 64 → width ≤ widest_piece → TakesFew counts count result old new
  blamed_few result blamed more wide = record {
    takes = takes_within more wide blamed.takes;
    runs = record {
      later = blamed.runs.later;
      failed = λ told is. rose told result is blamed.runs.failed blamed.blame;
      says = blamed.runs.says;
      servers = blamed.runs.servers;
      no_wider = blamed.runs.no_wider;
    };
  }
    where
      rose : {server : ℕ} (told : ℕ) (o : Result A DeviceFault) → IsErrOf o (record { server = told }) → (IsErr o → Rose ((counts old).faults server) ((counts new).faults server))
          → IfErr o (λ fault. fault.server ≡ server) → Rose ((counts old).faults told) ((counts new).faults told)
      rose told (Ok value) is failed blame = cc
      rose {server} told (Err fault) is failed blame =
          let here : server ≡ told = sym blame ∙ server_of fault (record { server = told }) is in
          subst (λ n. Rose ((counts old).faults n) ((counts new).faults n)) here (failed refl)
        where
          server_of : (x y : DeviceFault) → ◌≡◌ {A = Result A DeviceFault} (Err x) (Err y) → x.server ≡ y.server
          server_of x y e = cc

pub wrote : {A S : Type 0} (counts : S → Counts) (old new : S) {server : ℕ} (result : Result A DeviceFault) → HasWriteCause server (counts old) (counts new) (IsErr result) → IfErr result (λ fault. fault.server ≡ server)
    → FailsWriting counts result old new
wrote counts old new (Ok value) cause blame = tt
wrote counts old new (Err fault) cause blame = subst (λ n. Rose ((counts old).write_faults n) ((counts new).write_faults n)) (sym blame) (cause.failed refl)

-- one call that writes
pub writes_few : {A S : Type 0} {counts : S → Counts} {count : S → ℕ} {old new : S} {server width : ℕ} (result : Result A DeviceFault) → WritesAt counts count server width result old new → width ≤ widest_piece
    → TakesFew counts count result old new
writes_few result did narrow = blamed_few result (record {
  takes = takes_write did.counted;
  runs = record {
    later = later_write did.counted;
    others = did.counted.others;
    failed = did.counted.failed;
    says = did.counted.says;
    servers = did.servers;
    no_wider = omega (arith, did.counted.widest, narrow);
  };
  blame = did.blame;
}) (omega arith) narrow

pub writes_wrote : {A S : Type 0} (counts : S → Counts) (count : S → ℕ) (old new : S) {server width : ℕ} (result : Result A DeviceFault) → WritesAt counts count server width result old new → FailsWriting counts result old new
writes_wrote counts count old new result did = wrote counts old new result (record { later = did.counted.writes_later; others = did.counted.writes_others; failed = did.counted.writes_failed }) did.blame
