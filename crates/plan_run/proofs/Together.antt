-- Pieces of several files, put one after another.
use Rattle.std.proofs.Common.{◌≡◌, ◌≢◌, ◌⊎◌, ⊎_elim, inl, inr, ℕ, zero, suc, ◌+◌, ◌<◌, true, false, List, [], ◌∷◌, length, map, get_or, Some, refl, sym, ◌∙◌, ap, subst, arith}
use Rattle.std.specs.Prelude.{slice_get, slice_set, Result, Ok, Err, MatchResult}
use Rattle.image_meaning.specs.Laws.Options.{none_some, some_is}
use Rattle.image_meaning.specs.Laws.Copy.{temp_apart, volumes_apart}
use Rattle.image_meaning.specs.Meaning.{max_volumes}
use Rattle.image_meaning.specs.Share.{Share, share_of, ChangesFew}
use Rattle.site_model.specs.Disk.{Disk, Appends, grown}
use Rattle.site_model.specs.Touches.{Touches, touches_none, touches_on, touches_more, touches_append}
use Rattle.site_model.specs.declared.error.DeviceFault.{DeviceFault}
use Rattle.std.proofs.lemmas.Bool.{cases_eq}
use Rattle.std.proofs.lemmas.Option.{slice_get_read}
use Rattle.world_model.specs.World.{Volume}
use Rattle.file_names.specs.declared.Kind.{Kind}
use Rattle.file_names.specs.declared.Kind.TheVariants.{Idx}
use Rattle.file_names.specs.Names.{place_of}
use Rattle.shard_table.specs.Table.{Row}
use Rattle.plan_steps.specs.declared.plan.Stage.TheVariants.{Absent, Writing}
use Rattle.plan_steps.specs.declared.plan.FileState.{FileState}
use Rattle.plan_steps.specs.declared.step.Step.{Step}
use Rattle.plan_steps.specs.Kept.{Forms}
use Rattle.plan_steps.specs.Runs.{IsTempOf}
use Rattle.plan_steps.specs.Fitting.{AreStates}
use Rattle.plan_steps.specs.Order.{IsUnfinished}
use Rattle.plan_steps.specs.Laws.Run.{temps_keep}
use Rattle.plan_steps.specs.Laws.Way.{way_still, next_still}
use Rattle.plan_steps.specs.Laws.AsTold.{growing_told}
use Rattle.plan_steps.specs.Laws.Progress.{progress_firm, growing_fits}
use Rattle.plan_steps.specs.After.{grown_by, after, PlaceAfter}
use Rattle.plan_steps.specs.Progressing.{Running, IsOnItsWay, FitsProgress}
use Rattle.plan_steps.specs.Stepping.{TriesStep}
use Rattle.plan_run.specs.Growing.{with_states, GrowsTo}
use Rattle.plan_run.specs.Pieces.{IsPiece}
use Rattle.plan_run.specs.Stepping.{Steps}

abbrev Answer : Type 0
Answer = Result (Unit {0}) DeviceFault

-- ---- the front of a list that has changed

-- the members before this place are changed
abbrev pub front_changed : {A : Type 0} → (A → A) → ℕ → List A → List A
front_changed g zero xs = xs
front_changed g (suc n) [] = []
front_changed g (suc n) (x ∷ xs) = g x ∷ front_changed g n xs

pub front_all : {A : Type 0} (g : A → A) (xs : List A) → front_changed g (length xs) xs ≡ map g xs
front_all g [] = refl
front_all g (x ∷ xs) = ap (λ ys. g x ∷ ys) (front_all g xs)

-- the member there is still as it was
pub front_there : {A : Type 0} (g : A → A) (n : ℕ) (xs : List A) → slice_get (front_changed g n xs) n ≡ slice_get xs n
front_there g zero xs = refl
front_there g (suc n) [] = refl
front_there g (suc n) (x ∷ xs) = front_there g n xs

-- once it is changed too, the front is longer by one
pub front_on : {A : Type 0} (g : A → A) (n : ℕ) (xs : List A) (x : A) → slice_get xs n ≡ Some x → slice_set (front_changed g n xs) n (g x) ≡ front_changed g (suc n) xs
front_on g n [] x at = absurd (none_some at)
front_on g zero (y ∷ ys) x at = ap (λ z. g z ∷ ys) (sym (some_is y x at))
front_on g (suc n) (y ∷ ys) x at = ap (λ zs. g y ∷ zs) (front_on g n ys x at)

-- and where it needs no change
pub front_idle : {A : Type 0} (g : A → A) (n : ℕ) (xs : List A) (x : A) → slice_get xs n ≡ Some x → g x ≡ x → front_changed g n xs ≡ front_changed g (suc n) xs
front_idle g n [] x at same = absurd (none_some at)
front_idle g zero (y ∷ ys) x at same = ap (λ z. z ∷ ys) (some_is y x at ∙ sym same ∙ ap g (sym (some_is y x at)))
front_idle g (suc n) (y ∷ ys) x at same = ap (λ zs. g y ∷ zs) (front_idle g n ys x at same)

pub front_long : {A : Type 0} (g : A → A) (n : ℕ) (xs : List A) → length (front_changed g n xs) ≡ length xs
front_long g zero xs = refl
front_long g (suc n) [] = refl
front_long g (suc n) (x ∷ xs) = ap suc (front_long g n xs)

-- the next member, as it is read of the list with a front that has changed
module _ {A : Type 0} (g : A → A) (n : ℕ) (xs ys : List A) (x : A) (is : ys ≡ front_changed g n xs) (short : n < length ys) (read : x ≡ get_or ys n x) where
  pub front_read : slice_get xs n ≡ Some x
  front_read = sym (front_there g n xs) ∙ ap (λ zs. slice_get zs n) (sym is) ∙ slice_get_read ys (length ys) n x refl short read

  pub front_next : slice_set ys n (g x) ≡ front_changed g (n + 1) xs
  front_next =
      let next : suc n ≡ n + 1 = omega arith in
      ap (λ zs. slice_set zs n (g x)) is ∙ front_on g n xs x front_read ∙ ap (λ m. front_changed g m xs) next

pub front_end : {A : Type 0} (g : A → A) (n : ℕ) (xs ys : List A) → ys ≡ front_changed g n xs → n ≡ length xs → ys ≡ map g xs
front_end g n xs ys is whole = is ∙ ap (λ m. front_changed g m xs) whole ∙ front_all g xs

-- ---- calls one after another

pub grows_none : (r : Running) (disk : Disk) → GrowsTo r r.states disk disk
grows_none r disk = record { touches = touches_none disk; told = λ was. was; fits = λ w f row start was. was }

-- an append, whether it succeeds or not
pub appends_temp : (volume : ℕ) (s : FileState) (piece : List ℕ) {old mid new : Disk} → Touches (IsTempOf volume) old mid → Appends (place_of volume s.server s.kind true) piece mid new → Touches (IsTempOf volume) old new
appends_temp volume s piece before did = touches_on before (touches_more (λ k same. (s.server, s.kind, same)) (touches_append did))

-- one more file has its piece
pub grows_on : (r : Running) (below : r.plan.volume < max_volumes) (states : List FileState) (are : AreStates states) (old mid new : Disk) → GrowsTo r states old mid → (j : ℕ) (s : FileState) → slice_get states j ≡ Some s
    → (s.stage ≡ Absent) ⊎ (s.stage ≡ Writing) → s.kind ≢ Idx → (piece : List ℕ)
    → ((w : Volume) (f : Forms) (row : Row) (start : Share) → FitsProgress w f r row start (share_of old.files r.plan.volume) → IsPiece f.parts s piece)
    → Appends (place_of r.plan.volume s.server s.kind true) piece mid new
    → new.files (place_of r.plan.volume s.server s.kind true) ≡ Some (grown (mid.files (place_of r.plan.volume s.server s.kind true)) piece)
    → GrowsTo r (slice_set states j (grown_by (length piece) s)) old new
grows_on r below states are old mid new before j s at begun no_index piece right did done = record {
  touches = appends_temp r.plan.volume s piece before.touches did;
  told = λ was. growing_told r.plan below states are mid new (before.told was) j s at piece begun did done;
  fits = λ w f row start was.
      let now = before.fits w f row start was in
      let is = right w f row start was in
      growing_fits w f (with_states r states) row start mid now j s at begun is.whole is.planned_is piece is.follows is.within r.place
      (next_still (with_states r states) row now.way j s (grown_by (length piece) s) at refl refl f.parts (λ idx. absurd (no_index idx)) now.next) did done;
}

-- the plan is still on its way
pub way_grown : (r : Running) (row : Row) → IsOnItsWay r row → (j : ℕ) (s : FileState) → slice_get r.states j ≡ Some s → (s.stage ≡ Absent) ⊎ (s.stage ≡ Writing) → (n : ℕ)
    → IsOnItsWay (with_states r (slice_set r.states j (grown_by n s))) row
way_grown r row was j s at begun n = way_still r row was j s (grown_by n s) at refl refl unfinished tt
  where
    unfinished : IsUnfinished s.stage
    unfinished = ⊎_elim (λ e. subst IsUnfinished (sym e) tt) (λ e. subst IsUnfinished (sym e) tt) begun

-- ---- what is known of a run on temporary files

module _ (volume : ℕ) (below : volume < max_volumes) where
  -- no file under its final name is changed
  no_final : (q server : ℕ) (kind : Kind) → q < max_volumes → ¬ IsTempOf volume (place_of q server kind false)
  no_final q server kind h (n, c, same) = elim (cases_eq q volume) [
    | inl e ↦ temp_apart volume server n kind c below (subst (λ v. place_of v server kind false ≡ place_of volume n c true) e same)
    | inr other ↦ volumes_apart q volume server n kind c false true h below other same
  ]

  temps_few : {old new : Disk} → Touches (IsTempOf volume) old new → ChangesFew 1 old.files new.files
  temps_few run = record {
    places = [];
    few = omega arith;
    others = λ q server kind h other. run.others (place_of q server kind false) (no_final q server kind h);
  }

pub temps_tried : (r : Running) → r.plan.volume < max_volumes → (old new : Disk) → Touches (IsTempOf r.plan.volume) old new → TriesStep r old new
temps_tried r below old new run = record {
  touches = touches_more (λ k t. (t.0, t.1, true, t.2)) run;
  few = temps_few r.plan.volume below run;
  keeps = λ w f row start fits. temps_keep r.plan below f start old (progress_firm w f r row start (share_of old.files r.plan.volume) fits) fits.fits.kept run;
}

-- ---- the step

-- All files of the step have their pieces: it succeeded. Else nothing is told.
pub grown_steps : (tells : Type 0) (r : Running) (below : r.plan.volume < max_volumes) (by : Step) (taken : ℕ) (s : Running) (old new : Disk) → (result : Answer) → (tells → Touches (IsTempOf r.plan.volume) old new)
    → MatchResult result
    (λ _. (tells → GrowsTo r (map (after r.plan r.place taken by) r.states) old new) × ((row : Row) → IsOnItsWay r row → IsOnItsWay (with_states r (map (after r.plan r.place taken by) r.states)) row)
    × (s ≡ with_states r (map (after r.plan r.place taken by) r.states)) × PlaceAfter r.plan r.place r.place by)
    (λ _. s ≡ r)
    → Steps tells r by s result old new
grown_steps tells r below by taken s old new (Err fault) run same = record { tried = λ t. temps_tried r below old new (run t); taken = tt; same = same }
grown_steps tells r below by taken s old new (Ok value) run (grows, way, is, stays) = subst (λ (x : Running). Steps tells r by x (Ok value) old new) (sym is) (record {
  tried = λ t. temps_tried r below old new (run t);
  taken = record {
    same_plan = refl;
    after = record { taken = taken; files = refl; moves = stays };
    way = λ row onward was places. let on = way row was in record { listed = on.listed; apart = on.apart; reached = on.reached; places = places };
    told = λ t was. (grows t).told was;
    follows = λ t w f row onward start fits places.
        let on = (grows t).fits w f row start fits in
        record {
          below = on.below;
          forms = on.forms;
          begins = on.begins;
          way = record { listed = on.way.listed; apart = on.way.apart; reached = on.way.reached; places = places };
          next = on.next;
          fits = on.fits;
        };
  };
  same = tt;
})
