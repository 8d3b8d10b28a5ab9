-- A table that is told a place.
use Rattle.std.proofs.Common.{◌≡◌, ◌≢◌, inl, ℕ, ◌<◌, Bool, true, false, cond, List, map, Option, None, Some, refl, sym, ◌∙◌, ap, subst, arith}
use Rattle.std.specs.Prelude.{if◌then◌else◌, slice_set, IfNone, IfSome}
use Rattle.std.specs.Ordering.{nat_cmp, eq_by_cmp, is_eq}
use Rattle.std.specs.declared.cmp.Ordering.{Ordering}
use Rattle.std.specs.declared.cmp.Ordering.TheVariants.{Less, Equal, Greater}
use Rattle.std.specs.FinMap.{nat_cmp-IsAntisymmetric}
use Rattle.std.proofs.lemmas.Bool.{false≢true}
use Rattle.std.proofs.lemmas.Cmp.{nat_cmp_total, tied_itself}
use Rattle.world_model.specs.Ratios.{counts-sixteen}
use Rattle.file_names.specs.declared.Kind.{Kind}
use Rattle.file_names.specs.declared.Kind.TheVariants.{Shard}
use Rattle.file_names.specs.Names.{IsKind}
use Rattle.stripe_layout.specs.Stripes.{shards_in_all}
use Rattle.shard_table.specs.Table.{IsAdded, Row, Table, row_of, with_place}
use Rattle.shard_table.specs.Laws.Table.{row_of-with_place, IsAdded-with_place}
use Rattle.plan_steps.specs.declared.plan.Stage.{Stage}
use Rattle.plan_steps.specs.declared.plan.Stage.TheVariants.{Registered}
use Rattle.plan_steps.specs.declared.plan.FileState.{FileState}
use Rattle.plan_steps.specs.declared.step.Step.{Step}
use Rattle.plan_steps.specs.Fitting.{AreStates}
use Rattle.plan_steps.specs.Laws.Fitting.{get_set, states_on}
use Rattle.plan_steps.specs.Legal.{HasFile, FitsPlaces}
use Rattle.plan_steps.specs.Order.{names_of}
use Rattle.plan_steps.specs.Lists.{list_of}
use Rattle.plan_steps.specs.Plans.{IsPlan}
use Rattle.plan_steps.specs.Laws.Way.{names_on}
use Rattle.plan_steps.specs.Walk.{is_file, has_file}
use Rattle.plan_steps.specs.Laws.Walk.{has_file-is, has_file-true}
use Rattle.plan_steps.specs.After.{at_stage, after, IsAfter}
use Rattle.plan_steps.specs.AsTold.{IsPlannedKind}
use Rattle.plan_steps.specs.Laws.Within.{planned_named, state_within, file_within}
use Rattle.plan_steps.specs.Laws.Places.{places_told}
use Rattle.plan_steps.specs.Progressing.{Running, IsOnItsWay}
use Rattle.plan_steps.specs.Stepping.{HasTurn, IsPlaceOf}
use Rattle.plan_run.specs.Places.{HasTable, TellsPlace, TellsTable}
use Rattle.plan_run.proofs.Moved.{set_file}

equal : (o : Ordering) → is_eq o ≡ true → o ≡ Equal
equal Less e = absurd (false≢true e)
equal Equal e = refl
equal Greater e = absurd (false≢true e)

by_test : {A : Type 0} (b c : Bool) (x y : A) → b ≡ c → cond b x y ≡ cond c x y
by_test b c x y e = ap (λ t. cond t x y) e

pub tells_shard : (old new : Table) (volume i : ℕ) (place : Option ℕ) → new ≡ with_place old volume i place → TellsPlace volume (Shard i) place old new
tells_shard old new volume i place is = record {
  row = ap (λ t. row_of t volume) is ∙ row_of-with_place old volume i place volume ∙ by_test (eq_by_cmp nat_cmp volume volume) true (slice_set (row_of old volume) i place) (row_of old volume) (ap is_eq (tied_itself nat_cmp_total volume));
  others = λ other apart. ap (λ t. row_of t other) is ∙ row_of-with_place old volume i place other
      ∙ by_test (eq_by_cmp nat_cmp other volume) false (slice_set (row_of old volume) i place) (row_of old other) (not_same other apart (eq_by_cmp nat_cmp other volume) refl);
  added = λ other h. subst (λ t. IsAdded t other) (sym is) (IsAdded-with_place old volume i place other h);
  servers = ap (λ (t : Table). t.servers) is;
}
  where
    not_same : (other : ℕ) → other ≢ volume → (b : Bool) → eq_by_cmp nat_cmp other volume ≡ b → b ≡ false
    not_same other apart true e = absurd (apart (nat_cmp-IsAntisymmetric other volume (equal (nat_cmp other volume) e)))
    not_same other apart false e = refl

-- ---- the places of the plan's shards

module _ (r s : Running) (servers : ℕ) (of_plan : IsPlan r.plan servers) (on_its_way : (row : Row) × IsOnItsWay r row) (step : Step) (server : ℕ) (kind : Kind) (stage now : Stage) (due : HasTurn r server kind stage)
    (after_step : IsAfter r.plan step r.states r.place s.states s.place)
    (how : (taken : ℕ) (u : FileState) → after r.plan r.place taken step u ≡ (if is_file server kind u then at_stage now u else u))
    (old new : Table) (table : HasTable r servers old) where
  abbrev next : FileState
  next = at_stage now due.file

  are : AreStates r.states
  are = on_its_way.1.apart

  onward : s.states ≡ slice_set r.states due.at next
  onward = after_step.files ∙ (λ i. map (λ u. how after_step.taken u i) r.states) ∙ sym (set_file server kind (at_stage now) r.states due.at due.file are due.there due.server_is due.kind_is)

  listed_on : names_of s.states ≡ list_of r.plan
  listed_on = ap names_of onward ∙ names_on r.plan r.states due.at due.file next due.there refl refl ∙ on_its_way.1.listed

  apart_on : AreStates s.states
  apart_on = subst AreStates (sym onward) (states_on r.states due.at due.file next due.there refl refl are)

  short : (i : ℕ) → kind ≡ Shard i → i < shards_in_all r.plan.info.geometry
  short i e = subst (IsPlannedKind r.plan) (due.kind_is ∙ e) (state_within r.plan servers of_plan r.states on_its_way.1.listed due.at due.file due.there).1

  pub tells_table : (place : Option ℕ) → TellsPlace r.plan.volume kind place old new → ((i : ℕ) → kind ≡ Shard i → IsPlaceOf r.plan s.states i place) → TellsTable r s old new
  tells_table place told now_there = record {
    fits = subst (λ (x : List FileState × Row). FitsPlaces r.plan x.0 x.1) (λ i. (sym onward i, sym told.row i))
        (places_told r.plan r.states due.at due.file next due.there refl refl (row_of old r.plan.volume) table.fits kind due.kind_is place
        (λ i e. (
          omega (arith, short i e, table.long, counts-sixteen r.plan.info.geometry.ratio),
          short i e,
          subst (λ states. IsPlaceOf r.plan states i place) onward (now_there i e),
        )));
    others = told.others;
    added = told.added;
    servers = told.servers;
  }

  -- where it got its name
  pub named_there : now ≡ Registered → (i : ℕ) → kind ≡ Shard i → IsPlaceOf r.plan s.states i (Some server)
  named_there is i e = subst (λ states. HasFile r.plan states server (Shard i)) (sym onward)
      (inl (due.at, next, get_set r.states due.at due.file next due.there, due.server_is, due.kind_is ∙ e, is))

  -- or at the lowest server that has it
  pub held_there : (place : Option ℕ) → IfSome place (λ n. has_file r.plan s.states n kind ≡ true) → IfNone place ((n : ℕ) → n < servers → has_file r.plan s.states n kind ≡ false) → (i : ℕ) → kind ≡ Shard i → IsPlaceOf r.plan s.states i place
  held_there None has none i e = λ n stands.
      let below = (file_within r.plan servers of_plan s.states listed_on n i stands).0 in
      false≢true (sym (none n below) ∙ ap (has_file r.plan s.states n) e ∙ has_file-is r.plan s.states n (Shard i) apart_on stands)
  held_there (Some n) has none i e = has_file-true r.plan s.states n (Shard i) (sym (ap (has_file r.plan s.states n) e) ∙ has)

  -- the file's server and kind
  pub due_server : server < servers
  due_server = subst (λ n. n < servers) due.server_is (state_within r.plan servers of_plan r.states on_its_way.1.listed due.at due.file due.there).0

  pub due_kind : IsKind kind
  due_kind = planned_named r.plan kind (subst (IsPlannedKind r.plan) due.kind_is (state_within r.plan servers of_plan r.states on_its_way.1.listed due.at due.file due.there).1)
