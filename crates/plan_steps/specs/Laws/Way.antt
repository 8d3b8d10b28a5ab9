-- How a plan's list goes on as one file of it does: its names stay, the place that is reached moves on, and the table tells
-- where the shards stand.
use Rattle.std.proofs.Common.{◌≡◌, ◌≢◌, ◌⊎◌, inl, inr, ⊎_elim, ℕ, zero, suc, ◌/◌, ◌<◌, ◌≤◌, Bool, true, false, List, [], ◌∷◌, length, map, take, Option, Some, None, refl, sym, ◌∙◌, ap, subst, arith}
use Rattle.std.specs.Prelude.{slice_get, slice_set}
use Rattle.std.proofs.lemmas.Bool.{cases_eq, cases_lt}
use Rattle.std.proofs.lemmas.List.{get_or-set_same, get_or-set_other}
use Rattle.image_meaning.specs.Laws.Options.{none_some, some_is}
use Rattle.file_names.specs.declared.Kind.{Kind}
use Rattle.file_names.specs.declared.Kind.TheVariants.{Idx, Shard}
use Rattle.stripe_layout.specs.Stripes.{shards_in_all}
use Rattle.needle_record.specs.Records.{records, end_of}
use Rattle.shard_table.specs.Table.{Row, place_in}
use Rattle.image_meaning.specs.Parts.{Parts}
use Rattle.plan_steps.specs.declared.plan.Plan.{Plan}
use Rattle.plan_steps.specs.declared.plan.Stage.{Stage}
use Rattle.plan_steps.specs.declared.plan.Stage.TheVariants.{Registered, Gone}
use Rattle.plan_steps.specs.declared.plan.FileState.{FileState}
use Rattle.plan_steps.specs.Planned.{joined, is_found}
use Rattle.plan_steps.specs.Fitting.{AreStates, IsOther}
use Rattle.plan_steps.specs.Laws.Fitting.{get_set, get_set_other, was_in, states_on, other_before}
use Rattle.plan_steps.specs.Legal.{IsFound, IsNew, HasFile, FitsPlaces}
use Rattle.plan_steps.specs.Order.{names_of, IsUnfinished, IsReached}
use Rattle.plan_steps.specs.Progressing.{Running, IsOnItsWay, IsNextPlace}

same_shard : (i j : ℕ) → ◌≡◌ {A = Kind} (Shard i) (Shard j) → i ≡ j
same_shard i j e = cc

by_bool : (b : Bool) → (b ≡ true) ⊎ (b ≡ false)
by_bool true = inl refl
by_bool false = inr refl

map_set : {A B : Type 0} (f : A → B) (xs : List A) (j : ℕ) (x y : A) → slice_get xs j ≡ Some x → f y ≡ f x → map f (slice_set xs j y) ≡ map f xs
map_set f [] j x y at same = refl
map_set f (z ∷ xs) zero x y at same = ap (λ b. b ∷ map f xs) (same ∙ ap f (sym (some_is z x at)))
map_set f (z ∷ xs) (suc j) x y at same = ap (λ bs. f z ∷ bs) (map_set f xs j x y at same)

not_registered : (stage : Stage) → IsUnfinished stage → stage ≢ Registered
not_registered stage is e = subst IsUnfinished e is

not_gone : (stage : Stage) → IsUnfinished stage → stage ≢ Gone
not_gone stage is e = subst IsUnfinished e is

module _ (plan : Plan) (states : List FileState) (j : ℕ) (s next : FileState) (at : slice_get states j ≡ Some s) (server : next.server ≡ s.server) (kind : next.kind ≡ s.kind) where
  abbrev moved : List FileState
  moved = slice_set states j next

  pub names_on : names_of moved ≡ names_of states
  names_on = map_set (λ (x : FileState). (x.server, x.kind)) states j s next at (λ i. (server i, kind i))

  -- ---- the place that is reached

  -- a file of the plan that isn't finished is one that it writes
  pub is_new : (n : ℕ) → IsReached plan states n → IsUnfinished s.stage → IsNew plan s.server s.kind
  is_new n reached begun = ⊎_elim (λ found. absurd (by_place found (cases_lt j n))) (λ new. new) (by_bool (is_found plan plan.command s.server s.kind))
    where
      by_place : IsFound plan s.server s.kind → (j < n) ⊎ (n ≤ j) → ⊥
      by_place found (inl before) = not_gone s.stage begun (reached.removed j s at before found)
      by_place found (inr behind) = not_registered s.stage begun (reached.staying j s at behind found)

  -- and one that stands where the plan is, is one that it removes
  pub is_found_here : IsReached plan states j → s.stage ≡ Registered → IsFound plan s.server s.kind
  is_found_here reached stage = ⊎_elim (λ found. found) (λ new. absurd (not_registered s.stage (reached.waiting j s at (omega arith) new) stage)) (by_bool (is_found plan plan.command s.server s.kind))

  next_new : IsNew plan next.server next.kind → IsNew plan s.server s.kind
  next_new new = subst (λ n. IsNew plan n s.kind) server (subst (IsNew plan next.server) kind new)

  next_found : IsFound plan next.server next.kind → IsFound plan s.server s.kind
  next_found found = subst (λ n. IsFound plan n s.kind) server (subst (IsFound plan next.server) kind found)

  -- while the file isn't finished the place stays
  pub reached_still : (n : ℕ) → IsReached plan states n → IsUnfinished s.stage → IsUnfinished next.stage → IsReached plan moved n
  reached_still n reached was is = record {
    written = λ k u e before new. ⊎_elim
        (λ same. absurd (not_registered s.stage was (reached.written j s at (subst (λ m. m < n) same.0 before) (next_new (subst (λ (x : FileState). IsNew plan x.server x.kind) same.1 new)))))
        (λ other. reached.written k u other.1 before new)
        (was_in states j s next at server kind k u e);
    removed = λ k u e before found. ⊎_elim
        (λ same. absurd (not_gone s.stage was (reached.removed j s at (subst (λ m. m < n) same.0 before) (next_found (subst (λ (x : FileState). IsFound plan x.server x.kind) same.1 found)))))
        (λ other. reached.removed k u other.1 before found)
        (was_in states j s next at server kind k u e);
    waiting = λ k u e behind new. ⊎_elim
        (λ same. subst (λ (x : FileState). IsUnfinished x.stage) (sym same.1) is)
        (λ other. reached.waiting k u other.1 behind new)
        (was_in states j s next at server kind k u e);
    staying = λ k u e behind found. ⊎_elim
        (λ same. absurd (not_registered s.stage was (reached.staying j s at (subst (λ m. n ≤ m) same.0 behind) (next_found (subst (λ (x : FileState). IsFound plan x.server x.kind) same.1 found)))))
        (λ other. reached.staying k u other.1 behind found)
        (was_in states j s next at server kind k u e);
  }

  -- a file that is finished in its turn takes the place on
  pub reached_on : IsReached plan states j → (IsNew plan s.server s.kind → next.stage ≡ Registered) → (IsFound plan s.server s.kind → next.stage ≡ Gone) → IsReached plan moved (suc j)
  reached_on reached new_ends found_ends = record {
    written = λ k u e before new. ⊎_elim
        (λ same. ap (λ (x : FileState). x.stage) same.1 ∙ new_ends (next_new (subst (λ (x : FileState). IsNew plan x.server x.kind) same.1 new)))
        (λ other. reached.written k u other.1 (less k before other.0) new)
        (was_in states j s next at server kind k u e);
    removed = λ k u e before found. ⊎_elim
        (λ same. ap (λ (x : FileState). x.stage) same.1 ∙ found_ends (next_found (subst (λ (x : FileState). IsFound plan x.server x.kind) same.1 found)))
        (λ other. reached.removed k u other.1 (less k before other.0) found)
        (was_in states j s next at server kind k u e);
    waiting = λ k u e behind new. ⊎_elim
        (λ same. absurd (omega (arith, behind, same.0)))
        (λ other. reached.waiting k u other.1 (omega (arith, behind)) new)
        (was_in states j s next at server kind k u e);
    staying = λ k u e behind found. ⊎_elim
        (λ same. absurd (omega (arith, behind, same.0)))
        (λ other. reached.staying k u other.1 (omega (arith, behind)) found)
        (was_in states j s next at server kind k u e);
  }
    where
      less : (k : ℕ) → k < suc j → k ≢ j → k < j
      less k before other = ⊎_elim (λ h. h) (λ h. absurd (other (omega (arith, before, h)))) (cases_lt k j)

  -- ---- what stands

  other_on : (n : ℕ) (c : Kind) → IsOther states n c → IsOther moved n c
  other_on n c other i a e same_server same_kind = ⊎_elim
      (λ same. other j s at (sym server ∙ ap (λ (x : FileState). x.server) (sym same.1) ∙ same_server) (sym kind ∙ ap (λ (x : FileState). x.kind) (sym same.1) ∙ same_kind))
      (λ apart. other i a apart.1 same_server same_kind)
      (was_in states j s next at server kind i a e)

  -- a file stands still, unless it is this one and goes
  pub file_on : (n : ℕ) (c : Kind) → (s.stage ≡ Registered → s.server ≡ n → s.kind ≡ c → ⊥) → HasFile plan states n c → HasFile plan moved n c
  file_on n c goes (inl (k, u, e, a, b, stage)) = by_place (cases_eq k j)
    where
      by_place : (k ≡ j) ⊎ (k ≢ j) → HasFile plan moved n c
      by_place (inl same) =
          let is : u ≡ s = some_is u s (sym e ∙ ap (slice_get states) same ∙ at) in
          absurd (goes (ap (λ (x : FileState). x.stage) (sym is) ∙ stage) (ap (λ (x : FileState). x.server) (sym is) ∙ a) (ap (λ (x : FileState). x.kind) (sym is) ∙ b))
      by_place (inr other) = inl (k, u, get_set_other states k j next other ∙ e, a, b, stage)
  file_on n c goes (inr (found, other)) = inr (found, other_on n c other)

  -- and stood before, unless it is this one and came
  pub file_before : (n : ℕ) (c : Kind) → (next.stage ≡ Registered → s.server ≡ n → s.kind ≡ c → ⊥) → HasFile plan moved n c → HasFile plan states n c
  file_before n c comes (inl (k, u, e, a, b, stage)) = ⊎_elim
      (λ same. absurd (comes (ap (λ (x : FileState). x.stage) (sym same.1) ∙ stage) (sym server ∙ ap (λ (x : FileState). x.server) (sym same.1) ∙ a) (sym kind ∙ ap (λ (x : FileState). x.kind) (sym same.1) ∙ b)))
      (λ other. inl (k, u, other.1, a, b, stage))
      (was_in states j s next at server kind k u e)
  file_before n c comes (inr (found, other)) = inr (found, other_before states j s next at server kind n c other)

  -- ---- the table

  -- a file that neither comes nor goes, or is no shard, leaves the places
  pub places_same : (row : Row) → ((i : ℕ) → s.kind ≡ Shard i → (s.stage ≢ Registered) × (next.stage ≢ Registered)) → FitsPlaces plan states row → FitsPlaces plan moved row
  places_same row same fits = record {
    named = λ i n h place. file_on n (Shard i) (λ stage a b. (same i b).0 stage) (fits.named i n h place);
    missing = λ i h place n has. fits.missing i h place n (file_before n (Shard i) (λ stage a b. (same i b).1 stage) has);
    beyond = fits.beyond;
  }

  module _ (row : Row) (i : ℕ) (is_shard : s.kind ≡ Shard i) (fits : FitsPlaces plan states row) where
    other_number : (k n : ℕ) → k ≢ i → s.server ≡ n → s.kind ≡ Shard k → ⊥
    other_number k n other a b = other (same_shard k i (sym b ∙ is_shard))

    -- another shard has its place still
    place_still : (place : Option ℕ) (k : ℕ) → k ≢ i → place_in (slice_set row i place) k ≡ place_in row k
    place_still place k other = get_or-set_other row i k place None other

    module _ (short : i < shards_in_all plan.info.geometry) (place : Option ℕ) where
      beyond_still : (k : ℕ) → shards_in_all plan.info.geometry ≤ k → place_in (slice_set row i place) k ≡ None
      beyond_still k h = place_still place k (λ e. omega (arith, h, short, e)) ∙ fits.beyond k h

    -- a shard came: the table names its server
    pub places_with : i < length row → i < shards_in_all plan.info.geometry → s.stage ≢ Registered → next.stage ≡ Registered → FitsPlaces plan moved (slice_set row i (Some s.server))
    places_with long short was is = record {
      named = λ k n h place. by_number k n h place (cases_eq k i);
      missing = λ k h place n has. by_place k h place n has (cases_eq k i);
      beyond = beyond_still short (Some s.server);
    }
      where
        here : place_in (slice_set row i (Some s.server)) i ≡ Some s.server
        here = get_or-set_same row i (Some s.server) None long

        by_number : (k n : ℕ) → k < shards_in_all plan.info.geometry → place_in (slice_set row i (Some s.server)) k ≡ Some n → (k ≡ i) ⊎ (k ≢ i) → HasFile plan moved n (Shard k)
        by_number k n h place (inl same) =
            let named : s.server ≡ n = some_is s.server n (sym here ∙ ap (place_in (slice_set row i (Some s.server))) (sym same) ∙ place) in
            inl (j, next, get_set states j s next at, server ∙ named, kind ∙ is_shard ∙ ap Shard (sym same), is)
        by_number k n h place (inr other) = file_on n (Shard k) (λ stage a b. was stage) (fits.named k n h (sym (place_still (Some s.server) k other) ∙ place))

        by_place : (k : ℕ) → k < shards_in_all plan.info.geometry → place_in (slice_set row i (Some s.server)) k ≡ None → (n : ℕ) → HasFile plan moved n (Shard k) → (k ≡ i) ⊎ (k ≢ i) → ⊥
        by_place k h place n has (inl same) = none_some (sym place ∙ ap (place_in (slice_set row i (Some s.server))) same ∙ here)
        by_place k h place n has (inr other) =
            fits.missing k h (sym (place_still (Some s.server) k other) ∙ place) n (file_before n (Shard k) (λ stage a b. other_number k n other a b) has)

    -- a shard went, and the table names another server
    pub places_moved : (other : ℕ) → place_in row i ≡ Some other → other ≢ s.server → next.stage ≢ Registered → FitsPlaces plan moved row
    places_moved other there apart gone = record {
      named = λ k n h place. file_on n (Shard k) (λ stage a b. not_this k n place a b) (fits.named k n h place);
      missing = λ k h place n has. fits.missing k h place n (file_before n (Shard k) (λ stage a b. gone stage) has);
      beyond = fits.beyond;
    }
      where
        not_this : (k n : ℕ) → place_in row k ≡ Some n → s.server ≡ n → s.kind ≡ Shard k → ⊥
        not_this k n place a b =
            let same : k ≡ i = same_shard k i (sym b ∙ is_shard) in
            apart (some_is other n (sym there ∙ ap (place_in row) (sym same) ∙ place) ∙ sym a)

    -- or it stands nowhere
    pub places_without : i < length row → i < shards_in_all plan.info.geometry → AreStates states → ((n : ℕ) → HasFile plan states n (Shard i) → n ≡ s.server) → next.stage ≢ Registered → FitsPlaces plan moved (slice_set row i None)
    places_without long short are only gone = record {
      named = λ k n h place. by_number k n h place (cases_eq k i);
      missing = λ k h place n has. by_place k h place n has (cases_eq k i);
      beyond = beyond_still short None;
    }
      where
        here : place_in (slice_set row i None) i ≡ None
        here = get_or-set_same row i None None long

        by_number : (k n : ℕ) → k < shards_in_all plan.info.geometry → place_in (slice_set row i None) k ≡ Some n → (k ≡ i) ⊎ (k ≢ i) → HasFile plan moved n (Shard k)
        by_number k n h place (inl same) = absurd (none_some (sym here ∙ ap (place_in (slice_set row i None)) (sym same) ∙ place))
        by_number k n h place (inr other) = file_on n (Shard k) (λ stage a b. other_number k n other a b) (fits.named k n h (sym (place_still None k other) ∙ place))

        -- it doesn't stand here any more
        not_here : HasFile plan moved s.server (Shard i) → ⊥
        not_here (inl (k, u, e, a, b, stage)) =
            let on = states_on states j s next at server kind are in
            let one : k ≡ j = on.apart k j u next e (get_set states j s next at) (a ∙ sym server) (b ∙ sym is_shard ∙ sym kind) in
            gone (ap (λ (x : FileState). x.stage) (some_is next u (sym (get_set states j s next at) ∙ ap (slice_get moved) (sym one) ∙ e)) ∙ stage)
        not_here (inr (found, other)) = other j next (get_set states j s next at) server (kind ∙ is_shard)

        by_place : (k : ℕ) → k < shards_in_all plan.info.geometry → place_in (slice_set row i None) k ≡ None → (n : ℕ) → HasFile plan moved n (Shard k) → (k ≡ i) ⊎ (k ≢ i) → ⊥
        by_place k h place n has (inl same) =
            let here_has : HasFile plan moved n (Shard i) = subst (λ m. HasFile plan moved n (Shard m)) same has in
            let at_server : n ≡ s.server = only n (file_before n (Shard i) (λ stage a b. gone stage) here_has) in
            not_here (subst (λ m. HasFile plan moved m (Shard i)) at_server here_has)
        by_place k h place n has (inr other) = fits.missing k h (sym (place_still None k other) ∙ place) n (file_before n (Shard k) (λ stage a b. gone stage) has)

-- ---- the whole of it

module _ (r : Running) (row : Row) (way : IsOnItsWay r row) (j : ℕ) (s next : FileState) (at : slice_get r.states j ≡ Some s) (server : next.server ≡ s.server) (kind : next.kind ≡ s.kind) where
  abbrev gone_on : Running
  gone_on = record r { states = slice_set r.states j next }

  -- a file that isn't finished goes on
  pub way_still : IsUnfinished s.stage → IsUnfinished next.stage → IsOnItsWay gone_on row
  way_still was is = record {
    listed = names_on r.plan r.states j s next at server kind ∙ way.listed;
    apart = states_on r.states j s next at server kind way.apart;
    reached = (way.reached.0, reached_still r.plan r.states j s next at server kind way.reached.0 way.reached.1 was is);
    places = places_same r.plan r.states j s next at server kind row (λ i e. (not_registered s.stage was, not_registered next.stage is)) way.places;
  }

  -- a file is finished in its turn, and the table is told
  pub way_on : (onward : Row) → IsReached r.plan r.states j → (IsNew r.plan s.server s.kind → next.stage ≡ Registered) → (IsFound r.plan s.server s.kind → next.stage ≡ Gone)
      → FitsPlaces r.plan (slice_set r.states j next) onward → IsOnItsWay gone_on onward
  way_on onward reached new found places = record {
    listed = names_on r.plan r.states j s next at server kind ∙ way.listed;
    apart = states_on r.states j s next at server kind way.apart;
    reached = (suc j, reached_on r.plan r.states j s next at server kind reached new found);
    places = places;
  }

  -- what doesn't grow the index of a decode leaves the place of the next record
  pub next_still : (t : Parts) → (s.kind ≡ Idx → next.length ≡ s.length) → IsNextPlace t r → IsNextPlace t gone_on
  next_still t same is decode k u e index = ⊎_elim
      (λ here.
      let was : s.kind ≡ Idx = sym kind ∙ ap (λ (x : FileState). x.kind) (sym here.1) ∙ index in
      is decode j s at was ∙ ap (λ n. end_of (take (n / 16) (records (joined t)))) (sym (same was) ∙ ap (λ (x : FileState). x.length) (sym here.1)))
      (λ other. is decode k u other.1 index)
      (was_in r.states j s next at server kind k u e)
