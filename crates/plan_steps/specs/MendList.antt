-- The list of a rebuild or a balance, and where it takes the shards.
use Rattle.std.proofs.Common.{◌≡◌, ◌≢◌, ◌⊎◌, inl, inr, ⊎_elim, ℕ, zero, suc, ◌+◌, ◌<◌, ◌≤◌, Bool, true, false, cond, List, [], ◌∷◌, ◌++◌, Option, Some, None, is_some, refl, sym, ◌∙◌, ap, subst, arith}
use Rattle.std.specs.Prelude.{◌||◌, ◌&&◌, ◌==◌, not, if◌then◌else◌, filter, flat_map}
use Rattle.std.specs.List.{range_with_len}
use Rattle.std.proofs.lemmas.Bool.{cases_eq, cases_lt, and_parts, and_from, eq-eqb, eqb-true, ne_eqb, false≢true}
use Rattle.image_meaning.specs.Laws.Options.{none_some}
use Rattle.world_model.specs.Ratios.{counts-sixteen}
use Rattle.file_names.specs.declared.Kind.{Kind}
use Rattle.file_names.specs.declared.Kind.TheVariants.{Shard, Ecx, Ecj, Vif}
use Rattle.stripe_layout.specs.Stripes.{shards_in_all}
use Rattle.shard_table.specs.Table.{Row, place_in}
use Rattle.shard_table.specs.Even.{count_on}
use Rattle.shard_table.specs.declared.moves.ShardMove.{ShardMove}
use Rattle.image_meaning.specs.Files.{all_servers}
use Rattle.site_model.specs.Counts.{max_servers}
use Rattle.plan_steps.specs.declared.plan.Plan.{Plan}
use Rattle.plan_steps.specs.Planned.{held, placed, is_at}
use Rattle.plan_steps.specs.Lists.{is_target, shard_names, beside_names, move_names, mend_names}
use Rattle.plan_steps.specs.Plans.{all_numbers, place_if, missing_of, filled, AreFilled, IsPlaced}
use Rattle.plan_steps.specs.Members.{Has, has_left, has_right, has_either, has_map, map_has, has_flat, flat_has, has_filter, filter_has, has_range, range_has, has_any, any_has}
use Rattle.plan_steps.specs.Laws.Move.{HaveFew, IsFilled, IsPassed, Rises, AreMissing, fill_fate, filled_few, filled_some, filled_within, got_filled}

kind_shard : (i j : ℕ) → ◌≡◌ {A = Kind} (Shard i) (Shard j) → i ≡ j
kind_shard i j e = cc

-- ---- the shards that the plan found

module _ (plan : Plan) (servers : ℕ) (row : Row) (is : IsPlaced servers plan row) where
  abbrev all : ℕ
  all = shards_in_all plan.info.geometry

  -- a place of the row is one of a shard of the ratio
  pub place_short : (i s : ℕ) → place_in row i ≡ Some s → i < all
  place_short i s e = ⊎_elim (λ less. less) (λ beyond. absurd (none_some (sym (is.beyond i beyond) ∙ e))) (cases_lt i all)

  pub place_listed : (i s : ℕ) → place_in row i ≡ Some s → Has plan.places.items (i, s)
  place_listed i s e = subst (λ (ps : List (ℕ × ℕ)). Has ps (i, s)) (sym is.places)
      (has_flat (λ i. place_if i (place_in row i)) (all_numbers plan.info.geometry) i (i, s) (has_range 0 all i (omega arith) (omega (arith, place_short i s e)))
      (subst (λ (o : Option ℕ). Has (place_if i o) (i, s)) (sym e) (inl refl)))

  listed_place : (i s : ℕ) → Has plan.places.items (i, s) → place_in row i ≡ Some s
  listed_place i s has =
      let found = flat_has (λ i. place_if i (place_in row i)) (all_numbers plan.info.geometry) (i, s) (subst (λ (ps : List (ℕ × ℕ)). Has ps (i, s)) is.places has) in
      by_place found.0 (place_in row found.0) refl found.2
    where
      by_place : (j : ℕ) (o : Option ℕ) → place_in row j ≡ o → Has (place_if j o) (i, s) → place_in row i ≡ Some s
      by_place j None e has = absurd has
      by_place j (Some t) e (inl same) = ap (place_in row) (ap (λ (p : ℕ × ℕ). p.0) (sym same)) ∙ e ∙ ap Some (ap (λ (p : ℕ × ℕ). p.1) same)
      by_place j (Some t) e (inr none) = absurd none

  at_itself : (i s : ℕ) → is_at i s (i, s) ≡ true
  at_itself i s = and_from (i == i) (s == s) (eq-eqb i i refl) (eq-eqb s s refl)

  pub place_found : (i s : ℕ) → place_in row i ≡ Some s → placed plan i s ≡ true
  place_found i s e = has_any (is_at i s) plan.places.items (i, s) (place_listed i s e) (at_itself i s)

  pub found_place : (i s : ℕ) → placed plan i s ≡ true → place_in row i ≡ Some s
  found_place i s e =
      let found = any_has (is_at i s) plan.places.items e in
      let both = and_parts (found.0.0 == i) (found.0.1 == s) found.2 in
      listed_place i s (subst (Has plan.places.items) (λ k. (eqb-true found.0.0 i both.0 k, eqb-true found.0.1 s both.1 k)) found.1)

  pub place_held : (i s : ℕ) → place_in row i ≡ Some s → held plan s ≡ true
  place_held i s e = has_any (λ (p : ℕ × ℕ). p.1 == s) plan.places.items (i, s) (place_listed i s e) (eq-eqb s s refl)

  pub held_place : (s : ℕ) → held plan s ≡ true → (i : ℕ) × (place_in row i ≡ Some s)
  held_place s e =
      let found = any_has (λ (p : ℕ × ℕ). p.1 == s) plan.places.items e in
      (found.0.0, listed_place found.0.0 s (subst (λ q. Has plan.places.items (found.0.0, q)) (eqb-true found.0.1 s found.2) found.1))

-- ---- the targets

-- What the targets do with the row, of a rebuild as of a balance, which has none.
pub record Fills (servers : ℕ) (plan : Plan) (row : Row) : Type 0 where
  pub fate : (i : ℕ) → IsFilled row plan.targets.items i ⊎ IsPassed row plan.targets.items i
  pub few : HaveFew servers (filled row plan.targets.items) (got_filled plan.targets.items)
  pub some : (s : ℕ) → 1 ≤ count_on row s → 1 ≤ count_on (filled row plan.targets.items) s
  pub within : (i s : ℕ) → Has plan.targets.items (i, s) → s < servers
  pub short : (i s : ℕ) → Has plan.targets.items (i, s) → i < shards_in_all plan.info.geometry

pub filter_rises : (test : ℕ → Bool) (a n : ℕ) → Rises (filter test (range_with_len a n))
filter_rises test a zero = tt
filter_rises test a (suc n) = by_test (test a) (filter_rises test (a + 1) n)
  where
    by_test : (b : Bool) → Rises (filter test (range_with_len (a + 1) n)) → Rises (cond b (a ∷ filter test (range_with_len (a + 1) n)) (filter test (range_with_len (a + 1) n)))
    by_test true rest = ((λ j has. let from = (range_has (a + 1) n j (filter_has test (range_with_len (a + 1) n) j has).0).0 in omega (arith, from)), rest)
    by_test false rest = rest

not_true : (b : Bool) → not b ≡ true → b ≡ false
not_true true e = absurd (false≢true e)
not_true false e = refl

none_if : (o : Option ℕ) → is_some o ≡ false → o ≡ None
none_if None e = refl
none_if (Some s) e = absurd (false≢true (sym e))

module _ (plan : Plan) (servers : ℕ) (row : Row) (is : IsPlaced servers plan row) where
  missing_are : AreMissing row (missing_of plan.info.geometry row)
  missing_are j has =
      let found = filter_has (λ i. not (is_some (place_in row i))) (all_numbers plan.info.geometry) j has in
      (none_if (place_in row j) (not_true (is_some (place_in row j)) found.1), omega (arith, (range_has 0 (shards_in_all plan.info.geometry) j found.0).1, is.is_row.shards, counts-sixteen plan.info.geometry.ratio))

  missing_rise : Rises (missing_of plan.info.geometry row)
  missing_rise = filter_rises (λ i. not (is_some (place_in row i))) 0 (shards_in_all plan.info.geometry)

  no_got : HaveFew servers row (λ s. false)
  no_got = record { few = λ s t e below. absurd (false≢true e) }

  -- of a rebuild
  module _ (are : AreFilled servers row (missing_of plan.info.geometry row) plan.targets.items) where
    rebuild_fate : (i : ℕ) → (IsFilled row plan.targets.items i × Has (missing_of plan.info.geometry row) i) ⊎ (IsPassed row plan.targets.items i × (Has (missing_of plan.info.geometry row) i → ⊥))
    rebuild_fate i = fill_fate servers (missing_of plan.info.geometry row) plan.targets.items row are missing_rise missing_are i

    pub rebuild_fills : Fills servers plan row
    rebuild_fills = record {
      fate = λ i. ⊎_elim (λ filled. inl filled.0) (λ passed. inr passed.0) (rebuild_fate i);
      few = filled_few servers (missing_of plan.info.geometry row) plan.targets.items row (λ s. false) are missing_rise missing_are no_got;
      some = filled_some servers (missing_of plan.info.geometry row) plan.targets.items row are missing_rise missing_are;
      within = filled_within servers (missing_of plan.info.geometry row) plan.targets.items row are;
      short = λ i s has. ⊎_elim
          (λ filled. omega (arith, (range_has 0 (shards_in_all plan.info.geometry) i (filter_has (λ i. not (is_some (place_in row i))) (all_numbers plan.info.geometry) i filled.1).0).1))
          (λ passed. absurd (passed.0.none s has))
          (rebuild_fate i);
    }

    -- after it each shard has a place
    pub rebuild_full : (i : ℕ) → i < shards_in_all plan.info.geometry → (s : ℕ) × (place_in (filled row plan.targets.items) i ≡ Some s)
    rebuild_full i h = ⊎_elim
        (λ filled. (filled.0.server, filled.0.placed))
        (λ passed. by_place (place_in row i) refl passed.0 passed.1)
        (rebuild_fate i)
      where
        by_place : (o : Option ℕ) → place_in row i ≡ o → IsPassed row plan.targets.items i → (Has (missing_of plan.info.geometry row) i → ⊥) → (s : ℕ) × (place_in (filled row plan.targets.items) i ≡ Some s)
        by_place (Some s) e passed none = (s, passed.same ∙ e)
        by_place None e passed none = absurd (none (has_filter (λ i. not (is_some (place_in row i))) (all_numbers plan.info.geometry) i
            (has_range 0 (shards_in_all plan.info.geometry) i (omega arith) (omega (arith, h))) (ap (λ o. not (is_some o)) e)))

  -- of a balance
  pub balance_fills : plan.targets.items ≡ [] → Fills servers plan row
  balance_fills none = record {
    fate = λ i. inr (record { none = λ s has. subst (λ (ts : List (ℕ × ℕ)). Has ts (i, s)) none has; same = ap (λ ts. place_in (filled row ts) i) none });
    few = subst (λ (ts : List (ℕ × ℕ)). HaveFew servers (filled row ts) (got_filled ts)) (sym none) no_got;
    some = λ s h. subst (λ (ts : List (ℕ × ℕ)). 1 ≤ count_on (filled row ts) s) (sym none) h;
    within = λ i s has. absurd (subst (λ (ts : List (ℕ × ℕ)). Has ts (i, s)) none has);
    short = λ i s has. absurd (subst (λ (ts : List (ℕ × ℕ)). Has ts (i, s)) none has);
  }

-- ---- the list

-- a file beside shards
abbrev pub IsBesideKind : Kind → Type 0
IsBesideKind kind = (kind ≡ Vif) ⊎ ((kind ≡ Ecx) ⊎ (kind ≡ Ecj))

pub beside_kind : (s server : ℕ) (kind : Kind) → Has (beside_names s) (server, kind) → (s ≡ server) × IsBesideKind kind
beside_kind s server kind (inl same) = (ap (λ (p : ℕ × Kind). p.0) same, inl (ap (λ (p : ℕ × Kind). p.1) (sym same)))
beside_kind s server kind (inr (inl same)) = (ap (λ (p : ℕ × Kind). p.0) same, inr (inl (ap (λ (p : ℕ × Kind). p.1) (sym same))))
beside_kind s server kind (inr (inr (inl same))) = (ap (λ (p : ℕ × Kind). p.0) same, inr (inr (ap (λ (p : ℕ × Kind). p.1) (sym same))))
beside_kind s server kind (inr (inr (inr none))) = absurd none

pub kind_beside : (s : ℕ) (kind : Kind) → IsBesideKind kind → Has (beside_names s) (s, kind)
kind_beside s kind (inl e) = inl (λ k. (s, sym e k))
kind_beside s kind (inr (inl e)) = inr (inl (λ k. (s, sym e k)))
kind_beside s kind (inr (inr e)) = inr (inr (inl (λ k. (s, sym e k))))

-- a shard of a move, at its target or at its source
abbrev pub IsMoveOf : List ShardMove → ℕ → Kind → Type 0
IsMoveOf moves server kind = (m : ShardMove) × Has moves m × (kind ≡ Shard m.shard) × ((server ≡ m.to) ⊎ (server ≡ m.from))

-- a server without shards that a move goes to
abbrev pub IsNewTarget : (ℕ → Bool) → List ShardMove → ℕ → Type 0
IsNewTarget has moves server = (has server ≡ false) × (m : ShardMove) × Has moves m × (m.to ≡ server)

or_false : (a b : Bool) → (a || b) ≡ false → (a ≡ false) × (b ≡ false)
or_false true b e = absurd (false≢true (sym e))
or_false false b e = (refl, e)

if_has : (b : Bool) (names : List (ℕ × Kind)) (x : ℕ × Kind) → Has (if b then [] else names) x → (b ≡ false) × Has names x
if_has true names x has = absurd has
if_has false names x has = (refl, has)

pub has_if : (b : Bool) (names : List (ℕ × Kind)) (x : ℕ × Kind) → b ≡ false → Has names x → Has (if b then [] else names) x
has_if true names x e has = absurd (false≢true (sym e))
has_if false names x e has = has

moves_names : (has : ℕ → Bool) (moves : List ShardMove) (server : ℕ) (kind : Kind) → Has (move_names has moves) (server, kind) → IsMoveOf moves server kind ⊎ (IsBesideKind kind × IsNewTarget has moves server)
moves_names has [] server kind here = absurd here
moves_names has (m ∷ moves) server kind here = ⊎_elim
    (λ first.
    let new = if_has (has m.to) (beside_names m.to) (server, kind) first in
    let is = beside_kind m.to server kind new.1 in
    inr (is.1, (ap has (sym is.0) ∙ new.0, m, inl refl, is.0)))
    (λ rest. by_rest rest (λ more. moves_names (λ s. has s || (m.to == s)) moves server kind more))
    (has_either (if has m.to then [] else beside_names m.to) ((m.to, Shard m.shard) ∷ (m.from, Shard m.shard) ∷ move_names (λ s. has s || (m.to == s)) moves) (server, kind) here)
  where
    later : IsMoveOf moves server kind ⊎ (IsBesideKind kind × IsNewTarget (λ s. has s || (m.to == s)) moves server) → IsMoveOf (m ∷ moves) server kind ⊎ (IsBesideKind kind × IsNewTarget has (m ∷ moves) server)
    later (inl (o, is, shard, at)) = inl (o, inr is, shard, at)
    later (inr (beside, (new, o, is, at))) = inr (beside, ((or_false (has server) (m.to == server) new).0, o, inr is, at))

    by_rest : Has ((m.to, Shard m.shard) ∷ (m.from, Shard m.shard) ∷ move_names (λ s. has s || (m.to == s)) moves) (server, kind)
        → (Has (move_names (λ s. has s || (m.to == s)) moves) (server, kind) → IsMoveOf moves server kind ⊎ (IsBesideKind kind × IsNewTarget (λ s. has s || (m.to == s)) moves server))
        → IsMoveOf (m ∷ moves) server kind ⊎ (IsBesideKind kind × IsNewTarget has (m ∷ moves) server)
    by_rest (inl same) more = inl (m, inl refl, ap (λ (p : ℕ × Kind). p.1) (sym same), inl (ap (λ (p : ℕ × Kind). p.0) (sym same)))
    by_rest (inr (inl same)) more = inl (m, inl refl, ap (λ (p : ℕ × Kind). p.1) (sym same), inr (ap (λ (p : ℕ × Kind). p.0) (sym same)))
    by_rest (inr (inr rest)) more = later (more rest)

names_move : (has : ℕ → Bool) (moves : List ShardMove) (server : ℕ) (kind : Kind) → IsMoveOf moves server kind → Has (move_names has moves) (server, kind)
names_move has [] server kind (m, none, shard, at) = absurd none
names_move has (m ∷ moves) server kind (o, inl e, shard, at) = has_right (if has m.to then [] else beside_names m.to) _ (server, kind) (by_end at)
  where
    by_end : (server ≡ o.to) ⊎ (server ≡ o.from) → Has ((m.to, Shard m.shard) ∷ (m.from, Shard m.shard) ∷ move_names (λ s. has s || (m.to == s)) moves) (server, kind)
    by_end (inl to) = inl (λ k. ((ap (λ (q : ShardMove). q.to) e ∙ sym to) k, (ap (λ (q : ShardMove). Shard q.shard) e ∙ sym shard) k))
    by_end (inr from) = inr (inl (λ k. ((ap (λ (q : ShardMove). q.from) e ∙ sym from) k, (ap (λ (q : ShardMove). Shard q.shard) e ∙ sym shard) k)))
names_move has (m ∷ moves) server kind (o, inr later, shard, at) =
    has_right (if has m.to then [] else beside_names m.to) _ (server, kind) (inr (inr (names_move (λ s. has s || (m.to == s)) moves server kind (o, later, shard, at))))

names_beside : (has : ℕ → Bool) (moves : List ShardMove) (server : ℕ) (kind : Kind) → IsBesideKind kind → IsNewTarget has moves server → Has (move_names has moves) (server, kind)
names_beside has [] server kind beside (new, m, none, at) = absurd none
names_beside has (m ∷ moves) server kind beside (new, o, is, at) = by_first (cases_eq m.to server) is (λ still later. names_beside (λ s. has s || (m.to == s)) moves server kind beside (still, o, later, at))
  where
    first : m.to ≡ server → Has (move_names has (m ∷ moves)) (server, kind)
    first e = has_left (if has m.to then [] else beside_names m.to) _ (server, kind)
        (has_if (has m.to) (beside_names m.to) (server, kind) (ap has e ∙ new) (subst (λ s. Has (beside_names m.to) (s, kind)) e (kind_beside m.to kind beside)))

    by_first : (m.to ≡ server) ⊎ (m.to ≢ server) → Has (m ∷ moves) o → ((has server || (m.to == server)) ≡ false → Has moves o → Has (move_names (λ s. has s || (m.to == s)) moves) (server, kind)) → Has (move_names has (m ∷ moves)) (server, kind)
    by_first (inl e) which more = first e
    by_first (inr other) (inl e) more = absurd (other (ap (λ (q : ShardMove). q.to) e ∙ at))
    by_first (inr other) (inr later) more = has_right (if has m.to then [] else beside_names m.to) _ (server, kind) (inr (inr (more (λ k. new k || ne_eqb m.to server other k) later)))

module _ (plan : Plan) where
  abbrev pub has_shards : ℕ → Bool
  has_shards s = held plan s || is_target plan s

  abbrev pub new_targets : List ℕ
  new_targets = filter (λ s. is_target plan s && not (held plan s)) all_servers

  abbrev pub first_names : List (ℕ × Kind)
  first_names = flat_map beside_names new_targets

  abbrev pub rest_names : List (ℕ × Kind)
  rest_names = shard_names plan.targets.items ++ move_names has_shards plan.moves.items

  -- the server gets its first shard
  abbrev pub GetsFirst : ℕ → Type 0
  GetsFirst s = (held plan s ≡ false) × ((is_target plan s ≡ true) ⊎ ((m : ShardMove) × Has plan.moves.items m × (m.to ≡ s)))

  pub target_kind : (server : ℕ) (kind : Kind) → Has (shard_names plan.targets.items) (server, kind) → (i : ℕ) × (kind ≡ Shard i) × Has plan.targets.items (i, server)
  target_kind server kind has =
      let found = map_has (λ (p : ℕ × ℕ). (p.1, Shard p.0)) plan.targets.items (server, kind) has in
      (found.0.0, ap (λ (p : ℕ × Kind). p.1) (sym found.2), subst (λ s. Has plan.targets.items (found.0.0, s)) (ap (λ (p : ℕ × Kind). p.0) found.2) found.1)

  -- What is in the list: the files beside first shards, the targets' shards, and the moved ones at both ends.
  pub in_mend : (server : ℕ) (kind : Kind) → Has (mend_names plan) (server, kind)
      → (IsBesideKind kind × GetsFirst server) ⊎ (((i : ℕ) × (kind ≡ Shard i) × Has plan.targets.items (i, server)) ⊎ IsMoveOf plan.moves.items server kind)
  in_mend server kind has = ⊎_elim
      (λ first.
      let found = flat_has beside_names new_targets (server, kind) first in
      let is = beside_kind found.0 server kind found.2 in
      let both = and_parts (is_target plan found.0) (not (held plan found.0)) (filter_has (λ s. is_target plan s && not (held plan s)) all_servers found.0 found.1).1 in
      inl (is.1, (ap (held plan) (sym is.0) ∙ not_true (held plan found.0) both.1, inl (ap (is_target plan) (sym is.0) ∙ both.0))))
      (λ rest. ⊎_elim
      (λ target. inr (inl (target_kind server kind target)))
      (λ move. ⊎_elim
      (λ shard. inr (inr shard))
      (λ (new : IsBesideKind kind × IsNewTarget has_shards plan.moves.items server). inl (new.0, ((or_false (held plan server) (is_target plan server) new.1.0).0, inr (new.1.1, new.1.2, new.1.3))))
      (moves_names has_shards plan.moves.items server kind move))
      (has_either (shard_names plan.targets.items) (move_names has_shards plan.moves.items) (server, kind) rest))
      (has_either first_names rest_names (server, kind) has)

  pub mend_target : (i s : ℕ) → Has plan.targets.items (i, s) → Has (mend_names plan) (s, Shard i)
  mend_target i s has = has_right first_names rest_names (s, Shard i) (has_left (shard_names plan.targets.items) (move_names has_shards plan.moves.items) (s, Shard i) (has_map (λ (p : ℕ × ℕ). (p.1, Shard p.0)) plan.targets.items (i, s) has))

  pub mend_move : (server : ℕ) (kind : Kind) → IsMoveOf plan.moves.items server kind → Has (mend_names plan) (server, kind)
  mend_move server kind is = has_right first_names rest_names (server, kind) (has_right (shard_names plan.targets.items) (move_names has_shards plan.moves.items) (server, kind) (names_move has_shards plan.moves.items server kind is))

  pub mend_beside : (server : ℕ) (kind : Kind) → server < max_servers → IsBesideKind kind → GetsFirst server → Has (mend_names plan) (server, kind)
  mend_beside server kind below beside (not_held, gets) = by_target (is_target plan server) refl
    where
      by_move : is_target plan server ≡ false → (is_target plan server ≡ true) ⊎ ((m : ShardMove) × Has plan.moves.items m × (m.to ≡ server)) → Has (move_names has_shards plan.moves.items) (server, kind)
      by_move e (inl is) = absurd (false≢true (sym e ∙ is))
      by_move e (inr (m, has, at)) = names_beside has_shards plan.moves.items server kind beside ((λ k. not_held k || e k), m, has, at)

      by_target : (b : Bool) → is_target plan server ≡ b → Has (mend_names plan) (server, kind)
      by_target true e = has_left first_names rest_names (server, kind) (has_flat beside_names new_targets server (server, kind)
          (has_filter (λ s. is_target plan s && not (held plan s)) all_servers server (has_range 0 max_servers server (omega arith) (omega (arith, below))) (and_from (is_target plan server) (not (held plan server)) e (ap not not_held)))
          (kind_beside server kind beside))
      by_target false e = has_right first_names rest_names (server, kind) (has_right (shard_names plan.targets.items) (move_names has_shards plan.moves.items) (server, kind) (by_move e gets))
