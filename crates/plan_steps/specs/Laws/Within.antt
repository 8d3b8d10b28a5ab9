-- The files of a plan's list may stand on the servers that it is for, and have names.
-- For `run_step` of the running plans of `plan_run`, to come.
use Rattle.std.proofs.Common.{◌≡◌, inl, inr, ⊎_elim, ℕ, ◌%◌, ◌<◌, ◌≤◌, Bool, true, false, List, [], ◌∷◌, ◌++◌, map, Option, Some, None, refl, sym, ◌∙◌, ap, subst, arith}
use Rattle.std.specs.Prelude.{◌||◌, ◌==◌, ◌&&◌, not, if◌then◌else◌, filter, flat_map, slice_get, slice_set, IfSome}
use Rattle.std.proofs.Math.Nat.{mod-lt}
use Rattle.std.proofs.lemmas.Bool.{cases_lt, and_parts, and_from, eq-eqb, eqb-true, false≢true}
use Rattle.std.proofs.lemmas.List.{get_or-set_other}
use Rattle.image_meaning.specs.Laws.Options.{none_some}
use Rattle.image_meaning.specs.Laws.Servers.{lowest-some}
use Rattle.image_meaning.specs.Files.{all_servers}
use Rattle.world_model.specs.Ratios.{counts-sixteen}
use Rattle.world_model.specs.declared.types.Command.{Command}
use Rattle.world_model.specs.declared.types.Command.TheVariants.{Encode, Rebuild, Balance, Decode}
use Rattle.file_names.specs.declared.Kind.{Kind}
use Rattle.file_names.specs.declared.Kind.TheVariants.{Dat, Idx, Cpd, Cpx, Shard, Ecx, Ecj, Vif}
use Rattle.file_names.specs.Names.{IsKind}
use Rattle.stripe_layout.specs.Stripes.{shards_in_all}
use Rattle.shard_table.specs.Table.{Row, place_in}
use Rattle.shard_table.specs.Even.{AreInTurn, moved}
use Rattle.shard_table.specs.declared.moves.ShardMove.{ShardMove}
use Rattle.plan_steps.specs.declared.plan.Plan.{Plan}
use Rattle.plan_steps.specs.declared.plan.FileState.{FileState}
use Rattle.plan_steps.specs.Planned.{held, placed, is_at, is_found}
use Rattle.plan_steps.specs.Legal.{HasFile}
use Rattle.plan_steps.specs.Order.{Names, names_of}
use Rattle.plan_steps.specs.Laws.Order.{name_at}
use Rattle.plan_steps.specs.Lists.{is_target, shard_names, beside_names, left_names, encode_names, move_names, mend_names, decode_names, list_by, list_of}
use Rattle.plan_steps.specs.Plans.{all_numbers, filled, IsPlaced, IsEncodePlan, IsMendPlan, IsDecodePlan, IsPlanBy, IsPlan}
use Rattle.plan_steps.specs.Members.{Has, at_has, has_either, has_any, map_has, flat_has, filter_has, any_has, range_has}
use Rattle.plan_steps.specs.MendList.{Fills, rebuild_fills, balance_fills, place_short, found_place, held_place}
use Rattle.plan_steps.specs.Laws.Move.{place_within, moves_within}
use Rattle.plan_steps.specs.AsTold.{IsPlannedKind, IsWithin}

-- a kind that a plan may write has names
pub planned_named : (plan : Plan) (kind : Kind) → IsPlannedKind plan kind → IsKind kind
planned_named plan Dat is = tt
planned_named plan Idx is = tt
planned_named plan Cpd is = absurd is
planned_named plan Cpx is = absurd is
planned_named plan (Shard i) is = omega (arith, is, counts-sixteen plan.info.geometry.ratio)
planned_named plan Ecx is = tt
planned_named plan Ecj is = tt
planned_named plan Vif is = tt

-- ---- rows

-- no place beyond these shards
abbrev EndsAt : ℕ → Row → Type 0
EndsAt n row = (i : ℕ) → n ≤ i → place_in row i ≡ None

still_ends : (n : ℕ) (row : Row) (i : ℕ) (place : Option ℕ) → i < n → EndsAt n row → EndsAt n (slice_set row i place)
still_ends n row i place short ends k h = get_or-set_other row i k place None (λ e. omega (arith, h, short, e)) ∙ ends k h

filled_ends : (n : ℕ) (targets : List (ℕ × ℕ)) (row : Row) → ((i s : ℕ) → Has targets (i, s) → i < n) → EndsAt n row → EndsAt n (filled row targets)
filled_ends n [] row short ends = ends
filled_ends n (p ∷ targets) row short ends =
    filled_ends n targets (slice_set row p.0 (Some p.1)) (λ i s has. short i s (inr has)) (still_ends n row p.0 (Some p.1) (short p.0 p.1 (inl refl)) ends)

within_end : (n : ℕ) (row : Row) (i s : ℕ) → EndsAt n row → place_in row i ≡ Some s → i < n
within_end n row i s ends e = ⊎_elim (λ less. less) (λ more. absurd (none_some (sym (ends i more) ∙ e))) (cases_lt i n)

moves_short : (n servers : ℕ) (moves : List ShardMove) (row : Row) → AreInTurn servers row moves → EndsAt n row → (m : ShardMove) → Has moves m → m.shard < n
moves_short n servers [] row turn ends m has = absurd has
moves_short n servers (o ∷ moves) row turn ends m (inl e) = subst (λ (q : ShardMove). q.shard < n) e (within_end n row o.shard o.from ends turn.0.chosen.there)
moves_short n servers (o ∷ moves) row turn ends m (inr has) =
    moves_short n servers moves (moved row o) turn.1 (still_ends n row o.shard (Some o.to) (within_end n row o.shard o.from ends turn.0.chosen.there) ends) m has

-- ---- parts of lists

module _ (plan : Plan) (servers : ℕ) where
  abbrev all : ℕ
  all = shards_in_all plan.info.geometry

  abbrev AllWithin : Names → Type 0
  AllWithin names = (server : ℕ) (kind : Kind) → Has names (server, kind) → IsWithin plan servers server kind

  as_name : (name : ℕ × Kind) (server : ℕ) (kind : Kind) → name ≡ (server, kind) → IsWithin plan servers name.0 name.1 → IsWithin plan servers server kind
  as_name name server kind e is = subst (λ (p : ℕ × Kind). IsWithin plan servers p.0 p.1) e is

  both_within : (a b : Names) → AllWithin a → AllWithin b → AllWithin (a ++ b)
  both_within a b first second server kind has = ⊎_elim (first server kind) (second server kind) (has_either a b (server, kind) has)

  flat_within : (f : ℕ → Names) (ss : List ℕ) → ((s : ℕ) → Has ss s → AllWithin (f s)) → AllWithin (flat_map f ss)
  flat_within f ss each server kind has = let found = flat_has f ss (server, kind) has in each found.0 found.1 server kind found.2

  kinds_within : (c : Kind) → IsPlannedKind plan c → (ss : List ℕ) → ((s : ℕ) → Has ss s → s < servers) → AllWithin (map (λ s. (s, c)) ss)
  kinds_within c is ss below server kind has = let found = map_has (λ s. (s, c)) ss (server, kind) has in as_name (found.0, c) server kind found.2 (below found.0 found.1, is)

  shards_within : (ts : List (ℕ × ℕ)) → ((i s : ℕ) → Has ts (i, s) → (i < all) × (s < servers)) → AllWithin (shard_names ts)
  shards_within ts each server kind has =
      let found = map_has (λ (p : ℕ × ℕ). (p.1, Shard p.0)) ts (server, kind) has in
      let below = each found.0.0 found.0.1 found.1 in
      as_name (found.0.1, Shard found.0.0) server kind found.2 (below.1, below.0)

  beside_within : (s : ℕ) → s < servers → AllWithin (beside_names s)
  beside_within s below server kind (inl e) = as_name (s, Vif) server kind e (below, tt)
  beside_within s below server kind (inr (inl e)) = as_name (s, Ecx) server kind e (below, tt)
  beside_within s below server kind (inr (inr (inl e))) = as_name (s, Ecj) server kind e (below, tt)
  beside_within s below server kind (inr (inr (inr none))) = absurd none

  left_within : (s : ℕ) → s < servers → AllWithin (left_names s)
  left_within s below server kind (inl e) = as_name (s, Ecx) server kind e (below, tt)
  left_within s below server kind (inr (inl e)) = as_name (s, Ecj) server kind e (below, tt)
  left_within s below server kind (inr (inr (inl e))) = as_name (s, Vif) server kind e (below, tt)
  left_within s below server kind (inr (inr (inr none))) = absurd none

  move_within : (m : ShardMove) → (m.shard < all) × (m.from < servers) × (m.to < servers) → (b : Bool) (rest : Names) → AllWithin rest
      → AllWithin ((if b then [] else beside_names m.to) ++ ((m.to, Shard m.shard) ∷ (m.from, Shard m.shard) ∷ rest))
  move_within m is b rest others = both_within (if b then [] else beside_names m.to) ((m.to, Shard m.shard) ∷ (m.from, Shard m.shard) ∷ rest) (front b) behind
    where
      front : (c : Bool) → AllWithin (if c then [] else beside_names m.to)
      front true server kind has = absurd has
      front false server kind has = beside_within m.to is.2 server kind has

      behind : AllWithin ((m.to, Shard m.shard) ∷ (m.from, Shard m.shard) ∷ rest)
      behind server kind (inl e) = as_name (m.to, Shard m.shard) server kind e (is.2, is.0)
      behind server kind (inr (inl e)) = as_name (m.from, Shard m.shard) server kind e (is.1, is.0)
      behind server kind (inr (inr has)) = others server kind has

  all_moves_within : (has : ℕ → Bool) (moves : List ShardMove) → ((m : ShardMove) → Has moves m → (m.shard < all) × (m.from < servers) × (m.to < servers)) → AllWithin (move_names has moves)
  all_moves_within has [] each server kind there = absurd there
  all_moves_within has (m ∷ moves) each server kind there =
      move_within m (each m (inl refl)) (has m.to) (move_names (λ s. has s || (m.to == s)) moves) (all_moves_within (λ s. has s || (m.to == s)) moves (λ o there. each o (inr there))) server kind there

  -- servers that have a shard in this list
  of_shards : (ts : List (ℕ × ℕ)) → ((i s : ℕ) → Has ts (i, s) → (i < all) × (s < servers)) → (test : ℕ → Bool) → ((s : ℕ) → test s ≡ true → (p : ℕ × ℕ) × Has ts p × (p.1 ≡ s)) → (s : ℕ) → Has (filter test all_servers) s → s < servers
  of_shards ts each test shard s has =
      let found = shard s (filter_has test all_servers s has).1 in
      subst (λ n. n < servers) found.2 (each found.0.0 found.0.1 found.1).1

  target_of : (s : ℕ) → is_target plan s ≡ true → (p : ℕ × ℕ) × Has plan.targets.items p × (p.1 ≡ s)
  target_of s e = let found = any_has (λ (p : ℕ × ℕ). p.1 == s) plan.targets.items e in (found.0, found.1, eqb-true found.0.1 s found.2)

  -- ---- what was found

  module _ (row : Row) (is : IsPlaced servers plan row) where
    place_below : (i s : ℕ) → place_in row i ≡ Some s → (i < all) × (s < servers)
    place_below i s e = (
      place_short plan servers row is i s e,
      subst (λ (o : Option ℕ). IfSome o (λ server. server < servers)) e (is.is_row.on_servers i None (place_within row i s e)),
    )

    held_below : (s : ℕ) → held plan s ≡ true → s < servers
    held_below s e = let found = held_place plan servers row is s e in (place_below found.0 s found.1).1

    places_below : (i s : ℕ) → Has plan.places.items (i, s) → (i < all) × (s < servers)
    places_below i s has = place_below i s (found_place plan servers row is i s (placed_at i s has))
      where
        placed_at : (i s : ℕ) → Has plan.places.items (i, s) → placed plan i s ≡ true
        placed_at i s has = has_any (is_at i s) plan.places.items (i, s) has (and_from (i == i) (s == s) (eq-eqb i i refl) (eq-eqb s s refl))

    shard_within : (server i : ℕ) → placed plan i server ≡ true → IsWithin plan servers server (Shard i)
    shard_within server i e = let below = place_below i server (found_place plan servers row is i server e) in (below.1, below.0)

  -- ---- the lists

  encode_within : 0 < servers → IsEncodePlan servers plan → AllWithin (encode_names (filter (is_target plan) all_servers) plan.targets.items plan.home)
  encode_within some is =
      both_within (map (λ s. (s, Vif)) homes) (map (λ s. (s, Ecx)) homes ++ (shard_names plan.targets.items ++ ((plan.home, Idx) ∷ (plan.home, Dat) ∷ []))) (kinds_within Vif tt homes below)
      (both_within (map (λ s. (s, Ecx)) homes) (shard_names plan.targets.items ++ ((plan.home, Idx) ∷ (plan.home, Dat) ∷ [])) (kinds_within Ecx tt homes below)
      (both_within (shard_names plan.targets.items) ((plan.home, Idx) ∷ (plan.home, Dat) ∷ []) (shards_within plan.targets.items targets_below) ends))
    where
      homes : List ℕ
      homes = filter (is_target plan) all_servers

      targets_below : (i s : ℕ) → Has plan.targets.items (i, s) → (i < all) × (s < servers)
      targets_below i s has =
          let found = map_has (λ i. (i, i % servers)) (all_numbers plan.info.geometry) (i, s) (subst (λ (ts : List (ℕ × ℕ)). Has ts (i, s)) is.targets has) in
          let short = (range_has 0 all found.0 found.1).1 in
          subst (λ (p : ℕ × ℕ). (p.0 < all) × (p.1 < servers)) found.2 (omega (arith, short), mod-lt found.0 some)

      below : (s : ℕ) → Has homes s → s < servers
      below s has = of_shards plan.targets.items targets_below (is_target plan) target_of s has

      ends : AllWithin ((plan.home, Idx) ∷ (plan.home, Dat) ∷ [])
      ends server kind (inl e) = as_name (plan.home, Idx) server kind e (is.home, tt)
      ends server kind (inr (inl e)) = as_name (plan.home, Dat) server kind e (is.home, tt)
      ends server kind (inr (inr none)) = absurd none

  decode_within : IsDecodePlan servers plan → AllWithin (decode_names plan.home (shard_names plan.places.items ++ flat_map left_names (filter (held plan) all_servers)))
  decode_within is = front
    where
      home : plan.home < servers
      home = held_below is.row is.placed plan.home (lowest-some (held plan) plan.home is.home).0.passes

      found : AllWithin (shard_names plan.places.items ++ flat_map left_names (filter (held plan) all_servers))
      found = both_within (shard_names plan.places.items) (flat_map left_names (filter (held plan) all_servers)) (shards_within plan.places.items (places_below is.row is.placed))
          (flat_within left_names (filter (held plan) all_servers) (λ s has. left_within s (held_below is.row is.placed s (filter_has (held plan) all_servers s has).1)))

      front : AllWithin ((plan.home, Dat) ∷ (plan.home, Idx) ∷ (shard_names plan.places.items ++ flat_map left_names (filter (held plan) all_servers)))
      front server kind (inl e) = as_name (plan.home, Dat) server kind e (home, tt)
      front server kind (inr (inl e)) = as_name (plan.home, Idx) server kind e (home, tt)
      front server kind (inr (inr has)) = found server kind has

  mend_within : (is : IsMendPlan servers plan) → Fills servers plan is.row → AllWithin (mend_names plan)
  mend_within is fills =
      both_within (flat_map beside_names homes) (shard_names plan.targets.items ++ move_names (λ s. held plan s || is_target plan s) plan.moves.items)
      (flat_within beside_names homes (λ s has. beside_within s (target_below s has)))
      (both_within (shard_names plan.targets.items) (move_names (λ s. held plan s || is_target plan s) plan.moves.items) (shards_within plan.targets.items targets_below)
      (all_moves_within (λ s. held plan s || is_target plan s) plan.moves.items moves_below))
    where
      homes : List ℕ
      homes = filter (λ s. is_target plan s && not (held plan s)) all_servers

      targets_below : (i s : ℕ) → Has plan.targets.items (i, s) → (i < all) × (s < servers)
      targets_below i s has = (fills.short i s has, fills.within i s has)

      target_below : (s : ℕ) → Has homes s → s < servers
      target_below s has = of_shards plan.targets.items targets_below (λ s. is_target plan s && not (held plan s)) (λ s e. target_of s (and_parts (is_target plan s) (not (held plan s)) e).0) s has

      moves_below : (m : ShardMove) → Has plan.moves.items m → (m.shard < all) × (m.from < servers) × (m.to < servers)
      moves_below m has =
          let both = moves_within servers plan.moves.items (filled is.row plan.targets.items) is.moves.in_turn m has in (
            moves_short all servers plan.moves.items (filled is.row plan.targets.items) is.moves.in_turn (filled_ends all plan.targets.items is.row (λ i s there. fills.short i s there) is.placed.beyond) m has,
            both.0,
            both.1,
          )

module _ (plan : Plan) (servers : ℕ) (is : IsPlan plan servers) where
  names_within : (c : Command) → IsPlanBy servers plan c → AllWithin plan servers (list_by plan c)
  names_within (Encode ratio) made = encode_within plan servers is.some_server made.0
  names_within Rebuild made = mend_within plan servers made.0 (rebuild_fills plan servers made.0.row made.0.placed made.1)
  names_within Balance made = mend_within plan servers made.0 (balance_fills plan servers made.0.row made.0.placed made.1)
  names_within Decode made = decode_within plan servers made

  -- each file of the list
  pub list_within : (k server : ℕ) (kind : Kind) → slice_get (list_of plan) k ≡ Some (server, kind) → IsWithin plan servers server kind
  list_within k server kind at = names_within plan.command is.made server kind (at_has (list_of plan) k (server, kind) at)

  pub state_within : (states : List FileState) → names_of states ≡ list_of plan → (k : ℕ) (s : FileState) → slice_get states k ≡ Some s → IsWithin plan servers s.server s.kind
  state_within states listed k s at =
      list_within k s.server s.kind (ap (λ names. slice_get names k) (sym listed) ∙ name_at (λ (x : FileState). (x.server, x.kind)) states k s at)

  -- and each shard that was found
  found_within : (server i : ℕ) (c : Command) → IsPlanBy servers plan c → is_found plan c server (Shard i) ≡ true → IsWithin plan servers server (Shard i)
  found_within server i (Encode ratio) made e = absurd (false≢true e)
  found_within server i Rebuild made e = shard_within plan servers made.0.row made.0.placed server i e
  found_within server i Balance made e = shard_within plan servers made.0.row made.0.placed server i e
  found_within server i Decode made e = shard_within plan servers made.row made.placed server i e

  pub file_within : (states : List FileState) → names_of states ≡ list_of plan → (server i : ℕ) → HasFile plan states server (Shard i) → IsWithin plan servers server (Shard i)
  file_within states listed server i (inl (k, s, at, a, b, stage)) = subst (λ (p : ℕ × Kind). IsWithin plan servers p.0 p.1) (λ j. (a j, b j)) (state_within states listed k s at)
  file_within states listed server i (inr (found, other)) = found_within server i plan.command is.made found
