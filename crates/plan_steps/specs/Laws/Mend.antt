-- The list of a rebuild or a balance: each file comes after those that it waits for.
use Rattle.std.proofs.Common.{◌≡◌, ◌≢◌, ◌⊎◌, inl, inr, ⊎_elim, ℕ, zero, suc, ◌+◌, ◌<◌, ◌≤◌, Bool, true, false, List, [], ◌∷◌, length, Some, refl, sym, ◌∙◌, ap, subst, arith}
use Rattle.std.specs.Prelude.{◌||◌, ◌&&◌, ◌==◌, not, if◌then◌else◌, slice_get}
use Rattle.std.proofs.lemmas.Bool.{cases_eq, eq-eqb, eqb-true, ne_eqb, and_from, false≢true}
use Rattle.image_meaning.specs.Laws.Options.{none_some, some_is}
use Rattle.file_names.specs.declared.Kind.{Kind}
use Rattle.file_names.specs.declared.Kind.TheVariants.{Dat, Idx, Cpd, Cpx, Shard, Ecx, Ecj, Vif}
use Rattle.shard_table.specs.Table.{Row, place_in}
use Rattle.shard_table.specs.Even.{AreInTurn}
use Rattle.shard_table.specs.declared.moves.ShardMove.{ShardMove}
use Rattle.image_meaning.specs.Files.{all_servers}
use Rattle.site_model.specs.Counts.{max_servers}
use Rattle.plan_steps.specs.declared.plan.Plan.{Plan}
use Rattle.plan_steps.specs.Planned.{held, placed, is_found, is_encode}
use Rattle.plan_steps.specs.Laws.Found.{coded_finds}
use Rattle.plan_steps.specs.Legal.{IsFound, IsNew}
use Rattle.plan_steps.specs.Order.{Names, IsThere, HasBesideBefore, WaitsToRegister, WaitsToGo}
use Rattle.plan_steps.specs.Lists.{is_target, shard_names, beside_names, move_names, mend_names}
use Rattle.plan_steps.specs.Plans.{filled, IsPlaced}
use Rattle.plan_steps.specs.Members.{Has, has_at, at_has, get_front, get_behind, get_either, has_flat, flat_has, has_filter, has_range, has_any, any_has}
use Rattle.plan_steps.specs.Laws.Move.{moves_fate, IsMoved, IsStill, IsFilled, IsPassed, got_filled, moves_within}
use Rattle.plan_steps.specs.MendList.{place_short, place_held, found_place, Fills, IsBesideKind, beside_kind, kind_beside, has_if, has_shards, new_targets, first_names, rest_names, target_kind, in_mend, GetsFirst, IsMoveOf}

by_bool : (b : Bool) → (b ≡ true) ⊎ (b ≡ false)
by_bool true = inl refl
by_bool false = inr refl

no_shard : (i : ℕ) → IsBesideKind (Shard i) → ⊥
no_shard i (inl e) = cc
no_shard i (inr (inl e)) = cc
no_shard i (inr (inr e)) = cc

-- ---- the names of moves

module _ (has : ℕ → Bool) (m : ShardMove) (moves : List ShardMove) where
  abbrev more : ℕ → Bool
  more s = has s || (m.to == s)

  abbrev firsts : Names
  firsts = if has m.to then [] else beside_names m.to

  abbrev behind : Names
  behind = (m.to, Shard m.shard) ∷ (m.from, Shard m.shard) ∷ move_names more moves

  at_first : (n server : ℕ) (kind : Kind) → slice_get firsts n ≡ Some (server, kind) → (slice_get (move_names has (m ∷ moves)) n ≡ Some (server, kind)) × (n < length firsts)
  at_first n server kind at = get_front firsts behind n (server, kind) at

  at_rest : (n : ℕ) (x : ℕ × Kind) → slice_get (move_names more moves) n ≡ Some x → slice_get (move_names has (m ∷ moves)) (length firsts + suc (suc n)) ≡ Some x
  at_rest n x at = get_behind firsts behind (suc (suc n)) ∙ at

  -- where a shard stands: at the target, at the source, or in a later move
  abbrev IsShardAt : ℕ → ℕ → ℕ → Type 0
  IsShardAt k server i =
      ((k ≡ length firsts) × (server ≡ m.to) × (i ≡ m.shard))
      ⊎ (((k ≡ length firsts + 1) × (server ≡ m.from) × (i ≡ m.shard))
      ⊎ ((n : ℕ) × (k ≡ length firsts + suc (suc n)) × (slice_get (move_names more moves) n ≡ Some (server, Shard i))))

  is_in_firsts : (b : Bool) (server : ℕ) (kind : Kind) → Has (if b then [] else beside_names m.to) (server, kind) → IsBesideKind kind
  is_in_firsts true server kind has = absurd has
  is_in_firsts false server kind has = (beside_kind m.to server kind has).1

  shard_at : (k server i : ℕ) → slice_get (move_names has (m ∷ moves)) k ≡ Some (server, Shard i) → IsShardAt k server i
  shard_at k server i at = ⊎_elim
      (λ first. absurd (no_shard i (is_in_firsts (has m.to) server (Shard i) (at_has firsts k (server, Shard i) first))))
      (λ rest. by_place rest.0 rest.1 rest.2)
      (get_either firsts behind k (server, Shard i) at)
    where
      number : (a b : ℕ) → ◌≡◌ {A = Kind} (Shard a) (Shard b) → a ≡ b
      number a b e = cc

      by_place : (n : ℕ) → k ≡ length firsts + n → slice_get behind n ≡ Some (server, Shard i) → IsShardAt k server i
      by_place zero e at =
          let same = some_is (m.to, Shard m.shard) (server, Shard i) at in
          inl (omega (arith, e), sym (ap (λ (p : ℕ × Kind). p.0) same), sym (number m.shard i (ap (λ (p : ℕ × Kind). p.1) same)))
      by_place (suc zero) e at =
          let same = some_is (m.from, Shard m.shard) (server, Shard i) at in
          inr (inl (omega (arith, e), sym (ap (λ (p : ℕ × Kind). p.0) same), sym (number m.shard i (ap (λ (p : ℕ × Kind). p.1) same))))
      by_place (suc (suc n)) e at = inr (inr (n, e, at))

or_left : (a b : Bool) → a ≡ true → (a || b) ≡ true
or_left true b e = refl
or_left false b e = absurd (false≢true e)

-- The files beside the first shard of a server stand before it.
moves_beside : (has : ℕ → Bool) (moves : List ShardMove) → ((m : ShardMove) → Has moves m → has m.from ≡ true) → (kind : Kind) → IsBesideKind kind → (k server i : ℕ)
    → slice_get (move_names has moves) k ≡ Some (server, Shard i) → has server ≡ false → (n : ℕ) × (n < k) × (slice_get (move_names has moves) n ≡ Some (server, kind))
moves_beside has [] sources kind is k server i at new = absurd (none_some at)
moves_beside has (m ∷ moves) sources kind is k server i at new =
    by_place (shard_at has m moves k server i at) (λ n rest still. moves_beside (more has m moves) moves (λ o there. or_left (has o.from) (m.to == o.from) (sources o (inr there))) kind is n server i rest still)
  where
    here : m.to ≡ server → length (firsts has m moves) ≤ k → (n : ℕ) × (n < k) × (slice_get (move_names has (m ∷ moves)) n ≡ Some (server, kind))
    here e far =
        let there = has_at (firsts has m moves) (server, kind) (has_if (has m.to) (beside_names m.to) (server, kind) (ap has e ∙ new) (subst (λ s. Has (beside_names m.to) (s, kind)) e (kind_beside m.to kind is))) in
        let front = at_first has m moves there.0 server kind there.1 in
        (there.0, omega (arith, front.1, far), front.0)

    by_place : IsShardAt has m moves k server i
        → ((n : ℕ) → slice_get (move_names (more has m moves) moves) n ≡ Some (server, Shard i) → more has m moves server ≡ false → (q : ℕ) × (q < n) × (slice_get (move_names (more has m moves) moves) q ≡ Some (server, kind)))
        → (n : ℕ) × (n < k) × (slice_get (move_names has (m ∷ moves)) n ≡ Some (server, kind))
    by_place (inl (e, to, shard)) later = here (sym to) (omega (arith, e))
    by_place (inr (inl (e, from, shard))) later = absurd (false≢true (sym new ∙ ap has from ∙ sources m (inl refl)))
    by_place (inr (inr (n, e, rest))) later = by_server (cases_eq m.to server)
      where
        by_server : (m.to ≡ server) ⊎ (m.to ≢ server) → (n : ℕ) × (n < k) × (slice_get (move_names has (m ∷ moves)) n ≡ Some (server, kind))
        by_server (inl to) = here to (omega (arith, e))
        by_server (inr other) =
            let found = later n rest (λ j. new j || ne_eqb m.to server other j) in
            (length (firsts has m moves) + suc (suc found.0), omega (arith, found.1, e), at_rest has m moves found.0 (server, kind) found.2)

-- A shard that doesn't come to a server goes from it, after it came to another one.
record IsSource (has : ℕ → Bool) (moves : List ShardMove) (k server i : ℕ) : Type 0 where
  move : ShardMove
  member : Has moves move
  shard : move.shard ≡ i
  from : server ≡ move.from
  place : ℕ
  before : place < k
  there : slice_get (move_names has moves) place ≡ Some (move.to, Shard i)

moves_before : (has : ℕ → Bool) (moves : List ShardMove) (k server i : ℕ) → slice_get (move_names has moves) k ≡ Some (server, Shard i) → ((m : ShardMove) → Has moves m → m.shard ≡ i → server ≢ m.to) → IsSource has moves k server i
moves_before has [] k server i at apart = absurd (none_some at)
moves_before has (m ∷ moves) k server i at apart =
    by_place (shard_at has m moves k server i at) (λ n rest. moves_before (more has m moves) moves n server i rest (λ o there. apart o (inr there)))
  where
    by_place : IsShardAt has m moves k server i → ((n : ℕ) → slice_get (move_names (more has m moves) moves) n ≡ Some (server, Shard i) → IsSource (more has m moves) moves n server i) → IsSource has (m ∷ moves) k server i
    by_place (inl (e, to, shard)) later = absurd (apart m (inl refl) (sym shard) to)
    by_place (inr (inl (e, from, shard))) later = record {
      move = m;
      member = inl refl;
      shard = sym shard;
      from = from;
      place = length (firsts has m moves) + 0;
      before = omega (arith, e);
      there = get_behind (firsts has m moves) (behind has m moves) 0 ∙ ap (λ j. Some (m.to, Shard j)) (sym shard);
    }
    by_place (inr (inr (n, e, rest))) later =
        let found = later n rest in
        record {
          move = found.move;
          member = inr found.member;
          shard = found.shard;
          from = found.from;
          place = length (firsts has m moves) + suc (suc found.place);
          before = omega (arith, found.before, e);
          there = at_rest has m moves found.place (found.move.to, Shard i) found.there;
        }

-- ---- the whole list

module _ (plan : Plan) (coded : is_encode plan.command ≡ false) (servers : ℕ) (few : servers ≤ max_servers) (row : Row) (is : IsPlaced servers plan row) (fills : Fills servers plan row)
    (turn : AreInTurn servers (filled row plan.targets.items) plan.moves.items) where
  abbrev names : Names
  names = mend_names plan

  abbrev moved : Names
  moved = move_names (has_shards plan) plan.moves.items

  abbrev targets : Names
  targets = shard_names plan.targets.items

  -- what was found beside shards, and which shard
  beside_found : (server : ℕ) (kind : Kind) → IsBesideKind kind → is_found plan plan.command server kind ≡ held plan server
  beside_found server kind (inl e) = ap (is_found plan plan.command server) e ∙ coded_finds plan server Vif coded
  beside_found server kind (inr (inl e)) = ap (is_found plan plan.command server) e ∙ coded_finds plan server Ecx coded
  beside_found server kind (inr (inr e)) = ap (is_found plan plan.command server) e ∙ coded_finds plan server Ecj coded

  shard_found : (server i : ℕ) → is_found plan plan.command server (Shard i) ≡ placed plan i server
  shard_found server i = coded_finds plan server (Shard i) coded

  -- a move takes a shard from where it was found
  from_found : (m : ShardMove) → Has plan.moves.items m → (place_in row m.shard ≡ Some m.from) × (m.to ≢ m.from)
  from_found m has = by_fate (moves_fate servers plan.moves.items (filled row plan.targets.items) (got_filled plan.targets.items) turn fills.few m.shard) (fills.fate m.shard)
    where
      by_fate : IsMoved (filled row plan.targets.items) (got_filled plan.targets.items) plan.moves.items m.shard ⊎ IsStill (filled row plan.targets.items) plan.moves.items m.shard
          → IsFilled row plan.targets.items m.shard ⊎ IsPassed row plan.targets.items m.shard → (place_in row m.shard ≡ Some m.from) × (m.to ≢ m.from)
      by_fate (inr still) either = absurd (still.none m has refl)
      by_fate (inl gone) (inl filled) =
          let same : filled.server ≡ gone.move.from = some_is filled.server gone.move.from (sym filled.placed ∙ gone.from) in
          absurd (gone.old_source (has_any (λ (p : ℕ × ℕ). p.1 == gone.move.from) plan.targets.items (m.shard, filled.server) filled.has (eq-eqb filled.server gone.move.from same)))
      by_fate (inl gone) (inr passed) =
          let only = gone.only m has refl in (
            sym passed.same ∙ gone.from ∙ ap (λ s. Some s) (sym only.0),
            λ e. gone.apart (sym only.1 ∙ e ∙ only.0),
          )

  target_below : (server : ℕ) → is_target plan server ≡ true → server < max_servers
  target_below server e =
      let found = any_has (λ (p : ℕ × ℕ). p.1 == server) plan.targets.items e in
      by_place found.0 found.1 found.2
    where
      by_place : (p : ℕ × ℕ) → Has plan.targets.items p → (p.1 == server) ≡ true → server < max_servers
      by_place p has same = let below = fills.within p.0 p.1 has in omega (arith, below, few, eqb-true p.1 server same)

  -- a target without shards has its files first of all
  in_first : (server : ℕ) (kind : Kind) → IsBesideKind kind → is_target plan server ≡ true → held plan server ≡ false → (n : ℕ) × (n < length (first_names plan)) × (slice_get names n ≡ Some (server, kind))
  in_first server kind beside target new =
      let there = has_at (first_names plan) (server, kind) (has_flat beside_names (new_targets plan) server (server, kind)
      (has_filter (λ s. is_target plan s && not (held plan s)) all_servers server (has_range 0 max_servers server (omega arith) (omega (arith, target_below server target)))
      (and_from (is_target plan server) (not (held plan server)) target (ap not new))) (kind_beside server kind beside)) in
      let front = get_front (first_names plan) (rest_names plan) there.0 (server, kind) there.1 in
      (there.0, front.1, front.0)

  -- a place among the moves
  at_moves : (n : ℕ) (x : ℕ × Kind) → slice_get moved n ≡ Some x → slice_get names (length (first_names plan) + (length targets + n)) ≡ Some x
  at_moves n x at = get_behind (first_names plan) (rest_names plan) (length targets + n) ∙ get_behind targets moved n ∙ at

  -- where a shard stands in the list: at a target, or in a move
  abbrev AtShard : ℕ → ℕ → ℕ → Type 0
  AtShard k server i =
      ((length (first_names plan) ≤ k) × Has plan.targets.items (i, server))
      ⊎ ((n : ℕ) × (k ≡ length (first_names plan) + (length targets + n)) × (slice_get moved n ≡ Some (server, Shard i)))

  shard_in : (k server i : ℕ) → slice_get names k ≡ Some (server, Shard i) → AtShard k server i
  shard_in k server i at = ⊎_elim
      (λ first. absurd (no_first (at_has (first_names plan) k (server, Shard i) first)))
      (λ rest. ⊎_elim
      (λ target. inl (omega (arith, rest.1), is_shard (target_kind plan server (Shard i) (at_has targets rest.0 (server, Shard i) target))))
      (λ move. inr (move.0, omega (arith, rest.1, move.1), move.2))
      (get_either targets moved rest.0 (server, Shard i) rest.2))
      (get_either (first_names plan) (rest_names plan) k (server, Shard i) at)
    where
      no_first : Has (first_names plan) (server, Shard i) → ⊥
      no_first has = let found = flat_has beside_names (new_targets plan) (server, Shard i) has in no_shard i (beside_kind found.0 server (Shard i) found.2).1

      number : (a b : ℕ) → ◌≡◌ {A = Kind} (Shard a) (Shard b) → a ≡ b
      number a b e = cc

      is_shard : (j : ℕ) × (Shard i ≡ Shard j) × Has plan.targets.items (j, server) → Has plan.targets.items (i, server)
      is_shard (j, e, has) = subst (λ n. Has plan.targets.items (n, server)) (sym (number i j e)) has

  -- ---- what is written

  beside_before : (kind : Kind) → IsBesideKind kind → (k server i : ℕ) → slice_get names k ≡ Some (server, Shard i) → held plan server ≡ false → (n : ℕ) × (n < k) × (slice_get names n ≡ Some (server, kind))
  beside_before kind beside k server i at new = by_place (shard_in k server i at)
    where
      by_target : (n : ℕ) → k ≡ length (first_names plan) + (length targets + n) → slice_get moved n ≡ Some (server, Shard i) → (is_target plan server ≡ true) ⊎ (is_target plan server ≡ false)
          → (q : ℕ) × (q < k) × (slice_get names q ≡ Some (server, kind))
      by_target n e move (inl target) = let found = in_first server kind beside target new in (found.0, omega (arith, found.1, e), found.2)
      by_target n e move (inr none) =
          let found = moves_beside (has_shards plan) plan.moves.items (λ m has. or_left (held plan m.from) (is_target plan m.from) (place_held plan servers row is m.shard m.from (from_found m has).0)) kind beside n server i move
          (λ j. new j || none j) in
          (length (first_names plan) + (length targets + found.0), omega (arith, found.1, e), at_moves found.0 (server, kind) found.2)

      by_place : AtShard k server i → (n : ℕ) × (n < k) × (slice_get names n ≡ Some (server, kind))
      by_place (inl (far, has)) =
          let found = in_first server kind beside (has_any (λ (p : ℕ × ℕ). p.1 == server) plan.targets.items (i, server) has (eq-eqb server server refl)) new in
          (found.0, omega (arith, found.1, far), found.2)
      by_place (inr (n, e, move)) = by_target n e move (by_bool (is_target plan server))

  -- a server with shards has its files, and they are no matter of the plan
  not_listed : (server : ℕ) (kind : Kind) → IsBesideKind kind → held plan server ≡ true → (n : ℕ) → slice_get names n ≡ Some (server, kind) → ⊥
  not_listed server kind beside has n at = by_member (in_mend plan server kind (at_has names n (server, kind) at))
    where
      not_shard : (i : ℕ) → kind ≡ Shard i → ⊥
      not_shard i e = no_shard i (subst IsBesideKind e beside)

      by_member : (IsBesideKind kind × GetsFirst plan server) ⊎ (((i : ℕ) × (kind ≡ Shard i) × Has plan.targets.items (i, server)) ⊎ IsMoveOf plan.moves.items server kind) → ⊥
      by_member (inl (b, first)) = false≢true (sym first.0 ∙ has)
      by_member (inr (inl (i, e, target))) = not_shard i e
      by_member (inr (inr (m, there, e, ends))) = not_shard m.shard e

  beside_there : (kind : Kind) → IsBesideKind kind → (k server i : ℕ) → slice_get names k ≡ Some (server, Shard i) → (held plan server ≡ true) ⊎ (held plan server ≡ false) → IsThere plan names k server kind
  beside_there kind beside k server i at (inl has) = inr (beside_found server kind beside ∙ has, λ n there. not_listed server kind beside has n there)
  beside_there kind beside k server i at (inr new) = let found = beside_before kind beside k server i at new in inl (found.0, found.1, found.2, beside_found server kind beside ∙ new)

  -- each shard comes after the files beside it
  pub mend_shards_wait : (k server i : ℕ) → slice_get names k ≡ Some (server, Shard i) → HasBesideBefore plan names k server
  mend_shards_wait k server i at = record {
    text = beside_there Vif (inl refl) k server i at (by_bool (held plan server));
    index = beside_there Ecx (inr (inl refl)) k server i at (by_bool (held plan server));
    journal = inr (beside_there Ecj (inr (inr refl)) k server i at (by_bool (held plan server)));
  }

  -- the list has no other kinds
  other_kind : (server : ℕ) (kind : Kind) → (IsBesideKind kind → ⊥) → ((i : ℕ) → kind ≢ Shard i) → Has names (server, kind) → ⊥
  other_kind server kind no_beside no_number has = by_member (in_mend plan server kind has)
    where
      by_member : (IsBesideKind kind × GetsFirst plan server) ⊎ (((i : ℕ) × (kind ≡ Shard i) × Has plan.targets.items (i, server)) ⊎ IsMoveOf plan.moves.items server kind) → ⊥
      by_member (inl (b, first)) = no_beside b
      by_member (inr (inl (i, e, target))) = no_number i e
      by_member (inr (inr (m, there, e, ends))) = no_number m.shard e

  no_dat : (server : ℕ) → Has names (server, Dat) → ⊥
  no_dat server has = other_kind server Dat none (λ i e. cc) has
    where
      none : IsBesideKind Dat → ⊥
      none (inl e) = cc
      none (inr (inl e)) = cc
      none (inr (inr e)) = cc

  no_idx : (server : ℕ) → Has names (server, Idx) → ⊥
  no_idx server has = other_kind server Idx none (λ i e. cc) has
    where
      none : IsBesideKind Idx → ⊥
      none (inl e) = cc
      none (inr (inl e)) = cc
      none (inr (inr e)) = cc

  no_cpd : (server : ℕ) → Has names (server, Cpd) → ⊥
  no_cpd server has = other_kind server Cpd none (λ i e. cc) has
    where
      none : IsBesideKind Cpd → ⊥
      none (inl e) = cc
      none (inr (inl e)) = cc
      none (inr (inr e)) = cc

  no_cpx : (server : ℕ) → Has names (server, Cpx) → ⊥
  no_cpx server has = other_kind server Cpx none (λ i e. cc) has
    where
      none : IsBesideKind Cpx → ⊥
      none (inl e) = cc
      none (inr (inl e)) = cc
      none (inr (inr e)) = cc

  pub mend_waits : (k server : ℕ) (kind : Kind) → slice_get names k ≡ Some (server, kind) → WaitsToRegister plan names k server kind
  mend_waits k server Dat at = absurd (no_dat server (at_has names k (server, Dat) at))
  mend_waits k server Idx at = absurd (no_idx server (at_has names k (server, Idx) at))
  mend_waits k server Cpd at = absurd (no_cpd server (at_has names k (server, Cpd) at))
  mend_waits k server Cpx at = absurd (no_cpx server (at_has names k (server, Cpx) at))
  mend_waits k server (Shard i) at = mend_shards_wait k server i at
  mend_waits k server Ecx at = tt
  mend_waits k server Ecj at = tt
  mend_waits k server Vif at = tt

  -- ---- what goes

  -- a shard that was found goes after it came to another server
  pub mend_shards_go : (k server i : ℕ) → slice_get names k ≡ Some (server, Shard i) → IsFound plan server (Shard i) → WaitsToGo plan names k server (Shard i)
  mend_shards_go k server i at found = by_place (shard_in k server i at) (fills.fate i)
    where
      place : place_in row i ≡ Some server
      place = found_place plan servers row is i server (sym (shard_found server i) ∙ found)

      -- a move of the shard leaves this server
      leaves : (m : ShardMove) → Has plan.moves.items m → m.shard ≡ i → (server ≡ m.from) × (m.to ≢ m.from)
      leaves m has e = let was = from_found m has in (some_is server m.from (sym place ∙ ap (place_in row) (sym e) ∙ was.0), was.1)

      new_there : (other : ℕ) → other ≢ server → (placed plan i other ≡ true) ⊎ (placed plan i other ≡ false) → IsNew plan other (Shard i)
      new_there other apart (inl e) = absurd (apart (some_is other server (sym (found_place plan servers row is i other e) ∙ place)))
      new_there other apart (inr e) = shard_found other i ∙ e

      goes : (n : ℕ) → k ≡ length (first_names plan) + (length targets + n) → IsSource (has_shards plan) plan.moves.items n server i → WaitsToGo plan names k server (Shard i)
      goes n e source =
          let away = leaves source.move source.member source.shard in
          let apart : source.move.to ≢ server = λ same. away.1 (same ∙ away.0) in
          let below = (moves_within servers plan.moves.items (filled row plan.targets.items) turn source.move source.member).1 in
          inr (
            source.move.to,
            apart,
            omega (arith, below, few),
            place_short plan servers row is i server place,
            (length (first_names plan) + (length targets + source.place), omega (arith, source.before, e), at_moves source.place (source.move.to, Shard i) source.there, new_there source.move.to apart (by_bool (placed plan i source.move.to))),
          )

      by_place : AtShard k server i → IsFilled row plan.targets.items i ⊎ IsPassed row plan.targets.items i → WaitsToGo plan names k server (Shard i)
      by_place (inl (far, has)) (inl filled) = absurd (none_some (sym filled.missed ∙ place))
      by_place (inl (far, has)) (inr passed) = absurd (passed.none server has)
      by_place (inr (n, e, move)) either =
          goes n e (moves_before (has_shards plan) plan.moves.items n server i move (λ m has same to. let away = leaves m has same in away.1 (sym to ∙ away.0)))

  beside_stays : (k server : ℕ) (kind : Kind) → IsBesideKind kind → slice_get names k ≡ Some (server, kind) → IsFound plan server kind → ⊥
  beside_stays k server kind beside at found = not_listed server kind beside (sym (beside_found server kind beside) ∙ found) k at

  pub mend_goes : (k server : ℕ) (kind : Kind) → slice_get names k ≡ Some (server, kind) → IsFound plan server kind → WaitsToGo plan names k server kind
  mend_goes k server Dat at found = absurd (no_dat server (at_has names k (server, Dat) at))
  mend_goes k server Idx at found = absurd (no_idx server (at_has names k (server, Idx) at))
  mend_goes k server Cpd at found = absurd (no_cpd server (at_has names k (server, Cpd) at))
  mend_goes k server Cpx at found = absurd (no_cpx server (at_has names k (server, Cpx) at))
  mend_goes k server (Shard i) at found = mend_shards_go k server i at found
  mend_goes k server Ecx at found = absurd (beside_stays k server Ecx (inr (inl refl)) at found)
  mend_goes k server Ecj at found = absurd (beside_stays k server Ecj (inr (inr refl)) at found)
  mend_goes k server Vif at found = absurd (beside_stays k server Vif (inl refl) at found)
