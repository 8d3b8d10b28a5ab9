-- Each file is once in the list of a rebuild and of a balance.
use Rattle.std.proofs.Common.{◌≡◌, ◌⊎◌, inl, inr, ⊎_elim, ℕ, ◌≤◌, Bool, true, false, List, [], ◌∷◌, ◌++◌, map, flat_map, filter, not, slice_set, get_or-set_same, Some, None, refl, sym, ◌∙◌, ap, subst, arith}
use Rattle.std.specs.Prelude.{◌||◌, ◌&&◌, ◌==◌, if◌then◌else◌, is_some}
use Rattle.std.proofs.lemmas.Bool.{and_parts, eq-eqb, false≢true}
use Rattle.world_model.specs.declared.types.Command.TheVariants.{Rebuild, Balance}
use Rattle.file_names.specs.declared.Kind.{Kind}
use Rattle.file_names.specs.declared.Kind.TheVariants.{Shard, Ecx, Ecj, Vif}
use Rattle.shard_table.specs.Table.{Row, place_in}
use Rattle.shard_table.specs.Even.{count_on, IsMove, AreInTurn, moved}
use Rattle.shard_table.specs.declared.moves.ShardMove.{ShardMove}
use Rattle.image_meaning.specs.Files.{all_servers}
use Rattle.image_meaning.specs.Laws.Options.{some_is}
use Rattle.plan_steps.specs.declared.plan.Plan.{Plan}
use Rattle.plan_steps.specs.Planned.{held}
use Rattle.plan_steps.specs.Order.{Names}
use Rattle.plan_steps.specs.Lists.{is_target, shard_names, beside_names, move_names, mend_names, list_by, list_of}
use Rattle.plan_steps.specs.Plans.{all_numbers, missing_of, filled, AreFilled, IsMendPlan}
use Rattle.plan_steps.specs.Members.{Has, has_either, map_has, flat_has, filter_has, has_any}
use Rattle.plan_steps.specs.MendList.{Fills, rebuild_fills, balance_fills}
use Rattle.plan_steps.specs.Laws.Move.{HaveFew, got_more, got_filled, moves_fate, move_few, place_within, IsMoved, IsStill, IsFilled, IsPassed}
use Rattle.plan_code.specs.Laws.Once.{Once, once_append, once_filter, once_range, once_flat, rank, shard_rank, shards_once, servers_once}

-- ---- the files beside a first shard

beside_server : (s : ℕ) (x : ℕ × Kind) → Has (beside_names s) x → (x.0 ≡ s) × (rank x.1 ≤ 2)
beside_server s x (inl e) = let at : 0 ≡ rank x.1 = ap (λ (q : ℕ × Kind). rank q.1) e in (ap (λ (q : ℕ × Kind). q.0) (sym e), omega (arith, at))
beside_server s x (inr (inl e)) = let at : 1 ≡ rank x.1 = ap (λ (q : ℕ × Kind). rank q.1) e in (ap (λ (q : ℕ × Kind). q.0) (sym e), omega (arith, at))
beside_server s x (inr (inr (inl e))) = let at : 2 ≡ rank x.1 = ap (λ (q : ℕ × Kind). rank q.1) e in (ap (λ (q : ℕ × Kind). q.0) (sym e), omega (arith, at))
beside_server s x (inr (inr (inr none))) = absurd none

beside_once : (s : ℕ) → Once (beside_names s)
beside_once s = (
  (λ has. ⊎_elim (λ e. apart Ecx Vif (λ (q : 1 ≡ 0). omega (arith, q)) e) (λ more. ⊎_elim (λ e. apart Ecj Vif (λ (q : 2 ≡ 0). omega (arith, q)) e) (λ none. none) more) has),
  ((λ has. ⊎_elim (λ e. apart Ecj Ecx (λ (q : 2 ≡ 1). omega (arith, q)) e) (λ none. none) has), ((λ none. none), tt)),
)
  where
    apart : (a b : Kind) → (rank a ≡ rank b → ⊥) → ◌≡◌ {A = ℕ × Kind} (s, a) (s, b) → ⊥
    apart a b other e = other (ap (λ (q : ℕ × Kind). rank q.1) e)

or_false : (a b : Bool) → (a || b) ≡ false → (a ≡ false) × (b ≡ false)
or_false true b e = absurd (false≢true (sym e))
or_false false b e = (refl, e)

or_right : (a b : Bool) → b ≡ true → (a || b) ≡ true
or_right true b e = refl
or_right false b e = e

-- ---- moves

-- a shard of one of the moves
abbrev IsShardOf : List ShardMove → Kind → Type 0
IsShardOf moves kind = (m : ShardMove) × Has moves m × (kind ≡ Shard m.shard)

if_has : (b : Bool) (names : Names) (x : ℕ × Kind) → Has (if b then [] else names) x → (b ≡ false) × Has names x
if_has true names x has = absurd has
if_has false names x has = (refl, has)

-- what is in their list: their shards, and the files beside the first shard of a server
in_moves : (has : ℕ → Bool) (moves : List ShardMove) (x : ℕ × Kind) → Has (move_names has moves) x → IsShardOf moves x.1 ⊎ ((has x.0 ≡ false) × (rank x.1 ≤ 2))
in_moves has [] x here = absurd here
in_moves has (m ∷ moves) x here = ⊎_elim
    (λ first.
    let new = if_has (has m.to) (beside_names m.to) x first in
    let at = beside_server m.to x new.1 in
    inr (ap has at.0 ∙ new.0, at.1))
    (λ rest. by_rest rest (λ more. in_moves (λ s. has s || (m.to == s)) moves x more))
    (has_either (if has m.to then [] else beside_names m.to) ((m.to, Shard m.shard) ∷ (m.from, Shard m.shard) ∷ move_names (λ s. has s || (m.to == s)) moves) x here)
  where
    later : IsShardOf moves x.1 ⊎ (((has x.0 || (m.to == x.0)) ≡ false) × (rank x.1 ≤ 2)) → IsShardOf (m ∷ moves) x.1 ⊎ ((has x.0 ≡ false) × (rank x.1 ≤ 2))
    later (inl (o, is, e)) = inl (o, inr is, e)
    later (inr (new, kind)) = inr ((or_false (has x.0) (m.to == x.0) new).0, kind)

    by_rest : Has ((m.to, Shard m.shard) ∷ (m.from, Shard m.shard) ∷ move_names (λ s. has s || (m.to == s)) moves) x
        → (Has (move_names (λ s. has s || (m.to == s)) moves) x → IsShardOf moves x.1 ⊎ (((has x.0 || (m.to == x.0)) ≡ false) × (rank x.1 ≤ 2)))
        → IsShardOf (m ∷ moves) x.1 ⊎ ((has x.0 ≡ false) × (rank x.1 ≤ 2))
    by_rest (inl same) more = inl (m, inl refl, ap (λ (q : ℕ × Kind). q.1) (sym same))
    by_rest (inr (inl same)) more = inl (m, inl refl, ap (λ (q : ℕ × Kind). q.1) (sym same))
    by_rest (inr (inr rest)) more = later (more rest)

shard_is : (i j : ℕ) → ◌≡◌ {A = Kind} (Shard i) (Shard j) → i ≡ j
shard_is i j e = cc

-- a shard that was moved doesn't move again
moved_once : (servers : ℕ) (m : ShardMove) (moves : List ShardMove) (row : Row) (got : ℕ → Bool) → IsMove servers row m → AreInTurn servers (moved row m) moves → HaveFew servers row got
    → (o : ShardMove) → Has moves o → o.shard ≡ m.shard → ⊥
moved_once servers m moves row got is turn have o has e = by_fate (moves_fate servers moves (moved row m) (got_more got m.to) turn (move_few servers row got have m is) m.shard)
  where
    at_target : place_in (moved row m) m.shard ≡ Some m.to
    at_target = get_or-set_same row m.shard (Some m.to) None (place_within row m.shard m.from is.chosen.there)

    by_fate : IsMoved (moved row m) (got_more got m.to) moves m.shard ⊎ IsStill (moved row m) moves m.shard → ⊥
    by_fate (inl again) =
        let source : again.move.from ≡ m.to = some_is again.move.from m.to (sym again.from ∙ at_target) in
        again.old_source (or_right (got again.move.from) (m.to == again.move.from) (eq-eqb m.to again.move.from (sym source)))
    by_fate (inr still) = still.none o has e

moves_once : (servers : ℕ) (has : ℕ → Bool) (moves : List ShardMove) (row : Row) (got : ℕ → Bool) → AreInTurn servers row moves → HaveFew servers row got → Once (move_names has moves)
moves_once servers has [] row got turn have = tt
moves_once servers has (m ∷ moves) row got turn have = with_rest (moves_once servers (λ s. has s || (m.to == s)) moves (moved row m) (got_more got m.to) turn.1 (move_few servers row got have m turn.0))
  where
    by_new : (b : Bool) → Once (if b then [] else beside_names m.to)
    by_new true = tt
    by_new false = beside_once m.to

    two_servers : m.to ≡ m.from → ⊥
    two_servers e = omega (arith, ap (count_on row) e, turn.0.due)

    no_later : (s : ℕ) → Has (move_names (λ s. has s || (m.to == s)) moves) (s, Shard m.shard) → ⊥
    no_later s later = ⊎_elim
        (λ (again : IsShardOf moves (Shard m.shard)). moved_once servers m moves row got turn.0 turn.1 have again.0 again.1 (sym (shard_is m.shard again.0.shard again.2)))
        (λ new. let low : 3 ≤ 2 = new.1 in omega (arith, low))
        (in_moves (λ s. has s || (m.to == s)) moves (s, Shard m.shard) later)

    apart : (x : ℕ × Kind) → Has (if has m.to then [] else beside_names m.to) x → Has ((m.to, Shard m.shard) ∷ (m.from, Shard m.shard) ∷ move_names (λ s. has s || (m.to == s)) moves) x → ⊥
    apart x first rest = by_rest (beside_server m.to x (if_has (has m.to) (beside_names m.to) x first).1) rest
      where
        by_rest : (x.0 ≡ m.to) × (rank x.1 ≤ 2) → Has ((m.to, Shard m.shard) ∷ (m.from, Shard m.shard) ∷ move_names (λ s. has s || (m.to == s)) moves) x → ⊥
        by_rest at (inl e) = let shard : 3 ≡ rank x.1 = ap (λ (q : ℕ × Kind). rank q.1) e in omega (arith, shard, at.1)
        by_rest at (inr (inl e)) = let shard : 3 ≡ rank x.1 = ap (λ (q : ℕ × Kind). rank q.1) e in omega (arith, shard, at.1)
        by_rest at (inr (inr later)) = ⊎_elim
            (λ (shard : IsShardOf moves x.1). let kind : rank x.1 ≡ 3 = ap rank shard.2 in omega (arith, kind, at.1))
            (λ new. false≢true (sym new.0 ∙ or_right (has x.0) (m.to == x.0) (eq-eqb m.to x.0 (sym at.0))))
            (in_moves (λ s. has s || (m.to == s)) moves x later)

    with_rest : Once (move_names (λ s. has s || (m.to == s)) moves) → Once (move_names has (m ∷ moves))
    with_rest rest =
        once_append (if has m.to then [] else beside_names m.to) ((m.to, Shard m.shard) ∷ (m.from, Shard m.shard) ∷ move_names (λ s. has s || (m.to == s)) moves) (by_new (has m.to))
        ((λ there. ⊎_elim (λ e. two_servers (ap (λ (q : ℕ × Kind). q.0) (sym e))) (λ later. no_later m.to later) there), ((λ later. no_later m.from later), rest)) apart

-- ---- targets

numbers_filled : (servers : ℕ) (missing : List ℕ) (targets : List (ℕ × ℕ)) (row : Row) → AreFilled servers row missing targets → map (λ (p : ℕ × ℕ). p.0) targets ≡ missing
numbers_filled servers [] [] row are = refl
numbers_filled servers [] (p ∷ targets) row are = absurd are
numbers_filled servers (i ∷ missing) [] row are = absurd are
numbers_filled servers (i ∷ missing) (p ∷ targets) row are = λ k. are.0 k ∷ numbers_filled servers missing targets (slice_set row i (Some p.1)) are.2 k

-- ---- the list

module _ (plan : Plan) (servers : ℕ) (is : IsMendPlan servers plan) (fills : Fills servers plan is.row) (targets_once : Once (map (λ (p : ℕ × ℕ). p.0) plan.targets.items)) where
  abbrev has_shards : ℕ → Bool
  has_shards s = held plan s || is_target plan s

  abbrev new_targets : List ℕ
  new_targets = filter (λ s. is_target plan s && not (held plan s)) all_servers

  abbrev firsts : Names
  firsts = flat_map beside_names new_targets

  abbrev made : Names
  made = shard_names plan.targets.items

  abbrev moves : Names
  moves = move_names has_shards plan.moves.items

  -- a shard that the plan makes doesn't move
  made_stay : (i s : ℕ) → Has plan.targets.items (i, s) → (m : ShardMove) → Has plan.moves.items m → m.shard ≡ i → ⊥
  made_stay i s target m has e = by_fates (fills.fate i) (moves_fate servers plan.moves.items (filled is.row plan.targets.items) (got_filled plan.targets.items) is.moves.in_turn fills.few i)
    where
      by_fates : IsFilled is.row plan.targets.items i ⊎ IsPassed is.row plan.targets.items i
          → IsMoved (filled is.row plan.targets.items) (got_filled plan.targets.items) plan.moves.items i ⊎ IsStill (filled is.row plan.targets.items) plan.moves.items i → ⊥
      by_fates (inr passed) other = passed.none s target
      by_fates (inl there) (inr still) = still.none m has e
      by_fates (inl there) (inl goes) =
          let source : goes.move.from ≡ there.server = some_is goes.move.from there.server (sym goes.from ∙ there.placed) in
          goes.old_source (has_any (λ (p : ℕ × ℕ). p.1 == goes.move.from) plan.targets.items (i, there.server) there.has (eq-eqb there.server goes.move.from (sym source)))

  first_is : (x : ℕ × Kind) → Has firsts x → (is_target plan x.0 ≡ true) × (rank x.1 ≤ 2)
  first_is x has =
      let at = flat_has beside_names new_targets x has in
      let beside = beside_server at.0 x at.2 in
      let both = and_parts (is_target plan at.0) (not (held plan at.0)) (filter_has (λ s. is_target plan s && not (held plan s)) all_servers at.0 at.1).1 in
      (ap (is_target plan) beside.0 ∙ both.0, beside.1)

  made_apart : (x : ℕ × Kind) → Has made x → Has moves x → ⊥
  made_apart x target move =
      let at = map_has (λ (p : ℕ × ℕ). (p.1, Shard p.0)) plan.targets.items x target in
      let kind : x.1 ≡ Shard at.0.0 = ap (λ (q : ℕ × Kind). q.1) (sym at.2) in
      ⊎_elim
      (λ (shard : IsShardOf plan.moves.items x.1). made_stay at.0.0 at.0.1 at.1 shard.0 shard.1 (shard_is shard.0.shard at.0.0 (sym shard.2 ∙ kind)))
      (λ new. let r : rank x.1 ≡ 3 = ap rank kind in omega (arith, r, new.1))
      (in_moves has_shards plan.moves.items x move)

  first_apart : (x : ℕ × Kind) → Has firsts x → Has (made ++ moves) x → ⊥
  first_apart x first rest =
      let at = first_is x first in
      ⊎_elim
      (λ target. let r = shard_rank plan.targets.items x target in omega (arith, r, at.1))
      (λ move. ⊎_elim
      (λ (shard : IsShardOf plan.moves.items x.1). let r : rank x.1 ≡ 3 = ap rank shard.2 in omega (arith, r, at.1))
      (λ new. false≢true (sym (or_false (held plan x.0) (is_target plan x.0) new.0).1 ∙ at.0))
      (in_moves has_shards plan.moves.items x move))
      (has_either made moves x rest)

  mend_once : Once (mend_names plan)
  mend_once =
      once_append firsts (made ++ moves)
      (once_flat beside_names new_targets (servers_once (λ s. is_target plan s && not (held plan s))) beside_once (λ s t x a b. sym (beside_server s x a).0 ∙ (beside_server t x b).0))
      (once_append made moves (shards_once plan.targets.items targets_once) (moves_once servers has_shards plan.moves.items (filled is.row plan.targets.items) (got_filled plan.targets.items) is.moves.in_turn fills.few) made_apart)
      first_apart

pub rebuild_once : (plan : Plan) (servers : ℕ) (is : IsMendPlan servers plan) → AreFilled servers is.row (missing_of plan.info.geometry is.row) plan.targets.items → plan.command ≡ Rebuild → Once (list_of plan)
rebuild_once plan servers is are e = subst Once (sym (ap (list_by plan) e)) (mend_once plan servers is (rebuild_fills plan servers is.row is.placed are)
    (subst Once (sym (numbers_filled servers (missing_of plan.info.geometry is.row) plan.targets.items is.row are)) (once_filter (λ i. not (is_some (place_in is.row i))) (all_numbers plan.info.geometry) (once_range 0 _))))

pub balance_once : (plan : Plan) (servers : ℕ) → IsMendPlan servers plan → plan.targets.items ≡ [] → plan.command ≡ Balance → Once (list_of plan)
balance_once plan servers is none e = subst Once (sym (ap (list_by plan) e)) (mend_once plan servers is (balance_fills plan servers is.row is.placed none)
    (subst (λ (ts : List (ℕ × ℕ)). Once (map (λ (p : ℕ × ℕ). p.0) ts)) (sym none) tt))
