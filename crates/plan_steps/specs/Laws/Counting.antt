-- How many servers, shards and moves a plan has.
use Rattle.std.proofs.Common.{◌≡◌, ◌≢◌, ◌⊎◌, inl, inr, ⊎_elim, ℕ, suc, ◌<◌, ◌≤◌, Bool, true, false, List, [], ◌∷◌, length, map, Option, Some, None, refl, sym, ◌∙◌, subst, arith, length-append}
use Rattle.std.specs.Prelude.{◌||◌, ◌==◌, filter, flat_map, slice_set}
use Rattle.std.specs.List.{list_any, range_with_len}
use Rattle.std.proofs.lemmas.Bool.{eqb-true, eq-eqb}
use Rattle.std.proofs.lemmas.List.{length-map, get_or-set_same}
use Rattle.std.proofs.lemmas.List.Sums.{length-filter, count_by-le-length}
use Rattle.std.proofs.lemmas.List.FromFn.{length-range_with_len}
use Rattle.image_meaning.specs.Files.{all_servers}
use Rattle.image_meaning.specs.Laws.Options.{some_is}
use Rattle.site_model.specs.Counts.{max_servers}
use Rattle.shard_table.specs.Table.{Row, place_in}
use Rattle.shard_table.specs.Even.{AreInTurn, moved}
use Rattle.shard_table.specs.declared.moves.ShardMove.{ShardMove}
use Rattle.plan_steps.specs.Plans.{place_if, AreFilled}
use Rattle.plan_steps.specs.Members.{Has, map_has, has_map, has_range, any_has, filter_has}
use Rattle.plan_steps.specs.MendList.{filter_rises}
use Rattle.plan_steps.specs.Laws.Move.{HaveFew, IsMoved, IsStill, moves_fate, move_few, got_more, Rises, place_within}

-- ---- lists

-- each element is in the list once
abbrev Apart : {A : Type 0} → List A → Type 0
Apart [] = Unit {0}
Apart (x ∷ xs) = (Has xs x → ⊥) × Apart xs

-- without one of its elements a list is shorter
without : {A : Type 0} (ys : List A) (x : A) → Has ys x → (zs : List A) × (length ys ≡ suc (length zs)) × ((y : A) → Has ys y → y ≢ x → Has zs y)
without [] x has = absurd has
without (y ∷ ys) x (inl same) = (ys, omega arith, λ z has other. ⊎_elim (λ e. absurd (other (sym e ∙ same))) (λ rest. rest) has)
without (y ∷ ys) x (inr has) = let rest = without ys x has in (y ∷ rest.0, omega (arith, rest.1), λ z is other. ⊎_elim (λ e. inl e) (λ more. inr (rest.2 z more other)) is)

-- elements of a list, each once, are no more than it has
no_more : {A : Type 0} (xs ys : List A) → Apart xs → ((x : A) → Has xs x → Has ys x) → length xs ≤ length ys
no_more [] ys apart each = omega arith
no_more (x ∷ xs) ys apart each =
    let rest = without ys x (each x (inl refl)) in
    omega (arith, rest.1, no_more xs rest.0 apart.1 (λ y has. rest.2 y (each y (inr has)) (λ e. apart.0 (subst (Has xs) e has))))

rises_apart : (xs : List ℕ) → Rises xs → Apart xs
rises_apart [] rises = tt
rises_apart (x ∷ xs) rises = (λ has. absurd (omega (arith, rises.0 x has)), rises_apart xs rises.1)

-- ---- servers

-- that have one of these shards are no more than the shards
pub servers_few : (test : ℕ → Bool) (shards : List (ℕ × ℕ)) → ((s : ℕ) → test s ≡ true → list_any (λ (p : ℕ × ℕ). p.1 == s) shards ≡ true) → length (filter test all_servers) ≤ length shards
servers_few test shards have = omega (
  arith,
  length-map shards (λ (p : ℕ × ℕ). p.1),
  no_more (filter test all_servers) (map (λ (p : ℕ × ℕ). p.1) shards) (rises_apart (filter test all_servers) (filter_rises test 0 max_servers)) (λ s has. listed s (filter_has test all_servers s has).1),
)
  where
    listed : (s : ℕ) → test s ≡ true → Has (map (λ (p : ℕ × ℕ). p.1) shards) s
    listed s e =
        let found = any_has (λ (p : ℕ × ℕ). p.1 == s) shards (have s e) in
        subst (Has (map (λ (p : ℕ × ℕ). p.1) shards)) (eqb-true found.0.1 s found.2) (has_map (λ (p : ℕ × ℕ). p.1) shards found.0 found.1)

-- ---- shards

-- that are placed are as many as were missing
pub filled_length : (servers : ℕ) (missing : List ℕ) (targets : List (ℕ × ℕ)) (row : Row) → AreFilled servers row missing targets → length targets ≡ length missing
filled_length servers [] [] row are = refl
filled_length servers [] (p ∷ targets) row are = absurd are
filled_length servers (i ∷ missing) [] row are = absurd are
filled_length servers (i ∷ missing) (p ∷ targets) row are = omega (arith, filled_length servers missing targets (slice_set row i (Some p.1)) are.2)

pub filter_few : (test : ℕ → Bool) (a n : ℕ) → length (filter test (range_with_len a n)) ≤ n
filter_few test a n = omega (arith, length-filter test (range_with_len a n), count_by-le-length test (range_with_len a n), length-range_with_len a n)

-- and those with places are no more than all
pub placed_few : (row : Row) (numbers : List ℕ) → length (flat_map (λ i. place_if i (place_in row i)) numbers) ≤ length numbers
placed_few row [] = omega arith
placed_few row (i ∷ numbers) = omega (arith, length-append (place_if i (place_in row i)) (flat_map (λ i. place_if i (place_in row i)) numbers), one (place_in row i), placed_few row numbers)
  where
    one : (o : Option ℕ) → length (place_if i o) ≤ 1
    one None = omega arith
    one (Some s) = omega arith

-- ---- moves

or_right : (a b : Bool) → b ≡ true → (a || b) ≡ true
or_right true b e = refl
or_right false b e = e

-- each shard is moved once
moves_apart : (servers : ℕ) (moves : List ShardMove) (row : Row) (got : ℕ → Bool) → AreInTurn servers row moves → HaveFew servers row got → Apart (map (λ (m : ShardMove). m.shard) moves)
moves_apart servers [] row got turn have = tt
moves_apart servers (m ∷ moves) row got turn have = (again, moves_apart servers moves (moved row m) (got_more got m.to) turn.1 later)
  where
    later : HaveFew servers (moved row m) (got_more got m.to)
    later = move_few servers row got have m turn.0

    placed : place_in (moved row m) m.shard ≡ Some m.to
    placed = get_or-set_same row m.shard (Some m.to) None (place_within row m.shard m.from turn.0.chosen.there)

    by_fate : (o : ShardMove) → Has moves o → o.shard ≡ m.shard → IsMoved (moved row m) (got_more got m.to) moves m.shard ⊎ IsStill (moved row m) moves m.shard → ⊥
    by_fate o has same (inl next) =
        next.old_source (or_right (got next.move.from) (m.to == next.move.from) (eq-eqb m.to next.move.from (some_is m.to next.move.from (sym placed ∙ next.from))))
    by_fate o has same (inr still) = still.none o has same

    again : Has (map (λ (m : ShardMove). m.shard) moves) m.shard → ⊥
    again has =
        let found = map_has (λ (m : ShardMove). m.shard) moves m.shard has in
        by_fate found.0 found.1 found.2 (moves_fate servers moves (moved row m) (got_more got m.to) turn.1 later m.shard)

-- so there are no more moves than places
pub moves_few : (servers : ℕ) (moves : List ShardMove) (row : Row) (got : ℕ → Bool) → AreInTurn servers row moves → HaveFew servers row got → length moves ≤ length row
moves_few servers moves row got turn have = omega (
  arith,
  length-map moves (λ (m : ShardMove). m.shard),
  length-range_with_len 0 (length row),
  no_more (map (λ (m : ShardMove). m.shard) moves) (range_with_len 0 (length row)) (moves_apart servers moves row got turn have) within,
)
  where
    by_fate : (m : ShardMove) → Has moves m → IsMoved row got moves m.shard ⊎ IsStill row moves m.shard → m.shard < length row
    by_fate m has (inl is) = place_within row m.shard is.move.from is.from
    by_fate m has (inr still) = absurd (still.none m has refl)

    within : (i : ℕ) → Has (map (λ (m : ShardMove). m.shard) moves) i → Has (range_with_len 0 (length row)) i
    within i has =
        let found = map_has (λ (m : ShardMove). m.shard) moves i has in
        let short = by_fate found.0 found.1 (moves_fate servers moves row got turn have found.0.shard) in
        has_range 0 (length row) i (omega arith) (omega (arith, short, found.2))
