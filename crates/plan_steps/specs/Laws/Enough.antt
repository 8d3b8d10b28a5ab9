-- A rebuild and a balance leave shards enough to be read, at each progress and on every site.
use Rattle.std.proofs.Common.{◌≡◌, ◌⊎◌, inl, inr, ⊎_elim, ℕ, ◌<◌, ◌≤◌, Bool, true, false, cond, List, [], ◌∷◌, ◌++◌, length, Option, Some, None, is_some, refl, sym, ◌∙◌, ap, subst, arith}
use Rattle.std.specs.Prelude.{filter, flat_map, slice_get}
use mathlib.Core.Bool.{true≢false}
use Rattle.std.proofs.lemmas.Bool.{cases_lt, le-leb}
use Rattle.world_model.specs.Ratios.{data_count}
use Rattle.file_names.specs.declared.Kind.{Kind}
use Rattle.file_names.specs.declared.Kind.TheVariants.{Idx, Shard}
use Rattle.shard_table.specs.Table.{Row, place_in}
use Rattle.plan_steps.specs.declared.plan.FileState.{FileState}
use Rattle.plan_steps.specs.Listed.{IsListed, listed_or_other}
use Rattle.plan_steps.specs.Legal.{IsFound, HasFile}
use Rattle.plan_steps.specs.Order.{Names, HasIndexBefore, IsElsewhereBefore}
use Rattle.plan_steps.specs.Laws.Order.{named_at, name_at}
use Rattle.plan_steps.specs.Lists.{mend_names, list_by, list_of}
use Rattle.plan_steps.specs.Plans.{all_numbers, place_if, IsPlan, IsPlaced}
use Rattle.plan_steps.specs.Laws.List.{mend_fills, list_goes}
use Rattle.plan_steps.specs.Members.{Has, at_has}
use Rattle.plan_steps.specs.MendList.{place_short, place_found, IsBesideKind, GetsFirst, IsMoveOf, in_mend}
use Rattle.plan_steps.specs.MendEnd.{IsMending}
use Rattle.plan_steps.specs.Planned.{is_found, is_found_coded}
use Rattle.plan_steps.specs.Progressing.{Running, IsOnItsWay}
use Rattle.plan_steps.specs.Reading.{has_enough}

-- no fewer shards have a place in a row than in another, where each of that one has
few_of : (first row : Row) → ((i : ℕ) → is_some (place_in first i) ≡ true → is_some (place_in row i) ≡ true) → (xs : List ℕ) → length (flat_map (λ i. place_if i (place_in first i)) xs) ≤ length (filter (λ i. is_some (place_in row i)) xs)
few_of first row stay [] = omega arith
few_of first row stay (i ∷ xs) = by_place (place_in first i) (is_some (place_in row i)) (stay i) (few_of first row stay xs)
  where
    by_place : (o : Option ℕ) (b : Bool) → (is_some o ≡ true → b ≡ true) → length (flat_map (λ i. place_if i (place_in first i)) xs) ≤ length (filter (λ i. is_some (place_in row i)) xs)
        → length (place_if i o ++ flat_map (λ i. place_if i (place_in first i)) xs) ≤ length (cond b (i ∷ filter (λ i. is_some (place_in row i)) xs) (filter (λ i. is_some (place_in row i)) xs))
    by_place None true is rest = omega (arith, rest)
    by_place None false is rest = rest
    by_place (Some s) true is rest = omega (arith, rest)
    by_place (Some s) false is rest = absurd (true≢false (sym (is refl)))

module _ (r : Running) (row : Row) (servers : ℕ) (is : IsPlan r.plan servers) (way : IsOnItsWay r row) (mends : IsMending r.plan.command) where
  finds : (server i : ℕ) → is_found r.plan r.plan.command server (Shard i) ≡ is_found_coded r.plan server (Shard i)
  finds server i = by_command mends
    where
      by_command : IsMending r.plan.command → is_found r.plan r.plan.command server (Shard i) ≡ is_found_coded r.plan server (Shard i)
      by_command (inl e) = ap (λ c. is_found r.plan c server (Shard i)) e
      by_command (inr e) = ap (λ c. is_found r.plan c server (Shard i)) e

  no_index : (k server : ℕ) → slice_get (list_of r.plan) k ≡ Some (server, Idx) → ⊥
  no_index k server at = by_command mends
    where
      by_member : (IsBesideKind Idx × GetsFirst r.plan server) ⊎ (((i : ℕ) × (◌≡◌ {A = Kind} Idx (Shard i)) × Has r.plan.targets.items (i, server)) ⊎ IsMoveOf r.plan.moves.items server Idx) → ⊥
      by_member (inl (inl e, gets)) = cc
      by_member (inl (inr (inl e), gets)) = cc
      by_member (inl (inr (inr e), gets)) = cc
      by_member (inr (inl (i, e, has))) = cc
      by_member (inr (inr (m, has, e, ends))) = cc

      by_list : list_of r.plan ≡ mend_names r.plan → ⊥
      by_list e = by_member (in_mend r.plan server Idx (at_has (mend_names r.plan) k (server, Idx) (ap (λ (names : Names). slice_get names k) (sym e) ∙ at)))

      by_command : IsMending r.plan.command → ⊥
      by_command (inl e) = by_list (ap (list_by r.plan) e)
      by_command (inr e) = by_list (ap (list_by r.plan) e)

  -- a shard that was found stands still, or has come to another server
  still_there : (server i : ℕ) → IsFound r.plan server (Shard i) → (s : ℕ) × HasFile r.plan r.states s (Shard i)
  still_there server i found = ⊎_elim
      (λ (l : IsListed r.states server (Shard i)). by_place l.0 l.1 l.2 l.3 l.4 (cases_lt l.0 way.reached.0))
      (λ other. (server, inr (found, other)))
      (listed_or_other r.states server (Shard i))
    where
      by_goes : (j : ℕ) → j < way.reached.0 → HasIndexBefore r.plan (list_of r.plan) j ⊎ IsElsewhereBefore r.plan (list_of r.plan) j server i → (s : ℕ) × HasFile r.plan r.states s (Shard i)
      by_goes j before (inl (s, below, (k, less, at, new))) = absurd (no_index k s at)
      by_goes j before (inr (other, apart, below, short, (k, less, at, new))) =
          let here = named_at (λ (s : FileState). (s.server, s.kind)) r.states k (other, Shard i) (ap (λ (names : Names). slice_get names k) way.listed ∙ at) in (
            other,
            inl (
              k,
              here.0,
              here.1,
              ap (λ (p : ℕ × Kind). p.0) here.2,
              ap (λ (p : ℕ × Kind). p.1) here.2,
              way.reached.1.written k here.0 here.1 (omega (arith, less, before)) (subst (λ (p : ℕ × Kind). is_found r.plan r.plan.command p.0 p.1 ≡ false) (sym here.2) new),
            ),
          )

      by_place : (j : ℕ) (s : FileState) → slice_get r.states j ≡ Some s → s.server ≡ server → s.kind ≡ Shard i → (j < way.reached.0) ⊎ (way.reached.0 ≤ j) → (s : ℕ) × HasFile r.plan r.states s (Shard i)
      by_place j s at a b (inl before) = by_goes j before (list_goes r.plan servers is j server (Shard i)
          (ap (λ (names : Names). slice_get names j) (sym way.listed) ∙ name_at (λ (s : FileState). (s.server, s.kind)) r.states j s at ∙ (λ i. Some (a i, b i))) found)
      by_place j s at a b (inr more) = (server, inl (j, s, at, a, b, way.reached.1.staying j s at more (subst (λ (p : ℕ × Kind). IsFound r.plan p.0 p.1) (λ i. (sym a i, sym b i)) found)))

  module _ (first : Row) (placed : IsPlaced servers r.plan first) where
    stays : (i : ℕ) → is_some (place_in first i) ≡ true → is_some (place_in row i) ≡ true
    stays i some = by_first (place_in first i) refl some
      where
        by_row : (s : ℕ) → place_in first i ≡ Some s → (o : Option ℕ) → place_in row i ≡ o → is_some o ≡ true
        by_row s e None none =
            let has = still_there s i (finds s i ∙ place_found r.plan servers first placed i s e) in
            absurd (way.places.missing i (place_short r.plan servers first placed i s e) none has.0 has.1)
        by_row s e (Some t) at = refl

        by_first : (o : Option ℕ) → place_in first i ≡ o → is_some o ≡ true → is_some (place_in row i) ≡ true
        by_first None e is_there = absurd (true≢false (sym is_there))
        by_first (Some s) e is_there = by_row s e (place_in row i) refl

    enough : has_enough r.plan.info row ≡ true
    enough = le-leb (data_count r.plan.info.geometry.ratio) (length (filter (λ i. is_some (place_in row i)) (all_numbers r.plan.info.geometry)))
        (omega (arith, placed.enough, ap length placed.places, few_of first row stays (all_numbers r.plan.info.geometry)))

  -- So they can be read.
  pub leaves_enough : has_enough r.plan.info row ≡ true
  leaves_enough = let fills = mend_fills r.plan servers is r.plan.command is.made mends in enough fills.0.row fills.0.placed
