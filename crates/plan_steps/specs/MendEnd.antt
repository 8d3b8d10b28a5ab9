-- What stands at the end of a rebuild or a balance: each shard once, where the moves leave it, with its files beside it.
use Rattle.std.proofs.Common.{◌≡◌, ◌≢◌, ◌⊎◌, inl, inr, ⊎_elim, ℕ, ◌+◌, ◌<◌, ◌≤◌, true, false, List, [], length, Option, Some, None, is_some, refl, sym, ◌∙◌, ap, subst, arith}
use Rattle.std.specs.Prelude.{◌==◌, unwrap_or}
use mathlib.Core.Bool.{true≢false}
use Rattle.std.proofs.lemmas.Bool.{eq-eqb, eqb-true}
use Rattle.image_meaning.specs.Laws.Options.{none_some, some_is}
use Rattle.wire_num.specs.Pairs.{journal_bytes}
use Rattle.world_model.specs.World.{Volume}
use Rattle.world_model.specs.declared.types.Command.{Command}
use Rattle.world_model.specs.declared.types.Command.TheVariants.{Rebuild, Balance}
use Rattle.world_model.specs.Ratios.{data_count, parity_count, counts-sixteen}
use Rattle.file_names.specs.declared.Kind.{Kind}
use Rattle.file_names.specs.declared.Kind.TheVariants.{Dat, Idx, Cpd, Cpx, Shard, Ecx, Ecj, Vif}
use Rattle.file_names.specs.Names.{IsKind, max_shards}
use Rattle.stripe_layout.specs.declared.Info.{Info}
use Rattle.stripe_layout.specs.Stripes.{shards_in_all}
use Rattle.shard_table.specs.Table.{Row, place_in}
use Rattle.shard_table.specs.Even.{count_on, stands_on, row_after}
use Rattle.shard_table.specs.declared.moves.ShardMove.{ShardMove}
use Rattle.site_model.specs.Counts.{max_servers}
use Rattle.image_meaning.specs.Files.{has_index, stands, bytes_at, is_holder, shard_home}
use Rattle.image_meaning.specs.Coded.{deleted_at, ratio_of}
use Rattle.image_meaning.specs.Sound.{Stands, IsHolder}
use Rattle.image_meaning.specs.Ends.{IsTidyCoded, IsWhole, IsEven, shards_at}
use Rattle.image_meaning.specs.Laws.Plain.{lowest-all_fail}
use Rattle.image_meaning.specs.Laws.Part.{made_coded, made_ratio}
use Rattle.image_meaning.specs.Parts.{IsMadeOf}
use Rattle.image_meaning.specs.HeldParts.{any_member, beside_holder, held_made}
use Rattle.image_meaning.specs.Laws.CodedLoss.{any_range}
use Rattle.image_meaning.specs.Laws.Views.{index_named}
use Rattle.image_meaning.specs.Share.{Share, finals}
use Rattle.image_meaning.specs.Shards.{KeepsCopies, HasAllShards, EndsShards}
use Rattle.plan_steps.specs.declared.plan.Plan.{Plan}
use Rattle.plan_steps.specs.Kept.{Forms, IsKeptCoded}
use Rattle.plan_steps.specs.Laws.Kept.{coded_where}
use Rattle.plan_steps.specs.Planned.{held, placed, is_found, is_found_coded, planned}
use Rattle.plan_steps.specs.Legal.{IsFound, IsNew}
use Rattle.plan_steps.specs.Laws.Legal.{some_at, by_bool}
use Rattle.plan_steps.specs.Lists.{is_target, mend_names, list_by, list_of}
use Rattle.plan_steps.specs.Plans.{filled, missing_of, AreFilled, IsPlaced, AreMoves}
use Rattle.plan_steps.specs.Members.{Has, has_any, any_has}
use Rattle.plan_steps.specs.MendList.{rebuild_full, place_short, place_found, found_place, place_held, held_place, Fills, IsBesideKind, IsMoveOf, GetsFirst, in_mend, mend_target, mend_move, mend_beside}
use Rattle.plan_steps.specs.Laws.Move.{IsMoved, IsStill, moves_fate, moves_some, moved_some, moves_within, IsFilled, IsPassed, got_filled, place_counts, counts_place, count_places, length_after, length_filled}
use Rattle.plan_steps.specs.Laws.Round.{bool_same, count_same}
use Rattle.plan_steps.specs.Laws.End.{IsOver, IsInList, end_new, end_other, end_stands, end_none, row_homes}
use Rattle.plan_steps.specs.Progressing.{Running, FitsProgress}

kind_shard : (i j : ℕ) → ◌≡◌ {A = Kind} (Shard i) (Shard j) → i ≡ j
kind_shard i j e = cc

-- ---- the list, and what was found

abbrev pub IsMending : Command → Type 0
IsMending command = (command ≡ Rebuild) ⊎ (command ≡ Balance)

module _ (plan : Plan) (mends : IsMending plan.command) where
  list_is : list_of plan ≡ mend_names plan
  list_is = by_command mends
    where
      by_command : IsMending plan.command → list_of plan ≡ mend_names plan
      by_command (inl e) = ap (list_by plan) e
      by_command (inr e) = ap (list_by plan) e

  finds : (server : ℕ) (kind : Kind) → is_found plan plan.command server kind ≡ is_found_coded plan server kind
  finds server kind = by_command mends
    where
      by_command : IsMending plan.command → is_found plan plan.command server kind ≡ is_found_coded plan server kind
      by_command (inl e) = ap (λ c. is_found plan c server kind) e
      by_command (inr e) = ap (λ c. is_found plan c server kind) e

  in_names : (server : ℕ) (kind : Kind) → Has (list_of plan) (server, kind) → Has (mend_names plan) (server, kind)
  in_names server kind has = subst (λ (names : List (ℕ × Kind)). Has names (server, kind)) list_is has

  in_list : (server : ℕ) (kind : Kind) → Has (mend_names plan) (server, kind) → Has (list_of plan) (server, kind)
  in_list server kind has = subst (λ (names : List (ℕ × Kind)). Has names (server, kind)) (sym list_is) has

-- ---- what becomes of a shard

abbrev between_row : Plan → Row → Row
between_row plan first = filled first plan.targets.items

-- where the shards are once all is done
abbrev pub last_row : Plan → Row → Row
last_row plan first = row_after (between_row plan first) plan.moves.items

-- it stood at a server and is moved
record IsBrought (plan : Plan) (first : Row) (i : ℕ) : Type 0 where
  pub moved : IsMoved (between_row plan first) (got_filled plan.targets.items) plan.moves.items i
  pub from : place_in first i ≡ Some moved.move.from
  pub none : (s : ℕ) → Has plan.targets.items (i, s) → ⊥

-- it was missing and is made
record IsFilledIn (plan : Plan) (first : Row) (i : ℕ) : Type 0 where
  pub made : IsFilled first plan.targets.items i
  pub still : IsStill (between_row plan first) plan.moves.items i

-- or nothing becomes of it
record IsLeft (plan : Plan) (first : Row) (i : ℕ) : Type 0 where
  pub passed : IsPassed first plan.targets.items i
  pub still : IsStill (between_row plan first) plan.moves.items i

module _ (plan : Plan) (servers : ℕ) (first : Row) (fills : Fills servers plan first) (moves : AreMoves servers (between_row plan first) plan.moves.items) where
  fate : (i : ℕ) → IsBrought plan first i ⊎ (IsFilledIn plan first i ⊎ IsLeft plan first i)
  fate i = by_both (fills.fate i) (moves_fate servers plan.moves.items (between_row plan first) (got_filled plan.targets.items) moves.in_turn fills.few i)
    where
      by_both : IsFilled first plan.targets.items i ⊎ IsPassed first plan.targets.items i
          → IsMoved (between_row plan first) (got_filled plan.targets.items) plan.moves.items i ⊎ IsStill (between_row plan first) plan.moves.items i
          → IsBrought plan first i ⊎ (IsFilledIn plan first i ⊎ IsLeft plan first i)
      by_both (inl made) (inl moved) = absurd (moved.old_source
          (has_any (λ (p : ℕ × ℕ). p.1 == moved.move.from) plan.targets.items (i, made.server) made.has
          (eq-eqb made.server moved.move.from (some_is made.server moved.move.from (sym made.placed ∙ moved.from)))))
      by_both (inl made) (inr still) = inr (inl (record { made = made; still = still }))
      by_both (inr passed) (inl moved) = inl (record { moved = moved; from = sym passed.same ∙ moved.from; none = passed.none })
      by_both (inr passed) (inr still) = inr (inr (record { passed = passed; still = still }))

  -- a server with a shard keeps one
  keeps_some : (s : ℕ) → 1 ≤ count_on first s → 1 ≤ count_on (last_row plan first) s
  keeps_some s some = moves_some servers plan.moves.items (between_row plan first) moves.in_turn s (fills.some s some)

  -- and so has one that gets its first
  first_some : (s : ℕ) → GetsFirst plan s → 1 ≤ count_on (last_row plan first) s
  first_some s gets = ⊎_elim by_target by_move gets.1
    where
      by_target : is_target plan s ≡ true → 1 ≤ count_on (last_row plan first) s
      by_target e =
          let found = any_has (λ (p : ℕ × ℕ). p.1 == s) plan.targets.items e in
          let at : Has plan.targets.items (found.0.0, s) = subst (λ q. Has plan.targets.items (found.0.0, q)) (eqb-true found.0.1 s found.2) found.1 in
          moves_some servers plan.moves.items (between_row plan first) moves.in_turn s (by_fill found.0.0 at (fills.fate found.0.0))
        where
          by_fill : (i : ℕ) → Has plan.targets.items (i, s) → IsFilled first plan.targets.items i ⊎ IsPassed first plan.targets.items i → 1 ≤ count_on (between_row plan first) s
          by_fill i has (inl made) = place_counts (between_row plan first) i s (made.placed ∙ ap Some (sym (made.only s has)))
          by_fill i has (inr passed) = absurd (passed.none s has)

      by_move : (m : ShardMove) × Has plan.moves.items m × (m.to ≡ s) → 1 ≤ count_on (last_row plan first) s
      by_move (m, has, at) = subst (λ q. 1 ≤ count_on (last_row plan first) q) at (moved_some servers plan.moves.items (between_row plan first) moves.in_turn m has)

-- ---- the end

module _ (w : Volume) (f : Forms) (r : Running) (row : Row) (start now : Share) (fits : FitsProgress w f r row start now) (over : IsOver r) (mends : IsMending r.plan.command)
    (servers : ℕ) (few : servers ≤ max_servers) (first : Row) (is : IsPlaced servers r.plan first) (fills : Fills servers r.plan first)
    (moves : AreMoves servers (between_row r.plan first) r.plan.moves.items) where
  abbrev all : ℕ
  all = shards_in_all r.plan.info.geometry

  abbrev last : Row
  last = last_row r.plan first

  same_all : shards_in_all f.parts.info.geometry ≡ all
  same_all = ap (λ (info : Info). shards_in_all info.geometry) fits.begins.tells.info

  all_few : all ≤ max_shards
  all_few = counts-sixteen r.plan.info.geometry.ratio

  found_by : (server : ℕ) (kind : Kind) → is_found_coded r.plan server kind ≡ true → IsFound r.plan server kind
  found_by server kind e = finds r.plan mends server kind ∙ e

  new_by : (server : ℕ) (kind : Kind) → is_found_coded r.plan server kind ≡ false → IsNew r.plan server kind
  new_by server kind e = finds r.plan mends server kind ∙ e

  coded_found : (server : ℕ) (kind : Kind) → IsFound r.plan server kind → is_found_coded r.plan server kind ≡ true
  coded_found server kind e = sym (finds r.plan mends server kind) ∙ e

  coded_new : (server : ℕ) (kind : Kind) → IsNew r.plan server kind → is_found_coded r.plan server kind ≡ false
  coded_new server kind e = sym (finds r.plan mends server kind) ∙ e

  -- ---- shards

  -- one that stood
  shard_found : (i s : ℕ) → place_in first i ≡ Some s → IsFound r.plan s (Shard i)
  shard_found i s e = found_by s (Shard i) (place_found r.plan servers first is i s e)

  found_below : (i s : ℕ) → place_in first i ≡ Some s → s < max_servers
  found_below i s e = fits.begins.finds.below s (Shard i) (shard_found i s e)

  -- and one that didn't
  shard_new : (i s : ℕ) → place_in first i ≢ Some s → IsNew r.plan s (Shard i)
  shard_new i s other = ⊎_elim (λ e. absurd (other (found_place r.plan servers first is i s e))) (λ e. new_by s (Shard i) e) (by_bool (placed r.plan i s))

  planned_there : (i : ℕ) → i < all → is_some (planned f.parts (Shard i)) ≡ true
  planned_there i h = ap is_some (some_at f.parts.shards i (omega (arith, h, same_all, fits.forms.parts.striped.count)))

  written : (i s : ℕ) → i < all → s < max_servers → Has (mend_names r.plan) (s, Shard i) → place_in first i ≢ Some s → Stands (finals now) s (Shard i)
  written i s h below has other = (below, ap is_some (end_new w f r row start now fits over s (Shard i) (in_list r.plan mends s (Shard i) has) (shard_new i s other)) ∙ planned_there i h)

  -- a shard stands where the moves leave it
  shard_stands : (i s : ℕ) → place_in last i ≡ Some s → (i < all) × Stands (finals now) s (Shard i)
  shard_stands i s e = by_fate (fate r.plan servers first fills moves i)
    where
      by_fate : IsBrought r.plan first i ⊎ (IsFilledIn r.plan first i ⊎ IsLeft r.plan first i) → (i < all) × Stands (finals now) s (Shard i)
      by_fate (inl b) =
          let to : b.moved.move.to ≡ s = some_is b.moved.move.to s (sym b.moved.to ∙ e) in
          let h : i < all = place_short r.plan servers first is i b.moved.move.from b.from in (
            h,
            written i s h (subst (λ q. q < max_servers) to (omega (arith, few, (moves_within servers r.plan.moves.items (between_row r.plan first) moves.in_turn b.moved.move b.moved.has).1)))
                (mend_move r.plan s (Shard i) (b.moved.move, b.moved.has, ap Shard (sym b.moved.shard), inl (sym to)))
                (λ same. b.moved.apart (to ∙ sym (some_is b.moved.move.from s (sym b.from ∙ same)))),
          )
      by_fate (inr (inl m)) =
          let at : m.made.server ≡ s = some_is m.made.server s (sym m.made.placed ∙ sym m.still.same ∙ e) in
          let has : Has r.plan.targets.items (i, s) = subst (λ q. Has r.plan.targets.items (i, q)) at m.made.has in
          let h : i < all = fills.short i s has in
          (h, written i s h (omega (arith, few, fills.within i s has)) (mend_target r.plan i s has) (λ same. none_some (sym m.made.missed ∙ same)))
      by_fate (inr (inr k)) =
          let at : place_in first i ≡ Some s = sym k.passed.same ∙ sym k.still.same ∙ e in
          let h : i < all = place_short r.plan servers first is i s at in
          let found : IsFound r.plan s (Shard i) = shard_found i s at in (
            h,
            (
              found_below i s at,
              ap is_some (end_other w f r row start now fits over s (Shard i) (λ has. out k (in_mend r.plan s (Shard i) (in_names r.plan mends s (Shard i) has)))
                  ∙ sym (fits.begins.finds.shards s i (omega (arith, h, all_few)) found))
                  ∙ planned_there i h,
            ),
          )
        where
          out : IsLeft r.plan first i → (IsBesideKind (Shard i) × GetsFirst r.plan s) ⊎ (((j : ℕ) × (◌≡◌ {A = Kind} (Shard i) (Shard j)) × Has r.plan.targets.items (j, s)) ⊎ IsMoveOf r.plan.moves.items s (Shard i)) → ⊥
          out k (inl (inl e, gets)) = cc
          out k (inl (inr (inl e), gets)) = cc
          out k (inl (inr (inr e), gets)) = cc
          out k (inr (inl (j, e, has))) = k.passed.none s (subst (λ q. Has r.plan.targets.items (q, s)) (sym (kind_shard i j e)) has)
          out k (inr (inr (m, has, e, at))) = k.still.none m has (sym (kind_shard i m.shard e))

  -- and nowhere else
  shard_only : (i s : ℕ) → i < max_shards → Stands (finals now) s (Shard i) → place_in last i ≡ Some s
  shard_only i s h st = ⊎_elim
      (λ new. by_new (in_mend r.plan s (Shard i) (in_names r.plan mends s (Shard i) new.0)) (coded_new s (Shard i) new.1) (fate r.plan servers first fills moves i))
      (λ found. by_found (found_place r.plan servers first is i s (coded_found s (Shard i) found.1)) (λ has. found.0 (in_list r.plan mends s (Shard i) has)) (fate r.plan servers first fills moves i))
      (end_stands w f r row start now fits over s (Shard i) st.0 h st.1)
    where
      by_found : place_in first i ≡ Some s → (Has (mend_names r.plan) (s, Shard i) → ⊥) → IsBrought r.plan first i ⊎ (IsFilledIn r.plan first i ⊎ IsLeft r.plan first i) → place_in last i ≡ Some s
      by_found at out (inl b) = absurd (out (mend_move r.plan s (Shard i) (b.moved.move, b.moved.has, ap Shard (sym b.moved.shard), inr (some_is s b.moved.move.from (sym at ∙ b.from)))))
      by_found at out (inr (inl m)) = absurd (none_some (sym m.made.missed ∙ at))
      by_found at out (inr (inr k)) = k.still.same ∙ k.passed.same ∙ at

      by_target : Has r.plan.targets.items (i, s) → IsBrought r.plan first i ⊎ (IsFilledIn r.plan first i ⊎ IsLeft r.plan first i) → place_in last i ≡ Some s
      by_target has (inl b) = absurd (b.none s has)
      by_target has (inr (inl m)) = m.still.same ∙ m.made.placed ∙ ap Some (sym (m.made.only s has))
      by_target has (inr (inr k)) = absurd (k.passed.none s has)

      by_move : (m : ShardMove) → Has r.plan.moves.items m → m.shard ≡ i → (s ≡ m.to) ⊎ (s ≡ m.from) → placed r.plan i s ≡ false → IsBrought r.plan first i ⊎ (IsFilledIn r.plan first i ⊎ IsLeft r.plan first i) → place_in last i ≡ Some s
      by_move m has shard (inl to) new (inl b) = b.moved.to ∙ ap Some (sym (to ∙ (b.moved.only m has shard).1))
      by_move m has shard (inr from) new (inl b) = absurd (true≢false (sym (place_found r.plan servers first is i s (b.from ∙ ap Some (sym (from ∙ (b.moved.only m has shard).0)))) ∙ new))
      by_move m has shard at new (inr (inl made)) = absurd (made.still.none m has shard)
      by_move m has shard at new (inr (inr k)) = absurd (k.still.none m has shard)

      by_new : (IsBesideKind (Shard i) × GetsFirst r.plan s) ⊎ (((j : ℕ) × (◌≡◌ {A = Kind} (Shard i) (Shard j)) × Has r.plan.targets.items (j, s)) ⊎ IsMoveOf r.plan.moves.items s (Shard i))
          → placed r.plan i s ≡ false → IsBrought r.plan first i ⊎ (IsFilledIn r.plan first i ⊎ IsLeft r.plan first i) → place_in last i ≡ Some s
      by_new (inl (inl e, gets)) new which = absurd cc
      by_new (inl (inr (inl e), gets)) new which = absurd cc
      by_new (inl (inr (inr e), gets)) new which = absurd cc
      by_new (inr (inl (j, e, has))) new which = by_target (subst (λ q. Has r.plan.targets.items (q, s)) (sym (kind_shard i j e)) has) which
      by_new (inr (inr (m, has, e, at))) new which = by_move m has (sym (kind_shard i m.shard e)) at new which

  pub mend_once : (s t i : ℕ) → i < max_shards → Stands (finals now) s (Shard i) → Stands (finals now) t (Shard i) → s ≡ t
  mend_once s t i h a b = some_is s t (sym (shard_only i s h a) ∙ shard_only i t h b)

  -- a server with a shard in the last row holds one
  row_holder : (s : ℕ) → 1 ≤ count_on last s → IsHolder (finals now) s
  unfolding is_holder
  row_holder s some =
      let at = counts_place last s some in
      let st = shard_stands at.0 s at.1 in
      (st.1.0, any_range (λ i. stands (finals now) s (Shard i)) 0 max_shards at.0 (omega arith) (omega (arith, st.0, all_few)) st.1.1)

  -- ---- no other file

  -- of a kind that a mend neither writes nor finds
  none_of : (server : ℕ) (kind : Kind) → server < max_servers → IsKind kind → ((IsBesideKind kind × GetsFirst r.plan server) ⊎ (((i : ℕ) × (kind ≡ Shard i) × Has r.plan.targets.items (i, server)) ⊎ IsMoveOf r.plan.moves.items server kind) → ⊥)
      → is_found_coded r.plan server kind ≡ false → finals now server kind ≡ None
  none_of server kind below kind_is out e = end_none w f r row start now fits over server kind below kind_is
      (λ has new. out (in_mend r.plan server kind (in_names r.plan mends server kind has)))
      (λ found. absurd (true≢false (sym (coded_found server kind found) ∙ e)))

  no_idx : (server : ℕ) → server < max_servers → finals now server Idx ≡ None
  no_idx server below = none_of server Idx below tt out refl
    where
      out : (IsBesideKind Idx × GetsFirst r.plan server) ⊎ (((i : ℕ) × (◌≡◌ {A = Kind} Idx (Shard i)) × Has r.plan.targets.items (i, server)) ⊎ IsMoveOf r.plan.moves.items server Idx) → ⊥
      out (inl (inl e, gets)) = cc
      out (inl (inr (inl e), gets)) = cc
      out (inl (inr (inr e), gets)) = cc
      out (inr (inl (i, e, has))) = cc
      out (inr (inr (m, has, e, at))) = cc

  no_dat : (server : ℕ) → server < max_servers → finals now server Dat ≡ None
  no_dat server below = none_of server Dat below tt out refl
    where
      out : (IsBesideKind Dat × GetsFirst r.plan server) ⊎ (((i : ℕ) × (◌≡◌ {A = Kind} Dat (Shard i)) × Has r.plan.targets.items (i, server)) ⊎ IsMoveOf r.plan.moves.items server Dat) → ⊥
      out (inl (inl e, gets)) = cc
      out (inl (inr (inl e), gets)) = cc
      out (inl (inr (inr e), gets)) = cc
      out (inr (inl (i, e, has))) = cc
      out (inr (inr (m, has, e, at))) = cc

  no_cpx : (server : ℕ) → server < max_servers → finals now server Cpx ≡ None
  no_cpx server below = none_of server Cpx below tt out refl
    where
      out : (IsBesideKind Cpx × GetsFirst r.plan server) ⊎ (((i : ℕ) × (◌≡◌ {A = Kind} Cpx (Shard i)) × Has r.plan.targets.items (i, server)) ⊎ IsMoveOf r.plan.moves.items server Cpx) → ⊥
      out (inl (inl e, gets)) = cc
      out (inl (inr (inl e), gets)) = cc
      out (inl (inr (inr e), gets)) = cc
      out (inr (inl (i, e, has))) = cc
      out (inr (inr (m, has, e, at))) = cc

  no_cpd : (server : ℕ) → server < max_servers → finals now server Cpd ≡ None
  no_cpd server below = none_of server Cpd below tt out refl
    where
      out : (IsBesideKind Cpd × GetsFirst r.plan server) ⊎ (((i : ℕ) × (◌≡◌ {A = Kind} Cpd (Shard i)) × Has r.plan.targets.items (i, server)) ⊎ IsMoveOf r.plan.moves.items server Cpd) → ⊥
      out (inl (inl e, gets)) = cc
      out (inl (inr (inl e), gets)) = cc
      out (inl (inr (inr e), gets)) = cc
      out (inr (inl (i, e, has))) = cc
      out (inr (inr (m, has, e, at))) = cc

  -- so no index stands, and the volume is coded
  pub mend_coded : IsKeptCoded f.parts (finals now)
  mend_coded = coded_where f (finals now) fits.fits.kept (lowest-all_fail (has_index (finals now)) (λ s below. ap is_some (index_named (finals now) s (ap is_some (no_cpx s below)) ∙ no_idx s below)))

  -- ---- the files beside the shards

  -- a holder had shards, or gets its first
  held_or_first : (s : ℕ) → IsHolder (finals now) s → (held r.plan s ≡ true) ⊎ GetsFirst r.plan s
  unfolding is_holder
  held_or_first s holder =
      let found = any_member (λ i. stands (finals now) s (Shard i)) 0 max_shards holder.1 in
      by_stands found.0 (end_stands w f r row start now fits over s (Shard found.0) holder.0 (omega (arith, found.2)) found.3)
    where
      by_held : (held r.plan s ≡ true) ⊎ (held r.plan s ≡ false) → (is_target r.plan s ≡ true) ⊎ ((m : ShardMove) × Has r.plan.moves.items m × (m.to ≡ s)) → (held r.plan s ≡ true) ⊎ GetsFirst r.plan s
      by_held (inl e) gets = inl e
      by_held (inr e) gets = inr (e, gets)

      by_name : (i : ℕ) → placed r.plan i s ≡ false → (IsBesideKind (Shard i) × GetsFirst r.plan s) ⊎ (((j : ℕ) × (◌≡◌ {A = Kind} (Shard i) (Shard j)) × Has r.plan.targets.items (j, s)) ⊎ IsMoveOf r.plan.moves.items s (Shard i)) → (held r.plan s ≡ true) ⊎ GetsFirst r.plan s
      by_name i new (inl (beside, gets)) = inr gets
      by_name i new (inr (inl (j, e, has))) = by_held (by_bool (held r.plan s)) (inl (has_any (λ (p : ℕ × ℕ). p.1 == s) r.plan.targets.items (j, s) has (eq-eqb s s refl)))
      by_name i new (inr (inr (m, has, e, inl to))) = by_held (by_bool (held r.plan s)) (inr (m, has, sym to))
      by_name i new (inr (inr (m, has, e, inr from))) = by_source m has e from (fate r.plan servers first fills moves i)
        where
          by_source : (m : ShardMove) → Has r.plan.moves.items m → ◌≡◌ {A = Kind} (Shard i) (Shard m.shard) → s ≡ m.from → IsBrought r.plan first i ⊎ (IsFilledIn r.plan first i ⊎ IsLeft r.plan first i) → (held r.plan s ≡ true) ⊎ GetsFirst r.plan s
          by_source m has e from (inl b) = inl (place_held r.plan servers first is i s (b.from ∙ ap Some (sym (from ∙ (b.moved.only m has (sym (kind_shard i m.shard e))).0))))
          by_source m has e from (inr (inl made)) = absurd (made.still.none m has (sym (kind_shard i m.shard e)))
          by_source m has e from (inr (inr k)) = absurd (k.still.none m has (sym (kind_shard i m.shard e)))

      by_stands : (i : ℕ) → (IsInList r s (Shard i) × IsNew r.plan s (Shard i)) ⊎ ((IsInList r s (Shard i) → ⊥) × IsFound r.plan s (Shard i)) → (held r.plan s ≡ true) ⊎ GetsFirst r.plan s
      by_stands i (inl new) = by_name i (coded_new s (Shard i) new.1) (in_mend r.plan s (Shard i) (in_names r.plan mends s (Shard i) new.0))
      by_stands i (inr found) = inl (place_held r.plan servers first is i s (found_place r.plan servers first is i s (coded_found s (Shard i) found.1)))

  -- a file beside the shards of a server that had some isn't in the list
  beside_out : (s : ℕ) (kind : Kind) → IsBesideKind kind → held r.plan s ≡ true → IsInList r s kind → ⊥
  beside_out s kind beside e has = by_name beside (in_mend r.plan s kind (in_names r.plan mends s kind has))
    where
      no_shard : IsBesideKind kind → (i : ℕ) → kind ≡ Shard i → ⊥
      no_shard (inl v) i e = cc
      no_shard (inr (inl v)) i e = cc
      no_shard (inr (inr v)) i e = cc

      by_name : IsBesideKind kind → (IsBesideKind kind × GetsFirst r.plan s) ⊎ (((i : ℕ) × (kind ≡ Shard i) × Has r.plan.targets.items (i, s)) ⊎ IsMoveOf r.plan.moves.items s kind) → ⊥
      by_name is_beside (inl (b, gets)) = true≢false (sym e ∙ gets.0)
      by_name is_beside (inr (inl (i, shard, has))) = no_shard is_beside i shard
      by_name is_beside (inr (inr (m, has, shard, at))) = no_shard is_beside m.shard shard

  journal_is : (s : ℕ) → IsHolder (finals now) s → bytes_at (finals now) s Ecj ≡ journal_bytes f.parts.deleted
  journal_is s holder = ⊎_elim
      (λ e. ap (λ (o : Option (List ℕ)). unwrap_or o []) (end_other w f r row start now fits over s Ecj (beside_out s Ecj (inr (inr refl)) e)) ∙ fits.begins.finds.whole s (found_by s Ecj e))
      (λ gets. ap (λ (o : Option (List ℕ)). unwrap_or o []) (end_new w f r row start now fits over s Ecj
      (in_list r.plan mends s Ecj (mend_beside r.plan s Ecj holder.0 (inr (inr refl)) gets)) (new_by s Ecj gets.0)))
      (held_or_first s holder)

  ids_are : (s : ℕ) → IsHolder (finals now) s → deleted_at (finals now) s ≡ f.parts.deleted
  ids_are s holder = (beside_holder f.parts (finals now) mend_coded.holds s holder).journal

  same_ids : (s t : ℕ) → IsHolder (finals now) s → IsHolder (finals now) t → deleted_at (finals now) s ≡ deleted_at (finals now) t
  same_ids s t a b = ids_are s a ∙ sym (ids_are t b)

  beside_holds : (s : ℕ) (kind : Kind) → IsBesideKind kind → IsKind kind → is_found_coded r.plan s kind ≡ held r.plan s → Stands (finals now) s kind → IsHolder (finals now) s
  beside_holds s kind beside kind_is same st = ⊎_elim
      (λ new. row_holder s (by_name beside (in_mend r.plan s kind (in_names r.plan mends s kind new.0))))
      (λ found.
      let at = held_place r.plan servers first is s (sym same ∙ coded_found s kind found.1) in
      row_holder s (keeps_some r.plan servers first fills moves s (place_counts first at.0 s at.1)))
      (end_stands w f r row start now fits over s kind st.0 kind_is st.1)
    where
      no_shard : IsBesideKind kind → (i : ℕ) → kind ≡ Shard i → ⊥
      no_shard (inl v) i e = cc
      no_shard (inr (inl v)) i e = cc
      no_shard (inr (inr v)) i e = cc

      by_name : IsBesideKind kind → (IsBesideKind kind × GetsFirst r.plan s) ⊎ (((i : ℕ) × (kind ≡ Shard i) × Has r.plan.targets.items (i, s)) ⊎ IsMoveOf r.plan.moves.items s kind) → 1 ≤ count_on last s
      by_name is_beside (inl (b, gets)) = first_some r.plan servers first fills moves s gets
      by_name is_beside (inr (inl (i, shard, has))) = absurd (no_shard is_beside i shard)
      by_name is_beside (inr (inr (m, has, shard, at))) = absurd (no_shard is_beside m.shard shard)

  not_there : (o : Option (List ℕ)) → o ≡ None → is_some o ≡ true → ⊥
  not_there o none some = true≢false (sym some ∙ ap is_some none)

  at_holders : (server : ℕ) (kind : Kind) → IsKind kind → Stands (finals now) server kind → IsHolder (finals now) server
  at_holders server Dat h st = absurd (not_there (finals now server Dat) (no_dat server st.0) st.1)
  at_holders server Idx h st = absurd (not_there (finals now server Idx) (no_idx server st.0) st.1)
  at_holders server Cpd h st = absurd (not_there (finals now server Cpd) (no_cpd server st.0) st.1)
  at_holders server Cpx h st = absurd (not_there (finals now server Cpx) (no_cpx server st.0) st.1)
  at_holders server (Shard i) h st = row_holder server (place_counts last i server (shard_only i server h st))
  at_holders server Ecx h st = beside_holds server Ecx (inr (inl refl)) tt refl st
  at_holders server Ecj h st = beside_holds server Ecj (inr (inr refl)) tt refl st
  at_holders server Vif h st = beside_holds server Vif (inl refl) tt refl st

  pub mend_tidy : IsTidyCoded (finals now)
  mend_tidy = record {
    once = mend_once;
    same_journal = same_ids;
    whole_journal = λ server holder. journal_is server holder ∙ sym (ap journal_bytes (ids_are server holder));
    no_dat = no_dat;
    no_cpd = no_cpd;
    at_holders = at_holders;
  }

  pub mend_row : (i : ℕ) → i < max_shards → place_in row i ≡ shard_home (finals now) i
  mend_row = row_homes w f r row start now fits mend_once

  -- ---- even and whole

  stands_by : (s i : ℕ) → s < max_servers → i < max_shards → stands (finals now) s (Shard i) ≡ stands_on s (place_in last i)
  stands_by s i below h = bool_same (stands (finals now) s (Shard i)) (stands_on s (place_in last i))
      (λ st. ap (stands_on s) (shard_only i s h (below, st)) ∙ eq-eqb s s refl)
      (λ e. by_place (place_in last i) refl e)
    where
      by_place : (o : Option ℕ) → place_in last i ≡ o → stands_on s o ≡ true → stands (finals now) s (Shard i) ≡ true
      by_place None at e = absurd (true≢false (sym e))
      by_place (Some t) at e = (shard_stands i s (at ∙ ap Some (eqb-true t s e))).1.1

  length_last : length last ≡ max_shards
  length_last = length_after r.plan.moves.items (between_row r.plan first) ∙ length_filled r.plan.targets.items first ∙ is.is_row.shards

  count_now : (s : ℕ) → s < servers → shards_at (finals now) s ≡ count_on last s
  count_now s below = count_same (λ i. stands (finals now) s (Shard i)) (λ i. stands_on s (place_in last i)) 0 max_shards (λ i from to. stands_by s i (omega (arith, below, few)) (omega (arith, to)))
      ∙ count_places last max_shards s length_last

  pub mend_even : IsEven (finals now) servers
  mend_even s t a b = omega (arith, count_now s a, count_now t b, moves.even s t a b)

  -- a shard with a place keeps one
  on_last : (i s : ℕ) → place_in (between_row r.plan first) i ≡ Some s → (t : ℕ) × (place_in last i ≡ Some t)
  on_last i s e = ⊎_elim (λ moved. (moved.move.to, moved.to)) (λ still. (s, still.same ∙ e))
      (moves_fate servers r.plan.moves.items (between_row r.plan first) (got_filled r.plan.targets.items) moves.in_turn fills.few i)

  kept_place : (i s : ℕ) → place_in first i ≡ Some s → (t : ℕ) × (place_in last i ≡ Some t)
  kept_place i s e = ⊎_elim (λ made. absurd (none_some (sym made.missed ∙ e))) (λ passed. on_last i s (passed.same ∙ e)) (fills.fate i)

  module _ (full : (i : ℕ) → i < all → (s : ℕ) × (place_in last i ≡ Some s)) where
    made : IsMadeOf f.parts (finals now)
    made = held_made f.parts (finals now) mend_coded.holds

    there : (i : ℕ) → i < data_count (ratio_of (finals now)) + parity_count (ratio_of (finals now)) → (server : ℕ) × Stands (finals now) server (Shard i)
    there i h =
        let at = full i (omega (arith, h, same_all, ap (λ q. data_count q + parity_count q) (made_ratio f.parts (finals now) made mend_coded.form.enough))) in
        (at.0, (shard_stands i at.0 at.1).1)

    pub mend_whole : IsWhole (finals now)
    mend_whole = record { coded = made_coded f.parts (finals now) made mend_coded.form; there = there; once = mend_once; same_journal = same_ids }

  -- ---- the start

  -- the volume was coded
  start_coded : IsKeptCoded f.parts (finals start)
  start_coded = coded_where f (finals start) fits.begins.kept (lowest-all_fail (has_index (finals start)) (λ s below.
      ap is_some (index_named (finals start) s (ap is_some (none s Cpx below tt refl)) ∙ none s Idx below tt refl)))
    where
      none : (s : ℕ) (kind : Kind) → s < max_servers → IsKind kind → is_found_coded r.plan s kind ≡ false → finals start s kind ≡ None
      none s kind below kind_is e = fits.begins.finds.none_else s kind below kind_is (new_by s kind e)

  started : IsMadeOf f.parts (finals start)
  started = held_made f.parts (finals start) start_coded.holds

  -- a shard that stood had its place
  start_place : (server i : ℕ) → i < max_shards → Stands (finals start) server (Shard i) → place_in first i ≡ Some server
  start_place server i h st = ⊎_elim
      (λ e. found_place r.plan servers first is i server e)
      (λ e. absurd (not_there (finals start server (Shard i)) (fits.begins.finds.none_else server (Shard i) st.0 h (new_by server (Shard i) e)) st.1))
      (by_bool (placed r.plan i server))

  pub mend_copies : KeepsCopies (finals start) (finals now)
  mend_copies server i h st = let at = kept_place i server (start_place server i h st) in (at.0, (shard_stands i at.0 at.1).1)

  -- where all shards stood, all are left
  all_kept : HasAllShards (finals start) → IsWhole (finals now)
  all_kept has = mend_whole (λ i h.
      let stood = has i (omega (arith, h, same_all, ap (λ q. data_count q + parity_count q) (made_ratio f.parts (finals start) started start_coded.form.enough))) in
      kept_place i stood.0 (start_place stood.0 i (omega (arith, h, all_few)) stood.1))

  pub balance_shards : EndsShards Balance (finals start) (finals now) servers
  balance_shards = (made_coded f.parts (finals start) started start_coded.form, mend_even, mend_copies, all_kept)

  -- a rebuild makes all that are missing
  pub rebuild_shards : AreFilled servers first (missing_of r.plan.info.geometry first) r.plan.targets.items → EndsShards Rebuild (finals start) (finals now) servers
  rebuild_shards are = (
    mend_whole (λ i h. let at = rebuild_full r.plan servers first is are i h in on_last i at.0 at.1),
    mend_even,
  )
