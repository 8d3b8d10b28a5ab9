-- The missing shards before a number are placed.
use Rattle.std.proofs.Common.{◌≡◌, ℕ, ◌+◌, ◌≤◌, Bool, true, false, cond, not, List, [], ◌∷◌, ◌++◌, Option, Some, None, is_some, filter, slice_set, get_or-set_other, refl, sym, ◌∙◌, ap, subst, arith, append-nil}
use Rattle.std.specs.List.{range_with_len}
use Rattle.std.proofs.lemmas.List.Elements.{filter-append}
use Rattle.std.proofs.lemmas.Bool.{false≢true}
use Rattle.shard_table.specs.Table.{Row, place_in}
use Rattle.shard_table.specs.Even.{IsFewest, AreInTurn, IsEvenRow, row_after}
use Rattle.shard_table.specs.declared.moves.ShardMove.{ShardMove}
use Rattle.stripe_layout.specs.declared.Geometry.{Geometry}
use Rattle.plan_steps.specs.Plans.{AreFilled, AreMoves, filled, missing_of}
use Rattle.plan_mend.specs.Filling.{FillsBy, FillsOne}
use Rattle.plan_code.specs.Laws.Range.{range_more}

-- ---- one more at the end of a list

filled_more : (targets : List (ℕ × ℕ)) (row : Row) (p : ℕ × ℕ) → filled row (targets ++ p ∷ []) ≡ slice_set (filled row targets) p.0 (Some p.1)
filled_more [] row p = refl
filled_more (q ∷ targets) row p = filled_more targets (slice_set row q.0 (Some q.1)) p

are_more : (servers : ℕ) (missing : List ℕ) (targets : List (ℕ × ℕ)) (row : Row) (i s : ℕ) → AreFilled servers row missing targets → IsFewest servers (filled row targets) s
    → AreFilled servers row (missing ++ i ∷ []) (targets ++ (i, s) ∷ [])
are_more servers [] [] row i s are fewest = (refl, fewest, tt)
are_more servers [] (p ∷ targets) row i s are fewest = absurd are
are_more servers (j ∷ missing) [] row i s are fewest = absurd are
are_more servers (j ∷ missing) (p ∷ targets) row i s are fewest = (
  are.0,
  are.1,
  are_more servers missing targets (slice_set row j (Some p.1)) i s are.2 (subst (λ n. IsFewest servers (filled (slice_set row n (Some p.1)) targets) s) are.0 fewest),
)

-- ---- shard by shard

abbrev is_missing : Row → ℕ → Bool
is_missing row i = not (is_some (place_in row i))

-- The row is the old one with these targets, which are of the missing shards before k; those behind are as they were.
pub record IsFilling (servers : ℕ) (row : Row) (k : ℕ) (now : Row) (targets : List (ℕ × ℕ)) : Type 0 where
  pub are : AreFilled servers row (filter (λ i. not (is_some (place_in row i))) (range_with_len 0 k)) targets
  pub is : now ≡ filled row targets
  pub ahead : (i : ℕ) → k ≤ i → place_in now i ≡ place_in row i

missing_more : (row : Row) (k : ℕ) → filter (is_missing row) (range_with_len 0 (k + 1)) ≡ filter (is_missing row) (range_with_len 0 k) ++ cond (is_missing row k) (k ∷ []) []
missing_more row k =
    let last : 0 + k ≡ k = omega arith in
    ap (filter (is_missing row)) (range_more 0 k ∙ ap (λ n. range_with_len 0 k ++ n ∷ []) last) ∙ filter-append (is_missing row) (range_with_len 0 k) (k ∷ [])

pub filling_on : (servers : ℕ) (row : Row) (k : ℕ) (now next : Row) (targets after : List (ℕ × ℕ)) → IsFilling servers row k now targets → FillsOne servers k now next targets after → IsFilling servers row (k + 1) next after
filling_on servers row k now next targets after so_far one = by_place (place_in now k) refl one
  where
    by_place : (o : Option ℕ) → place_in now k ≡ o → FillsBy o servers k now next targets after → IsFilling servers row (k + 1) next after
    by_place (Some place) e (same, none) =
        let there : is_missing row k ≡ false = ap (λ o. not (is_some o)) (sym (so_far.ahead k (omega arith)) ∙ e) in
        let list : filter (is_missing row) (range_with_len 0 (k + 1)) ≡ filter (is_missing row) (range_with_len 0 k) =
        missing_more row k ∙ ap (λ b. filter (is_missing row) (range_with_len 0 k) ++ cond b (k ∷ []) []) there ∙ append-nil (filter (is_missing row) (range_with_len 0 k)) in
        record {
          are = subst (λ ts. AreFilled servers row (filter (is_missing row) (range_with_len 0 (k + 1))) ts) (sym none) (subst (λ ms. AreFilled servers row ms targets) (sym list) so_far.are);
          is = same ∙ so_far.is ∙ ap (filled row) (sym none);
          ahead = λ i h. ap (λ r. place_in r i) same ∙ so_far.ahead i (omega (arith, h));
        }
    by_place None e (s, fewest, set, more) =
        let gone : is_missing row k ≡ true = ap (λ o. not (is_some o)) (sym (so_far.ahead k (omega arith)) ∙ e) in
        let list : filter (is_missing row) (range_with_len 0 (k + 1)) ≡ filter (is_missing row) (range_with_len 0 k) ++ k ∷ [] =
        missing_more row k ∙ ap (λ b. filter (is_missing row) (range_with_len 0 k) ++ cond b (k ∷ []) []) gone in
        record {
          are = subst (λ ts. AreFilled servers row (filter (is_missing row) (range_with_len 0 (k + 1))) ts) (sym more)
              (subst (λ ms. AreFilled servers row ms (targets ++ (k, s) ∷ [])) (sym list)
              (are_more servers (filter (is_missing row) (range_with_len 0 k)) targets row k s so_far.are (subst (λ r. IsFewest servers r s) so_far.is fewest)));
          is = set ∙ ap (λ r. slice_set r k (Some s)) so_far.is ∙ sym (filled_more targets row (k, s)) ∙ ap (filled row) (sym more);
          ahead = λ i h. ap (λ r. place_in r i) set ∙ get_or-set_other now k i (Some s) None (λ e. absurd (omega (arith, h, e))) ∙ so_far.ahead i (omega (arith, h));
        }

-- ---- one shard

none_if : (o : Option ℕ) → is_some o ≡ false → o ≡ None
none_if None e = refl
none_if (Some s) e = absurd (false≢true (sym e))

-- a missing one is placed
pub fills_missing : (servers i s : ℕ) (old next : Row) (before after : List (ℕ × ℕ)) (place : Option ℕ) → place ≡ place_in old i → is_some place ≡ false → IsFewest servers old s → next ≡ slice_set old i (Some s) → after ≡ before ++ (i, s) ∷ []
    → FillsOne servers i old next before after
fills_missing servers i s old next before after place at missing fewest is more =
    subst (λ o. FillsBy o servers i old next before after) (sym (none_if place missing) ∙ at) (s, fewest, is, more)

-- ---- the same table by another name

pub filled_over : (geometry : Geometry) (s t : ℕ) (r q : Row) (targets : List (ℕ × ℕ)) → s ≡ t → r ≡ q → AreFilled s r (missing_of geometry r) targets → AreFilled t q (missing_of geometry q) targets
filled_over geometry s t r q targets servers row are = subst (λ n. AreFilled n q (missing_of geometry q) targets) servers (subst (λ x. AreFilled s x (missing_of geometry x) targets) row are)

pub moves_over : (s t : ℕ) (r q : Row) (moves : List ShardMove) → s ≡ t → r ≡ q → AreInTurn s r moves → IsEvenRow s (row_after r moves) → AreMoves t q moves
moves_over s t r q moves servers row in_turn even = subst (λ n. AreMoves n q moves) servers (subst (λ x. AreMoves s x moves) row (record { in_turn = in_turn; even = even }))
