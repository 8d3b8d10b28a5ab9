-- The map of a list of entries.
use Rattle.std.proofs.Common.{◌≡◌, ℕ, ◌<◌, Bool, true, false, cond, ◌&&◌, T, List, [], ◌∷◌, ◌++◌, map, Some, None, refl, sym, ◌∙◌, ap, subst, arith}
use Rattle.std.specs.Ordering.{nat_cmp, is_eq, is_lt, eq_by_cmp}
use Rattle.std.specs.declared.cmp.Ordering.{Ordering}
use Rattle.std.specs.declared.cmp.Ordering.TheVariants.{Less, Equal, Greater}
use Rattle.std.specs.Cmp.{nat_cmp_total}
use Rattle.std.specs.List.{AllByRecursion}
use Rattle.std.specs.List.Sorted.{IsStrictlySortedBy}
use Rattle.std.specs.FinMap.{FinMap, from_entries, from_entries_push, empty, insert, find, is_sorted, nat_cmp-IsAntisymmetric}
use Rattle.std.specs.FinMap.Entries.{below_all}
use Rattle.std.proofs.lemmas.List.{map-append}
use Rattle.volume_forms.specs.declared.Entry.{Entry}

-- each entry under its id
abbrev pub under_ids : List Entry → List (ℕ × Entry)
under_ids es = map (λ e. (e.id, e)) es

-- the map of these entries; of several with one id the first counts
unfoldable pub map_of : List Entry → FinMap nat_cmp Entry
map_of es = from_entries (under_ids es)

pub map_of-none : map_of [] ≡ empty
unfolding map_of
map_of-none = refl

-- ---- the entries of the map

both : (a b : Bool) → T a → T b → T (a && b)
both true b p q = q
both false b p q = p

below : (id : ℕ) (es : List Entry) → AllByRecursion (λ key. nat_cmp id key ≡ Less) (map (λ e. e.id) es) → T (below_all nat_cmp id (under_ids es))
below id [] h = tt
below id (e ∷ es) h = both (is_lt (nat_cmp id e.id)) (below_all nat_cmp id (under_ids es)) (subst (λ o. T (is_lt o)) (sym h.0) tt) (below id es h.1)

sorted : (es : List Entry) → IsStrictlySortedBy nat_cmp (map (λ e. e.id) es) → T (is_sorted nat_cmp (under_ids es))
unfolding IsStrictlySortedBy
sorted [] h = tt
sorted (e ∷ es) h = both (below_all nat_cmp e.id (under_ids es)) (is_sorted nat_cmp (under_ids es)) (below e.id es h.0) (sorted es h.1)

alone : (es : List Entry) → map (λ (p : ℕ × Entry). p.1) (under_ids es) ≡ es
alone [] = refl
alone (e ∷ es) = ap (λ rest. e ∷ rest) (alone es)

-- ---- an entry more

tied : (o : Ordering) → is_eq o ≡ true → o ≡ Equal
tied Less e = absurd (subst T (sym e) tt)
tied Equal e = refl
tied Greater e = absurd (subst T (sym e) tt)

none_below : (id : ℕ) (es : List Entry) → AllByRecursion (λ e. e.id < id) es → find nat_cmp id (under_ids es) ≡ None
none_below id [] h = refl
none_below id (e ∷ es) h = by_test (eq_by_cmp nat_cmp id e.id) refl (none_below id es h.1)
  where
    by_test : (b : Bool) → eq_by_cmp nat_cmp id e.id ≡ b → find nat_cmp id (under_ids es) ≡ None → cond b (Some e) (find nat_cmp id (under_ids es)) ≡ None
    by_test true is none = absurd (omega (arith, h.0, nat_cmp-IsAntisymmetric id e.id (tied (nat_cmp id e.id) is)))
    by_test false is none = none

-- an entry behind those with lower ids
pub map_of-push : (es : List Entry) (e : Entry) → AllByRecursion (λ f. f.id < e.id) es → map_of (es ++ e ∷ []) ≡ insert (map_of es) e.id e
unfolding map_of
map_of-push es e h =
    ap from_entries (map-append (λ (f : Entry). (f.id, f)) es (e ∷ []))
    ∙ from_entries_push nat_cmp_total nat_cmp-IsAntisymmetric (under_ids es) e.id e (none_below e.id es h)
