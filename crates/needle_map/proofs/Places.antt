-- What the map of the entries answers, and how it changes with them.
use Rattle.std.proofs.Common.{◌≡◌, ℕ, Bool, true, false, cond, ◌&&◌, T, List, [], ◌∷◌, length, map, Option, Some, None, refl, sym, ◌∙◌, ap, subst}
use Rattle.std.proofs.lemmas.List.{length-map}
use Rattle.std.specs.Option.{option_map}
use Rattle.std.specs.Ordering.{nat_cmp, is_eq, is_lt, eq_by_cmp}
use Rattle.std.specs.declared.cmp.Ordering.{Ordering}
use Rattle.std.specs.declared.cmp.Ordering.TheVariants.{Less, Equal, Greater}
use Rattle.std.specs.Cmp.{nat_cmp_total, eq_by_cmp_equiv}
use Rattle.std.specs.BTreeMap.{is_at}
use Rattle.std.specs.List.{AllByRecursion}
use Rattle.std.specs.List.Sorted.{IsStrictlySortedBy}
use Rattle.std.specs.Map.{lookup, keys_of}
use Rattle.std.specs.FinMap.{find, get-from_entries, get-from_sorted, get-insert, get-remove, nat_cmp-IsAntisymmetric, same_map, entries-from_sorted, from_entries, from_sorted, len-entries, is_sorted}
use Rattle.std.specs.FinMap.Entries.{below_all}
use Rattle.std.specs.FinMap as finmap
use Rattle.volume_forms.specs.declared.Entry.{Entry}
use Rattle.needle_map.specs.declared.Place.{Place}
use Rattle.needle_map.specs.Entries.{by_id, entries_of, entry_at, keyed}

-- ---- look-ups

-- the place of an id
abbrev pub place_of : List (ℕ × Place) → ℕ → Option Place
place_of places id = lookup (is_at (nat_cmp id)) places

tied : (o : Ordering) → is_eq o ≡ true → o ≡ Equal
tied Less e = absurd (subst T (sym e) tt)
tied Equal e = refl
tied Greater e = absurd (subst T (sym e) tt)

-- ids tie just where they are one
same_id : (id key : ℕ) → eq_by_cmp nat_cmp id key ≡ true → id ≡ key
same_id id key e = nat_cmp-IsAntisymmetric id key (tied (nat_cmp id key) e)

-- the entry of the key that ties is the entry of the id
one_found : (id key : ℕ) (place : Place) (found : Option Place) (b : Bool) → (b ≡ true → id ≡ key) → cond b (Some (entry_at key place)) (option_map (entry_at id) found) ≡ option_map (entry_at id) (cond b (Some place) found)
one_found id key place found true same = ap (λ k. Some (entry_at k place)) (sym (same refl))
one_found id key place found false same = refl

one_gone : (id : ℕ) (found : Option Place) (b : Bool) → cond b None (option_map (entry_at id) found) ≡ option_map (entry_at id) (cond b None found)
one_gone id found true = refl
one_gone id found false = refl

find_keyed : (places : List (ℕ × Place)) (id : ℕ) → find nat_cmp id (keyed places) ≡ option_map (entry_at id) (place_of places id)
find_keyed [] id = refl
find_keyed (p ∷ ps) id =
    ap (λ r. cond (eq_by_cmp nat_cmp id p.0) (Some (entry_at p.0 p.1)) r) (find_keyed ps id) ∙ one_found id p.0 p.1 (place_of ps id) (eq_by_cmp nat_cmp id p.0) (same_id id p.0)

pub get-by_id : (places : List (ℕ × Place)) (id : ℕ) → finmap.get (by_id places) id ≡ option_map (entry_at id) (place_of places id)
unfolding by_id
get-by_id places id = get-from_entries nat_cmp_total (keyed places) id ∙ find_keyed places id

pub no_entries : by_id [] ≡ finmap.empty
unfolding by_id
no_entries = refl

-- ---- changes

turned : (id key : ℕ) → is_at (nat_cmp key) id ≡ eq_by_cmp nat_cmp id key
turned id key = (eq_by_cmp_equiv nat_cmp_total).symm key id

-- places that differ by the one of an id are the map with its entry
pub put_map : (old new : List (ℕ × Place)) (id : ℕ) (place : Place) → ((q : ℕ) → place_of new q ≡ cond (is_at (nat_cmp id) q) (Some place) (place_of old q)) → by_id new ≡ finmap.insert (by_id old) id (entry_at id place)
put_map old new id place h = same_map nat_cmp_total nat_cmp-IsAntisymmetric (by_id new) (finmap.insert (by_id old) id (entry_at id place)) (λ q.
    get-by_id new q
    ∙ ap (option_map (entry_at q)) (h q ∙ ap (λ b. cond b (Some place) (place_of old q)) (turned q id))
    ∙ sym (one_found q id place (place_of old q) (eq_by_cmp nat_cmp q id) (same_id q id))
    ∙ sym (get-insert nat_cmp_total (by_id old) id (entry_at id place) q ∙ ap (cond (eq_by_cmp nat_cmp q id) (Some (entry_at id place))) (get-by_id old q)))

-- and those that lack it are the map without
pub remove_map : (old new : List (ℕ × Place)) (id : ℕ) → ((q : ℕ) → place_of new q ≡ cond (is_at (nat_cmp id) q) None (place_of old q)) → by_id new ≡ finmap.remove (by_id old) id
remove_map old new id h = same_map nat_cmp_total nat_cmp-IsAntisymmetric (by_id new) (finmap.remove (by_id old) id) (λ q.
    get-by_id new q
    ∙ ap (option_map (entry_at q)) (h q ∙ ap (λ b. cond b None (place_of old q)) (turned q id))
    ∙ sym (one_gone q (place_of old q) (eq_by_cmp nat_cmp q id))
    ∙ sym (get-remove nat_cmp_total (by_id old) id q ∙ ap (cond (eq_by_cmp nat_cmp q id) None) (get-by_id old q)))

-- ---- the entries in order

both : (a b : Bool) → T a → T b → T (a && b)
both true b p q = q
both false b p q = p

below : (id : ℕ) (places : List (ℕ × Place)) → AllByRecursion (λ key. nat_cmp id key ≡ Less) (keys_of places) → T (below_all nat_cmp id (keyed places))
below id [] h = tt
below id (p ∷ ps) h = both (is_lt (nat_cmp id p.0)) _ (subst (λ o. T (is_lt o)) (sym h.0) tt) (below id ps h.1)

sorted : (places : List (ℕ × Place)) → IsStrictlySortedBy nat_cmp (keys_of places) → T (is_sorted nat_cmp (keyed places))
unfolding IsStrictlySortedBy
sorted [] h = tt
sorted (p ∷ ps) h = both (below_all nat_cmp p.0 (keyed ps)) (is_sorted nat_cmp (keyed ps)) (below p.0 ps h.0) (sorted ps h.1)

unkeyed : (places : List (ℕ × Place)) → map (λ (e : ℕ × Entry). e.1) (keyed places) ≡ entries_of places
unkeyed [] = refl
unkeyed (p ∷ ps) = ap (λ (l : List Entry). entry_at p.0 p.1 ∷ l) (unkeyed ps)

module _ (places : List (ℕ × Place)) (rising : IsStrictlySortedBy nat_cmp (keys_of places)) where
  entries-by_id : finmap.entries (by_id places) ≡ keyed places
  unfolding by_id
  entries-by_id =
      ap finmap.entries (same_map nat_cmp_total nat_cmp-IsAntisymmetric (from_entries (keyed places)) (from_sorted (keyed places)) (λ q.
      get-from_entries nat_cmp_total (keyed places) q ∙ sym (get-from_sorted nat_cmp (keyed places) q (sorted places rising))))
      ∙ entries-from_sorted nat_cmp (keyed places) (sorted places rising)

  pub len-by_id : finmap.len (by_id places) ≡ length places
  len-by_id = len-entries (by_id places) ∙ ap length entries-by_id ∙ length-map places (λ (p : ℕ × Place). (p.0, entry_at p.0 p.1))

  pub values-by_id : finmap.values (by_id places) ≡ entries_of places
  values-by_id = ap (map (λ (e : ℕ × Entry). e.1)) entries-by_id ∙ unkeyed places
