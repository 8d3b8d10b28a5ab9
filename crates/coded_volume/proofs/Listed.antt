-- The entry of an id in the index of a data file's records.
use Rattle.std.proofs.Common.{◌≡◌, ℕ, zero, suc, ◌<◌, Bool, true, false, cond, ◌&&◌, T, List, [], ◌∷◌, length, map, All, Option, Some, None, refl, sym, ◌∙◌, ap, subst, arith}
use Rattle.std.specs.Prelude.{Contains, slice_index_or}
use Rattle.std.specs.Ordering.{nat_cmp, is_eq, is_lt, eq_by_cmp}
use Rattle.std.specs.declared.cmp.Ordering.{Ordering}
use Rattle.std.specs.declared.cmp.Ordering.TheVariants.{Less, Equal, Greater}
use Rattle.std.specs.Cmp.{nat_cmp_total, tied_itself}
use Rattle.std.specs.FinMap.{FinMap, get, values, entries, entries_sorted, find, is_sorted, get-entries, nat_cmp-IsAntisymmetric}
use Rattle.std.specs.FinMap.Entries.{below_all}
use Rattle.volume_forms.specs.declared.Entry.{Entry}
use Rattle.needle_record.specs.Records.{Placed, index_of, live, fold_records, AgreesAt}
use Rattle.needle_record.specs.Laws.Records.{index_of-agrees}
use Rattle.ecx_index.specs.Search.{HasRisingIds, IsEntryOf}

second : (a b : Bool) → T (a && b) → T b
second true b h = h
second false b h = absurd h

first : (a b : Bool) → T (a && b) → T a
first true b h = tt
first false b h = h

some_is : {A : Type 0} (x y : A) → Some x ≡ Some y → x ≡ y
some_is x y e = cc

module _ {X : Type 0} where
  abbrev value_in : List (ℕ × X) → List X
  value_in es = map (λ e. e.1) es

  -- no key below all finds a value
  none_below : (key : ℕ) (es : List (ℕ × X)) → T (below_all nat_cmp key es) → find nat_cmp key es ≡ None
  none_below key [] h = refl
  none_below key (e ∷ es) h = by_order (nat_cmp key e.0) (first _ _ h) (none_below key es (second _ _ h))
    where
      by_order : (o : Ordering) → T (is_lt o) → find nat_cmp key es ≡ None → cond (is_eq o) (Some e.1) (find nat_cmp key es) ≡ None
      by_order Less h rest = rest
      by_order Equal h rest = absurd h
      by_order Greater h rest = absurd h

  -- a value is found by its key
  found_by : (es : List (ℕ × X)) → T (is_sorted nat_cmp es) → (v : X) (k : ℕ) → k < length (value_in es) → slice_index_or (value_in es) k v ≡ v → (key : ℕ) × (find nat_cmp key es ≡ Some v)
  found_by [] sorted v k h at = absurd (omega arith)
  found_by (e ∷ es) sorted v zero h at =
      (e.0, ap (λ o. cond (is_eq o) (Some e.1) (find nat_cmp e.0 es)) (tied_itself nat_cmp_total e.0) ∙ ap Some at)
  found_by (e ∷ es) sorted v (suc k) h at = behind (found_by es (second _ _ sorted) v k (omega arith) at)
    where
      by_order : (key : ℕ) (o : Ordering) → nat_cmp key e.0 ≡ o → find nat_cmp key es ≡ Some v → cond (is_eq o) (Some e.1) (find nat_cmp key es) ≡ Some v
      by_order key Less p rest = rest
      by_order key Equal p rest =
          let none : find nat_cmp key es ≡ None = ap (λ k. find nat_cmp k es) (nat_cmp-IsAntisymmetric key e.0 p) ∙ none_below e.0 es (first _ _ sorted) in
          absurd (let both : None ≡ Some v = sym none ∙ rest in cc)
      by_order key Greater p rest = rest

      behind : ((key : ℕ) × (find nat_cmp key es ≡ Some v)) → (key : ℕ) × (find nat_cmp key (e ∷ es) ≡ Some v)
      behind rest = (rest.0, by_order rest.0 (nat_cmp rest.0 e.0) refl rest.1)

  -- what is found is one of the values
  find_in : (key : ℕ) (es : List (ℕ × X)) (v : X) → find nat_cmp key es ≡ Some v → Contains (value_in es) v
  find_in key [] v e = absurd cc
  find_in key (x ∷ es) v e = by_test (eq_by_cmp nat_cmp key x.0) e (find_in key es v)
    where
      by_test : (b : Bool) → cond b (Some x.1) (find nat_cmp key es) ≡ Some v → (find nat_cmp key es ≡ Some v → Contains (value_in es) v) → Contains (value_in (x ∷ es)) v
      by_test true e rest = (0, omega arith, some_is x.1 v e)
      by_test false e rest = let r = rest e in (suc r.0, omega (arith, r.1), r.2)

  pub key_of : (m : FinMap nat_cmp X) (v : X) → Contains (values m) v → (key : ℕ) × (get m key ≡ Some v)
  key_of m v has =
      let found = found_by (entries m) (entries_sorted m) v has.0 has.1 has.2 in
      (found.0, get-entries m found.0 ∙ found.1)

  pub value_there : (m : FinMap nat_cmp X) (key : ℕ) (v : X) → get m key ≡ Some v → Contains (values m) v
  value_there m key v is = find_in key (entries m) v (sym (get-entries m key) ∙ is)

-- ---- the index of records

module _ (Stands : Placed → Type 0) (ps : List Placed) (all : All Stands ps) where
  -- each entry stands under its id
  keyed : (key : ℕ) (e : Entry) → get (index_of ps) key ≡ Some e → e.id ≡ key
  keyed key e is =
      let agree = subst (λ (o : Option Entry). AgreesAt Stands key o (get (fold_records ps).needles key)) is (index_of-agrees Stands ps all key) in
      ap (λ (f : Entry). f.id) agree.5 ∙ agree.3

  -- what a search in its entries finds is the index's entry
  pub entry_is : (id : ℕ) (found : Option Entry) → HasRisingIds (live ps) → IsEntryOf (live ps) id found → get (index_of ps) id ≡ found
  entry_is id None rising none = by_entry (get (index_of ps) id) refl
    where
      by_entry : (o : Option Entry) → get (index_of ps) id ≡ o → o ≡ None
      by_entry None is = refl
      by_entry (Some e) is =
          let there = value_there (index_of ps) id e is in
          absurd (none rising there.0 e there.1 (ap (λ (f : Entry). f.id) there.2 ∙ keyed id e is))
  entry_is id (Some e) rising found =
      let by_key = key_of (index_of ps) e found.0 in
      let same : by_key.0 ≡ id = sym (keyed by_key.0 e by_key.1) ∙ found.1 in
      subst (λ k. get (index_of ps) k ≡ Some e) same by_key.1

  -- and the needle is that of its record
  pub agrees_found : (id : ℕ) (found : Option Entry) → HasRisingIds (live ps) → IsEntryOf (live ps) id found → AgreesAt Stands id found (get (fold_records ps).needles id)
  agrees_found id found rising is =
      subst (λ (o : Option Entry). AgreesAt Stands id o (get (fold_records ps).needles id)) (entry_is id found rising is) (index_of-agrees Stands ps all id)
