-- The live records make the map from ids that all records make, each of its values once.
use Rattle.std.proofs.Common.{◌≡◌, ℕ, ◌+◌, ◌≤◌, List, [], ◌∷◌, Bool, true, false, cond, ◌||◌, ◌&&◌, not, is_some, Option, Some, None, All, sum_by, map, inl, inr, refl, sym, ◌∙◌, ap, arith}
use Rattle.std.specs.Prelude.{◌==◌}
use Rattle.std.specs.Option.{option_map_or}
use Rattle.std.specs.Ordering.{nat_cmp, eq_by_cmp, is_eq}
use Rattle.std.specs.Cmp.{nat_cmp_total, tied_itself}
use Rattle.std.specs.declared.cmp.Ordering.{Ordering}
use Rattle.std.specs.declared.cmp.Ordering.TheVariants.{Less, Equal, Greater}
use Rattle.std.specs.FinMap.{FinMap, empty, insert, remove, get, values, entries, find, put, get-empty, get-insert, get-remove, get-entries, len-entries, len-empty, entries-insert, same_map, nat_cmp-IsAntisymmetric}
use Rattle.std.specs.FinMap.Entries.{by_order}
use Rattle.std.proofs.lemmas.Bool.{cases_eq, eq-eqb, eqb-true, ne_eqb, or_parts, and_parts, not-false, not-true, false_from_ne_true}
use Rattle.std.proofs.lemmas.List.{nil_from_length}
use Rattle.std.proofs.lemmas.List.Elements.{All-nil, All-cons, All-head, All-tail}
use Rattle.std.proofs.lemmas.List.Sums.{sum_by-cons}
use mathlib.Core.Bool.{true≢false}
use Rattle.world_model.specs.declared.types.Content.{Content}
use Rattle.needle_record.specs.Spelling.{length_of_record}
use Rattle.needle_record.specs.Records.{Placed}
use Rattle.volume_vacuum.specs.Live.{has_id, live_records}

-- ---- some of the records

abbrev pub is_live : Placed → List Placed → Bool
is_live p ps = is_some p.1.content && not (has_id p.1.id ps)

-- what holds of each record holds of each live one
pub live-all : (P : Placed → Type 0) (ps : List Placed) → All P ps → All P (live_records ps)
unfolding live_records
live-all P [] all = All-nil P
live-all P (p ∷ ps) all = by_live (is_live p ps) (live-all P ps (All-tail P p ps all))
  where
    by_live : (b : Bool) → All P (live_records ps) → All P (cond b (p ∷ live_records ps) (live_records ps))
    by_live true rest = All-cons P p (live_records ps) (All-head P p ps all) rest
    by_live false rest = rest

-- each of them has content
abbrev pub HasContent : Placed → Type 0
HasContent p = is_some p.1.content ≡ true

pub live-content : (ps : List Placed) → All HasContent (live_records ps)
unfolding live_records
live-content [] = All-nil HasContent
live-content (p ∷ ps) = by_live (is_live p ps) refl (live-content ps)
  where
    by_live : (b : Bool) → is_live p ps ≡ b → All HasContent (live_records ps) → All HasContent (cond b (p ∷ live_records ps) (live_records ps))
    by_live true e rest = All-cons HasContent p (live_records ps) (and_parts (is_some p.1.content) (not (has_id p.1.id ps)) e).0 rest
    by_live false e rest = rest

-- a sum over a list
abbrev pub total : {X : Type 0} → (X → ℕ) → List X → ℕ
total f [] = 0
total f (x ∷ xs) = f x + total f xs

pub total-sum : {X : Type 0} (f : X → ℕ) (xs : List X) → total f xs ≡ sum_by f xs
total-sum f [] = refl
total-sum f (x ∷ xs) = ap (λ n. f x + n) (total-sum f xs) ∙ sym (sum_by-cons f x xs)

-- they take no more room
abbrev pub room_of : List Placed → ℕ
room_of ps = total (λ p. length_of_record p.1) ps

pub live-room : (ps : List Placed) → room_of (live_records ps) ≤ room_of ps
unfolding live_records
live-room [] = omega arith
live-room (p ∷ ps) = by_live (is_live p ps) (live-room ps)
  where
    by_live : (b : Bool) → room_of (live_records ps) ≤ room_of ps → room_of (cond b (p ∷ live_records ps) (live_records ps)) ≤ length_of_record p.1 + room_of ps
    by_live true h = omega arith
    by_live false h = omega arith

live-no_id : (id : ℕ) (ps : List Placed) → has_id id ps ≡ false → has_id id (live_records ps) ≡ false
unfolding live_records
live-no_id id [] none = refl
live-no_id id (p ∷ ps) none = by_live (is_live p ps) (live-no_id id ps (or_parts (p.1.id == id) (has_id id ps) none).1)
  where
    by_live : (b : Bool) → has_id id (live_records ps) ≡ false → has_id id (cond b (p ∷ live_records ps) (live_records ps)) ≡ false
    by_live true rest = ap (λ t. t || has_id id (live_records ps)) (or_parts (p.1.id == id) (has_id id ps) none).0 ∙ rest
    by_live false rest = rest

-- no two of them have one id
abbrev DifferInId : List Placed → Type 0
DifferInId [] = Unit {0}
DifferInId (p ∷ ps) = (has_id p.1.id ps ≡ false) × DifferInId ps

no_later : (p : Placed) (ps : List Placed) → is_live p ps ≡ true → has_id p.1.id ps ≡ false
no_later p ps lives = not-true (has_id p.1.id ps) (and_parts (is_some p.1.content) (not (has_id p.1.id ps)) lives).1

live-differ : (ps : List Placed) → DifferInId (live_records ps)
unfolding live_records
live-differ [] = tt
live-differ (p ∷ ps) = by_live (is_live p ps) refl (live-differ ps)
  where
    by_live : (b : Bool) → is_live p ps ≡ b → DifferInId (live_records ps) → DifferInId (cond b (p ∷ live_records ps) (live_records ps))
    by_live true e rest = (live-no_id p.1.id ps (no_later p ps e), rest)
    by_live false e rest = rest

-- ---- a map from ids, with a value for each record that has content

total-none : {X : Type 0} (f : X → ℕ) → total f (values (empty {X = X} {R = nat_cmp})) ≡ 0
total-none {X} f =
    ap (λ (es : List (ℕ × X)). total f (map (λ e. e.1) es)) (nil_from_length (entries (empty {X = X} {R = nat_cmp})) (sym (len-entries (empty {X = X} {R = nat_cmp})) ∙ len-empty nat_cmp X))

tied : (q k : ℕ) → eq_by_cmp nat_cmp q k ≡ (k == q)
tied q k = elim (cases_eq k q) [
  | inl e ↦ ap (λ n. eq_by_cmp nat_cmp q n) e ∙ ap is_eq (tied_itself nat_cmp_total q) ∙ sym (eq-eqb k q e)
  | inr other ↦ false_from_ne_true (eq_by_cmp nat_cmp q k) (λ e. other (by_case (nat_cmp q k) refl e)) ∙ sym (ne_eqb k q other)
]
  where
    by_case : (o : Ordering) → nat_cmp q k ≡ o → is_eq o ≡ true → k ≡ q
    by_case Less p e = absurd cc
    by_case Equal p e = sym (nat_cmp-IsAntisymmetric q k p)
    by_case Greater p e = absurd cc

module _ {X : Type 0} (value : Placed → Content → X) where
  abbrev pub after : FinMap nat_cmp X → Placed → Option Content → FinMap nat_cmp X
  after m p None = remove m p.1.id
  after m p (Some c) = insert m p.1.id (value p c)

  abbrev pub made_from : FinMap nat_cmp X → List Placed → FinMap nat_cmp X
  made_from m [] = m
  made_from m (p ∷ ps) = made_from (after m p p.1.content) ps

  abbrev value_by : Placed → Option Content → Option X
  value_by p None = None
  value_by p (Some c) = Some (value p c)

  -- what the records make of what an id had before
  abbrev last_value : ℕ → Option X → List Placed → Option X
  last_value id o [] = o
  last_value id o (p ∷ ps) = last_value id (cond (p.1.id == id) (value_by p p.1.content) o) ps

  value_after : (id : ℕ) (m : FinMap nat_cmp X) (p : Placed) (o : Option Content) → get (after m p o) id ≡ cond (p.1.id == id) (value_by p o) (get m id)
  value_after id m p None = get-remove nat_cmp_total m p.1.id id ∙ ap (λ b. cond b None (get m id)) (tied id p.1.id)
  value_after id m p (Some c) = get-insert nat_cmp_total m p.1.id (value p c) id ∙ ap (λ b. cond b (Some (value p c)) (get m id)) (tied id p.1.id)

  value_made : (id : ℕ) (m : FinMap nat_cmp X) (ps : List Placed) → get (made_from m ps) id ≡ last_value id (get m id) ps
  value_made id m [] = refl
  value_made id m (p ∷ ps) = value_made id (after m p p.1.content) ps ∙ ap (λ o. last_value id o ps) (value_after id m p p.1.content)

  -- where no record has the id it keeps what it had
  none_after : (id : ℕ) (o : Option X) (ps : List Placed) → has_id id ps ≡ false → last_value id o ps ≡ o
  none_after id o [] none = refl
  none_after id o (p ∷ ps) none =
      let parts = or_parts (p.1.id == id) (has_id id ps) none in
      ap (λ b. last_value id (cond b (value_by p p.1.content) o) ps) parts.0 ∙ none_after id o ps parts.1

  -- and where one has, that does not matter
  some_after : (id : ℕ) (a b : Option X) (ps : List Placed) → has_id id ps ≡ true → last_value id a ps ≡ last_value id b ps
  some_after id a b [] some = absurd (true≢false (sym some))
  some_after id a b (p ∷ ps) some = by_test (p.1.id == id) refl (some_after id a b ps)
    where
      by_test : (t : Bool) → (p.1.id == id) ≡ t → (has_id id ps ≡ true → last_value id a ps ≡ last_value id b ps) → last_value id (cond t (value_by p p.1.content) a) ps ≡ last_value id (cond t (value_by p p.1.content) b) ps
      by_test true e rest = refl
      by_test false e rest = rest (ap (λ t. t || has_id id ps) (sym e) ∙ some)

  same_value : (id : ℕ) (ps : List Placed) → last_value id None (live_records ps) ≡ last_value id None ps
  unfolding live_records
  same_value id [] = refl
  same_value id (p ∷ ps) = by_live (is_live p ps) refl (same_value id ps)
    where
      by_content : (o : Option Content) → p.1.content ≡ o → is_live p ps ≡ false → (p.1.id == id) ≡ true → last_value id None ps ≡ last_value id (value_by p o) ps
      by_content None e dead same = refl
      by_content (Some c) e dead same =
          let later : has_id p.1.id ps ≡ true = not-false (has_id p.1.id ps) (ap (λ (o : Option Content). is_some o && not (has_id p.1.id ps)) (sym e) ∙ dead) in
          some_after id None (value_by p (Some c)) ps (ap (λ n. has_id n ps) (sym (eqb-true p.1.id id same)) ∙ later)

      by_id : (t : Bool) → (p.1.id == id) ≡ t → is_live p ps ≡ false → last_value id None ps ≡ last_value id (cond t (value_by p p.1.content) None) ps
      by_id true e dead = by_content p.1.content refl dead e
      by_id false e dead = refl

      of_live : (t : Bool) → (p.1.id == id) ≡ t → is_live p ps ≡ true → last_value id None (live_records ps) ≡ last_value id None ps → last_value id (cond t (value_by p p.1.content) None) (live_records ps) ≡ last_value id (cond t (value_by p p.1.content) None) ps
      of_live true e lives rest =
          let none : has_id id ps ≡ false = ap (λ n. has_id n ps) (sym (eqb-true p.1.id id e)) ∙ no_later p ps lives in
          none_after id (value_by p p.1.content) (live_records ps) (live-no_id id ps none) ∙ sym (none_after id (value_by p p.1.content) ps none)
      of_live false e lives rest = rest

      by_live : (b : Bool) → is_live p ps ≡ b → last_value id None (live_records ps) ≡ last_value id None ps → last_value id None (cond b (p ∷ live_records ps) (live_records ps)) ≡ last_value id (cond (p.1.id == id) (value_by p p.1.content) None) ps
      by_live true e rest = of_live (p.1.id == id) refl e rest
      by_live false e rest = rest ∙ by_id (p.1.id == id) refl e

  -- the live records make the same map
  pub live-made : (ps : List Placed) → made_from empty (live_records ps) ≡ made_from empty ps
  live-made ps =
      same_map nat_cmp_total nat_cmp-IsAntisymmetric (made_from empty (live_records ps)) (made_from empty ps)
      (λ id. value_made id empty (live_records ps) ∙ ap (λ o. last_value id o (live_records ps)) (get-empty {X = X} nat_cmp id)
      ∙ same_value id ps ∙ sym (value_made id empty ps ∙ ap (λ o. last_value id o ps) (get-empty {X = X} nat_cmp id)))

  -- ---- of which each value stands once

  module _ (f : X → ℕ) where
    abbrev sum_in : List (ℕ × X) → ℕ
    sum_in es = total f (map (λ e. e.1) es)

    sum_put : (k : ℕ) (v : X) (es : List (ℕ × X)) → find nat_cmp k es ≡ None → sum_in (put nat_cmp k v es) ≡ f v + sum_in es
    sum_put k v [] none = refl
    sum_put k v (e ∷ es) none = by_case (nat_cmp k e.0) none (sum_put k v es)
      where
        by_case : (o : Ordering) → cond (is_eq o) (Some e.1) (find nat_cmp k es) ≡ None → (find nat_cmp k es ≡ None → sum_in (put nat_cmp k v es) ≡ f v + sum_in es)
            → sum_in (by_order o ((k, v) ∷ e ∷ es) ((e.0, v) ∷ es) (e ∷ put nat_cmp k v es)) ≡ f v + (f e.1 + sum_in es)
        by_case Less none more = refl
        by_case Equal none more = absurd cc
        by_case Greater none more = omega (arith, more none)

    abbrev pub of_record : Placed → ℕ
    of_record p = option_map_or (λ c. f (value p c)) p.1.content 0

    sum_after : (m : FinMap nat_cmp X) (p : Placed) (o : Option Content) → is_some o ≡ true → get m p.1.id ≡ None → total f (values (after m p o)) ≡ option_map_or (λ c. f (value p c)) o 0 + total f (values m)
    sum_after m p None some none = absurd (true≢false (sym some))
    sum_after m p (Some c) some none =
        ap sum_in (entries-insert nat_cmp_total m p.1.id (value p c)) ∙ sum_put p.1.id (value p c) (entries m) (sym (get-entries m p.1.id) ∙ none)

    sum_made : (m : FinMap nat_cmp X) (ps : List Placed) → All HasContent ps → DifferInId ps → ((id : ℕ) → has_id id ps ≡ true → get m id ≡ None)
        → total f (values (made_from m ps)) ≡ total of_record ps + total f (values m)
    sum_made m [] all differ fresh = omega arith
    sum_made m (p ∷ ps) all differ fresh =
        let here = sum_after m p p.1.content (All-head HasContent p ps all) (fresh p.1.id (ap (λ t. t || has_id p.1.id ps) (eq-eqb p.1.id p.1.id refl))) in
        let rest = sum_made (after m p p.1.content) ps (All-tail HasContent p ps all) differ.1 (λ id some. still id some (p.1.id == id) refl) in
        omega (arith, here, rest)
      where
        still : (id : ℕ) → has_id id ps ≡ true → (t : Bool) → (p.1.id == id) ≡ t → get (after m p p.1.content) id ≡ None
        still id some true e = absurd (true≢false (sym some ∙ ap (λ n. has_id n ps) (sym (eqb-true p.1.id id e)) ∙ differ.0))
        still id some false e =
            value_after id m p p.1.content ∙ ap (λ t. cond t (value_by p p.1.content) (get m id)) e
            ∙ fresh id (ap (λ t. t || has_id id ps) e ∙ some)

    pub live-sum : (ps : List Placed) → total f (values (made_from empty (live_records ps))) ≡ total of_record (live_records ps)
    live-sum ps = sum_made empty (live_records ps) (live-content ps) (live-differ ps) (λ id some. get-empty {X = X} nat_cmp id) ∙ omega (arith, total-none f)
