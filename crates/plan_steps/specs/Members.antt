-- The members of a list, by going through it.
use Rattle.std.proofs.Common.{◌≡◌, ◌⊎◌, inl, inr, ⊎_elim, ℕ, zero, suc, ◌+◌, ◌<◌, ◌≤◌, Bool, true, false, cond, List, [], ◌∷◌, ◌++◌, length, map, Some, refl, sym, ◌∙◌, ap, subst, arith}
use Rattle.std.specs.Prelude.{◌||◌, filter, flat_map, slice_get}
use Rattle.std.specs.List.{list_any, range_with_len}
use Rattle.std.proofs.lemmas.Bool.{cases_eq, false≢true}
use Rattle.image_meaning.specs.Laws.Options.{none_some, some_is}

abbrev pub Has : {A : Type 0} → List A → A → Type 0
Has [] x = ⊥
Has (y ∷ ys) x = (y ≡ x) ⊎ Has ys x

-- by its place
pub has_at : {A : Type 0} (xs : List A) (x : A) → Has xs x → (k : ℕ) × (slice_get xs k ≡ Some x)
has_at [] x has = absurd has
has_at (y ∷ ys) x (inl same) = (0, ap Some same)
has_at (y ∷ ys) x (inr has) = let rest = has_at ys x has in (suc rest.0, rest.1)

pub at_has : {A : Type 0} (xs : List A) (k : ℕ) (x : A) → slice_get xs k ≡ Some x → Has xs x
at_has [] k x e = absurd (none_some e)
at_has (y ∷ ys) zero x e = inl (some_is y x e)
at_has (y ∷ ys) (suc k) x e = inr (at_has ys k x e)

-- by their places in two lists
pub get_front : {A : Type 0} (xs ys : List A) (k : ℕ) (x : A) → slice_get xs k ≡ Some x → (slice_get (xs ++ ys) k ≡ Some x) × (k < length xs)
get_front [] ys k x e = absurd (none_some e)
get_front (z ∷ xs) ys zero x e = (e, omega arith)
get_front (z ∷ xs) ys (suc k) x e = let rest = get_front xs ys k x e in (rest.0, omega (arith, rest.1))

pub get_behind : {A : Type 0} (xs ys : List A) (k : ℕ) → slice_get (xs ++ ys) (length xs + k) ≡ slice_get ys k
get_behind [] ys k = let same : 0 + k ≡ k = omega arith in ap (slice_get ys) same
get_behind (z ∷ xs) ys k =
    let next : suc (length xs) + k ≡ suc (length xs + k) = omega arith in
    ap (slice_get (z ∷ (xs ++ ys))) next ∙ get_behind xs ys k

pub get_either : {A : Type 0} (xs ys : List A) (k : ℕ) (x : A) → slice_get (xs ++ ys) k ≡ Some x → (slice_get xs k ≡ Some x) ⊎ ((m : ℕ) × (k ≡ length xs + m) × (slice_get ys m ≡ Some x))
get_either [] ys k x e = inr (k, omega arith, e)
get_either (z ∷ xs) ys zero x e = inl e
get_either (z ∷ xs) ys (suc k) x e = ⊎_elim
    (λ here. inl here)
    (λ there. inr (there.0, omega (arith, there.1), there.2))
    (get_either xs ys k x e)

-- of two lists
pub has_left : {A : Type 0} (xs ys : List A) (x : A) → Has xs x → Has (xs ++ ys) x
has_left [] ys x has = absurd has
has_left (z ∷ xs) ys x (inl same) = inl same
has_left (z ∷ xs) ys x (inr has) = inr (has_left xs ys x has)

pub has_right : {A : Type 0} (xs ys : List A) (x : A) → Has ys x → Has (xs ++ ys) x
has_right [] ys x has = has
has_right (z ∷ xs) ys x has = inr (has_right xs ys x has)

pub has_either : {A : Type 0} (xs ys : List A) (x : A) → Has (xs ++ ys) x → Has xs x ⊎ Has ys x
has_either [] ys x has = inr has
has_either (z ∷ xs) ys x (inl same) = inl (inl same)
has_either (z ∷ xs) ys x (inr has) = ⊎_elim (λ here. inl (inr here)) (λ there. inr there) (has_either xs ys x has)

-- of what a function makes of a list
pub has_map : {A B : Type 0} (f : A → B) (xs : List A) (x : A) → Has xs x → Has (map f xs) (f x)
has_map f [] x has = absurd has
has_map f (y ∷ ys) x (inl same) = inl (ap f same)
has_map f (y ∷ ys) x (inr has) = inr (has_map f ys x has)

pub map_has : {A B : Type 0} (f : A → B) (xs : List A) (y : B) → Has (map f xs) y → (x : A) × Has xs x × (f x ≡ y)
map_has f [] y has = absurd has
map_has f (x ∷ xs) y (inl same) = (x, inl refl, same)
map_has f (x ∷ xs) y (inr has) = let rest = map_has f xs y has in (rest.0, inr rest.1, rest.2)

pub has_flat : {A B : Type 0} (f : A → List B) (xs : List A) (x : A) (y : B) → Has xs x → Has (f x) y → Has (flat_map f xs) y
has_flat f [] x y has here = absurd has
has_flat f (z ∷ xs) x y (inl same) here = has_left (f z) (flat_map f xs) y (subst (λ a. Has (f a) y) (sym same) here)
has_flat f (z ∷ xs) x y (inr has) here = has_right (f z) (flat_map f xs) y (has_flat f xs x y has here)

pub flat_has : {A B : Type 0} (f : A → List B) (xs : List A) (y : B) → Has (flat_map f xs) y → (x : A) × Has xs x × Has (f x) y
flat_has f [] y has = absurd has
flat_has f (x ∷ xs) y has = ⊎_elim
    (λ here. (x, inl refl, here))
    (λ there. let rest = flat_has f xs y there in (rest.0, inr rest.1, rest.2))
    (has_either (f x) (flat_map f xs) y has)

-- of those that pass
pub has_filter : {A : Type 0} (test : A → Bool) (xs : List A) (x : A) → Has xs x → test x ≡ true → Has (filter test xs) x
has_filter test [] x has e = absurd has
has_filter test (y ∷ ys) x has e = by_test (test y) refl has (λ rest. has_filter test ys x rest e)
  where
    by_test : (b : Bool) → test y ≡ b → Has (y ∷ ys) x → (Has ys x → Has (filter test ys) x) → Has (cond b (y ∷ filter test ys) (filter test ys)) x
    by_test true p (inl same) more = inl same
    by_test true p (inr rest) more = inr (more rest)
    by_test false p (inl same) more = absurd (false≢true (sym p ∙ ap test same ∙ e))
    by_test false p (inr rest) more = more rest

pub filter_has : {A : Type 0} (test : A → Bool) (xs : List A) (x : A) → Has (filter test xs) x → Has xs x × (test x ≡ true)
filter_has test [] x has = absurd has
filter_has test (y ∷ ys) x has = by_test (test y) refl has (λ rest. filter_has test ys x rest)
  where
    by_test : (b : Bool) → test y ≡ b → Has (cond b (y ∷ filter test ys) (filter test ys)) x → (Has (filter test ys) x → Has ys x × (test x ≡ true)) → Has (y ∷ ys) x × (test x ≡ true)
    by_test true p (inl same) more = (inl same, ap test (sym same) ∙ p)
    by_test true p (inr rest) more = let found = more rest in (inr found.0, found.1)
    by_test false p rest more = let found = more rest in (inr found.0, found.1)

-- of a range
pub has_range : (a n i : ℕ) → a ≤ i → i < a + n → Has (range_with_len a n) i
has_range a zero i from to = absurd (omega (arith, from, to))
has_range a (suc n) i from to = elim (cases_eq a i) [
  | inl same ↦ inl same
  | inr other ↦ inr (has_range (a + 1) n i (omega (arith, from, other)) (omega (arith, to)))
]

pub range_has : (a n i : ℕ) → Has (range_with_len a n) i → (a ≤ i) × (i < a + n)
range_has a zero i has = absurd has
range_has a (suc n) i (inl same) = (omega (arith, same), omega (arith, same))
range_has a (suc n) i (inr has) = let rest = range_has (a + 1) n i has in (omega (arith, rest.0), omega (arith, rest.1))

-- a list with a member that passes has one that does
pub has_any : {A : Type 0} (test : A → Bool) (xs : List A) (x : A) → Has xs x → test x ≡ true → list_any test xs ≡ true
has_any test [] x has e = absurd has
has_any test (y ∷ ys) x (inl same) e = ap (λ b. b || list_any test ys) (ap test same ∙ e)
has_any test (y ∷ ys) x (inr has) e = or_true (test y) (list_any test ys) (has_any test ys x has e)
  where
    or_true : (a b : Bool) → b ≡ true → (a || b) ≡ true
    or_true true b e = refl
    or_true false b e = e

pub any_has : {A : Type 0} (test : A → Bool) (xs : List A) → list_any test xs ≡ true → (x : A) × Has xs x × (test x ≡ true)
any_has test [] e = absurd (false≢true e)
any_has {A} test (y ∷ ys) e = by_test (test y) refl e (λ more. any_has test ys more)
  where
    by_test : (b : Bool) → test y ≡ b → (b || list_any test ys) ≡ true → (list_any test ys ≡ true → (x : A) × Has ys x × (test x ≡ true)) → (x : A) × Has (y ∷ ys) x × (test x ≡ true)
    by_test true p e more = (y, inl refl, p)
    by_test false p e more = let rest = more e in (rest.0, inr rest.1, rest.2)
