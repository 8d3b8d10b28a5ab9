-- One more shard.
use Rattle.std.proofs.Common.{◌≡◌, ◌≢◌, inl, inr, ℕ, zero, suc, ◌+◌, ◌-◌, ◌*◌, ◌<◌, ◌≤◌, Bool, true, false, cond, not, List, [], ◌∷◌, ◌++◌, length, get_or, map, take, Option, Some, None, refl, sym, ◌∙◌, ap, subst, length-take, arith}
use Rattle.std.specs.Prelude.{filter, slice_index, min, IsSome, is_some, if◌then◌else◌}
use Rattle.std.specs.Option.{option_map_or}
use Rattle.std.specs.List.{AllByRecursion, range_with_len}
use Rattle.std.proofs.lemmas.Bool.{cases_lt, leb-true, le-leb}
use Rattle.std.proofs.lemmas.List.{append-nil, take-append-le}
use Rattle.std.proofs.lemmas.List.Elements.{filter-append}
use Rattle.std.proofs.Math.ListN.{length-append, get_or-append}
use Rattle.std.proofs.Math.Seq.{get_or-append_seam, take-suc-set, take-length}
use Rattle.std.proofs.Math.ListN.{set}
use Rattle.std.proofs.lemmas.List.{get_or-map, length-map}
use mathlib.Core.Bool.{true≢false}
use Rattle.site_model.specs.Disk.{Files}
use Rattle.site_model.specs.Counts.{Counts, Rose, IsLater}
use Rattle.rs_code.specs.Combination.{AreDistinct}
use Rattle.shard_table.specs.Table.{Row, place_in}
use Rattle.degraded_read.specs.Gathering.{AreNames, HasGathered, HasEnough, standing_in, reads_of, shard_at, shard_name, rose, stands_in, is_reliable, reliable}

-- ---- lists

pub range_snoc : (a n : ℕ) → range_with_len a (n + 1) ≡ range_with_len a n ++ (a + n) ∷ []
range_snoc a zero = let none : a + 0 ≡ a = omega arith in ap (λ x. x ∷ []) (sym none)
range_snoc a (suc n) =
    let less : suc n + 1 ≡ suc (n + 1) = omega arith in
    let place : a + 1 + n ≡ a + suc n = omega arith in
    ap (range_with_len a) less ∙ ap (λ xs. a ∷ xs) (range_snoc (a + 1) n ∙ ap (λ x. range_with_len (a + 1) n ++ x ∷ []) place)

filter_one : (test : ℕ → Bool) (n : ℕ) → filter test (range_with_len 0 (n + 1)) ≡ filter test (range_with_len 0 n) ++ cond (test n) (n ∷ []) []
filter_one test n =
    let place : 0 + n ≡ n = omega arith in
    ap (filter test) (range_snoc 0 n ∙ ap (λ x. range_with_len 0 n ++ x ∷ []) place) ∙ filter-append test (range_with_len 0 n) (n ∷ [])

filter_in : (test : ℕ → Bool) (n : ℕ) → test n ≡ true → filter test (range_with_len 0 (n + 1)) ≡ filter test (range_with_len 0 n) ++ n ∷ []
filter_in test n e = filter_one test n ∙ ap (λ b. filter test (range_with_len 0 n) ++ cond b (n ∷ []) []) e

filter_out : (test : ℕ → Bool) (n : ℕ) → test n ≡ false → filter test (range_with_len 0 (n + 1)) ≡ filter test (range_with_len 0 n)
filter_out test n e = filter_one test n ∙ ap (λ b. filter test (range_with_len 0 n) ++ cond b (n ∷ []) []) e ∙ append-nil (filter test (range_with_len 0 n))

at_most_one : (test : ℕ → Bool) (n : ℕ) → length (filter test (range_with_len 0 (n + 1))) ≤ length (filter test (range_with_len 0 n)) + 1
at_most_one test n = by_test (test n) refl
  where
    by_test : (b : Bool) → test n ≡ b → length (filter test (range_with_len 0 (n + 1))) ≤ length (filter test (range_with_len 0 n)) + 1
    by_test true e = omega (arith, ap length (filter_in test n e), length-append (filter test (range_with_len 0 n)) (n ∷ []))
    by_test false e = omega (arith, ap length (filter_out test n e))

pub fewer : (test other : ℕ → Bool) (xs : List ℕ) → ((x : ℕ) → test x ≡ true → other x ≡ true) → length (filter test xs) ≤ length (filter other xs)
fewer test other [] h = omega arith
fewer test other (x ∷ xs) h = by_tests (test x) (other x) refl refl (fewer test other xs h)
  where
    by_tests : (a b : Bool) → test x ≡ a → other x ≡ b → length (filter test xs) ≤ length (filter other xs) → length (cond a (x ∷ filter test xs) (filter test xs)) ≤ length (cond b (x ∷ filter other xs) (filter other xs))
    by_tests true true p q rest = omega (arith, rest)
    by_tests true false p q rest = absurd (true≢false (sym (h x p) ∙ q))
    by_tests false true p q rest = omega (arith, rest)
    by_tests false false p q rest = rest

weaker : (m n : ℕ) (xs : List ℕ) → m ≤ n → AllByRecursion (λ j. j < m) xs → AllByRecursion (λ j. j < n) xs
weaker m n [] h all = tt
weaker m n (x ∷ xs) h all = (omega (arith, all.0), weaker m n xs h all.1)

below_snoc : (n : ℕ) (xs : List ℕ) → AllByRecursion (λ j. j < n) xs → AllByRecursion (λ j. j < n + 1) (xs ++ n ∷ [])
below_snoc n [] all = (omega arith, tt)
below_snoc n (x ∷ xs) all = (omega (arith, all.0), below_snoc n xs all.1)

elsewhere_snoc : (r n : ℕ) (xs : List ℕ) → r < n → AllByRecursion (λ j. j ≢ r) xs → AllByRecursion (λ j. j ≢ r) (xs ++ n ∷ [])
elsewhere_snoc r n [] h all = ((λ e. omega (arith, e)), tt)
elsewhere_snoc r n (x ∷ xs) h all = (all.0, elsewhere_snoc r n xs h all.1)

distinct_snoc : (n : ℕ) (xs : List ℕ) → AllByRecursion (λ j. j < n) xs → AreDistinct xs → AreDistinct (xs ++ n ∷ [])
distinct_snoc n [] all distinct = (tt, tt)
distinct_snoc n (x ∷ xs) all distinct = (elsewhere_snoc x n xs all.0 distinct.0, distinct_snoc n xs all.1 distinct.1)

all_snoc : (P : ℕ → Type 0) (n : ℕ) (xs : List ℕ) → AllByRecursion P xs → P n → AllByRecursion P (xs ++ n ∷ [])
all_snoc P n [] all p = (p, tt)
all_snoc P n (x ∷ xs) all p = (all.0, all_snoc P n xs all.1 p)

-- ---- counts

not_true : (b : Bool) → not b ≡ true → b ≡ false
not_true true e = absurd (true≢false (sym e))
not_true false e = refl

-- what is reliable later was reliable before
still : (row : Row) (old now new : Counts) → IsLater now new → (i : ℕ) → is_reliable row old new i ≡ true → is_reliable row old now i ≡ true
still row old now new later i e = by_place (place_in row i) e
  where
    by_rise : (s : ℕ) (b : Bool) → rose (old.faults s) (now.faults s) ≡ b → not (rose (old.faults s) (new.faults s)) ≡ true → not b ≡ true
    by_rise s false p q = refl
    by_rise s true p q =
        let risen : rose (old.faults s) (new.faults s) ≡ true = le-leb _ _ (omega (arith, leb-true (min (old.faults s + 1) 18446744073709551615) (now.faults s) p, later.faults s)) in
        absurd (true≢false (sym risen ∙ not_true _ q))

    by_place : (o : Option ℕ) → option_map_or (λ s. not (rose (old.faults s) (new.faults s))) o false ≡ true → option_map_or (λ s. not (rose (old.faults s) (now.faults s))) o false ≡ true
    by_place None q = q
    by_place (Some s) q = by_rise s (rose (old.faults s) (now.faults s)) refl q

module _ (tells : Type 0) (files : Files) (volume : ℕ) (row : Row) (at size : ℕ) (old : Counts) where
  -- a shard that stands nowhere
  pub absent_next : (now : Counts) (shard : ℕ) (have : List ℕ) (failed : Option ℕ) (room : List ℕ) → place_in row shard ≡ None → HasGathered tells files volume row at size old now shard have failed room
      → HasGathered tells files volume row at size old now (shard + 1) have failed room
  absent_next now shard have failed room none so_far = record {
    below = weaker shard (shard + 1) have (omega arith) so_far.below;
    distinct = so_far.distinct;
    placed = so_far.placed;
    pieces = so_far.pieces;
    no_more = omega (arith, so_far.no_more, ap length (filter_out (is_reliable row old now) shard (ap (λ o. option_map_or (λ s. not (rose (old.faults s) (now.faults s))) o false) none)));
    all_read = λ e. so_far.all_read e ∙ sym (filter_out (stands_in row) shard (ap is_some none));
  }

  -- a shard that was read, into the place behind the others
  pub read_next : (now new : Counts) (shard : ℕ) (have : List ℕ) (failed : Option ℕ) (room after : List ℕ) (server : ℕ) → place_in row shard ≡ Some server → IsLater now new
      → ((i : ℕ) → i < length have * size → slice_index after i ≡ slice_index room i)
      → (tells → (i : ℕ) → i < size → slice_index after (length have * size + i) ≡ slice_index (shard_at files volume row shard) (at + i))
      → HasGathered tells files volume row at size old now shard have failed room → HasGathered tells files volume row at size old new (shard + 1) (have ++ shard ∷ []) failed after
  read_next now new shard have failed room after server there later kept read so_far =
      let longer = length-append have (shard ∷ []) in
      record {
        below = below_snoc shard have so_far.below;
        distinct = distinct_snoc shard have so_far.below so_far.distinct;
        placed = all_snoc (λ j. stands_in row j ≡ true) shard have so_far.placed (ap is_some there);
        pieces = λ told n h i k. elim (cases_lt n (length have)) [
          | inl before ↦
              ap (λ j. slice_index after j) refl
              ∙ kept (n * size + i) (within n (length have) size i before k)
              ∙ so_far.pieces told n before i k
              ∙ ap (λ j. slice_index (shard_at files volume row j) (at + i)) (sym (get_or-append have (shard ∷ []) 0 n before))
          | inr last ↦
              let here : n ≡ length have = omega (arith, longer) in
              ap (λ m. slice_index after (m * size + i)) here ∙ read told i k
              ∙ ap (λ j. slice_index (shard_at files volume row j) (at + i)) (sym (ap (λ m. get_or (have ++ shard ∷ []) m 0) here ∙ get_or-append_seam have shard [] 0))
        ];
        no_more = omega (arith, longer, so_far.no_more, at_most_one (is_reliable row old new) shard, fewer (is_reliable row old new) (is_reliable row old now) (range_with_len 0 shard) (still row old now new later));
        all_read = λ e. ap (λ xs. xs ++ shard ∷ []) (so_far.all_read e) ∙ sym (filter_in (stands_in row) shard (ap is_some there));
      }
    where
      within : (n m size i : ℕ) → n < m → i < size → n * size + i < m * size
      within n zero size i h k = absurd (omega arith)
      within zero (suc m) size i h k = omega arith
      within (suc n) (suc m) size i h k = omega (arith, within n m size i (omega arith) k)

  -- a shard whose server failed
  pub failed_next : (now new : Counts) (shard : ℕ) (have : List ℕ) (failed : Option ℕ) (room after : List ℕ) (server told_server : ℕ) → place_in row shard ≡ Some server → IsLater now new
      → Rose (now.faults server) (new.faults server) → old.faults server ≤ now.faults server
      → ((i : ℕ) → i < length have * size → slice_index after i ≡ slice_index room i)
      → HasGathered tells files volume row at size old now shard have failed room → HasGathered tells files volume row at size old new (shard + 1) have (Some told_server) after
  failed_next now new shard have failed room after server told_server there later risen earlier kept so_far =
      let unreliable : is_reliable row old new shard ≡ false =
      ap (λ o. option_map_or (λ s. not (rose (old.faults s) (new.faults s))) o false) there ∙ ap not (le-leb (min (old.faults server + 1) 18446744073709551615) (new.faults server) (omega (arith, risen, earlier))) in
      record {
        below = weaker shard (shard + 1) have (omega arith) so_far.below;
        distinct = so_far.distinct;
        placed = so_far.placed;
        pieces = λ told n h i k. kept (n * size + i) (within n (length have) size i h k) ∙ so_far.pieces told n h i k;
        no_more = omega (arith, so_far.no_more, ap length (filter_out (is_reliable row old new) shard unreliable), fewer (is_reliable row old new) (is_reliable row old now) (range_with_len 0 shard) (still row old now new later));
        all_read = λ e. absurd cc;
      }
    where
      within : (n m size i : ℕ) → n < m → i < size → n * size + i < m * size
      within n zero size i h k = absurd (omega arith)
      within zero (suc m) size i h k = omega arith
      within (suc n) (suc m) size i h k = omega (arith, within n m size i (omega arith) k)

-- the files matter where the site tells them
pub same_gathered : (tells : Type 0) (files others : Files) (volume : ℕ) (row : Row) (at size : ℕ) (old now : Counts) (shard : ℕ) (have : List ℕ) (failed : Option ℕ) (room : List ℕ) → (tells → files ≡ others)
    → HasGathered tells files volume row at size old now shard have failed room → HasGathered tells others volume row at size old now shard have failed room
same_gathered tells files others volume row at size old now shard have failed room same so_far = record {
  below = so_far.below;
  distinct = so_far.distinct;
  placed = so_far.placed;
  pieces = λ told n h i k. so_far.pieces told n h i k ∙ ap (λ (f : Files). slice_index (shard_at f volume row (get_or have n 0)) (at + i)) (same told);
  no_more = so_far.no_more;
  all_read = so_far.all_read;
}

-- ---- the end

pub range_append : (a m d : ℕ) → range_with_len a (m + d) ≡ range_with_len a m ++ range_with_len (a + m) d
range_append a zero d =
    let none : a ≡ a + 0 = omega arith in
    let start : 0 + d ≡ d = omega arith in
    λ i. range_with_len (none i) (start i)
range_append a (suc m) d =
    let more : suc m + d ≡ suc (m + d) = omega arith in
    let place : a + 1 + m ≡ a + suc m = omega arith in
    ap (range_with_len a) more ∙ ap (λ xs. a ∷ xs) (range_append (a + 1) m d ∙ ap (λ b. range_with_len (a + 1) m ++ range_with_len b d) place)

-- what passes of the first numbers is the front of what passes of more
pub front_passes : (test : ℕ → Bool) (m n : ℕ) (xs : List ℕ) → m ≤ n → xs ≡ filter test (range_with_len 0 m) → xs ≡ take (length xs) (filter test (range_with_len 0 n))
front_passes test m n xs h e =
    let rest : m + (n - m) ≡ n = omega arith in
    let all : filter test (range_with_len 0 n) ≡ xs ++ filter test (range_with_len (0 + m) (n - m)) =
    ap (λ k. filter test (range_with_len 0 k)) (sym rest) ∙ ap (filter test) (range_append 0 m (n - m)) ∙ filter-append test (range_with_len 0 m) (range_with_len (0 + m) (n - m)) ∙ ap (λ ys. ys ++ filter test (range_with_len (0 + m) (n - m))) (sym e) in
    sym (ap (take (length xs)) all ∙ take-append-le (length xs) xs (filter test (range_with_len (0 + m) (n - m))) (omega arith) ∙ take-length xs)

-- one shard more stands or not
pub standing_next : (row : Row) (n : ℕ) → length (standing_in row n) + reads_of row n ≡ length (standing_in row (n + 1))
standing_next row n = by_test (stands_in row n) refl
  where
    by_test : (b : Bool) → stands_in row n ≡ b → length (standing_in row n) + (if b then 1 else 0) ≡ length (standing_in row (n + 1))
    by_test true e = omega (arith, ap length (filter_in (stands_in row) n e), length-append (standing_in row n) (n ∷ []))
    by_test false e = omega (arith, ap length (filter_out (stands_in row) n e))

pub standing_within : (row : Row) (m n : ℕ) → m ≤ n → length (standing_in row m) ≤ length (standing_in row n)
standing_within row m n h = omega (arith, ap length (front_passes (stands_in row) m n (standing_in row m) h refl), length-take (length (standing_in row m)) (standing_in row n))

module _ (tells : Type 0) (files : Files) (volume : ℕ) (row : Row) (at size : ℕ) (old now : Counts) where
  -- nothing was read yet
  pub none_gathered : (start : Counts) (failed : Option ℕ) (room : List ℕ) → HasGathered tells files volume row at size old start 0 [] failed room
  none_gathered start failed room = record {
    below = tt;
    distinct = tt;
    placed = tt;
    pieces = λ told n h i k. absurd (omega arith);
    no_more = omega arith;
    all_read = λ e. refl;
  }

  pub gathered_ends : (k n shard : ℕ) (have : List ℕ) (failed : Option ℕ) (room : List ℕ) → shard ≤ n → (length have < k → n ≤ shard) → HasGathered tells files volume row at size old now shard have failed room
      → HasEnough k n tells files volume row at size old now have failed room
  gathered_ends k n shard have failed room within tried end = record {
    below = weaker shard n have within end.below;
    distinct = end.distinct;
    placed = end.placed;
    pieces = end.pieces;
    lowest = λ e. front_passes (stands_in row) shard n have within (end.all_read e);
    few = λ h. let all : shard ≡ n = omega (arith, tried h) in subst (λ m. reliable row old now m < k) all (omega (arith, end.no_more));
    some_failed = λ h enough. by_failed failed refl h enough;
  }
    where
      by_failed : (o : Option ℕ) → failed ≡ o → length have < k → k ≤ length (standing_in row n) → IsSome o
      by_failed (Some s) e h enough = refl
      by_failed None e h enough =
          let all : shard ≡ n = omega (arith, tried h) in
          absurd (omega (arith, ap length (end.all_read e ∙ ap (standing_in row) all), h, enough))

-- ---- what the code knows

pub none_of : {A : Type 0} (o : Option A) → ((x : A) → o ≡ Some x → ⊥) → o ≡ None
none_of None h = refl
none_of (Some x) h = absurd (h x refl)

pub name_is : {A : Type 0} (f : A → List ℕ) (xs : List A) (volume i : ℕ) (s : A) → AreNames volume (map f xs) → i < 16 → s ≡ get_or xs i s → f s ≡ shard_name volume i
name_is f xs volume i s names h e = ap f e ∙ sym (get_or-map f xs i s [] (omega (arith, names.count, length-map xs f))) ∙ names.each i h

pub one_more : (have : List ℕ) (count shard : ℕ) → count < length have → take (count + 1) (set have count shard) ≡ take count have ++ shard ∷ []
one_more have count shard h = let next : count + 1 ≡ suc count = omega arith in ap (λ n. take n (set have count shard)) next ∙ take-suc-set have count shard h
