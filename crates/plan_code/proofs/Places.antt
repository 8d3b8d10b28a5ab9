-- The places of a row, shard by shard, and the lowest server that passes a test.
use Rattle.std.proofs.Common.{◌≡◌, ℕ, zero, suc, ◌+◌, ◌^◌, ◌<◌, ◌≤◌, Bool, cond, List, [], ◌∷◌, ◌++◌, length, length-append, Option, Some, None, option_map, find, flat_map, get_or, refl, sym, ◌∙◌, ap, arith, append-nil}
use Rattle.std.specs.List.{AllByRecursion, range_with_len}
use Rattle.std.proofs.lemmas.List.Concat.{flat_map-append}
use Rattle.site_model.specs.Counts.{max_servers}
use Rattle.image_meaning.specs.Files.{first_from, lowest}
use Rattle.shard_table.specs.Table.{Row, place_in}
use Rattle.plan_steps.specs.Plans.{place_if}
use Rattle.plan_steps.specs.Laws.Move.{place_within}
use Rattle.plan_code.specs.Laws.Range.{range_more}

-- one shard more
pub places_more : (row : Row) (k : ℕ) → flat_map (λ i. place_if i (place_in row i)) (range_with_len 0 (k + 1)) ≡ flat_map (λ i. place_if i (place_in row i)) (range_with_len 0 k) ++ place_if k (place_in row k)
places_more row k =
    let last : 0 + k ≡ k = omega arith in
    ap (flat_map (λ i. place_if i (place_in row i))) (range_more 0 k ∙ ap (λ n. range_with_len 0 k ++ n ∷ []) last)
    ∙ flat_map-append (λ i. place_if i (place_in row i)) (range_with_len 0 k) (k ∷ [])
    ∙ ap (λ rest. flat_map (λ i. place_if i (place_in row i)) (range_with_len 0 k) ++ rest) (append-nil (place_if k (place_in row k)))

find_first : (n a : ℕ) (test : ℕ → Bool) → find test (range_with_len a n) ≡ first_from n a test
unfolding first_from
find_first zero a test = refl
find_first (suc n) a test =
    let next : a + 1 ≡ suc a = omega arith in
    ap (λ o. cond (test a) (Some a) o) (ap (λ k. find test (range_with_len k n)) next ∙ find_first n (suc a) test)

pub find_lowest : (test : ℕ → Bool) → find test (range_with_len 0 max_servers) ≡ lowest test
unfolding lowest
find_lowest test = find_first max_servers 0 test

-- numbers that fit
pub are_ids : (xs : List ℕ) → ((k : ℕ) → get_or xs k 0 < 2 ^ 64) → AllByRecursion (λ id. id < 2 ^ 64) xs
are_ids [] h = tt
are_ids (x ∷ xs) h = (h 0, are_ids xs (λ k. h (suc k)))

-- a place counts once
pub count_more : (row : Row) (k count : ℕ) → count ≡ length (flat_map (λ i. place_if i (place_in row i)) (range_with_len 0 k))
    → count + length (place_if 0 (place_in row k)) ≡ length (flat_map (λ i. place_if i (place_in row i)) (range_with_len 0 (k + 1)))
count_more row k count e =
    (λ i. e i + one (place_in row k) i)
    ∙ sym (length-append (flat_map (λ i. place_if i (place_in row i)) (range_with_len 0 k)) (place_if k (place_in row k)))
    ∙ ap length (sym (places_more row k))
  where
    one : (o : Option ℕ) → length (place_if 0 o) ≡ length (place_if k o)
    one None = refl
    one (Some s) = refl

pub count_most : (o : Option ℕ) → length (place_if 0 o) ≤ 1
count_most None = omega arith
count_most (Some s) = omega arith

-- the shards behind the last have no place, since a row has no room for them
pub nowhere : (n i : ℕ) (row : Row) → ((k : ℕ) → n ≤ k → k < length row → place_in row k ≡ None) → n ≤ i → place_in row i ≡ None
nowhere n i row none h = by_place (place_in row i) refl
  where
    by_place : (o : Option ℕ) → place_in row i ≡ o → place_in row i ≡ None
    by_place None e = e
    by_place (Some s) e = none i h (place_within row i s e)

pub same_option : (o : Option ℕ) → o ≡ option_map (λ x. x) o
same_option None = refl
same_option (Some x) = refl
