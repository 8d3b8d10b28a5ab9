-- Codewords by the shards that were read.
use Rattle.std.proofs.Common.{◌≡◌, ◌≢◌, inl, inr, ℕ, zero, suc, ◌+◌, ◌<◌, ◌≤◌, Bool, true, false, cond, List, [], ◌∷◌, length, map, take, refl, sym, ◌∙◌, ap, subst, arith}
use Rattle.std.specs.Prelude.{filter, slice_index}
use Rattle.std.specs.List.{AllByRecursion, range_with_len}
use Rattle.std.proofs.lemmas.Bool.{cases_eq, cases_lt}
use mathlib.Core.Bool.{true≢false}
use Rattle.gf256.specs.Field.{poly_value}
use Rattle.rs_code.specs.Codeword.{IsCodeword, Known, value_through}
use Rattle.rs_code.specs.Combination.{AreDistinct}
use Rattle.world_model.specs.declared.types.Ratio.{Ratio}
use Rattle.world_model.specs.Ratios.{data_count, parity_count}
use Rattle.image_meaning.specs.Files.{VolumeFiles}
use Rattle.image_meaning.specs.Coded.{known_at}
use Rattle.rs_kernel.specs.Pieces.{AreEnough}
use Rattle.rs_code.specs.Through.{IsPoint, NotAt, AreApart, value_through-is}

-- ---- lists

-- what holds of each holds of two maps
pub map_same : (P : ℕ → Type 0) (f g : ℕ → ℕ) (xs : List ℕ) → ((j : ℕ) → P j → f j ≡ g j) → AllByRecursion P xs → map f xs ≡ map g xs
map_same P f g [] same all = refl
map_same P f g (x ∷ xs) same all = λ i. same x all.0 i ∷ map_same P f g xs same all.1 i

abbrev tail_of : List ℕ → List ℕ
tail_of [] = []
tail_of (x ∷ xs) = xs

abbrev head_of : List ℕ → ℕ
head_of [] = 0
head_of (x ∷ xs) = x

pub each_same : (f g : ℕ → ℕ) (xs : List ℕ) → map f xs ≡ map g xs → AllByRecursion (λ j. f j ≡ g j) xs
each_same f g [] e = tt
each_same f g (x ∷ xs) e = (ap head_of e, each_same f g xs (ap tail_of e))

pub all_both : (P Q : ℕ → Type 0) (xs : List ℕ) → AllByRecursion P xs → AllByRecursion Q xs → AllByRecursion (λ j. P j × Q j) xs
all_both P Q [] p q = tt
all_both P Q (x ∷ xs) p q = ((p.0, q.0), all_both P Q xs p.1 q.1)

all_so : (P Q : ℕ → Type 0) (xs : List ℕ) → ((j : ℕ) → P j → Q j) → AllByRecursion P xs → AllByRecursion Q xs
all_so P Q [] so p = tt
all_so P Q (x ∷ xs) so p = (so x p.0, all_so P Q xs so p.1)

above : (a want : ℕ) → a ≤ want → a ≢ want → a + 1 ≤ want
above a want h k = elim (cases_lt a want) [ inl low ↦ omega arith | inr high ↦ absurd (k (omega arith)) ]

-- ---- the lowest numbers that pass

module _ (test : ℕ → Bool) where
  -- whether the first one passes or not
  abbrev with_first : Bool → ℕ → List ℕ → List ℕ
  with_first b a rest = cond b (a ∷ rest) rest

  pub lowest_below : (k a n top : ℕ) → a + n ≤ top → AllByRecursion (λ j. j < top) (take k (filter test (range_with_len a n)))
  lowest_below zero a n top h = tt
  lowest_below (suc k) a zero top h = tt
  lowest_below (suc k) a (suc n) top h = by_test (test a) (lowest_below k (a + 1) n top (omega arith)) (lowest_below (suc k) (a + 1) n top (omega arith))
    where
      by_test : (b : Bool) → AllByRecursion (λ j. j < top) (take k (filter test (range_with_len (a + 1) n))) → AllByRecursion (λ j. j < top) (take (suc k) (filter test (range_with_len (a + 1) n)))
          → AllByRecursion (λ j. j < top) (take (suc k) (with_first b a (filter test (range_with_len (a + 1) n))))
      by_test true fewer more = (omega arith, fewer)
      by_test false fewer more = more

  lowest_elsewhere : (k a n r : ℕ) → r < a → AllByRecursion (λ j. j ≢ r) (take k (filter test (range_with_len a n)))
  lowest_elsewhere zero a n r h = tt
  lowest_elsewhere (suc k) a zero r h = tt
  lowest_elsewhere (suc k) a (suc n) r h = by_test (test a) (lowest_elsewhere k (a + 1) n r (omega arith)) (lowest_elsewhere (suc k) (a + 1) n r (omega arith))
    where
      by_test : (b : Bool) → AllByRecursion (λ j. j ≢ r) (take k (filter test (range_with_len (a + 1) n))) → AllByRecursion (λ j. j ≢ r) (take (suc k) (filter test (range_with_len (a + 1) n)))
          → AllByRecursion (λ j. j ≢ r) (take (suc k) (with_first b a (filter test (range_with_len (a + 1) n))))
      by_test true fewer more = ((λ e. omega (arith, e)), fewer)
      by_test false fewer more = more

  pub lowest_distinct : (k a n : ℕ) → AreDistinct (take k (filter test (range_with_len a n)))
  lowest_distinct zero a n = tt
  lowest_distinct (suc k) a zero = tt
  lowest_distinct (suc k) a (suc n) = by_test (test a) (lowest_distinct k (a + 1) n) (lowest_distinct (suc k) (a + 1) n)
    where
      by_test : (b : Bool) → AreDistinct (take k (filter test (range_with_len (a + 1) n))) → AreDistinct (take (suc k) (filter test (range_with_len (a + 1) n)))
          → AreDistinct (take (suc k) (with_first b a (filter test (range_with_len (a + 1) n))))
      by_test true fewer more = (lowest_elsewhere k (a + 1) n a (omega arith), fewer)
      by_test false fewer more = more

  -- A number that passes is among the k lowest where fewer than k are below it.
  pub lowest_has : (P : ℕ → Type 0) (k a n want : ℕ) → a ≤ want → want < a + k → want < a + n → test want ≡ true → AllByRecursion P (take k (filter test (range_with_len a n))) → P want
  lowest_has P zero a n want low near high passes all = absurd (omega arith)
  lowest_has P (suc k) a zero want low near high passes all = absurd (omega arith)
  lowest_has P (suc k) a (suc n) want low near high passes all = by_test (test a) refl
      (λ next all. lowest_has P k (a + 1) n want next (omega arith) (omega arith) passes all)
      (λ next all. lowest_has P (suc k) (a + 1) n want next (omega arith) (omega arith) passes all)
      all
    where
      by_test : (b : Bool) → test a ≡ b → (a + 1 ≤ want → AllByRecursion P (take k (filter test (range_with_len (a + 1) n))) → P want)
          → (a + 1 ≤ want → AllByRecursion P (take (suc k) (filter test (range_with_len (a + 1) n))) → P want)
          → AllByRecursion P (take (suc k) (with_first b a (filter test (range_with_len (a + 1) n)))) → P want
      by_test true e fewer more all = elim (cases_eq a want) [
        | inl here ↦ subst P here all.0
        | inr other ↦ fewer (above a want low other) all.1
      ]
      by_test false e fewer more all = elim (cases_eq a want) [
        | inl here ↦ absurd (true≢false (sym passes ∙ ap test (sym here) ∙ e))
        | inr other ↦ more (above a want low other) all
      ]

-- ---- a codeword's values

abbrev pub points_at : (ℕ → ℕ) → List ℕ → Known
points_at f xs = map (λ j. (j, f j)) xs

length-points : (f : ℕ → ℕ) (xs : List ℕ) → length (points_at f xs) ≡ length xs
length-points f [] = refl
length-points f (x ∷ xs) = ap suc (length-points f xs)

known_points : (a : List ℕ) (f : ℕ → ℕ) (xs : List ℕ) → AllByRecursion (λ j. (j < 256) × (f j ≡ poly_value a j)) xs → AllByRecursion (IsPoint a) (map (λ j. (j, f j)) xs)
known_points a f [] h = tt
known_points a f (j ∷ xs) h = (record { place = h.0.0; value = h.0.1 }, known_points a f xs h.1)

known_apart : (f : ℕ → ℕ) (xs : List ℕ) → AreDistinct xs → AreApart (map (λ j. (j, f j)) xs)
known_apart f [] h = tt
known_apart f (j ∷ xs) h = (not_at xs h.0, known_apart f xs h.1)
  where
    not_at : (ys : List ℕ) → AllByRecursion (λ y. y ≢ j) ys → NotAt j (map (λ j. (j, f j)) ys)
    not_at [] h = tt
    not_at (y ∷ ys) h = (h.0, not_at ys h.1)

-- as many of its bytes as determine it give each of them
pub value_of_word : (k m : ℕ) (c : List ℕ) (f : ℕ → ℕ) (have : List ℕ) (i : ℕ) → k + m ≤ 256 → IsCodeword k m c → AreEnough k m have → map (slice_index c) have ≡ map f have → i < k + m
    → value_through (map (λ j. (j, f j)) have) i ≡ slice_index c i
value_of_word k m c f have i few code enough same h =
    let long : length (points_at f have) ≡ k = length-points f have ∙ enough.count in
    value_through-is (points_at f have) code.coefficients i (omega (arith, code.degree, long)) code.bytes
    (known_points code.coefficients f have (all_so (λ j. (j < k + m) × (slice_index c j ≡ f j)) (λ j. (j < 256) × (f j ≡ poly_value code.coefficients j)) have point
    (all_both (λ j. j < k + m) (λ j. slice_index c j ≡ f j) have enough.shards.below (each_same (slice_index c) f have same))))
    (known_apart f have enough.shards.distinct) (omega (arith, few))
    ∙ sym (code.values i h)
  where
    point : (j : ℕ) → (j < k + m) × (slice_index c j ≡ f j) → (j < 256) × (f j ≡ poly_value code.coefficients j)
    point j p = (omega (arith, p.0, few), sym p.1 ∙ code.values j p.0)

-- Some codeword has the bytes of these shards at a place, and its bytes are what the lowest standing ones give.
pub record HasWord (r : Ratio) (files : VolumeFiles) (bytes : ℕ → List ℕ) (p : ℕ) (have : List ℕ) : Type 0 where
  pub word : List ℕ
  pub code : IsCodeword (data_count r) (parity_count r) word
  pub read : map (slice_index word) have ≡ map (λ j. slice_index (bytes j) p) have
  pub value : (i : ℕ) → i < data_count r + parity_count r → value_through (known_at r files p) i ≡ slice_index word i
