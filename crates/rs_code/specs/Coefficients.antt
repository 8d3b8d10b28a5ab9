-- The coefficients of a code.
use Rattle.std.proofs.Common.{◌≡◌, ℕ, zero, suc, ◌+◌, ◌<◌, ◌≤◌, ◌≢◌, List, [], ◌∷◌, ◌++◌, length, map, get_or, take, drop, refl, sym, ◌∙◌, ap, subst, arith, append_assoc, drop-cons}
use Rattle.std.specs.Prelude.{bit_xor, slice_index}
use Rattle.std.specs.List.{AllByRecursion, remove}
use Rattle.std.specs.Int.Bits.{xor_comm, xor_zero_r}
use Rattle.std.proofs.lemmas.List.{take-append-drop, get_or-map}
use Rattle.std.proofs.lemmas.Grind.{same_number_lists}
use Rattle.gf256.specs.Field.{field_mul, poly_value}
use Rattle.gf256.specs.Laws.Field.{mul-zero}
use Rattle.gf256.specs.Powers.{mul-one}
use Rattle.rs_code.specs.Codeword.{IsCodeword, AreBytes}
use Rattle.rs_code.specs.Roots.{IsElsewhere, basis, basis_fits, each_weaker}
use Rattle.rs_code.specs.Combination.{AreDistinct, combination, combination-is, weights, elsewhere_middle, each_append, bytes-take, bytes-drop}
use Rattle.rs_code.specs.Shards.{AreShards, shards_from_places, IsUnit}

pub length-weights : (done rest : List ℕ) (x : ℕ) → length (weights done rest x) ≡ length rest
length-weights done [] x = refl
length-weights done (r ∷ rest) x = ap suc (length-weights (done ++ (r ∷ [])) rest x)

pub get_or-weights : (done rest : List ℕ) (x i : ℕ) → i < length rest → get_or (weights done rest x) i 0 ≡ basis (done ++ remove rest i) (get_or rest i 0) x
get_or-weights done [] x i h = absurd (omega arith)
get_or-weights done (r ∷ rest) x zero h = refl
get_or-weights done (r ∷ rest) x (suc i) h =
    get_or-weights (done ++ (r ∷ [])) rest x i (omega arith) ∙ ap (λ places. basis places (get_or rest i 0) x) (append_assoc done (r ∷ []) (remove rest i))

pub elsewhere_others : (places : List ℕ) (i : ℕ) → AreDistinct places → i < length places → IsElsewhere (slice_index places i) (remove places i)
elsewhere_others places i distinct h =
    elsewhere_middle (take i places) (slice_index places i) (drop (suc i) places)
    (subst AreDistinct (sym (ap (λ l. take i places ++ l) (sym (drop-cons places i 0 h)) ∙ take-append-drop i places)) distinct)

pub others_bytes : (have : List ℕ) (i : ℕ) → AreBytes have → AreBytes (remove have i)
others_bytes have i h = each_append (λ x. x < 256) (take i have) (drop (suc i) have) (bytes-take have i h) (bytes-drop have (suc i) h)

-- what the coefficients are
pub record AreWeights (have : List ℕ) (x : ℕ) (row : List ℕ) : Type 0 where
  pub width : length row ≡ length have
  pub entries : (i : ℕ) → i < length have → slice_index row i ≡ basis (remove have i) (slice_index have i) x

pub weights-are : (have : List ℕ) (x : ℕ) (row : List ℕ) → AreWeights have x row → row ≡ weights [] have x
weights-are have x row are =
    same_number_lists row (weights [] have x) (are.width ∙ sym (length-weights [] have x))
    (λ i h. let inside : i < length have = omega (arith, are.width) in are.entries i inside ∙ sym (get_or-weights [] have x i inside))

-- a codeword's values are those of its polynomial
values_at : (k m : ℕ) (c have : List ℕ) (word : IsCodeword k m c) → AllByRecursion (λ r. r < k + m) have → map (slice_index c) have ≡ map (poly_value word.coefficients) have
values_at k m c [] word h = refl
values_at k m c (r ∷ have) word h = λ i. (word.values r h.0 i) ∷ (values_at k m c have word h.1 i)

-- Coefficient times byte gives each byte of each codeword.
pub weights-give : (k m : ℕ) (c have row : List ℕ) (want : ℕ) → k + m ≤ 256 → IsCodeword k m c → length have ≡ k → AreShards (k + m) have → want < k + m → AreWeights have want row
    → combination row (map (slice_index c) have) ≡ slice_index c want
weights-give k m c have row want few word enough shards within are =
    let a : List ℕ = word.coefficients in
    let bytes : AreBytes have = each_weaker (λ r. r < k + m) (λ r. r < 256) (λ r h. omega arith) have shards.below in
    (λ i. combination (weights-are have want row are i) (values_at k m c have word shards.below i))
    ∙ combination-is [] have word.coefficients want (omega (arith, word.degree)) word.bytes bytes shards.distinct tt (omega arith)
    ∙ sym (word.values want within)

-- ---- one datum

combination-zeros : (ws ys : List ℕ) → ((i : ℕ) → i < length ys → get_or ys i 0 ≡ 0) → combination ws ys ≡ 0
unfolding combination
combination-zeros [] ys h = refl
combination-zeros (w ∷ ws) [] h = refl
combination-zeros (w ∷ ws) (y ∷ ys) h =
    (λ i. bit_xor (field_mul w (h 0 (omega arith) i)) (combination-zeros ws ys (λ j k. h (suc j) (omega arith)) i)) ∙ ap (λ m. bit_xor m 0) (mul-zero w) ∙ xor_zero_r 0

-- a word that is 1 at d and else 0 has what stands at d
pub combination-unit : (ws ys : List ℕ) (d : ℕ) → length ws ≡ length ys → d < length ys → get_or ws d 0 < 256 → get_or ys d 0 ≡ 1 → ((i : ℕ) → i < length ys → i ≢ d → get_or ys i 0 ≡ 0)
    → combination ws ys ≡ get_or ws d 0
unfolding combination
combination-unit [] [] d same h fits one none = absurd (omega arith)
combination-unit [] (y ∷ ys) d same h fits one none = absurd (omega arith)
combination-unit (w ∷ ws) [] d same h fits one none = absurd (omega arith)
combination-unit (w ∷ ws) (y ∷ ys) zero same h fits one none =
    (λ i. bit_xor (field_mul w (one i)) (combination-zeros ws ys (λ j k. none (suc j) (omega arith) (λ e. cc)) i)) ∙ xor_zero_r (field_mul w 1) ∙ mul-one w fits
combination-unit (w ∷ ws) (y ∷ ys) (suc d) same h fits one none =
    (λ i. bit_xor (field_mul w (none 0 (omega arith) (λ e. cc) i)) (combination-unit ws ys d (omega arith) (omega arith) fits one (λ j k e. none (suc j) (omega arith) (λ f. e (omega arith))) i))
    ∙ ap (λ m. bit_xor m (get_or ws d 0)) (mul-zero w) ∙ xor_comm 0 (get_or ws d 0) ∙ xor_zero_r (get_or ws d 0)

length_map : (f : ℕ → ℕ) (xs : List ℕ) → length (map f xs) ≡ length xs
length_map f [] = refl
length_map f (x ∷ xs) = ap suc (length_map f xs)

-- the first k shards, in order
pub record AreFirst (k : ℕ) (shards : List ℕ) : Type 0 where
  pub width : length shards ≡ k
  pub entries : (i : ℕ) → i < k → slice_index shards i ≡ i

pub first_are_shards : (k n : ℕ) (shards : List ℕ) → AreFirst k shards → k ≤ n → AreShards n shards
first_are_shards k n shards first few =
    shards_from_places n shards (λ i h. let same = first.entries i (omega (arith, first.width)) in omega arith)
    (λ i j h l e. let left = first.entries i (omega (arith, first.width)) in let right = first.entries j (omega (arith, first.width)) in omega arith)

-- What datum d weighs at x is the byte at x of the codeword whose data are 1 at d and 0 elsewhere.
pub weight-unit : (k m : ℕ) (c shards : List ℕ) (d x : ℕ) → k + m ≤ 256 → IsCodeword k m c → AreFirst k shards → d < k → IsUnit k d c → x < k + m → basis (remove shards d) (slice_index shards d) x ≡ slice_index c x
weight-unit k m c shards d x few word first h unit within =
    let are : AreShards (k + m) shards = first_are_shards k (k + m) shards first (omega arith) in
    let bytes : AreBytes shards = each_weaker (λ r. r < k + m) (λ r. r < 256) (λ r l. omega arith) shards are.below in
    let inside : d < length shards = omega (arith, first.width) in
    let place : slice_index shards d ≡ d = first.entries d h in
    let weight : get_or (weights [] shards x) d 0 ≡ basis (remove shards d) (slice_index shards d) x = get_or-weights [] shards x d inside in
    let fits : basis (remove shards d) (slice_index shards d) x < 256 = basis_fits (remove shards d) (slice_index shards d) x (others_bytes shards d bytes) (omega arith) (omega arith) in
    let row : AreWeights shards x (weights [] shards x) = record { width = length-weights [] shards x; entries = get_or-weights [] shards x } in
    let value : (i : ℕ) → i < k → get_or (map (slice_index c) shards) i 0 ≡ slice_index c i =
    λ i l. get_or-map (slice_index c) shards i 0 0 (omega (arith, first.width)) ∙ ap (slice_index c) (first.entries i l) in
    sym weight
    ∙ sym (combination-unit (weights [] shards x) (map (slice_index c) shards) d (length-weights [] shards x ∙ sym (length_map (slice_index c) shards)) (omega (arith, length_map (slice_index c) shards))
    (omega (arith, weight, fits)) (value d h ∙ unit.here)
    (λ i l apart. let in_data : i < k = omega (arith, length_map (slice_index c) shards, first.width) in value i in_data ∙ unit.elsewhere i in_data apart))
    ∙ weights-give k m c shards (weights [] shards x) x few word first.width are within row
