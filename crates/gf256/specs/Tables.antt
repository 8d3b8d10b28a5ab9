-- Tables of products.
use Rattle.std.proofs.Common.{◌≡◌, ℕ, ◌<◌, true, List, [], get_or, length, ◌∙◌, ap, arith}
use Rattle.std.specs.Prelude.{◌==◌, slice_index, bit_xor}
use Rattle.std.specs.Simd.Lanes.{zip2}
use Rattle.std.proofs.lemmas.List.{get_or_default}
use Rattle.std.proofs.lemmas.Simd.{get_or-zip2, length-zip2}
use Rattle.gf256.specs.Computed.{all_below, equal_below, equal_below_both}

-- the row of a table with the value of f at each nibble
pub record Tabulates (f : ℕ → ℕ) (row : List ℕ) : Type 0 where
  pub width : length row ≡ 16
  pub entries : (n : ℕ) → n < 16 → slice_index row n ≡ f n

pub rows-tabulate : (table : List (List ℕ)) (f : ℕ → ℕ → ℕ) → all_below 16 (λ a. length (get_or table a []) == 16) ≡ true
    → all_below 16 (λ a. all_below 16 (λ n. slice_index (get_or table a []) n == f a n)) ≡ true → (index a : ℕ) → index ≡ a → a < 16 → (d : List ℕ) → index < length table → Tabulates (f a) (get_or table index d)
rows-tabulate table f wide same index a e h d room =
    let at : get_or table index d ≡ get_or table a [] = get_or_default table index d [] room ∙ ap (λ i. get_or table i []) e in
    record {
      width = ap length at ∙ equal_below 16 (λ a. length (get_or table a [])) (λ a. 16) wide a h;
      entries = λ n k. ap (λ row. slice_index row n) at ∙ equal_below_both 16 16 (λ a n. slice_index (get_or table a []) n) f same a n h k;
    }

-- a row that is the sum of two, place by place
pub sum-tabulates : (f g h : ℕ → ℕ) (xs ys : List ℕ) → Tabulates f xs → Tabulates g ys → ((n : ℕ) → bit_xor (f n) (g n) ≡ h n) → Tabulates h (zip2 bit_xor xs ys)
sum-tabulates f g h xs ys left right sum = record {
  width = length-zip2 bit_xor xs ys (omega arith) ∙ left.width;
  entries = λ n k. get_or-zip2 bit_xor xs ys n 0 0 0 (omega arith) (omega arith) ∙ (λ i. bit_xor (left.entries n k i) (right.entries n k i)) ∙ sum n;
}
