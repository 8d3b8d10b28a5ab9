-- How a piece lowers the count of those that are left.
use Rattle.std.proofs.Common.{◌≡◌, ◌≢◌, ◌⊎◌, inl, inr, ℕ, zero, suc, ◌+◌, ◌-◌, ◌*◌, ◌/◌, ◌%◌, ◌<◌, ◌≤◌, ◌∙◌, ap, arith}
use Rattle.std.specs.Prelude.{min}
use Rattle.std.proofs.lemmas.Bool.{cases_eq, cases_lt}
use Rattle.std.proofs.lemmas.Nat.{div-mul-add, mod-mul-add}
use Rattle.std.proofs.Math.Nat.{div-lt_iff_lt-mul, lt-div-mul-add, div-add-mod, mod-lt, mul-le-mul_left, mul-le-mul_right}
use Rattle.site_model.specs.Counts.{widest_piece}
use Rattle.stripe_layout.specs.Stripes.{rounded_up}
use Rattle.plan_steps.specs.PieceCounts.{block_pieces}
use Rattle.plan_steps.specs.Left.{in_blocks}

-- ---- plain pieces

pub quotient_less : (x u q : ℕ) → 0 < u → x < q * u → x / u < q
quotient_less x u q some h = (div-lt_iff_lt-mul {k = u} {x = x} {y = q} some).1 h

pub round_reaches : (m u : ℕ) → 0 < u → m ≤ rounded_up m u * u
round_reaches m u some = omega (arith, lt-div-mul-add {a = m + u - 1} {b = u} some, some)

pub round_least : (m u q : ℕ) → 0 < u → m ≤ q * u → rounded_up m u ≤ q
round_least m u q some h = let less : rounded_up m u < suc q = quotient_less (m + u - 1) u (suc q) some (omega (arith, h, some)) in omega (arith, less)

pub round_none : (u : ℕ) → 0 < u → rounded_up 0 u ≡ 0
round_none u some = let none = round_least 0 u 0 some (omega arith) in omega (arith, none)

pub round_some : (m u : ℕ) → 0 < u → 0 < m → 0 < rounded_up m u
round_some m u some h = by_count (rounded_up m u) (round_reaches m u some)
  where
    by_count : (q : ℕ) → m ≤ q * u → 0 < q
    by_count zero reaches = omega (arith, reaches, h)
    by_count (suc q) reaches = omega arith

pub round_kept : (m n u : ℕ) → 0 < u → m ≤ n → rounded_up m u ≤ rounded_up n u
round_kept m n u some h = round_least m u (rounded_up n u) some (omega (arith, h, round_reaches n u some))

-- a piece that is as long as it may be, or takes all
pub round_falls : (m c u : ℕ) → 0 < u → 0 < m → (u ≤ c) ⊎ (m ≤ c) → rounded_up (m - c) u < rounded_up m u
round_falls m c u some more long = by_rest long (cases_lt c m)
  where
    by_rest : (u ≤ c) ⊎ (m ≤ c) → (c < m) ⊎ (m ≤ c) → rounded_up (m - c) u < rounded_up m u
    by_rest (inl wide) (inl less) = quotient_less (m - c + u - 1) u (rounded_up m u) some (omega (arith, round_reaches m u some, wide, some, less))
    by_rest (inr all) (inl less) = absurd (omega (arith, all, less))
    by_rest either (inr all) =
        let rest : m - c ≡ 0 = omega (arith, all) in
        omega (arith, ap (λ k. rounded_up k u) rest, round_none u some, round_some m u some more)

-- How many pieces there were and are: fewer where the first n bytes weren't all, and else none.
pub record Falls (whole n old new : ℕ) : Type 0 where
  pub fewer : n < whole → new < old
  pub none : whole ≤ n → new ≡ 0

pub plain_falls : (whole n c u : ℕ) → 0 < u → (u ≤ c) ⊎ (whole - n ≤ c) → Falls whole n (rounded_up (whole - n) u) (rounded_up (whole - (n + c)) u)
plain_falls whole n c u some long =
    let rest : whole - (n + c) ≡ whole - n - c = omega arith in
    record {
      fewer = λ less. omega (arith, round_falls (whole - n) c u some (omega (arith, less)) long, ap (λ k. rounded_up k u) rest);
      none = λ more. let over : whole - (n + c) ≡ 0 = omega (arith, more) in ap (λ k. rounded_up k u) over ∙ round_none u some;
    }

-- ---- blocks

pub in_blocks_at : (size q r : ℕ) → 0 < size → r ≤ size → in_blocks size (q * size + r) ≡ q * block_pieces size + rounded_up r widest_piece
in_blocks_at size q r some h = by_rest (cases_lt r size)
  where
    inside : (p s : ℕ) → s < size → in_blocks size (p * size + s) ≡ p * block_pieces size + rounded_up s widest_piece
    inside p s less = λ i. div-mul-add p size s less i * block_pieces size + rounded_up (mod-mul-add p size s less i) widest_piece

    by_rest : (r < size) ⊎ (size ≤ r) → in_blocks size (q * size + r) ≡ q * block_pieces size + rounded_up r widest_piece
    by_rest (inl less) = inside q r less
    by_rest (inr more) =
        let same : r ≡ size = omega (arith, more, h) in
        let next : q * size + r ≡ suc q * size + 0 = omega (arith, same) in
        omega (arith, ap (in_blocks size) next, inside (suc q) 0 some, round_none widest_piece (omega arith), ap (λ k. rounded_up k widest_piece) same)

pub in_blocks_none : (size m : ℕ) → 0 < size → m ≡ 0 → in_blocks size m ≡ 0
in_blocks_none size m some none =
    let same : m ≡ 0 * size + 0 = omega (arith, none) in
    omega (arith, ap (in_blocks size) same, in_blocks_at size 0 0 some (omega arith), round_none widest_piece (omega arith))

pub in_blocks_whole : (size q : ℕ) → 0 < size → in_blocks size (q * size) ≡ q * block_pieces size
in_blocks_whole size q some =
    let same : q * size ≡ q * size + 0 = omega arith in
    omega (arith, ap (in_blocks size) same, in_blocks_at size q 0 some (omega arith), round_none widest_piece (omega arith))

-- fewer bytes have no more pieces
pub in_blocks_kept : (size m n : ℕ) → 0 < size → m ≤ n → in_blocks size m ≤ in_blocks size n
in_blocks_kept size m n some h = by_blocks (m / size) (m % size) (n / size) (n % size) (div-add-mod m size) (mod-lt m {m = size} some) (div-add-mod n size) (mod-lt n {m = size} some)
  where
    by_blocks : (a b c d : ℕ) → size * a + b ≡ m → b < size → size * c + d ≡ n → d < size → a * block_pieces size + rounded_up b widest_piece ≤ c * block_pieces size + rounded_up d widest_piece
    by_blocks a b c d was short is less = by_count (cases_lt a c) (cases_eq a c)
      where
        by_count : (a < c) ⊎ (c ≤ a) → (a ≡ c) ⊎ (a ≢ c) → a * block_pieces size + rounded_up b widest_piece ≤ c * block_pieces size + rounded_up d widest_piece
        by_count (inl before) either = omega (arith, mul-le-mul_right (block_pieces size) before, round_kept b size widest_piece (omega arith) (omega (arith, short)))
        by_count (inr behind) (inl same) = omega (arith, ap (λ k. k * block_pieces size) same, round_kept b d widest_piece (omega arith) (omega (arith, was, is, h, ap (λ k. size * k) same)))
        by_count (inr behind) (inr other) = let past : suc c ≤ a = omega (arith, behind, other) in absurd (omega (arith, mul-le-mul_left size past, was, is, h, less))

-- what a piece leaves to the end of so many blocks
pub record Lowers (size end n c : ℕ) : Type 0 where
  pub fewer : in_blocks size (end - (n + c)) < in_blocks size (end - n)
  pub within : n + c ≤ end

block_piece : (size q r c : ℕ) → 0 < size → 0 < r → r ≤ size → c ≡ min widest_piece r → in_blocks size (q * size + (r - c)) < in_blocks size (q * size + r)
block_piece size q r c some more h is =
    omega (arith, in_blocks_at size q r some h, in_blocks_at size q (r - c) some (omega (arith, h)), round_falls r c widest_piece (omega arith) more (by_width (cases_lt widest_piece r)))
  where
    by_width : (widest_piece < r) ⊎ (r ≤ widest_piece) → (widest_piece ≤ c) ⊎ (r ≤ c)
    by_width (inl less) = inl (omega (arith, less, is))
    by_width (inr all) = inr (omega (arith, all, is))

pub block_lowers : (size rows n c : ℕ) → 0 < size → n < rows * size → c ≡ min widest_piece (size - n % size) → Lowers size (rows * size) n c
block_lowers size rows n c some less is = by_rows (n / size) (n % size) rows (div-add-mod n size) rest less is (quotient_less n size rows some less)
  where
    rest : n % size < size
    rest = mod-lt n {m = size} some

    by_rows : (a b rows : ℕ) → size * a + b ≡ n → b < size → n < rows * size → c ≡ min widest_piece (size - b) → a < rows → Lowers size (rows * size) n c
    by_rows a b rows split short less is before =
        let q = rows - suc a in
        let many : rows ≡ suc a + q = omega (arith, before) in
        let left : rows * size - n ≡ q * size + (size - b) = omega (arith, ap (λ k. k * size) many, split, short) in
        let after : rows * size - (n + c) ≡ q * size + (size - b - c) = omega (arith, left, is) in
        record {
          fewer = omega (arith, block_piece size q (size - b) c some (omega (arith, short)) (omega arith) is, ap (in_blocks size) left, ap (in_blocks size) after);
          within = omega (arith, left, is, less);
        }
