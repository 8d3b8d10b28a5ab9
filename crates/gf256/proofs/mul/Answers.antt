use Rattle.std.proofs.Common.{◌≡◌, ◌<◌, ◌*◌, ◌/◌, ◌%◌, ℕ, List, ◌∙◌, ap, arith}
use Rattle.std.specs.Prelude.{slice_index, bit_xor}
use Rattle.gf256.specs.Field.{field_mul}
use Rattle.gf256.specs.Laws.Nibbles.{nibbles-mul}
use Rattle.gf256.specs.Tables.{Tabulates}
use Rattle.gf256.proofs.mul.Goals as goal

entry : (f : ℕ → ℕ) (row : List ℕ) (index n : ℕ) → Tabulates f row → index ≡ n → n < 16 → slice_index row index ≡ f n
entry f row index n tabulates e h = ap (slice_index row) e ∙ tabulates.entries n h

pub returns : goal.returns
returns c =
    let a : ℕ = c.args.a in
    let b : ℕ = c.args.b in
    let low : b % 16 < 16 = omega arith in
    let high : b / 16 < 16 = omega (arith, c.ranges.b) in
    let p = entry (field_mul (a % 16)) c.low.result.now _ (b % 16) c.low.ensures c.from-low.ensures low in
    let q = entry (λ n. field_mul (a % 16) (16 * n)) c.middle.result.now _ (b / 16) c.middle.ensures.shifted_entry c.from-high.ensures high in
    let r = entry (field_mul (16 * (a / 16))) c.middle-2.result.now _ (b % 16) c.middle-2.ensures.shifted_row c.from-low.ensures low in
    let s = entry (λ n. field_mul (16 * (a / 16)) (16 * n)) c.high.result.now _ (b / 16) c.high.ensures c.from-high.ensures high in
    (λ i. bit_xor (bit_xor (bit_xor (p i) (q i)) (r i)) (s i)) ∙ nibbles-mul a b c.ranges.a.fits c.ranges.b.fits
