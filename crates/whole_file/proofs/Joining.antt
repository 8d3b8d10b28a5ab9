-- How pieces that are read one after the other make the range.
use Rattle.std.proofs.Common.{◌≡◌, ℕ, ◌+◌, ◌≤◌, List, ◌++◌, length, take, drop, sym, ◌∙◌, ap, arith, append_assoc, length-append}
use Rattle.std.proofs.lemmas.List.{drop-drop, take-take, take_at, length-take-le}
use Rattle.std.proofs.Math.Seq.{take-add}

joins : (len done n : ℕ) (v out post rest range : List ℕ) → done ≤ length v → length out ≡ n → done + n ≤ len
    → take done v ≡ take done range → out ≡ take n (drop done range)
    → take (done + n) (take len ((take done v ++ (out ++ post)) ++ rest)) ≡ take (done + n) range
joins len done n v out post rest range inside size within before next =
    let front = take done v ++ out in
    let long : length (take done v ++ out) ≡ done + n = omega (arith, length-append (take done v) out, length-take-le done v inside, size) in
    let parts : (take done v ++ (out ++ post)) ++ rest ≡ (take done v ++ out) ++ (post ++ rest) = simp append_assoc in
    take-take (done + n) len ((take done v ++ (out ++ post)) ++ rest) within
    ∙ ap (take (done + n)) parts
    ∙ take_at (take done v ++ out) (post ++ rest) (done + n) long
    ∙ ap (λ (l : List ℕ). l ++ out) before
    ∙ ap (λ (l : List ℕ). take done range ++ l) next
    ∙ sym (take-add done n range)

-- the first bytes of a range, of which the front and the next piece are known
pub piece_joins : (len done n at : ℕ) (v out post rest bytes : List ℕ) → done ≤ length v → length out ≡ n → done + n ≤ len
    → take done v ≡ take done (drop at bytes) → out ≡ take n (drop (at + done) bytes)
    → take (done + n) (take len ((take done v ++ (out ++ post)) ++ rest)) ≡ take (done + n) (drop at bytes)
piece_joins len done n at v out post rest bytes inside size within before next =
    joins len done n v out post rest (drop at bytes) inside size within before (next ∙ ap (take n) (sym (drop-drop done at bytes)))
