-- Where the data of a record stands.
use Rattle.std.proofs.Common.{◌≡◌, ℕ, ◌+◌, ◌-◌, ◌≤◌, List, take, drop, ap, ◌∙◌, arith}
use Rattle.std.proofs.lemmas.List.{drop-drop, drop-take, take-take}

-- in its fields, which are of this size, and in the record
pub data_place : (bytes : List ℕ) (size count : ℕ) → 4 + count ≤ size → take count (drop 4 (take size (drop 16 bytes))) ≡ take count (drop 20 bytes)
data_place bytes size count within =
    let split : size ≡ 4 + (size - 4) = omega arith in
    ap (λ n. take count (drop 4 (take n (drop 16 bytes)))) split
    ∙ ap (take count) (drop-take 4 (size - 4) (drop 16 bytes))
    ∙ take-take count (size - 4) (drop 4 (drop 16 bytes)) (omega arith)
    ∙ ap (take count) (drop-drop 4 16 bytes)
