-- Two files that were read piece by piece.
use Rattle.std.proofs.Common.{◌≡◌, ℕ, ◌+◌, List, ◌++◌, take, drop, sym, ◌∙◌, ap}
use Rattle.std.proofs.Math.Seq.{take-add}

-- ---- bytes

module _ (a b x y : List ℕ) (at n : ℕ) (first : x ≡ take n (drop at a)) (second : y ≡ take n (drop at b)) where
  pub next_same : take at a ≡ take at b → x ≡ y → take (at + n) a ≡ take (at + n) b
  next_same fronts same =
      let pieces : take n (drop at a) ≡ take n (drop at b) = sym first ∙ same ∙ second in
      take-add at n a ∙ ap (λ (l : List ℕ). l ++ take n (drop at a)) fronts ∙ ap (λ (l : List ℕ). take at b ++ l) pieces ∙ sym (take-add at n b)

-- ---- files
