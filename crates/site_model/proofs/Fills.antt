-- A list filled with one value.
use Rattle.std.proofs.Common.{◌≡◌, ℕ, zero, suc, get_or, refl}
use lib.ListN.{replicate}

pub filled : {A : Type 0} (n i : ℕ) (a : A) → get_or (replicate n a) i a ≡ a
filled zero i a = refl
filled (suc n) zero a = refl
filled (suc n) (suc i) a = filled n i a
