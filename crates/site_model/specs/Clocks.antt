-- What a clock tells over a run of calls.
use Rattle.std.specs.Prelude.{◌≡◌, ℕ, List, [], ◌∷◌, ◌++◌}
use Rattle.std.proofs.Common.{refl, subst}

-- It told these times, one a call, and was not asked otherwise. `gives` says what a call may tell of a clock, and which
-- clock it is then.
abbrev pub Tells : {C : Type 0} → (C → ℕ → C → Type 0) → C → List ℕ → C → Type 0
Tells gives old [] new = new ≡ old
Tells {C} gives old (t ∷ ts) new = (mid : C) × gives old t mid × Tells gives mid ts new

-- one call
pub tells_one : {C : Type 0} (gives : C → ℕ → C → Type 0) (old new : C) (t : ℕ) → gives old t new → Tells gives old (t ∷ []) new
tells_one gives old new t gave = (new, gave, refl)

-- some calls after others
pub tells_on : {C : Type 0} (gives : C → ℕ → C → Type 0) (old mid new : C) (ts us : List ℕ) → Tells gives old ts mid → Tells gives mid us new → Tells gives old (ts ++ us) new
tells_on {C} gives old mid new [] us same more = subst (λ (c : C). Tells gives c us new) same more
tells_on gives old mid new (t ∷ ts) us told more = (told.0, told.1, tells_on gives told.0 mid new ts us told.2 more)
