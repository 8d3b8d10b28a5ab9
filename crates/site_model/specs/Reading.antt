-- What a read of a source moves, and that it fails with a cause.
use Rattle.std.specs.Prelude.{◌≡◌, ℕ, ◌≤◌, List, [], length, take, drop, Option, Some, None}
use Rattle.site_model.specs.Counts.{Rose}

-- n of these bytes were moved into the front of `out`, and this is left. None is moved at the end alone.
pub record Moves (n : ℕ) (out bytes : List ℕ) (after : Option (List ℕ)) : Type 0 where
  pub left : after ≡ Some (drop n bytes)
  pub front : take n out ≡ take n bytes
  pub within : n ≤ length bytes
  pub at_end : n ≡ 0 → bytes ≡ []

-- the same, where the source tells its bytes, and it goes on to tell them or not
pub record Reads (n : ℕ) (out : List ℕ) (old new : Option (List ℕ)) : Type 0 where
  pub silent : old ≡ None → new ≡ None
  pub moved : (bytes : List ℕ) → old ≡ Some bytes → Moves n out bytes new

-- a count of faults doesn't fall, and where the call failed it rose
pub record FaultsRise (old new : ℕ) (is_failed : Type 0) : Type 0 where
  pub later : old ≤ new
  pub failed : is_failed → Rose old new
