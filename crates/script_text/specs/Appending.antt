-- Bytes that are appended to a `Vec` that has the room for them.
use Rattle.std.specs.Prelude.{◌≡◌, ℕ, ◌+◌, ◌≤◌, List, ◌++◌, vec_len, vec_capacity}
use Rattle.std.specs.Global.{Vec}

-- These n bytes were appended. The capacity has not shrunk.
pub record Appends (old new : Vec ℕ) (n : ℕ) (bytes : List ℕ) : Type 0 where
  pub items : new.items ≡ old.items ++ bytes
  pub len : vec_len new ≡ vec_len old + n
  pub capacity : vec_capacity old ≤ vec_capacity new
