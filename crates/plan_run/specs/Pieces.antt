-- Pieces of files that are written.
use Rattle.std.specs.Prelude.{◌≡◌, ℕ, ◌+◌, ◌≤◌, List, length, take, drop, Some}
use Rattle.image_meaning.specs.Parts.{Parts}
use Rattle.plan_steps.specs.declared.plan.FileState.{FileState}
use Rattle.plan_steps.specs.Planned.{planned}

-- The piece is what follows of the bytes that are planned.
pub record IsPiece (parts : Parts) (s : FileState) (piece : List ℕ) : Type 0 where
  pub whole : List ℕ
  pub planned_is : planned parts s.kind ≡ Some whole
  pub follows : piece ≡ take (length piece) (drop s.length whole)
  pub within : s.length + length piece ≤ length whole
