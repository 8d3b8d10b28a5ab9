-- The troubles behind the counts.
use Rattle.std.specs.Prelude.{ℕ, ◌<◌, List, slice_index, slice_index_or, Option, None, IsSome}
use Rattle.site_dir.specs.declared.trouble.Trouble.{Trouble}

-- each server with a fault has a trouble
abbrev pub AreTold : List ℕ → List (Option Trouble) → Type 0
AreTold faults troubles = (s : ℕ) → 0 < slice_index faults s → IsSome (slice_index_or troubles s None)
