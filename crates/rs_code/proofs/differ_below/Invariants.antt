use Rattle.std.proofs.Common.{ℕ, ◌<◌}
use Rattle.rs_code.specs.Shards.{IsApartAt}
use Rattle.rs_code.proofs.differ_below.Given as goal

abbrev pub invariant-loop-i : goal.invariant-loop-i
invariant-loop-i l = (k : ℕ) → k < l.i → IsApartAt l.count l.numbers k
