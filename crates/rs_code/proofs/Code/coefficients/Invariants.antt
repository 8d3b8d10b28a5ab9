use Rattle.std.proofs.Common.{◌≡◌, ℕ, ◌<◌, length}
use Rattle.std.specs.Prelude.{slice_index}
use Rattle.std.specs.List.{remove}
use Rattle.rs_code.specs.Roots.{basis}
use Rattle.rs_code.proofs.Code.coefficients.Given as goal

abbrev pub invariant-loop-i : goal.invariant-loop-i
invariant-loop-i g l = (length l.row ≡ g.row.K) × ((k : ℕ) → k < l.i → slice_index l.row k ≡ basis (remove l.have k) (slice_index l.have k) l.want)
