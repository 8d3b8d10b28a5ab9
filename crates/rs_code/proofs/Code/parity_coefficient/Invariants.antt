use Rattle.std.proofs.Common.{◌≡◌, ℕ, ◌<◌, length}
use Rattle.std.specs.Prelude.{slice_index}
use Rattle.rs_code.proofs.Code.parity_coefficient.Given as goal

abbrev pub invariant-loop-i : goal.invariant-loop-i
invariant-loop-i g l = (length l.shards ≡ g.row.K) × ((k : ℕ) → k < l.i → slice_index l.shards k ≡ k)
