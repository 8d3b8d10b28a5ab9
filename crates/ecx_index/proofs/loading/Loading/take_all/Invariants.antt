use Rattle.std.proofs.Common.{◌≡◌, length}
use Rattle.ecx_index.proofs.Taken.{HasDone}
use Rattle.ecx_index.proofs.loading.Loading.take_all.Given as goal

abbrev pub invariant-loop-entry : goal.invariant-loop-entry
invariant-loop-entry l = record {
  volume : l.self.volume ≡ l.fn.self.volume;
  done : HasDone l.fn.bytes l.rest l.fn.self l.self;
}

abbrev pub decreases-loop-entry : goal.decreases-loop-entry
decreases-loop-entry l = length l.rest
