use Rattle.std.proofs.Common.{◌≡◌, ◌+◌, ◌/◌, ◌<◌, ◌^◌, length}
use Rattle.volume_forms.specs.Forms.{entries}
use Rattle.dat_volume.specs.Scanning.{with_entries}
use Rattle.dat_volume.proofs.index_file.scan_piece.Given as goal

abbrev pub invariant-loop-entry : goal.invariant-loop-entry
invariant-loop-entry l = record {
  fits : l.chain.count + length l.rest / 16 < 2 ^ 64;
  rest : with_entries l.chain (entries l.rest) ≡ with_entries l.fn.chain (entries l.fn.bytes);
}

abbrev pub decreases-loop-entry : goal.decreases-loop-entry
decreases-loop-entry l = length l.rest
