use Rattle.std.proofs.Common.{◌≡◌, length}
use Rattle.volume_forms.specs.Forms.{entries}
use Rattle.dat_volume.specs.Opening.{index_by_from}
use Rattle.dat_volume.proofs.index_file.index_piece.Given as goal

abbrev pub invariant-loop-entry : goal.invariant-loop-entry
invariant-loop-entry l = index_by_from l.index (entries l.rest) ≡ index_by_from l.fn.index (entries l.fn.bytes)

abbrev pub decreases-loop-entry : goal.decreases-loop-entry
decreases-loop-entry l = length l.rest
