use Rattle.std.proofs.Common.{◌≡◌, ◌++◌}
use Rattle.std.specs.FinMap.{values}
use Rattle.needle_map.specs.Entries.{left_of}
use Rattle.volume_vacuum.proofs.layout.entries_of.Given as goal

abbrev pub invariant-loop-entry : goal.invariant-loop-entry
invariant-loop-entry l = l.entries.items ++ left_of l.entry-iterator ≡ values l.index
