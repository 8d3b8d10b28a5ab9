use Rattle.std.specs.Prelude.{◌↔◌}
use Rattle.std.specs.FinMap.{values}
use Rattle.needle_map.specs.Entries.{left_of}
use Rattle.coded_volume.specs.Checking.{EndsWithin}
use Rattle.coded_volume.proofs.checking.indexes.ends_within.Given as goal

abbrev pub invariant-loop-entry : goal.invariant-loop-entry
invariant-loop-entry l = EndsWithin l.size (left_of l.entry-iterator) ↔ EndsWithin l.size (values l.index)
