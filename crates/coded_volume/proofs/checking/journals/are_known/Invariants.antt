use Rattle.std.proofs.Common.{drop}
use Rattle.std.specs.Prelude.{◌↔◌}
use Rattle.coded_volume.specs.Checking.{AreKnown}
use Rattle.coded_volume.proofs.checking.journals.are_known.Given as goal

abbrev pub invariant-loop-id : goal.invariant-loop-id
invariant-loop-id l = AreKnown l.index (drop l.id-index l.ids) ↔ AreKnown l.fn.index l.ids
