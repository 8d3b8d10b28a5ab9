use Rattle.std.specs.List.{AllWithin}
use Rattle.coded_volume.specs.Checking.{Follows}
use Rattle.coded_volume.proofs.checking.journals.all_follow.Given as goal

abbrev pub invariant-loop-journal : goal.invariant-loop-journal
invariant-loop-journal l = AllWithin (Follows l.ids) l.journals 0 l.journal-index
