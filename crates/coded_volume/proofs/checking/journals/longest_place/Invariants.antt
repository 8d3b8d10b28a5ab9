use Rattle.std.proofs.Common.{◌<◌, ◌≤◌, length}
use Rattle.std.specs.Prelude.{slice_index_or}
use Rattle.std.specs.List.{AllWithin}
use Rattle.ecj_journal.specs.declared.reading.Journal.{Journal}
use Rattle.coded_volume.proofs.checking.journals.longest_place.Given as goal

abbrev pub invariant-loop-place : goal.invariant-loop-place
invariant-loop-place l = record {
  within : l.longest < length l.journals;
  most : (d : Journal) → AllWithin (λ (j : Journal). length j.ids.items ≤ length (slice_index_or l.journals l.longest d).ids.items) l.journals 0 l.place;
}
