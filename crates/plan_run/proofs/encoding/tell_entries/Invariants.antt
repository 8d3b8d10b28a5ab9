use Rattle.std.proofs.Common.{◌≡◌}
use Rattle.plan_run.specs.Growing.{entries_told}
use Rattle.plan_run.proofs.Together.{front_changed}
use Rattle.plan_run.proofs.encoding.tell_entries.Given as goal

abbrev pub invariant-loop-place : goal.invariant-loop-place
invariant-loop-place l = record {
  files : l.progress.files.items ≡ front_changed (entries_told l.at l.count) l.place l.fn.progress.files.items;
  place : l.progress.place ≡ l.fn.progress.place;
}
