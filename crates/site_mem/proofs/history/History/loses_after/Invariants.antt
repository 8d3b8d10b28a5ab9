use Rattle.std.proofs.Common.{◌≡◌, drop}
use Rattle.site_mem.specs.Calls.{loses_after}
use Rattle.site_mem.proofs.history.History.loses_after.Given as goal

abbrev pub invariant-loop-entry : goal.invariant-loop-entry
invariant-loop-entry l = loses_after l.number l.self.entries.items l.self.lost.since ≡ loses_after l.number (drop l.entry-index l.self.entries.items) l.self.lost.since
