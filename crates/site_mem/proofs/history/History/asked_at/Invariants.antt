use Rattle.std.proofs.Common.{◌≡◌, drop}
use Rattle.site_mem.specs.Record.{nothing}
use Rattle.site_mem.specs.Calls.{at_call}
use Rattle.site_mem.proofs.history.History.asked_at.Given as goal

abbrev pub invariant-loop-entry : goal.invariant-loop-entry
invariant-loop-entry l = (at_call l.number nothing l.self.entries.items l.self.lost.since).call ≡ (at_call l.number nothing (drop l.entry-index l.self.entries.items) l.self.lost.since).call
