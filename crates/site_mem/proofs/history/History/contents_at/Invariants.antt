use Rattle.site_mem.proofs.Replaying.{IsSoFar}
use Rattle.site_mem.proofs.history.History.contents_at.Given as goal

abbrev pub invariant-loop-entry : goal.invariant-loop-entry
invariant-loop-entry l = IsSoFar l.number l.entry-index l.self.entries.items l.self.lost.since l.contents
