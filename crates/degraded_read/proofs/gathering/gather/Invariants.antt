use Rattle.std.proofs.Common.{◌-◌, ◌≤◌, length, take}
use Rattle.std.specs.Prelude.{IsTrue}
use Rattle.site_model.specs.Counts.{Counts, IsLater, TakesCalls}
use Rattle.degraded_read.specs.Gathering.{AreNumbers, HasGathered, standing_in}
use Rattle.degraded_read.specs.Reads.{OnlyReads, StaysBlamed}
use Rattle.degraded_read.proofs.gathering.gather.Given as goal

abbrev pub invariant-loop-shard : goal.invariant-loop-shard
invariant-loop-shard g l = record {
  within : l.shard ≤ l.all;
  numbers : AreNumbers l.enough l.so_far.count l.so_far.have;
  blamed : StaysBlamed l.fn.failed l.so_far.failed (g.T.Site.counts l.fn.site) (g.T.Site.counts l.site);
  reads : OnlyReads (IsTrue g.T.Site.tells) g.T.Site.disk g.T.Site.counts g.T.Site.servers (TakesCalls (length (standing_in l.places l.shard)) l.size) l.fn.site l.site (λ s. ⊥);
  gathered : (old : Counts) → IsLater old (g.T.Site.counts l.fn.site)
      → HasGathered (IsTrue g.T.Site.tells) (g.T.Site.disk l.fn.site).files l.volume l.places l.at l.size old (g.T.Site.counts l.site) l.shard (take l.so_far.count l.so_far.have) l.so_far.failed l.room;
}

abbrev pub decreases-loop-shard : goal.decreases-loop-shard
decreases-loop-shard g l = l.all - l.shard
