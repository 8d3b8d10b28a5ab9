use Rattle.std.proofs.Common.{IsTrue}
use Rattle.site_model.specs.Counts.{Calls}
use Rattle.site_recovery.specs.Changes.{TakesAway}
use Rattle.site_recovery.specs.CodedGone.{IsStray}
use Rattle.site_recovery.proofs.Strays.{JournalsGoneBelow}
use Rattle.site_recovery.proofs.thinning.clear_journals.Given as goal

abbrev pub invariant-loop-server : goal.invariant-loop-server
invariant-loop-server g l = record {
  runs : Calls g.T.Site.counts g.T.Site.servers l.fn.site l.site (λ s. ⊥);
  takes : IsTrue g.T.Site.tells → TakesAway (IsStray l.volume l.keeps) (g.T.Site.disk l.fn.site) (g.T.Site.disk l.site);
  gone : IsTrue g.T.Site.tells → JournalsGoneBelow l.volume l.keeps l.servers l.server-index (g.T.Site.disk l.site).files;
}
