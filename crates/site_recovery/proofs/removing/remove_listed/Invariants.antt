use Rattle.std.proofs.Common.{IsTrue}
use Rattle.site_model.specs.Counts.{Calls}
use Rattle.site_recovery.specs.Changes.{TakesAway}
use Rattle.site_recovery.specs.Removing.{IsGoingAmong}
use Rattle.site_recovery.proofs.Removed.{AreGoneBelow}
use Rattle.site_recovery.proofs.removing.remove_listed.Given as goal

abbrev pub invariant-loop-listed : goal.invariant-loop-listed
invariant-loop-listed g l = record {
  runs : Calls g.T.Site.counts g.T.Site.servers l.fn.site l.site (λ s. ⊥);
  takes : IsTrue g.T.Site.tells → TakesAway (IsGoingAmong l.goes l.files) (g.T.Site.disk l.fn.site) (g.T.Site.disk l.site);
  gone : IsTrue g.T.Site.tells → AreGoneBelow l.goes l.files l.listed-index (g.T.Site.disk l.site).files;
}
