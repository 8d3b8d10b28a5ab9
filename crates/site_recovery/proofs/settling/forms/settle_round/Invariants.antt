use Rattle.std.proofs.Common.{IsTrue, take}
use Rattle.site_model.specs.Counts.{Calls}
use Rattle.site_recovery.specs.Recovering.{IsNamed}
use Rattle.site_recovery.specs.Changes.{Settles}
use Rattle.site_recovery.specs.FormSettling.{HasSettled, in_round}
use Rattle.site_recovery.proofs.settling.forms.settle_round.Given as goal

abbrev pub invariant-loop-found : goal.invariant-loop-found
invariant-loop-found g l = record {
  runs : Calls g.T.Site.counts g.T.Site.servers l.fn.site l.site (λ s. ⊥);
  effect : IsTrue g.T.Site.tells → Settles IsNamed (g.T.Site.disk l.fn.site) (g.T.Site.disk l.site);
  settled : IsTrue g.T.Site.tells → HasSettled (in_round l.round) (take l.found-index l.tested) (g.T.Site.disk l.fn.site).files (g.T.Site.disk l.site).files;
}
