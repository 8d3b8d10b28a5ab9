use Rattle.std.proofs.Common.{◌≡◌, false, true, IsTrue, length}
use Rattle.site_model.specs.Counts.{CallsAt}
use Rattle.volume_vacuum.specs.Home.{own_dat}
use Rattle.volume_vacuum.proofs.Checked.{AreRight}
use Rattle.volume_vacuum.proofs.checking.check_entries.Given as goal

abbrev pub invariant-loop-entry : goal.invariant-loop-entry
invariant-loop-entry g l = record {
  runs : CallsAt g.T.Site.counts g.T.Site.servers l.home.server l.fn.site l.site (false ≡ true);
  same : IsTrue g.T.Site.tells → g.T.Site.disk l.site ≡ g.T.Site.disk l.fn.site;
  long : IsTrue g.T.Site.tells → l.size ≡ length (own_dat (g.T.Site.disk l.fn.site).files l.home);
  right : IsTrue g.T.Site.tells → AreRight (own_dat (g.T.Site.disk l.fn.site).files l.home) l.entries l.rest;
}

abbrev pub decreases-loop-entry : goal.decreases-loop-entry
decreases-loop-entry g l = length l.rest
