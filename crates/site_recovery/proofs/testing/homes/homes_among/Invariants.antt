use Rattle.std.proofs.Common.{◌≡◌, ◌<◌, IsTrue}
use Rattle.std.specs.Prelude.{slice_index_or}
use Rattle.std.specs.List.{All}
use Rattle.site_model.specs.Counts.{Calls}
use Rattle.coded_volume.specs.Checking.{files_on}
use Rattle.site_recovery.specs.declared.forms.Home.{Home}
use Rattle.site_recovery.specs.Homes.{AreHomes}
use Rattle.site_recovery.proofs.testing.homes.homes_among.Given as goal

abbrev pub invariant-loop-server : goal.invariant-loop-server
invariant-loop-server g l = record {
  runs : Calls g.T.Site.counts g.T.Site.servers l.fn.site l.site (λ s. ⊥);
  same_disk : IsTrue g.T.Site.tells → g.T.Site.disk l.site ≡ g.T.Site.disk l.fn.site;
  servers : All (λ (home : Home). home.server < g.T.Site.servers l.fn.site) l.homes.items;
  homes : IsTrue g.T.Site.tells → AreHomes (files_on (g.T.Site.disk l.fn.site).files l.volume) (slice_index_or l.servers l.server-index 64) l.homes.items;
}
