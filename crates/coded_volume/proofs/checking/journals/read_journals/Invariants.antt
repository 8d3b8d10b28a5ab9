use Rattle.std.proofs.Common.{◌≡◌, ◌<◌, IsTrue, length}
use Rattle.site_model.specs.Counts.{Calls}
use Rattle.coded_volume.specs.Checking.{files_on}
use Rattle.coded_volume.proofs.Longest.{HasRead}
use Rattle.coded_volume.proofs.checking.journals.read_journals.Given as goal

abbrev pub invariant-loop-server : goal.invariant-loop-server
invariant-loop-server g l = record {
  runs : Calls g.T.Site.counts g.T.Site.servers l.fn.site l.site (λ s. ⊥);
  same_disk : IsTrue g.T.Site.tells → g.T.Site.disk l.site ≡ g.T.Site.disk l.fn.site;
  some : 0 < length l.journals.items;
  read : IsTrue g.T.Site.tells → HasRead (files_on (g.T.Site.disk l.fn.site).files l.volume) l.holders l.server-index l.journals.items;
}
