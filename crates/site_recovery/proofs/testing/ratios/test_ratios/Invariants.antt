use Rattle.std.proofs.Common.{◌≡◌, IsTrue}
use Rattle.std.specs.List.{AllWithin}
use Rattle.site_model.specs.Counts.{Calls}
use Rattle.image_meaning.specs.Coded.{ratio_at}
use Rattle.coded_volume.specs.Checking.{files_on}
use Rattle.site_recovery.proofs.testing.ratios.test_ratios.Given as goal

abbrev pub invariant-loop-server : goal.invariant-loop-server
invariant-loop-server g l = record {
  runs : Calls g.T.Site.counts g.T.Site.servers l.fn.site l.site (λ s. ⊥);
  same_disk : IsTrue g.T.Site.tells → g.T.Site.disk l.site ≡ g.T.Site.disk l.fn.site;
  texts : IsTrue g.T.Site.tells → AllWithin (λ s. ratio_at (files_on (g.T.Site.disk l.fn.site).files l.volume) s ≡ l.ratio) l.holders.others.items 0 l.server-index;
}
