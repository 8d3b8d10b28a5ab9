use Rattle.std.proofs.Common.{◌≡◌, IsTrue}
use Rattle.std.specs.List.{AllWithin}
use Rattle.site_model.specs.Counts.{Calls}
use Rattle.coded_volume.specs.Checking.{files_on}
use Rattle.coded_volume.proofs.Sized.{IsSized}
use Rattle.coded_volume.proofs.checking.lengths.check_lengths.Given as goal

abbrev pub invariant-loop-copy : goal.invariant-loop-copy
invariant-loop-copy g l = record {
  runs : Calls g.T.Site.counts g.T.Site.servers l.fn.site l.site (λ s. ⊥);
  same_disk : IsTrue g.T.Site.tells → g.T.Site.disk l.site ≡ g.T.Site.disk l.fn.site;
  sized : IsTrue g.T.Site.tells → AllWithin (IsSized (files_on (g.T.Site.disk l.fn.site).files l.volume) l.info) l.copies 0 l.copy-index;
}
