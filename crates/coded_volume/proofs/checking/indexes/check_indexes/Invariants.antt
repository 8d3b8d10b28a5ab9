use Rattle.std.proofs.Common.{◌≡◌, IsTrue}
use Rattle.std.specs.List.{AllWithin}
use Rattle.site_model.specs.Counts.{Calls}
use Rattle.file_names.specs.declared.Kind.TheVariants.{Ecx}
use Rattle.coded_volume.specs.Checking.{files_on}
use Rattle.coded_volume.proofs.checking.indexes.check_indexes.Given as goal

abbrev pub invariant-loop-server : goal.invariant-loop-server
invariant-loop-server g l = record {
  runs : Calls g.T.Site.counts g.T.Site.servers l.fn.site l.site (λ s. ⊥);
  same_disk : IsTrue g.T.Site.tells → g.T.Site.disk l.site ≡ g.T.Site.disk l.fn.site;
  equal : IsTrue g.T.Site.tells → AllWithin (λ s. files_on (g.T.Site.disk l.fn.site).files l.volume l.holders.first Ecx ≡ files_on (g.T.Site.disk l.fn.site).files l.volume s Ecx) l.holders.others.items 0 l.server-index;
}
