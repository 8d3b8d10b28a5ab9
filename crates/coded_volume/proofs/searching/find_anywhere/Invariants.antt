use Rattle.std.proofs.Common.{◌≡◌, IsTrue}
use Rattle.site_model.specs.Counts.{Calls}
use Rattle.shard_table.specs.Table.{row_of}
use Rattle.coded_volume.proofs.Searches.{HasSearched}
use Rattle.coded_volume.proofs.searching.find_anywhere.Given as goal

abbrev pub invariant-loop-server : goal.invariant-loop-server
invariant-loop-server g l = record {
  runs : Calls g.T.Site.counts g.T.Site.servers l.fn.site l.site (λ s. ⊥);
  same : IsTrue g.T.Site.tells → g.T.Site.disk l.site ≡ g.T.Site.disk l.fn.site;
  searched : HasSearched (IsTrue g.T.Site.tells) (g.T.Site.disk l.fn.site).files (row_of l.table l.volume) l.shards l.name l.server l.failed (g.T.Site.counts l.fn.site) (g.T.Site.counts l.site);
}
