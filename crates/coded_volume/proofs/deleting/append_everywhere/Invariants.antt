use Rattle.std.proofs.Common.{IsTrue}
use Rattle.shard_table.specs.Table.{row_of}
use Rattle.site_model.specs.Counts.{Calls}
use Rattle.coded_volume.proofs.Everywhere.{HasAppendedBelow}
use Rattle.coded_volume.proofs.deleting.append_everywhere.Given as goal

abbrev pub invariant-loop-server : goal.invariant-loop-server
invariant-loop-server g l = record {
  runs : Calls g.T.Site.counts g.T.Site.servers l.fn.site l.site (λ s. ⊥);
  deleted : IsTrue g.T.Site.tells → HasAppendedBelow (g.T.Site.servers l.fn.site) (row_of l.table l.volume) l.name l.id l.server (g.T.Site.disk l.fn.site) (g.T.Site.disk l.site);
}
