use Rattle.std.proofs.Common.{IsTrue}
use Rattle.site_model.specs.Counts.{Calls, TakesCalls, widest_piece}
use Rattle.shard_make.proofs.Appended.{HasAppended}
use Rattle.shard_make.proofs.writing.append_pieces.Given as goal

abbrev pub invariant-loop-shard : goal.invariant-loop-shard
invariant-loop-shard g l = record {
  takes : TakesCalls l.shard widest_piece (g.T.Site.counts l.fn.site) (g.T.Site.counts l.site);
  runs : Calls g.T.Site.counts g.T.Site.servers l.fn.site l.site (λ s. ⊥);
  appended : IsTrue g.T.Site.tells → HasAppended l.names l.size l.pieces l.shard (g.T.Site.disk l.fn.site) (g.T.Site.disk l.site);
}
