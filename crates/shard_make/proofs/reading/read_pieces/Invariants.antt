use Rattle.std.proofs.Common.{IsTrue}
use Rattle.shard_make.specs.Rooms.{HoldPieces}
use Rattle.shard_make.specs.Made.{ReadsAt, dat_in}
use Rattle.shard_make.proofs.reading.read_pieces.Given as goal

abbrev pub invariant-loop-shard : goal.invariant-loop-shard
invariant-loop-shard g l = record {
  reads : ReadsAt (IsTrue g.T.Site.tells) g.T.Site.disk g.T.Site.counts g.T.Site.servers l.names.home l.shard l.fn.site l.site ⊥;
  pieces : IsTrue g.T.Site.tells → HoldPieces (dat_in l.names (g.T.Site.disk l.fn.site).files) l.room l.row.from l.row.apart l.row.size l.shard;
}
