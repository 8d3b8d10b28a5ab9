use Rattle.std.proofs.Common.{◌≡◌, ◌+◌, IsTrue, length, None}
use Rattle.std.specs.List.{AllByRecursion, sum_by}
use Rattle.stripe_layout.specs.Pieces.{IsPiece}
use Rattle.shard_table.specs.Table.{row_of}
use Rattle.degraded_read.specs.Reading.{shards_standing}
use Rattle.degraded_read.specs.Reads.{OnlyReads, StaysBlamed}
use Rattle.degraded_read.proofs.Joining.{HasJoined, HasTaken}
use Rattle.degraded_read.proofs.reader.Reader.read_pieces.Given as goal

abbrev pub invariant-loop-piece : goal.invariant-loop-piece
invariant-loop-piece g l = record {
  each : AllByRecursion (IsPiece l.info.geometry l.info.dat_size) l.piece-iterator;
  total : l.done + sum_by (λ p. p.length) l.piece-iterator ≡ length l.fn.out;
  volume : l.self.volume ≡ l.fn.self.volume;
  widest : l.self.widest ≡ l.fn.self.widest;
  blamed : StaysBlamed None l.failed (g.T.Site.counts l.fn.site) (g.T.Site.counts l.site);
  reads : OnlyReads (IsTrue g.T.Site.tells) g.T.Site.disk g.T.Site.counts g.T.Site.servers (HasTaken (shards_standing l.info (row_of l.table l.fn.self.volume)) l.fn.pieces l.piece-iterator) l.fn.site l.site (λ s. ⊥);
  joined : IsTrue g.T.Site.tells → HasJoined (g.T.Site.disk l.fn.site).files l.fn.self.volume l.info (row_of l.table l.fn.self.volume) (l.failed ≡ None) l.fn.pieces l.done l.piece-iterator l.out;
}
