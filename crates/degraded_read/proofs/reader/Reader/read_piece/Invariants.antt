use Rattle.std.proofs.Common.{◌≡◌, ◌-◌, ◌≤◌, IsTrue, None}
use Rattle.shard_table.specs.Table.{row_of}
use Rattle.degraded_read.specs.Ranges.{IsKeptBefore}
use Rattle.degraded_read.specs.Reading.{shards_standing}
use Rattle.degraded_read.specs.Reads.{OnlyReads, StaysBlamed}
use Rattle.degraded_read.proofs.Joining.{FillsPart, HasRead}
use Rattle.degraded_read.proofs.reader.Reader.read_piece.Given as goal

abbrev pub invariant-loop-done : goal.invariant-loop-done
invariant-loop-done g l = record {
  within : l.done ≤ l.count;
  volume : l.self.volume ≡ l.fn.self.volume;
  widest : l.self.widest ≡ l.fn.self.widest;
  before : IsKeptBefore l.from l.fn.out l.out;
  blamed : StaysBlamed l.fn.failed l.failed (g.T.Site.counts l.fn.site) (g.T.Site.counts l.site);
  reads : OnlyReads (IsTrue g.T.Site.tells) g.T.Site.disk g.T.Site.counts g.T.Site.servers (HasRead (shards_standing l.info (row_of l.table l.fn.self.volume)) l.done l.count) l.fn.site l.site (λ s. ⊥);
  part : IsTrue g.T.Site.tells → FillsPart (g.T.Site.disk l.fn.site).files l.fn.self.volume l.info (row_of l.table l.fn.self.volume) (l.failed ≡ None) l.piece.shard l.piece.at l.from l.done l.out;
}

abbrev pub decreases-loop-done : goal.decreases-loop-done
decreases-loop-done g l = l.count - l.done
