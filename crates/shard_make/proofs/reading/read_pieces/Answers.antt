use Rattle.std.proofs.Common.{◌+◌, ◌*◌, subst}
use Rattle.site_model.specs.Disk.{Disk}
use Rattle.shard_make.specs.Rooms.{HoldsPiece}
use Rattle.shard_make.specs.Made.{dat_in}
use Rattle.shard_make.proofs.Fetched.{pieces_next, reads_on, reads_failed}
use Rattle.shard_make.proofs.reading.read_pieces.Goals as goal

pub loop-shard-preserved : goal.loop-shard-preserved
loop-shard-preserved g c =
    let inv = c.loop-shard.invariant in
    let did = c.read_piece.ensures in
    record {
      reads = reads_on inv.reads (reads_failed (λ none. absurd none) did.reads);
      pieces = λ told.
          pieces_next (dat_in c.args.names.now (g.T.Site.disk c.args.site.now).files) c.loop-shard.room c.read_piece.new.room c.args.row.from c.args.row.apart c.args.row.size c.loop-shard.shard
          (inv.pieces told) did.before
          (subst (λ (d : Disk). HoldsPiece (dat_in c.args.names.now d.files) c.read_piece.new.room (c.args.row.from + c.loop-shard.shard * c.args.row.apart) c.args.row.size c.loop-shard.shard) (inv.reads.same told) (c.in_ok-read_piece.ensures.piece told));
    }
