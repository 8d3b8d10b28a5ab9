use Rattle.std.proofs.Common.{◌+◌, ◌*◌, ◌≤◌, ◌∙◌, subst, arith}
use Rattle.std.proofs.Math.Nat.{mul-le-mul_right}
use Rattle.site_model.specs.Disk.{Disk}
use Rattle.world_model.specs.Ratios.{data_count}
use Rattle.shard_make.specs.Rooms.{piece_in}
use Rattle.shard_make.specs.Made.{HavePieces}
use Rattle.shard_make.proofs.Appended.{grows_none}
use Rattle.shard_make.proofs.Fetched.{on_ok}
use Rattle.shard_make.proofs.making.make_in.Goals as goal

pub returns-in_err-read_pieces-clause-effect : goal.returns-in_err-read_pieces-clause-effect
returns-in_err-read_pieces-clause-effect g c = λ told.
    grows_none c.args.names.now c.args.row.size (g.T.Site.disk c.args.site.now) (g.T.Site.disk c.read_pieces.new.site) (c.read_pieces.ensures.reads.same told)

pub returns-clause-done : goal.returns-clause-done
returns-clause-done g c =
    let k = data_count c.args.names.now.ratio in
    on_ok c.append_pieces.result
    (λ have told. record {
      data_pieces = λ i h j below.
          let next : i + 1 ≤ data_count c.args.names.now.ratio = omega (arith, h) in
          c.add_parity.ensures.kept (i * c.args.row.size + j) (omega (arith, below, mul-le-mul_right c.args.row.size next))
          ∙ c.in_ok-read_pieces.ensures.pieces told i h j below;
      columns = c.add_parity.ensures.columns;
      files = subst (λ (d : Disk). HavePieces c.args.names.now (piece_in c.add_parity.new.room c.args.row.size) d (g.T.Site.disk c.append_pieces.new.site)) (c.read_pieces.ensures.reads.same told) (have told);
    })
    c.append_pieces.ensures.done
