use Rattle.std.proofs.Common.{length, sym, subst}
use Rattle.shard_table.specs.Table.{row_of}
use Rattle.degraded_read.specs.Reading.{HasPlaces, NoneRose}
use Rattle.degraded_read.specs.Ranges.{FillsPieces}
use Rattle.degraded_read.proofs.Joining.{range_is}
use Rattle.degraded_read.proofs.Lengths.{length_fits}
use Rattle.degraded_read.proofs.ranges.read_range.Goals as goal

pub read_pieces-requires-clause-placed : goal.read_pieces-requires-clause-placed
read_pieces-requires-clause-placed g c = λ told.
    subst (λ v. HasPlaces (g.T.Site.disk c.args.site.now).files v c.args.info.now (row_of c.args.table.now v)) (sym c.in_ok-reader.ensures.volume) (c.requires.placed told)

pub read_pieces-requires-clause-fits : goal.read_pieces-requires-clause-fits
read_pieces-requires-clause-fits g c = length_fits c.args.info.now.geometry c.args.info.now.dat_size c.requires.geometry c.requires.dat_size

pub returns-clause-range : goal.returns-clause-range
returns-clause-range g c = λ told.
    let files = (g.T.Site.disk c.args.site.now).files in
    let calm = NoneRose (g.T.Site.counts c.args.site.now) (g.T.Site.counts c.read_pieces.new.site) in
    range_is files c.args.volume c.args.info.now (row_of c.args.table.now c.args.volume) c.locate-pieces.result c.args.offset (length c.args.out.now) c.read_pieces.new.out
    c.locate-pieces.ensures.located c.read_pieces.auto.out c.requires.range
    (subst (λ v. FillsPieces files v c.args.info.now (row_of c.args.table.now v) calm c.locate-pieces.result c.read_pieces.new.out) c.in_ok-reader.ensures.volume (c.in_ok-read_pieces.ensures.pieces told))
