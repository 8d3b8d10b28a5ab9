use Rattle.std.proofs.Common.{length}
use Rattle.shard_table.specs.Table.{row_of}
use Rattle.degraded_read.proofs.Filling.{on_ok}
use Rattle.degraded_read.proofs.Calling.{reads_so}
use Rattle.degraded_read.proofs.Joining.{range_is}
use Rattle.degraded_read.proofs.Lengths.{length_fits}
use Rattle.degraded_read.proofs.reader.Reader.read_range.Goals as goal

pub read_pieces-requires-clause-fits : goal.read_pieces-requires-clause-fits
read_pieces-requires-clause-fits g c = length_fits c.args.info.now.geometry c.args.info.now.dat_size c.requires.geometry c.requires.dat_size

pub returns-clause-range : goal.returns-clause-range
returns-clause-range g c = on_ok c.read_pieces.result
    (λ fills told.
    range_is (g.T.Site.disk c.args.site.now).files c.args.self.now.volume c.args.info.now (row_of c.args.table.now c.args.self.now.volume) c.locate-pieces.result c.args.offset (length c.args.out.now) c.read_pieces.new.out
    c.locate-pieces.ensures.located c.read_pieces.auto.out c.requires.range (fills told))
    c.read_pieces.ensures.pieces

pub returns-clause-reads : goal.returns-clause-reads
returns-clause-reads g c = reads_so (λ takes. record { pieces = c.locate-pieces.result; located = c.locate-pieces.ensures.located; takes = takes }) c.read_pieces.ensures.reads
