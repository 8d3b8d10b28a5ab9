use Rattle.std.proofs.Common.{subst}
use Rattle.site_mem.specs.Site.{disk_at}
use Rattle.shard_table.specs.Table.{row_of}
use Rattle.degraded_read.specs.Reading.{ArePlaced}
use Rattle.degraded_read.proofs.tests.Running.read_at_once.Goals as goal

pub read_range-requires-clause-placed : goal.read_range-requires-clause-placed
read_range-requires-clause-placed g c = λ told.
    let files = (disk_at c.args.self.now.site).files in
    let table = c.args.self.now.table in
    subst (λ n. ArePlaced files 7 n (row_of table 7)) c.shard_length-size.ensures c.see_shards.ensures.placed
