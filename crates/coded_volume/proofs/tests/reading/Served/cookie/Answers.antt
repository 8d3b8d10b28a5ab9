use Rattle.std.proofs.Common.{sym, subst}
use Rattle.site_mem.specs.Site.{disk_at}
use Rattle.stripe_layout.specs.declared.Info.{Info}
use Rattle.stripe_layout.specs.Stripes.{shard_length}
use Rattle.shard_table.specs.Table.{row_of}
use Rattle.degraded_read.specs.Reading.{ArePlaced, HasPlaces}
use Rattle.coded_volume.proofs.tests.reading.Served.cookie.Goals as goal

pub cookie-requires-clause-placed : goal.cookie-requires-clause-placed
cookie-requires-clause-placed g c = λ told.
    let files = (disk_at c.args.self.now.site).files in
    let table = c.args.self.now.table in
    subst (λ v. HasPlaces files v c.args.self.now.volume.info (row_of table v)) (sym c.args.self.now.number)
    (subst (λ (i : Info). ArePlaced files 7 (shard_length i.geometry i.dat_size) (row_of table 7)) c.info.ensures
    (subst (λ n. ArePlaced files 7 n (row_of table 7)) c.shard_length-size.ensures c.in_ok-see_shards.ensures.placed))
