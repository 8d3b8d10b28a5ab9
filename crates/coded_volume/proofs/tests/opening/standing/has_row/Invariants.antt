use Rattle.site_mem.specs.Site.{disk_at}
use Rattle.coded_volume.specs.Checking.{files_on}
use Rattle.coded_volume.specs.CheckingTests.{HasRow}
use Rattle.coded_volume.proofs.tests.opening.standing.has_row.Given as goal

abbrev pub invariant-loop-shard : goal.invariant-loop-shard
invariant-loop-shard l = HasRow l.places (files_on (disk_at l.site).files 7) l.server l.shard
