use Rattle.site_mem.specs.Site.{disk_at}
use Rattle.coded_volume.specs.Checking.{files_on}
use Rattle.coded_volume.specs.CheckingTests.{HasRows}
use Rattle.coded_volume.proofs.tests.opening.standing.is_coded_as.Given as goal

abbrev pub invariant-loop-server : goal.invariant-loop-server
invariant-loop-server l = HasRows l.places (files_on (disk_at l.site).files 7) l.server
