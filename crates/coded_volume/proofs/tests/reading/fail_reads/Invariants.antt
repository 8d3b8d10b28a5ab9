use Rattle.std.proofs.Common.{◌≡◌}
use Rattle.coded_volume.proofs.tests.reading.fail_reads.Given as goal

abbrev pub invariant-loop-server : goal.invariant-loop-server
invariant-loop-server l = record { servers : l.site.servers ≡ 5 }
