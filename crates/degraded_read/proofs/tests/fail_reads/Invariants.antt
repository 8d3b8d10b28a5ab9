use Rattle.std.proofs.Common.{◌≡◌}
use Rattle.degraded_read.proofs.tests.fail_reads.Given as goal

abbrev pub invariant-loop-server : goal.invariant-loop-server
invariant-loop-server l = record { servers : l.site.servers ≡ 5 }
