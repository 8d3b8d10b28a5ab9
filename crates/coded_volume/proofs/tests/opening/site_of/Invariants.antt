use Rattle.std.proofs.Common.{◌≡◌}
use Rattle.site_mem.specs.Site.{counts_at}
use Rattle.coded_volume.proofs.tests.opening.site_of.Given as goal

abbrev pub invariant-loop-server : goal.invariant-loop-server
invariant-loop-server l = record { servers : l.site.servers ≡ 4; none_made : (counts_at l.site).calls ≡ 0 }

abbrev pub invariant-loop-shard : goal.invariant-loop-shard
invariant-loop-shard l = record { servers : l.site.servers ≡ 4; none_made : (counts_at l.site).calls ≡ 0 }
