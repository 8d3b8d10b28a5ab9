use Rattle.std.proofs.Common.{◌≡◌, ◌<◌, ℕ, Some}
use Rattle.site_mem.specs.Site.{disk_at}
use Rattle.shard_table.specs.Table.{place_in}
use Rattle.degraded_read.specs.Reading.{IsShardFile}
use Rattle.coded_volume.proofs.tests.reading.standing.are_placed.Given as goal

abbrev pub invariant-loop-shard : goal.invariant-loop-shard
invariant-loop-shard l = record {
  placed : (i s : ℕ) → i < l.shard → place_in l.places i ≡ Some s → IsShardFile (disk_at l.site).files 7 l.size i s;
}
