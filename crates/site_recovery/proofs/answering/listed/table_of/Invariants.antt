use Rattle.std.proofs.Common.{◌≡◌, take}
use Rattle.site_recovery.specs.Answering.{HasShardsOf}
use Rattle.site_recovery.proofs.answering.listed.table_of.Given as goal

abbrev pub invariant-loop-found : goal.invariant-loop-found
invariant-loop-found l = record {
  servers : l.table.servers ≡ l.servers;
  shards : HasShardsOf (take l.found-index l.tested) l.table;
}
