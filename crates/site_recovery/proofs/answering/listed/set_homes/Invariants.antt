use Rattle.site_recovery.proofs.Homed.{HasFront}
use Rattle.site_recovery.proofs.answering.listed.set_homes.Given as goal

abbrev pub invariant-loop-shard : goal.invariant-loop-shard
invariant-loop-shard l = HasFront l.volume l.shard l.homes l.fn.table l.table
