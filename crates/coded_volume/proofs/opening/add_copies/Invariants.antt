use Rattle.coded_volume.specs.Opening.{HasCopiesBefore}
use Rattle.coded_volume.proofs.opening.add_copies.Given as goal

abbrev pub invariant-loop-shard : goal.invariant-loop-shard
invariant-loop-shard l = HasCopiesBefore l.places l.server l.shard l.copies.items
