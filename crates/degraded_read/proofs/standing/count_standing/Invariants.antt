use Rattle.std.proofs.Common.{◌≡◌, ◌≤◌, length}
use Rattle.degraded_read.specs.Gathering.{standing_in}
use Rattle.degraded_read.proofs.standing.count_standing.Given as goal

abbrev pub invariant-loop-shard : goal.invariant-loop-shard
invariant-loop-shard l = record { count : l.count ≡ length (standing_in l.places l.shard); few : l.count ≤ l.shard }
