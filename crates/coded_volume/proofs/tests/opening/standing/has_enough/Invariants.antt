use Rattle.std.proofs.Common.{ℕ, ◌<◌}
use Rattle.std.specs.Prelude.{IsSome}
use Rattle.shard_table.specs.Table.{place_in}
use Rattle.coded_volume.proofs.tests.opening.standing.has_enough.Given as goal

abbrev pub invariant-loop-shard : goal.invariant-loop-shard
invariant-loop-shard l = (i : ℕ) → i < l.shard → IsSome (place_in l.places i)
