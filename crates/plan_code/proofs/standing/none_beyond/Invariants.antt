use Rattle.std.proofs.Common.{◌≡◌, ◌<◌, ◌≤◌, ℕ, None}
use Rattle.stripe_layout.specs.Stripes.{shards_in_all}
use Rattle.shard_table.specs.Table.{row_of, place_in}
use Rattle.plan_code.proofs.standing.none_beyond.Given as goal

abbrev pub invariant-loop-shard : goal.invariant-loop-shard
invariant-loop-shard l = record {
  none : (i : ℕ) → shards_in_all l.geometry ≤ i → i < l.shard → place_in (row_of l.table l.volume) i ≡ None;
}
