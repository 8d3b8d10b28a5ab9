use Rattle.std.proofs.Common.{◌≡◌, flat_map}
use Rattle.std.specs.List.{range_with_len}
use Rattle.shard_table.specs.Table.{row_of, place_in}
use Rattle.plan_steps.specs.Plans.{place_if}
use Rattle.plan_code.proofs.coded.places_of.Given as goal

abbrev pub invariant-loop-shard : goal.invariant-loop-shard
invariant-loop-shard l = l.places.items ≡ flat_map (λ i. place_if i (place_in (row_of l.table l.volume) i)) (range_with_len 0 l.shard)
