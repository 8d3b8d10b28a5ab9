use Rattle.std.proofs.Common.{map}
use Rattle.std.specs.Prelude.{string_bytes}
use Rattle.shard_make.specs.Names.{AreTempNames}
use Rattle.shard_make.proofs.names.temp_names.Given as goal

abbrev pub invariant-loop-shard : goal.invariant-loop-shard
invariant-loop-shard l = AreTempNames l.volume l.shard (map string_bytes l.names.items)
