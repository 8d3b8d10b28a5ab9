use Rattle.std.proofs.Common.{map, ap}
use Rattle.std.specs.Prelude.{string_bytes}
use Rattle.shard_make.proofs.Spelled.{no_names, one_more_name}
use Rattle.shard_make.proofs.names.temp_names.Goals as goal

pub loop-shard-init : goal.loop-shard-init
loop-shard-init c = no_names c.args.volume (map string_bytes c.new-names.result.items) (ap (map string_bytes) c.new-names.ensures.items)

pub loop-shard-preserved : goal.loop-shard-preserved
loop-shard-preserved c = one_more_name string_bytes c.loop-shard.names.items c.push.new.self.items c.args.volume c.loop-shard.shard c.in_ok-temp_name.field-0 (c.in_ok-push.ensures.items) c.in_ok-temp_name.ensures c.loop-shard.invariant
