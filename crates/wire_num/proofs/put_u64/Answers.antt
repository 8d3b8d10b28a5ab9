use Rattle.wire_num.proofs.Writes.{field_written}
use Rattle.wire_num.proofs.put_u64.Goals as goal

pub returns : goal.returns
returns c = field_written _ 8 c.args.value _ _ c.requires c.write_u64.ensures
