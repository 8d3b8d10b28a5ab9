use Rattle.wire_num.proofs.Writes.{field_written}
use Rattle.wire_num.proofs.put_u32.Goals as goal

pub returns : goal.returns
returns c = field_written _ 4 c.args.value _ _ c.requires c.write_u32.ensures
