use Rattle.wire_num.proofs.Writes.{field_written}
use Rattle.wire_num.proofs.put_u40.Goals as goal

pub returns : goal.returns
returns c = field_written _ 5 c.args.value _ _ c.requires.inside c.write_uint.ensures
