use Rattle.std.proofs.Common.{arith}
use Rattle.needle_record.specs.Laws.Again.{flag_byte-fits}
use Rattle.needle_record.proofs.flags.flag_byte.Goals as goal

pub overflow_add-result : goal.overflow_add-result
overflow_add-result c = omega (arith, flag_byte-fits c.args.content.now c.requires)

pub overflow_add-result-2 : goal.overflow_add-result-2
overflow_add-result-2 c = omega (arith, flag_byte-fits c.args.content.now c.requires)

pub overflow_add-result-3 : goal.overflow_add-result-3
overflow_add-result-3 c = omega (arith, flag_byte-fits c.args.content.now c.requires)

pub overflow_add-result-4 : goal.overflow_add-result-4
overflow_add-result-4 c = omega (arith, flag_byte-fits c.args.content.now c.requires)

pub overflow_add-result-5 : goal.overflow_add-result-5
overflow_add-result-5 c = omega (arith, flag_byte-fits c.args.content.now c.requires)
