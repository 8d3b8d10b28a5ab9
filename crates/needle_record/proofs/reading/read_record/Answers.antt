use Rattle.std.proofs.Common.{arith}
use Rattle.needle_record.proofs.Answered.{front_answer, spelled_answer}
use Rattle.needle_record.proofs.reading.read_record.Goals as goal

pub returns-clause-spelled : goal.returns-clause-spelled
returns-clause-spelled c = spelled_answer c.args.bytes.now c.first_record.result (λ i. omega (arith, c.type_inv.bytes i)) c.first_record.ensures

pub returns-clause-only : goal.returns-clause-only
returns-clause-only c = front_answer c.args.bytes.now c.first_record.result c.first_record.ensures
