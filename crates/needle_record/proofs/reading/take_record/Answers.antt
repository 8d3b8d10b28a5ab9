use Rattle.std.proofs.Common.{ℕ, ◌<◌, get_or, subst}
use Rattle.needle_record.proofs.Answered.{front_answer, spelled_answer}
use Rattle.needle_record.proofs.reading.take_record.Goals as goal

pub returns-clause-spelled : goal.returns-clause-spelled
returns-clause-spelled c =
    spelled_answer c.args.bytes.items c.first_record_of.result
    (subst (λ bytes. (i : ℕ) → get_or bytes i 0 < 256) c.deref.ensures.value c.bytes_have_room.ensures)
    c.first_record_of.ensures

pub returns-clause-only : goal.returns-clause-only
returns-clause-only c = front_answer c.args.bytes.items c.first_record_of.result c.first_record_of.ensures
