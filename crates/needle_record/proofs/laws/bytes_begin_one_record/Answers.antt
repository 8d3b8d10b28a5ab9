use Rattle.needle_record.specs.Laws.Spelling.{one_spelling}
use Rattle.needle_record.proofs.laws.bytes_begin_one_record.Goals as goal

pub returns : goal.returns
returns c = one_spelling
