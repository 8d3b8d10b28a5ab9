use Rattle.needle_record.specs.Spelling.{canonical}
use Rattle.needle_record.specs.Laws.Spelling.{canonical-spells, spelled-reads_append}
use Rattle.needle_record.proofs.laws.written_is_read.Goals as goal

pub returns : goal.returns
returns c = λ r more room fits. spelled-reads_append r (canonical r) more (canonical-spells r room fits)
