use Rattle.degraded_read.proofs.Blaming.{few_since, none_told, reads_told}
use Rattle.degraded_read.proofs.Filling.{on_ok}
use Rattle.degraded_read.proofs.Joining.{certain_before}
use Rattle.degraded_read.proofs.reader.Reader.read_shard.Goals as goal

pub returns-clause-part : goal.returns-clause-part
returns-clause-part g c = on_ok c.read_part.result
    (λ read told certain. read told (certain_before (none_told c.read_part.ensures.fails.stays) certain))
    c.read_part.ensures.part

pub returns-clause-few : goal.returns-clause-few
returns-clause-few g c = few_since c.read_part.ensures.fails

pub returns-clause-reads : goal.returns-clause-reads
returns-clause-reads g c = reads_told c.read_part.ensures.fails c.read_part.ensures.reads
