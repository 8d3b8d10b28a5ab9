use Rattle.std.proofs.Common.{refl}
use Rattle.ecx_index.proofs.Taken.{none_taken}
use Rattle.ecx_index.proofs.loading.Loading.new.Goals as goal

pub returns-clause-none : goal.returns-clause-none
returns-clause-none c = none_taken _ c.new.ensures refl
