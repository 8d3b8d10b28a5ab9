use Rattle.image_meaning.specs.Laws.Times as laws
use Rattle.image_meaning.proofs.times.losses_keep_times.Goals as goal

pub returns : goal.returns
returns c = laws.losses_keep_times
