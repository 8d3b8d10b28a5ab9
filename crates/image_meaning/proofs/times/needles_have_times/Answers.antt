use Rattle.image_meaning.specs.Laws.Times as laws
use Rattle.image_meaning.proofs.times.needles_have_times.Goals as goal

pub returns : goal.returns
returns c = laws.needles_have_times
