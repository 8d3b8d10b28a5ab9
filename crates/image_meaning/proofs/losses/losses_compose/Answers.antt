use Rattle.image_meaning.specs.Laws.Compose as laws
use Rattle.image_meaning.proofs.losses.losses_compose.Goals as goal

pub returns : goal.returns
returns c = laws.losses_compose
