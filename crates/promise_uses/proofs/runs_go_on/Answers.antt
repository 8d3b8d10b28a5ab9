use Rattle.promise_uses.proofs.Ends as ends
use Rattle.promise_uses.proofs.runs_go_on.Goals as goal

pub returns : goal.returns
returns c = ends.runs_go_on
