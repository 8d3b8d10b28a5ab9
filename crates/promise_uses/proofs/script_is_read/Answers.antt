use Rattle.promise_uses.proofs.Starting as starting
use Rattle.promise_uses.proofs.script_is_read.Goals as goal

pub returns : goal.returns
returns c = starting.script_is_read
