use Rattle.promise_uses.proofs.Starting as starting
use Rattle.promise_uses.proofs.next_run_finds.Goals as goal

pub returns : goal.returns
returns c = starting.next_run_finds
