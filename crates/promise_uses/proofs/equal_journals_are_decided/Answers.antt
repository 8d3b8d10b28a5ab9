use Rattle.promise_uses.proofs.Decided.{equal_is_decided}
use Rattle.promise_uses.proofs.equal_journals_are_decided.Goals as goal

pub returns : goal.returns
returns c = equal_is_decided
