use Rattle.std.proofs.Common.{ap, sym, is_some}
use Rattle.store_core.proofs.Looking.{sealed_there}
use Rattle.store_core.proofs.slots.seal.Goals as goal

pub returns : goal.returns
returns c =
    let written = (c.get_mut.follows.holds c.seal.new.self).3 (sym (ap is_some c.in-Some.ensures.value)) in
    sealed_there c.args.slots.now (c.get_mut.follows.lender c.seal.new.self) c.args.volume c.args.seal c.in-Some.slot.now c.seal.new.self c.in-Some.ensures.value c.seal.ensures written
