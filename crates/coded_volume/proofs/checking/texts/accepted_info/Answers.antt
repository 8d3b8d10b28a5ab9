use Rattle.std.proofs.Common.{sym}
use Rattle.coded_volume.proofs.Accepted.{info_accepted, info_refused}
use Rattle.coded_volume.proofs.checking.texts.accepted_info.Goals as goal

pub returns-in-Ok-clause-info : goal.returns-in-Ok-clause-info
returns-in-Ok-clause-info c = sym (info_accepted c.args.text.now c.in-Ok.info c.in-Ok.ensures.exact).0

pub returns-in-Ok-clause-in_range : goal.returns-in-Ok-clause-in_range
returns-in-Ok-clause-in_range c = (info_accepted c.args.text.now c.in-Ok.info c.in-Ok.ensures.exact).1

pub returns-in-Err : goal.returns-in-Err
returns-in-Err c =
    let told = info_refused c.args.text.now c.in-Err.fault c.unless_memory.result c.unless_memory.ensures c.in-Err.ensures.exact in
    record { info = told.0; in_range = told.1; why = told.2 }
