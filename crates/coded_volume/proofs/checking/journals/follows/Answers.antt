use Rattle.std.proofs.Common.{arith}
use Rattle.coded_volume.proofs.Longest.{follows_by}
use Rattle.coded_volume.proofs.checking.journals.follows.Goals as goal

pub returns : goal.returns
returns c = follows_by c.args.ids.now c.args.journal.now c.are_equal.result c.deref.result.now c.len-count.result c.deref.ensures.value (omega (arith, c.len-count.ensures, c.args.journal.now.ids.ok.0)) c.are_equal.ensures
    (omega (arith, c.if-journal-gt-MOST_BEHIND.false)) (omega (arith, c.if-count-ids.false, c.len-count.ensures, c.args.journal.now.ids.ok.0)) (omega (arith, c.if-ids-count-gt1.false, c.len-count.ensures, c.args.journal.now.ids.ok.0))
