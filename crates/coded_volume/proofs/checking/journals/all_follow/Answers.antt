use Rattle.std.proofs.Common.{sym, ◌∙◌}
use mathlib.Core.Bool.{true≢false}
use Rattle.coded_volume.proofs.checking.journals.all_follow.Goals as goal

pub returns-then-not-follows : goal.returns-then-not-follows
returns-then-not-follows c = (c.loop-journal.journal-index, c.journal-item.result, c.loop-journal-test.true, sym c.journal-item.is, λ follows. true≢false (sym (c.follows.ensures.1 follows) ∙ c.if-not-follows.true))
