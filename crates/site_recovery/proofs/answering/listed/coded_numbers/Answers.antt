use Rattle.std.proofs.Common.{sym, ◌∙◌, ap}
use Rattle.site_recovery.specs.Answering.{coded_number, if_coded}
use Rattle.site_recovery.proofs.Homed.{none_coded}
use Rattle.site_recovery.proofs.Rows.{rows_next, rows_skip}
use Rattle.site_recovery.proofs.answering.listed.coded_numbers.Goals as goal
use Rattle.site_recovery.proofs.answering.listed.coded_numbers.Goals.{in-Coded+in_ok-push, in_default}

pub loop-found-preserved : goal.loop-found-preserved
loop-found-preserved c = elim c.match-found.branch [
  | in-Coded+in_ok-push w ↦ rw w.volumes-is
      (w.in_ok-push.ensures.items ∙ rows_next coded_number c.args.tested.now c.loop-found.found-index c.found-item.result c.loop-found.volumes.items c.loop-found-test.true c.loop-found.invariant _
      (ap coded_number (sym c.found-item.is) ∙ ap (if_coded c.found-item.result.group.volume) w.in-Coded.is))
  | in_default w ↦ rw w.volumes-is
      (rows_skip coded_number c.args.tested.now c.loop-found.found-index c.found-item.result c.loop-found.volumes.items c.loop-found-test.true c.loop-found.invariant
      (ap coded_number (sym c.found-item.is) ∙ none_coded c.found-item.result.group.volume c.found-item.result.form w.in_default.not-Coded))
]
