use Rattle.std.proofs.Common.{sym, ◌∙◌, ap}
use Rattle.site_recovery.specs.Answering.{lost_number, if_lost}
use Rattle.site_recovery.proofs.Homed.{none_lost}
use Rattle.site_recovery.proofs.Rows.{rows_next, rows_skip}
use Rattle.site_recovery.proofs.answering.listed.lost_numbers.Goals as goal
use Rattle.site_recovery.proofs.answering.listed.lost_numbers.Goals.{in-Lost+in_ok-push, in_default}

pub loop-found-preserved : goal.loop-found-preserved
loop-found-preserved c = elim c.match-found.branch [
  | in-Lost+in_ok-push w ↦ rw w.volumes-is
      (w.in_ok-push.ensures.items ∙ rows_next lost_number c.args.tested.now c.loop-found.found-index c.found-item.result c.loop-found.volumes.items c.loop-found-test.true c.loop-found.invariant _
      (ap lost_number (sym c.found-item.is) ∙ ap (if_lost c.found-item.result.group.volume) w.in-Lost.is))
  | in_default w ↦ rw w.volumes-is
      (rows_skip lost_number c.args.tested.now c.loop-found.found-index c.found-item.result c.loop-found.volumes.items c.loop-found-test.true c.loop-found.invariant
      (ap lost_number (sym c.found-item.is) ∙ none_lost c.found-item.result.group.volume c.found-item.result.form w.in_default.not-Lost))
]
