use Rattle.std.proofs.Common.{sym, ◌∙◌, ap}
use Rattle.site_recovery.specs.Answering.{plain_home, home_in}
use Rattle.site_recovery.specs.Homes.{home_row}
use Rattle.site_recovery.proofs.Homed.{no_home}
use Rattle.site_recovery.proofs.Rows.{rows_next, rows_skip}
use Rattle.site_recovery.proofs.answering.listed.plain_homes.Goals as goal
use Rattle.site_recovery.proofs.answering.listed.plain_homes.Goals.{in-Plain+in_ok-push, in_default}

pub loop-found-preserved : goal.loop-found-preserved
loop-found-preserved c = elim c.match-found.branch [
  | in-Plain+in_ok-push w ↦ rw w.rows-is
      (w.in_ok-push.ensures.items ∙ rows_next plain_home c.args.tested.now c.loop-found.found-index c.found-item.result c.loop-found.rows.items c.loop-found-test.true c.loop-found.invariant _
      (ap plain_home (sym c.found-item.is) ∙ ap (λ f. home_row c.found-item.result.group.volume (home_in f)) w.in-Plain.is))
  | in_default w ↦ rw w.rows-is
      (rows_skip plain_home c.args.tested.now c.loop-found.found-index c.found-item.result c.loop-found.rows.items c.loop-found-test.true c.loop-found.invariant
      (ap plain_home (sym c.found-item.is) ∙ ap (home_row c.found-item.result.group.volume) (no_home c.found-item.result.form w.in_default.not-Plain)))
]
