use Rattle.std.proofs.Common.{◌∙◌, sym}
use Rattle.site_recovery.specs.Listing.{copy_of}
use Rattle.site_recovery.proofs.Rows.{rows_next, rows_skip}
use Rattle.site_recovery.proofs.listing.each_copy.Goals as goal
use Rattle.site_recovery.proofs.listing.each_copy.Goals.{in-Some+in_ok-push, in_default}

pub loop-listed-preserved : goal.loop-listed-preserved
loop-listed-preserved c = elim c.match-copy_of.branch [
  | in-Some+in_ok-push w ↦ rw w.copies-is
      (w.in_ok-push.ensures.items ∙ rows_next copy_of c.args.files.now c.loop-listed.listed-index _ c.loop-listed.copies.items c.loop-listed-test.true c.loop-listed.invariant _ (sym c.copy_of.ensures ∙ w.in-Some.is))
  | in_default w ↦ rw w.copies-is
      (rows_skip copy_of c.args.files.now c.loop-listed.listed-index _ c.loop-listed.copies.items c.loop-listed-test.true c.loop-listed.invariant (sym c.copy_of.ensures ∙ w.in_default.is))
]
