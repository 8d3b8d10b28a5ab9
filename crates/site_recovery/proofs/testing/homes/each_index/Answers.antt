use Rattle.std.proofs.Common.{◌∙◌, sym}
use Rattle.site_recovery.specs.Opening.{index_server}
use Rattle.site_recovery.proofs.Rows.{rows_next, rows_skip}
use Rattle.site_recovery.proofs.testing.homes.each_index.Goals as goal
use Rattle.site_recovery.proofs.testing.homes.each_index.Goals.{in-Some+in_ok-push, in_default}

pub loop-listed-preserved : goal.loop-listed-preserved
loop-listed-preserved c = elim c.match-index_server.branch [
  | in-Some+in_ok-push w ↦ rw w.servers-is
      (w.in_ok-push.ensures.items ∙ rows_next index_server c.args.files.now c.loop-listed.listed-index _ c.loop-listed.servers.items c.loop-listed-test.true c.loop-listed.invariant _ (sym c.index_server.ensures ∙ w.in-Some.is))
  | in_default w ↦ rw w.servers-is
      (rows_skip index_server c.args.files.now c.loop-listed.listed-index _ c.loop-listed.servers.items c.loop-listed-test.true c.loop-listed.invariant (sym c.index_server.ensures ∙ w.in_default.is))
]
