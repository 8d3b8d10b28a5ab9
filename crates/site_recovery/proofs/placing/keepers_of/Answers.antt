use Rattle.std.proofs.Common.{◌+◌, Bool, List, subst, sym}
use Rattle.site_recovery.specs.Placing.{MarksHomes}
use Rattle.site_recovery.proofs.Placed.{marks_none, marks_more}
use Rattle.site_recovery.proofs.placing.keepers_of.Goals as goal

pub loop-server-init : goal.loop-server-init
loop-server-init c = subst (λ (keeps : List Bool). MarksHomes 0 c.args.homes.now keeps) (sym c.new-keeps.ensures.items) (marks_none c.args.homes.now)

pub loop-server-preserved : goal.loop-server-preserved
loop-server-preserved c =
    subst (λ (keeps : List Bool). MarksHomes (c.loop-server.server + 1) c.args.homes.now keeps) (sym c.in_ok-push.ensures.items)
    (marks_more c.loop-server.server c.args.homes.now c.loop-server.keeps.items c.is_home.result c.loop-server.invariant c.is_home.ensures)
