use Rattle.site_recovery.specs.Placing.{MarksHomes}
use Rattle.site_recovery.proofs.placing.keepers_of.Given as goal

abbrev pub invariant-loop-server : goal.invariant-loop-server
invariant-loop-server l = MarksHomes l.server l.homes l.keeps.items
