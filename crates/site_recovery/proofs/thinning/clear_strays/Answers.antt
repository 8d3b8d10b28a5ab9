use Rattle.std.proofs.Common.{subst, sym, arith}
use Rattle.site_recovery.specs.Listing.{AreInOrder}
use Rattle.site_recovery.proofs.Taking.{on_ok, takes_on}
use Rattle.site_recovery.proofs.Strays.{strays_gone}
use Rattle.site_recovery.proofs.thinning.clear_strays.Goals as goal

pub clear_beside-requires-clause-order : goal.clear_beside-requires-clause-order
clear_beside-requires-clause-order g c = subst (λ n. AreInOrder n c.args.files.now) (sym c.clear_journals.ensures.runs.servers) c.requires.order

pub clear_beside-requires-clause-enough : goal.clear_beside-requires-clause-enough
clear_beside-requires-clause-enough g c = omega (arith, c.clear_journals.ensures.runs.servers, c.requires.enough)

pub returns-clause-effect : goal.returns-clause-effect
returns-clause-effect g c = λ told. takes_on (c.clear_journals.ensures.effect told) (c.clear_beside.ensures.effect told)

pub returns-clause-done : goal.returns-clause-done
returns-clause-done g c = on_ok c.clear_beside.result (λ gone. λ told.
    strays_gone c.args.volume c.args.keeps.now c.args.holders.now c.args.files.now (g.T.Site.disk c.args.site.now).files (g.T.Site.disk c.clear_journals.new.site).files (g.T.Site.disk c.clear_beside.new.site).files
    (c.requires.listed told) (c.clear_journals.ensures.effect told).files (c.clear_beside.ensures.effect told).files (c.in_ok-clear_journals.ensures.done told) (gone told)) c.clear_beside.ensures.done
