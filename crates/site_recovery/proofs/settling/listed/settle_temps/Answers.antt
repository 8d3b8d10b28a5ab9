use Rattle.site_recovery.proofs.Taking.{on_ok}
use Rattle.site_recovery.proofs.Emptied.{temps_settled, temps_gone}
use Rattle.site_recovery.proofs.settling.listed.settle_temps.Goals as goal

pub returns-clause-effect : goal.returns-clause-effect
returns-clause-effect g c = λ told. temps_settled c.args.files.now c.requires.order.named (c.remove_listed.ensures.effect told)

pub returns-clause-done : goal.returns-clause-done
returns-clause-done g c = on_ok c.remove_listed.result (λ gone. λ told.
    temps_gone c.args.files.now c.requires.order.named (g.T.Site.disk c.args.site.now).files (g.T.Site.disk c.remove_listed.new.site).files (c.requires.files told)
    (c.remove_listed.ensures.effect told).files (gone told)) c.remove_listed.ensures.done
