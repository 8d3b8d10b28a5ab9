use Rattle.site_recovery.proofs.Taking.{on_ok}
use Rattle.site_recovery.proofs.Emptied.{none_settled, none_left}
use Rattle.site_recovery.proofs.settling.listed.settle_none.Goals as goal

pub returns-clause-effect : goal.returns-clause-effect
returns-clause-effect g c = λ told.
    none_settled c.args.volume c.ranges.volume.fits c.args.files.now c.requires.order.named c.requires.of (c.requires.absent told) (c.remove_listed.ensures.effect told)

pub returns-clause-done : goal.returns-clause-done
returns-clause-done g c = on_ok c.remove_listed.result (λ gone. λ told.
    none_left c.args.volume c.ranges.volume.fits c.args.files.now c.requires.order.named c.requires.of (g.T.Site.disk c.args.site.now).files (g.T.Site.disk c.remove_listed.new.site).files (c.requires.absent told) (c.requires.files told)
    (c.remove_listed.ensures.effect told).files (gone told)) c.remove_listed.ensures.done
