use Rattle.site_recovery.proofs.Emptied.{kind_among, kind_gone}
use Rattle.site_recovery.proofs.Taking.{on_ok, takes_more}
use Rattle.site_recovery.proofs.clearing.clear_listed.Goals as goal

pub returns-clause-effect : goal.returns-clause-effect
returns-clause-effect g c = λ told. takes_more (kind_among c.args.volume c.args.kind c.args.keeper c.args.files.now) (c.remove_listed.ensures.effect told)

pub returns-clause-done : goal.returns-clause-done
returns-clause-done g c = on_ok c.remove_listed.result (λ gone. λ told.
    kind_gone c.args.volume c.args.kind c.args.keeper c.ranges.volume.fits c.requires.kind c.args.files.now (g.T.Site.disk c.args.site.now).files (g.T.Site.disk c.remove_listed.new.site).files (c.requires.listed told)
    (c.remove_listed.ensures.effect told).files (gone told)) c.remove_listed.ensures.done
