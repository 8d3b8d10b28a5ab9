use Rattle.std.proofs.Common.{arith, ap}
use Rattle.site_model.specs.Disk.{Disk}
use Rattle.site_recovery.proofs.Shardless.{listed_long, none_long}
use Rattle.site_recovery.proofs.testing.unindexed.is_long_listed.Goals as goal

pub returns-then-branch-clause-long : goal.returns-then-branch-clause-long
returns-then-branch-clause-long g c = λ told.
    listed_long (g.T.Site.disk c.args.site.now).files c.args.volume c.ranges.volume.fits c.args.files.now (c.requires.files told) (g.T.Site.servers c.args.site.now) c.loop-listed.listed-index _ _
    c.requires.order.few c.requires.order.on_servers c.loop-listed-test.true (ap (λ (d : Disk). d.files) (c.loop-listed.invariant.same_disk told))
    ((c.in_ok-is_long.ensures.long told).0 c.if-branch.true)

pub returns-clause-long : goal.returns-clause-long
returns-clause-long g c = λ told.
    none_long (g.T.Site.disk c.args.site.now).files c.args.volume c.ranges.volume.fits c.args.files.now (c.requires.files told)
    (λ k d fits. c.loop-listed.invariant.short told k d (omega (arith, fits, c.loop-listed-test.false)))
