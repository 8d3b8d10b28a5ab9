use Rattle.site_recovery.proofs.Taking.{on_ok, lacks_settled}
use Rattle.site_recovery.proofs.Settled.{clears_idx, clears_cpx, clears_dat, clears_cpd, left_at_home}
use Rattle.site_recovery.proofs.settling.clear_others.Goals as goal

pub returns-in_err-clear_kind-clause-effect : goal.returns-in_err-clear_kind-clause-effect
returns-in_err-clear_kind-clause-effect g c = λ told.
    let d = g.T.Site.disk c.clear_kind.new.site in
    clears_idx c.args.volume c.ranges.volume.fits c.args.home (g.T.Site.disk c.args.site.now) d d d (c.requires.at told) (c.requires.unmade told) (c.clear_kind.ensures.effect told)

pub returns-in_err-clear_kind-2-clause-effect : goal.returns-in_err-clear_kind-2-clause-effect
returns-in_err-clear_kind-2-clause-effect g c = λ told.
    let d = g.T.Site.disk c.clear_kind-2.new.site in
    clears_cpx c.args.volume c.ranges.volume.fits c.args.home (g.T.Site.disk c.args.site.now) (g.T.Site.disk c.clear_kind.new.site) d d (c.requires.at told) (c.requires.unmade told)
    (c.clear_kind.ensures.effect told) (c.in_ok-clear_kind.ensures.done told) (c.clear_kind-2.ensures.effect told)

pub returns-in_err-clear_kind-3-clause-effect : goal.returns-in_err-clear_kind-3-clause-effect
returns-in_err-clear_kind-3-clause-effect g c = λ told.
    clears_dat c.args.volume c.ranges.volume.fits c.args.home (g.T.Site.disk c.args.site.now) (g.T.Site.disk c.clear_kind.new.site) (g.T.Site.disk c.clear_kind-2.new.site) (g.T.Site.disk c.clear_kind-3.new.site) (c.requires.at told) (c.requires.unmade told)
    (c.clear_kind.ensures.effect told) (c.in_ok-clear_kind.ensures.done told) (c.clear_kind-2.ensures.effect told) (c.in_ok-clear_kind-2.ensures.done told) (c.clear_kind-3.ensures.effect told)

pub returns-clause-effect : goal.returns-clause-effect
returns-clause-effect g c = λ told.
    clears_cpd c.args.volume c.ranges.volume.fits c.args.home (g.T.Site.disk c.args.site.now) (g.T.Site.disk c.clear_kind.new.site) (g.T.Site.disk c.clear_kind-2.new.site) (g.T.Site.disk c.clear_kind-3.new.site) (c.requires.at told) (c.requires.unmade told)
    (c.clear_kind.ensures.effect told) (c.in_ok-clear_kind.ensures.done told) (c.clear_kind-2.ensures.effect told) (c.in_ok-clear_kind-2.ensures.done told) (c.clear_kind-3.ensures.effect told) (c.clear_kind-4.ensures.effect told)

pub returns-clause-done : goal.returns-clause-done
returns-clause-done g c =
    on_ok c.clear_kind-4.result (λ no_cpd. λ told.
    left_at_home c.args.volume c.ranges.volume.fits c.args.home (g.T.Site.disk c.args.site.now) (g.T.Site.disk c.clear_kind.new.site) (g.T.Site.disk c.clear_kind-2.new.site) (g.T.Site.disk c.clear_kind-3.new.site) (c.requires.at told) (c.requires.unmade told)
    (c.clear_kind.ensures.effect told) (c.in_ok-clear_kind.ensures.done told) (c.clear_kind-2.ensures.effect told) (c.in_ok-clear_kind-2.ensures.done told) (c.clear_kind-3.ensures.effect told)
    (c.in_ok-clear_kind-3.ensures.done told) (g.T.Site.disk c.clear_kind-4.new.site) (c.clear_kind-4.ensures.effect told) (no_cpd told))
    c.clear_kind-4.ensures.done

pub returns-clause-settled : goal.returns-clause-settled
returns-clause-settled g c =
    on_ok c.clear_kind-4.result (λ no_cpd. λ told settled.
    lacks_settled (c.clear_kind-4.ensures.effect told).files (lacks_settled (c.clear_kind-3.ensures.effect told).files (lacks_settled (c.clear_kind-2.ensures.effect told).files (lacks_settled (c.clear_kind.ensures.effect told).files settled))))
    c.clear_kind-4.ensures.done
