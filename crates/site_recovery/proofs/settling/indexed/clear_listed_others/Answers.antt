use Rattle.file_names.specs.declared.Kind.TheVariants.{Dat, Idx, Cpx}
use Rattle.site_recovery.proofs.PlainLeft.{others_lacking, kind_listed, cpd_listed}
use Rattle.site_recovery.proofs.Taking.{on_ok, lacks_settled}
use Rattle.site_recovery.proofs.Settled.{clears_idx, clears_cpx, clears_dat, clears_cpd, left_at_home}
use Rattle.site_recovery.proofs.settling.indexed.clear_listed_others.Goals as goal

pub clear_listed-requires-clause-listed : goal.clear_listed-requires-clause-listed
clear_listed-requires-clause-listed g c = λ told. kind_listed c.args.volume c.ranges.volume.fits c.args.home c.args.files.now Idx (g.T.Site.disk c.args.site.now).files tt (c.requires.listed told)

pub clear_listed-requires-2-clause-listed : goal.clear_listed-requires-2-clause-listed
clear_listed-requires-2-clause-listed g c = λ told.
    let its = c.args.files.now in
    let one = others_lacking c.args.volume c.ranges.volume.fits c.args.home its (g.T.Site.disk c.args.site.now).files (g.T.Site.disk c.clear_listed.new.site).files (c.clear_listed.ensures.effect told).files (c.requires.listed told) in
    kind_listed c.args.volume c.ranges.volume.fits c.args.home its Cpx (g.T.Site.disk c.clear_listed.new.site).files tt one

pub clear_listed-requires-3-clause-listed : goal.clear_listed-requires-3-clause-listed
clear_listed-requires-3-clause-listed g c = λ told.
    let its = c.args.files.now in
    let one = others_lacking c.args.volume c.ranges.volume.fits c.args.home its (g.T.Site.disk c.args.site.now).files (g.T.Site.disk c.clear_listed.new.site).files (c.clear_listed.ensures.effect told).files (c.requires.listed told) in
    let two = others_lacking c.args.volume c.ranges.volume.fits c.args.home its (g.T.Site.disk c.clear_listed.new.site).files (g.T.Site.disk c.clear_listed-2.new.site).files (c.clear_listed-2.ensures.effect told).files one in
    kind_listed c.args.volume c.ranges.volume.fits c.args.home its Dat (g.T.Site.disk c.clear_listed-2.new.site).files tt two

pub clear_listed-requires-4-clause-listed : goal.clear_listed-requires-4-clause-listed
clear_listed-requires-4-clause-listed g c = λ told.
    let its = c.args.files.now in
    let one = others_lacking c.args.volume c.ranges.volume.fits c.args.home its (g.T.Site.disk c.args.site.now).files (g.T.Site.disk c.clear_listed.new.site).files (c.clear_listed.ensures.effect told).files (c.requires.listed told) in
    let two = others_lacking c.args.volume c.ranges.volume.fits c.args.home its (g.T.Site.disk c.clear_listed.new.site).files (g.T.Site.disk c.clear_listed-2.new.site).files (c.clear_listed-2.ensures.effect told).files one in
    let three = others_lacking c.args.volume c.ranges.volume.fits c.args.home its (g.T.Site.disk c.clear_listed-2.new.site).files (g.T.Site.disk c.clear_listed-3.new.site).files (c.clear_listed-3.ensures.effect told).files two in
    cpd_listed c.args.volume c.ranges.volume.fits c.args.home its (g.T.Site.disk c.clear_listed-3.new.site).files three

pub returns-in_err-clear_listed-clause-effect : goal.returns-in_err-clear_listed-clause-effect
returns-in_err-clear_listed-clause-effect g c = λ told.
    let d = g.T.Site.disk c.clear_listed.new.site in
    clears_idx c.args.volume c.ranges.volume.fits c.args.home (g.T.Site.disk c.args.site.now) d d d (c.requires.at told) (c.requires.unmade told) (c.clear_listed.ensures.effect told)

pub returns-in_err-clear_listed-2-clause-effect : goal.returns-in_err-clear_listed-2-clause-effect
returns-in_err-clear_listed-2-clause-effect g c = λ told.
    let d = g.T.Site.disk c.clear_listed-2.new.site in
    clears_cpx c.args.volume c.ranges.volume.fits c.args.home (g.T.Site.disk c.args.site.now) (g.T.Site.disk c.clear_listed.new.site) d d (c.requires.at told) (c.requires.unmade told)
    (c.clear_listed.ensures.effect told) (c.in_ok-clear_listed.ensures.done told) (c.clear_listed-2.ensures.effect told)

pub returns-in_err-clear_listed-3-clause-effect : goal.returns-in_err-clear_listed-3-clause-effect
returns-in_err-clear_listed-3-clause-effect g c = λ told.
    clears_dat c.args.volume c.ranges.volume.fits c.args.home (g.T.Site.disk c.args.site.now) (g.T.Site.disk c.clear_listed.new.site) (g.T.Site.disk c.clear_listed-2.new.site) (g.T.Site.disk c.clear_listed-3.new.site) (c.requires.at told) (c.requires.unmade told)
    (c.clear_listed.ensures.effect told) (c.in_ok-clear_listed.ensures.done told) (c.clear_listed-2.ensures.effect told) (c.in_ok-clear_listed-2.ensures.done told) (c.clear_listed-3.ensures.effect told)

pub returns-clause-effect : goal.returns-clause-effect
returns-clause-effect g c = λ told.
    clears_cpd c.args.volume c.ranges.volume.fits c.args.home (g.T.Site.disk c.args.site.now) (g.T.Site.disk c.clear_listed.new.site) (g.T.Site.disk c.clear_listed-2.new.site) (g.T.Site.disk c.clear_listed-3.new.site) (c.requires.at told) (c.requires.unmade told)
    (c.clear_listed.ensures.effect told) (c.in_ok-clear_listed.ensures.done told) (c.clear_listed-2.ensures.effect told) (c.in_ok-clear_listed-2.ensures.done told) (c.clear_listed-3.ensures.effect told) (c.clear_listed-4.ensures.effect told)

pub returns-clause-done : goal.returns-clause-done
returns-clause-done g c =
    on_ok c.clear_listed-4.result (λ no_cpd. λ told.
    left_at_home c.args.volume c.ranges.volume.fits c.args.home (g.T.Site.disk c.args.site.now) (g.T.Site.disk c.clear_listed.new.site) (g.T.Site.disk c.clear_listed-2.new.site) (g.T.Site.disk c.clear_listed-3.new.site) (c.requires.at told) (c.requires.unmade told)
    (c.clear_listed.ensures.effect told) (c.in_ok-clear_listed.ensures.done told) (c.clear_listed-2.ensures.effect told) (c.in_ok-clear_listed-2.ensures.done told) (c.clear_listed-3.ensures.effect told)
    (c.in_ok-clear_listed-3.ensures.done told) (g.T.Site.disk c.clear_listed-4.new.site) (c.clear_listed-4.ensures.effect told) (no_cpd told))
    c.clear_listed-4.ensures.done

pub returns-clause-settled : goal.returns-clause-settled
returns-clause-settled g c =
    on_ok c.clear_listed-4.result (λ no_cpd. λ told settled.
    lacks_settled (c.clear_listed-4.ensures.effect told).files (lacks_settled (c.clear_listed-3.ensures.effect told).files (lacks_settled (c.clear_listed-2.ensures.effect told).files (lacks_settled (c.clear_listed.ensures.effect told).files settled))))
    c.clear_listed-4.ensures.done
