use Rattle.site_recovery.proofs.Taking.{on_ok, settles_more}
use Rattle.site_recovery.proofs.PlainRun.{volume_files, dat_fits, idx_fits, run_trimmed, home_trimmed, others_trimmed, run_cleared, run_end, run_done}
use Rattle.site_recovery.proofs.settling.indexed.settle_indexed.Goals as goal

pub returns-in_err-name_made-clause-effect : goal.returns-in_err-name_made-clause-effect
returns-in_err-name_made-clause-effect g c = λ told. settles_more (volume_files c.args.volume) (c.name_made.ensures.effect told)

pub trim_at-requires-clause-dat_within : goal.trim_at-requires-clause-dat_within
trim_at-requires-clause-dat_within g c = λ told.
    dat_fits c.args.volume c.ranges.volume.fits c.args.home (c.args.dat_length, c.args.idx_length) (g.T.Site.disk c.args.site.now) (c.requires.tested told)
    (g.T.Site.disk c.name_made.new.site) (c.name_made.ensures.effect told) (c.in_ok-name_made.ensures.keeps told) (c.in_ok-name_made.ensures.unmade told)

pub trim_at-requires-clause-idx_within : goal.trim_at-requires-clause-idx_within
trim_at-requires-clause-idx_within g c = λ told.
    idx_fits c.args.volume c.ranges.volume.fits c.args.home (c.args.dat_length, c.args.idx_length) (g.T.Site.disk c.args.site.now) (c.requires.tested told)
    (g.T.Site.disk c.name_made.new.site) (c.name_made.ensures.effect told) (c.in_ok-name_made.ensures.keeps told) (c.in_ok-name_made.ensures.unmade told)

pub returns-in_err-trim_at-clause-effect : goal.returns-in_err-trim_at-clause-effect
returns-in_err-trim_at-clause-effect g c = λ told.
    run_trimmed c.args.volume c.ranges.volume.fits c.args.home (c.args.dat_length, c.args.idx_length) (g.T.Site.disk c.args.site.now) (c.requires.tested told)
    (g.T.Site.disk c.name_made.new.site) (c.name_made.ensures.effect told) (c.in_ok-name_made.ensures.keeps told) (c.in_ok-name_made.ensures.unmade told)
    (g.T.Site.disk c.trim_at.new.site) (c.trim_at.ensures.effect told)

pub clear_listed_others-requires-clause-listed : goal.clear_listed_others-requires-clause-listed
clear_listed_others-requires-clause-listed g c = λ told.
    others_trimmed c.args.volume c.ranges.volume.fits c.args.home (c.args.dat_length, c.args.idx_length) (g.T.Site.disk c.args.site.now) (c.requires.tested told)
    (g.T.Site.disk c.name_made.new.site) (c.name_made.ensures.effect told) (c.in_ok-name_made.ensures.keeps told) (c.in_ok-name_made.ensures.unmade told)
    (g.T.Site.disk c.trim_at.new.site) (c.trim_at.ensures.effect told) (c.in_ok-trim_at.ensures.done told)
    c.args.files.now (c.requires.files told) (c.in_ok-name_made.ensures.others told)

pub clear_listed_others-requires-clause-at : goal.clear_listed_others-requires-clause-at
clear_listed_others-requires-clause-at g c = λ told.
    home_trimmed c.args.volume c.ranges.volume.fits c.args.home (c.args.dat_length, c.args.idx_length) (g.T.Site.disk c.args.site.now) (c.requires.tested told)
    (g.T.Site.disk c.name_made.new.site) (c.name_made.ensures.effect told) (c.in_ok-name_made.ensures.keeps told) (c.in_ok-name_made.ensures.unmade told)
    (g.T.Site.disk c.trim_at.new.site) (c.trim_at.ensures.effect told) (c.in_ok-trim_at.ensures.done told)

pub returns-in_err-clear_listed_others-clause-effect : goal.returns-in_err-clear_listed_others-clause-effect
returns-in_err-clear_listed_others-clause-effect g c = λ told.
    run_cleared c.args.volume c.ranges.volume.fits c.args.home (c.args.dat_length, c.args.idx_length) (g.T.Site.disk c.args.site.now) (c.requires.tested told)
    (g.T.Site.disk c.name_made.new.site) (c.name_made.ensures.effect told) (c.in_ok-name_made.ensures.keeps told) (c.in_ok-name_made.ensures.unmade told)
    (g.T.Site.disk c.trim_at.new.site) (c.trim_at.ensures.effect told) (c.in_ok-trim_at.ensures.done told)
    (g.T.Site.disk c.clear_listed_others.new.site) (c.clear_listed_others.ensures.effect told)

pub returns-clause-effect : goal.returns-clause-effect
returns-clause-effect g c = λ told.
    run_end c.args.volume c.ranges.volume.fits c.args.home (c.args.dat_length, c.args.idx_length) (g.T.Site.disk c.args.site.now) (c.requires.tested told)
    (g.T.Site.disk c.name_made.new.site) (c.name_made.ensures.effect told) (c.in_ok-name_made.ensures.keeps told) (c.in_ok-name_made.ensures.unmade told)
    (g.T.Site.disk c.trim_at.new.site) (c.trim_at.ensures.effect told) (c.in_ok-trim_at.ensures.done told)
    (g.T.Site.disk c.clear_listed_others.new.site) (c.clear_listed_others.ensures.effect told)
    (c.in_ok-clear_listed_others.ensures.done told) (c.in_ok-clear_listed_others.ensures.settled told) c.args.files.now c.requires.order.named c.requires.of
    (g.T.Site.disk c.remove_listed.new.site) (c.remove_listed.ensures.effect told)

pub returns-clause-done : goal.returns-clause-done
returns-clause-done g c =
    on_ok c.remove_listed.result (λ gone. λ told.
    run_done c.args.volume c.ranges.volume.fits c.args.home (c.args.dat_length, c.args.idx_length) (g.T.Site.disk c.args.site.now) (c.requires.tested told)
    (g.T.Site.disk c.name_made.new.site) (c.name_made.ensures.effect told) (c.in_ok-name_made.ensures.keeps told) (c.in_ok-name_made.ensures.unmade told)
    (g.T.Site.disk c.trim_at.new.site) (c.trim_at.ensures.effect told) (c.in_ok-trim_at.ensures.done told)
    (g.T.Site.disk c.clear_listed_others.new.site) (c.clear_listed_others.ensures.effect told)
    (c.in_ok-clear_listed_others.ensures.done told) (c.in_ok-clear_listed_others.ensures.settled told) c.args.files.now c.requires.order.named c.requires.of
    (g.T.Site.disk c.remove_listed.new.site) (c.remove_listed.ensures.effect told)
    (others_trimmed c.args.volume c.ranges.volume.fits c.args.home (c.args.dat_length, c.args.idx_length) (g.T.Site.disk c.args.site.now) (c.requires.tested told)
    (g.T.Site.disk c.name_made.new.site) (c.name_made.ensures.effect told) (c.in_ok-name_made.ensures.keeps told) (c.in_ok-name_made.ensures.unmade told)
    (g.T.Site.disk c.trim_at.new.site) (c.trim_at.ensures.effect told) (c.in_ok-trim_at.ensures.done told)
    c.args.files.now (c.requires.files told) (c.in_ok-name_made.ensures.others told))
    (gone told))
    c.remove_listed.ensures.done
