use Rattle.site_recovery.proofs.Taking.{on_ok, settles_look}
use Rattle.site_recovery.proofs.Renaming.{names_index, index_keeps, index_others, index_unmade, others_same}
use Rattle.site_recovery.proofs.settling.name_made.Goals as goal

pub returns-in_err-stands_at-clause-effect : goal.returns-in_err-stands_at-clause-effect
returns-in_err-stands_at-clause-effect g c = λ told. settles_look (c.stands_at.ensures.same told)

pub returns-then-not-branch-clause-effect : goal.returns-then-not-branch-clause-effect
returns-then-not-branch-clause-effect g c = λ told. settles_look (c.stands_at.ensures.same told)

pub returns-then-not-branch-clause-others : goal.returns-then-not-branch-clause-others
returns-then-not-branch-clause-others g c = λ told. others_same c.args.volume c.args.home (c.stands_at.ensures.same told)

pub returns-clause-effect : goal.returns-clause-effect
returns-clause-effect g c = λ told.
    names_index c.args.volume c.args.home c.ranges.volume.fits (g.T.Site.disk c.args.site.now) (g.T.Site.disk c.stands_at.new.site) (g.T.Site.disk c.name_dat.new.site) (g.T.Site.disk c.rename_kind.new.site)
    (c.stands_at.ensures.same told) (c.requires.at told) (c.in_ok-name_dat.ensures.done told) (c.rename_kind.ensures.effect told) (c.name_dat.ensures.effect told)

pub returns-clause-keeps : goal.returns-clause-keeps
returns-clause-keeps g c =
    on_ok c.rename_kind.result (λ done. λ told.
    index_keeps c.args.volume c.args.home c.ranges.volume.fits (g.T.Site.disk c.args.site.now) (g.T.Site.disk c.stands_at.new.site) (g.T.Site.disk c.name_dat.new.site) (g.T.Site.disk c.rename_kind.new.site)
    (c.stands_at.ensures.same told) (c.requires.at told) (c.in_ok-name_dat.ensures.done told) (c.rename_kind.ensures.effect told) (done told))
    c.rename_kind.ensures.done

pub returns-clause-unmade : goal.returns-clause-unmade
returns-clause-unmade g c =
    on_ok c.rename_kind.result (λ done. λ told.
    index_unmade c.args.volume c.args.home c.ranges.volume.fits (g.T.Site.disk c.args.site.now) (g.T.Site.disk c.stands_at.new.site) (g.T.Site.disk c.name_dat.new.site) (g.T.Site.disk c.rename_kind.new.site)
    (c.stands_at.ensures.same told) (c.requires.at told) (c.in_ok-name_dat.ensures.done told) (c.rename_kind.ensures.effect told) (done told))
    c.rename_kind.ensures.done

pub returns-clause-others : goal.returns-clause-others
returns-clause-others g c =
    on_ok c.rename_kind.result (λ done. λ told.
    index_others c.args.volume c.args.home c.ranges.volume.fits (g.T.Site.disk c.args.site.now) (g.T.Site.disk c.stands_at.new.site) (g.T.Site.disk c.name_dat.new.site) (g.T.Site.disk c.rename_kind.new.site)
    (c.stands_at.ensures.same told) (c.requires.at told) (c.in_ok-name_dat.ensures.done told) (c.rename_kind.ensures.effect told) (done told) (c.in_ok-name_dat.ensures.others told))
    c.rename_kind.ensures.done
