use Rattle.std.proofs.Common.{◌∙◌}
use Rattle.site_recovery.proofs.Taking.{on_ok, settles_look}
use Rattle.site_recovery.proofs.Renaming.{names_dat, has_named_dat, dat_others, others_same}
use Rattle.site_recovery.proofs.settling.name_dat.Goals as goal

pub returns-in_err-stands_at-clause-effect : goal.returns-in_err-stands_at-clause-effect
returns-in_err-stands_at-clause-effect g c = λ told. settles_look (c.stands_at.ensures.same told)

pub returns-then-not-branch-clause-effect : goal.returns-then-not-branch-clause-effect
returns-then-not-branch-clause-effect g c = λ told. settles_look (c.stands_at.ensures.same told)

pub returns-then-not-branch-clause-others : goal.returns-then-not-branch-clause-others
returns-then-not-branch-clause-others g c = λ told. others_same c.args.volume c.args.home (c.stands_at.ensures.same told)

pub returns-clause-effect : goal.returns-clause-effect
returns-clause-effect g c = λ told.
    names_dat c.args.volume c.args.home c.ranges.volume.fits (g.T.Site.disk c.args.site.now) (g.T.Site.disk c.stands_at.new.site) (g.T.Site.disk c.rename_kind.new.site)
    (c.stands_at.ensures.same told) (c.requires.at told) (c.requires.made told) (c.in_ok-stands_at.ensures.stands told ∙ c.if-not-branch.false) (c.rename_kind.ensures.effect told)

pub returns-clause-done : goal.returns-clause-done
returns-clause-done g c =
    on_ok c.rename_kind.result (λ done. λ told.
    has_named_dat c.args.volume c.args.home c.ranges.volume.fits (g.T.Site.disk c.args.site.now) (g.T.Site.disk c.stands_at.new.site) (g.T.Site.disk c.rename_kind.new.site)
    (c.stands_at.ensures.same told) (c.requires.at told) (c.requires.made told) (c.in_ok-stands_at.ensures.stands told ∙ c.if-not-branch.false) (c.rename_kind.ensures.effect told) (done told))
    c.rename_kind.ensures.done

pub returns-clause-others : goal.returns-clause-others
returns-clause-others g c =
    on_ok c.rename_kind.result (λ done. λ told.
    dat_others c.args.volume c.args.home c.ranges.volume.fits (g.T.Site.disk c.args.site.now) (g.T.Site.disk c.stands_at.new.site) (g.T.Site.disk c.rename_kind.new.site)
    (c.stands_at.ensures.same told) (c.requires.at told) (c.requires.made told) (c.in_ok-stands_at.ensures.stands told ∙ c.if-not-branch.false) (c.rename_kind.ensures.effect told) (done told))
    c.rename_kind.ensures.done
