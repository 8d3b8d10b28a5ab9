use Rattle.std.proofs.Common.{◌∙◌, sym, false}
use Rattle.dat_volume.proofs.Apart.{index_apart}
use Rattle.dat_volume.proofs.Opened.{trims_by}
use Rattle.dat_volume.proofs.volume.DatVolume.trim.Goals as goal

pub cut_both-requires-clause-apart : goal.cut_both-requires-clause-apart
cut_both-requires-clause-apart g c = λ same.
    index_apart c.args.volume false false c.ranges.volume.fits c.deref-2.result.now c.deref.result.now (c.deref-2.ensures ∙ c.in_ok-idx.ensures) (c.deref.ensures ∙ c.in_ok-dat.ensures) (sym same)

pub returns-clause-effect : goal.returns-clause-effect
returns-clause-effect g c = λ told.
    trims_by c.args.server c.args.volume c.args.dat_length c.args.idx_length (g.T.Site.disk c.args.site.now) (g.T.Site.disk c.cut_both.new.site) c.deref.result.now c.deref-2.result.now
    (c.deref.ensures ∙ c.in_ok-dat.ensures) (c.deref-2.ensures ∙ c.in_ok-idx.ensures) (c.cut_both.ensures.effect told)
