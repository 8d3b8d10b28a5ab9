use Rattle.std.proofs.Common.{◌∙◌, ◌*◌, refl, sym, arith, false}
use Rattle.site_model.specs.Disk.{bytes_of}
use Rattle.dat_volume.proofs.Apart.{index_apart}
use Rattle.dat_volume.proofs.Opened.{keeps_by, opens_none, opens_by, opened_by, index_within, index_of_names}
use Rattle.dat_volume.proofs.volume.DatVolume.open.Goals as goal

pub returns-in_err-dat-clause-effect : goal.returns-in_err-dat-clause-effect
returns-in_err-dat-clause-effect g c = λ told. opens_none c.args.server c.args.volume (g.T.Site.disk c.args.site.now) (g.T.Site.disk c.args.site.now) refl

pub returns-in_err-idx-clause-effect : goal.returns-in_err-idx-clause-effect
returns-in_err-idx-clause-effect g c = λ told. opens_none c.args.server c.args.volume (g.T.Site.disk c.args.site.now) (g.T.Site.disk c.args.site.now) refl

pub returns-in_err-kept-clause-effect : goal.returns-in_err-kept-clause-effect
returns-in_err-kept-clause-effect g c = λ told. opens_none c.args.server c.args.volume (g.T.Site.disk c.args.site.now) (g.T.Site.disk c.examine.new.site) (c.examine.ensures.same told)

pub read_index-requires-clause-within : goal.read_index-requires-clause-within
read_index-requires-clause-within g c = λ told.
    let start = g.T.Site.disk c.args.site.now in
    let within = index_within c.args.server c.in_ok-kept.kept.count start (g.T.Site.disk c.examine.new.site) (bytes_of (start.files (c.args.server, c.deref.result.now))) c.deref-2.result.now c.deref-3.result.now
    (c.examine.ensures.same told) (c.deref-2.ensures ∙ sym c.deref-3.ensures) (c.in_ok-kept.ensures.kept told).0 in
    omega (arith, within)

pub returns-in_err-index-clause-effect : goal.returns-in_err-index-clause-effect
returns-in_err-index-clause-effect g c = λ told.
    opens_none c.args.server c.args.volume (g.T.Site.disk c.args.site.now) (g.T.Site.disk c.read_index.new.site) (c.read_index.ensures.same told ∙ c.examine.ensures.same told)

pub cut_both-requires-clause-apart : goal.cut_both-requires-clause-apart
cut_both-requires-clause-apart g c = λ same.
    index_apart c.args.volume false false c.ranges.volume.fits c.deref-5.result.now c.deref-4.result.now (c.deref-5.ensures ∙ c.in_ok-idx.ensures) (c.deref-4.ensures ∙ c.in_ok-dat.ensures) (sym same)

pub returns-in-Ok-clause-effect : goal.returns-in-Ok-clause-effect
returns-in-Ok-clause-effect g c = λ told.
    let start = g.T.Site.disk c.args.site.now in
    opens_by c.args.server c.args.volume c.in_ok-kept.kept.count c.in_ok-kept.kept.end (c.in_ok-kept.kept.count * 16) start (g.T.Site.disk c.read_index.new.site) (g.T.Site.disk c.cut_both.new.site) c.deref-4.result.now c.deref-5.result.now
    (c.read_index.ensures.same told ∙ c.examine.ensures.same told) (c.deref-4.ensures ∙ c.in_ok-dat.ensures) (c.deref-5.ensures ∙ c.in_ok-idx.ensures)
    (keeps_by start.files c.args.server c.args.volume c.in_ok-kept.kept.count c.in_ok-kept.kept.end c.deref.result.now c.deref-2.result.now (c.deref.ensures ∙ c.in_ok-dat.ensures) (c.deref-2.ensures ∙ c.in_ok-idx.ensures) (c.in_ok-kept.ensures.kept told))
    (omega arith) (c.cut_both.ensures.effect told)

pub returns-clause-effect : goal.returns-clause-effect
returns-clause-effect g c = λ told.
    let start = g.T.Site.disk c.args.site.now in
    opens_by c.args.server c.args.volume c.in_ok-kept.kept.count c.in_ok-kept.kept.end (c.in_ok-kept.kept.count * 16) start (g.T.Site.disk c.read_index.new.site) (g.T.Site.disk c.cut_both.new.site) c.deref-4.result.now c.deref-5.result.now
    (c.read_index.ensures.same told ∙ c.examine.ensures.same told) (c.deref-4.ensures ∙ c.in_ok-dat.ensures) (c.deref-5.ensures ∙ c.in_ok-idx.ensures)
    (keeps_by start.files c.args.server c.args.volume c.in_ok-kept.kept.count c.in_ok-kept.kept.end c.deref.result.now c.deref-2.result.now (c.deref.ensures ∙ c.in_ok-dat.ensures) (c.deref-2.ensures ∙ c.in_ok-idx.ensures) (c.in_ok-kept.ensures.kept told))
    (omega arith) (c.cut_both.ensures.effect told)

pub returns-in-Ok-clause-done : goal.returns-in-Ok-clause-done
returns-in-Ok-clause-done g c = λ told.
    let start = g.T.Site.disk c.args.site.now in
    opened_by c.args.server c.args.volume c.in_ok-kept.kept.count c.in_ok-kept.kept.end (c.in_ok-kept.kept.count * 16) (record { server = c.args.server; volume = c.args.volume; index = c.in_ok-index.index; used = c.in_ok-kept.kept.end })
    start (g.T.Site.disk c.read_index.new.site) (g.T.Site.disk c.cut_both.new.site) c.deref-4.result.now c.deref-5.result.now
    (c.read_index.ensures.same told ∙ c.examine.ensures.same told) (c.deref-4.ensures ∙ c.in_ok-dat.ensures) (c.deref-5.ensures ∙ c.in_ok-idx.ensures)
    (keeps_by start.files c.args.server c.args.volume c.in_ok-kept.kept.count c.in_ok-kept.kept.end c.deref.result.now c.deref-2.result.now (c.deref.ensures ∙ c.in_ok-dat.ensures) (c.deref-2.ensures ∙ c.in_ok-idx.ensures) (c.in_ok-kept.ensures.kept told))
    (omega arith) (c.in-Ok.ensures.done told) refl
    (index_of_names c.args.server c.args.volume (c.in_ok-kept.kept.count * 16) start (g.T.Site.disk c.examine.new.site) c.deref-3.result.now c.in_ok-index.index (c.examine.ensures.same told) (c.deref-3.ensures ∙ c.in_ok-idx.ensures) (c.in_ok-index.ensures.index told))
