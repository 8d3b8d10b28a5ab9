use Rattle.std.proofs.Common.{◌∙◌, ◌*◌, refl, sym, arith}
use Rattle.site_model.specs.Disk.{bytes_of}
use Rattle.dat_volume.specs.Places.{dat_in, idx_in}
use Rattle.dat_volume.proofs.Opened.{keeps_by, loaded, index_within, index_of_names}
use Rattle.dat_volume.proofs.volume.DatVolume.load.Goals as goal

pub read_index-requires-clause-within : goal.read_index-requires-clause-within
read_index-requires-clause-within g c = λ told.
    let start = g.T.Site.disk c.args.site.now in
    let within = index_within c.args.server c.in_ok-kept.kept.count start (g.T.Site.disk c.examine.new.site) (bytes_of (start.files (c.args.server, c.deref.result.now))) c.deref-2.result.now c.deref-3.result.now
    (c.examine.ensures.same told) (c.deref-2.ensures ∙ sym c.deref-3.ensures) (c.in_ok-kept.ensures.kept told).0 in
    omega (arith, within)

pub returns-clause-done : goal.returns-clause-done
returns-clause-done g c = λ told.
    let start = g.T.Site.disk c.args.site.now in
    loaded (record { server = c.args.server; volume = c.args.volume; index = c.in_ok-index.index; used = c.in_ok-kept.kept.end })
    (dat_in start.files c.args.server c.args.volume) (idx_in start.files c.args.server c.args.volume)
    c.in_ok-kept.kept.count c.in_ok-kept.kept.end (c.in_ok-kept.kept.count * 16)
    (keeps_by start.files c.args.server c.args.volume c.in_ok-kept.kept.count c.in_ok-kept.kept.end c.deref.result.now c.deref-2.result.now (c.deref.ensures ∙ c.in_ok-dat.ensures) (c.deref-2.ensures ∙ c.in_ok-idx.ensures) (c.in_ok-kept.ensures.kept told))
    (omega arith) refl
    (index_of_names c.args.server c.args.volume (c.in_ok-kept.kept.count * 16) start (g.T.Site.disk c.examine.new.site) c.deref-3.result.now c.in_ok-index.index (c.examine.ensures.same told) (c.deref-3.ensures ∙ c.in_ok-idx.ensures) (c.in_ok-index.ensures.index told))
