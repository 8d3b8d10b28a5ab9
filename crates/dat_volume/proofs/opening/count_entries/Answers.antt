use Rattle.std.proofs.Common.{◌∙◌, ◌-◌, ◌%◌, inl, refl, ap, subst, take}
use Rattle.site_model.specs.Disk.{Disk, bytes_of}
use Rattle.volume_forms.specs.Forms.{entries}
use Rattle.dat_volume.specs.Scanning.{no_chain, with_entries, IsAccepted}
use Rattle.dat_volume.proofs.Counted.{whole_scan, none_told, count_passes}
use Rattle.dat_volume.proofs.opening.count_entries.Goals as goal

pub returns-in_default-clause-unsound : goal.returns-in_default-clause-unsound
returns-in_default-clause-unsound g c = (
  (refl, inl refl),
  λ told.
      let dat = bytes_of ((g.T.Site.disk c.args.site.now).files (c.args.server, c.args.dat.now)) in
      let idx = bytes_of ((g.T.Site.disk c.args.site.now).files (c.args.server, c.args.idx.now)) in
      let scanned = whole_scan idx c.in_ok-size.size c.in_ok-chain.chain (c.in_ok-size.ensures.size told)
      (c.in_ok-chain.ensures.chain told ∙ ap (λ (d : Disk). with_entries no_chain (entries (take (c.in_ok-size.size - c.in_ok-size.size % 16) (bytes_of (d.files (c.args.server, c.args.idx.now)))))) (c.size_of.ensures.same told)) in
      let accepts = subst (λ (d : Disk). IsAccepted (bytes_of (d.files (c.args.server, c.args.dat.now))) (entries idx) c.in_ok-kept.field-0)
      (c.scan.ensures.same told ∙ c.size_of.ensures.same told) (c.in_ok-kept.ensures.kept told (entries idx) scanned) in
      let fails = none_told dat idx (subst (IsAccepted dat (entries idx)) c.in_default.is accepts) in
      (refl, refl, fails.0, fails.1),
)

pub returns-clause-kept : goal.returns-clause-kept
returns-clause-kept g c = λ told.
    let dat = bytes_of ((g.T.Site.disk c.args.site.now).files (c.args.server, c.args.dat.now)) in
    let idx = bytes_of ((g.T.Site.disk c.args.site.now).files (c.args.server, c.args.idx.now)) in
    let scanned = whole_scan idx c.in_ok-size.size c.in_ok-chain.chain (c.in_ok-size.ensures.size told)
    (c.in_ok-chain.ensures.chain told ∙ ap (λ (d : Disk). with_entries no_chain (entries (take (c.in_ok-size.size - c.in_ok-size.size % 16) (bytes_of (d.files (c.args.server, c.args.idx.now)))))) (c.size_of.ensures.same told)) in
    let accepts = subst (λ (d : Disk). IsAccepted (bytes_of (d.files (c.args.server, c.args.dat.now))) (entries idx) c.in_ok-kept.field-0)
    (c.scan.ensures.same told ∙ c.size_of.ensures.same told) (c.in_ok-kept.ensures.kept told (entries idx) scanned) in
    count_passes dat idx c.in-Some.kept (subst (IsAccepted dat (entries idx)) c.in-Some.is accepts)
