use Rattle.std.proofs.Common.{◌∙◌, sym, inr, refl, ap, IsTrue}
use Rattle.std.proofs.lemmas.Result.{err_from_is_err_and}
use Rattle.site_model.specs.Disk.{Disk, bytes_of}
use Rattle.volume_forms.specs.Forms.{has_super}
use Rattle.dat_volume.specs.Laws.Opening.{tested-ok, tested-bare}
use Rattle.dat_volume.proofs.Counted.{rule_told}
use Rattle.dat_volume.proofs.opening.examine.Goals as goal

pub returns-in_err-kept-clause-unsound : goal.returns-in_err-kept-clause-unsound
returns-in_err-kept-clause-unsound g c =
    let p = err_from_is_err_and c.from_residual.result c.from_residual.ensures.1 in
    rw (p.1, p.2)
    (rule_told (IsTrue g.T.Site.tells) c.args.server c.args.volume (bytes_of ((g.T.Site.disk c.args.site.now).files (c.args.server, c.args.dat.now))) (bytes_of ((g.T.Site.disk c.args.site.now).files (c.args.server, c.args.idx.now)))
    c.in_err-kept.field-0.0 c.in_err-kept.ensures.unsound)

pub returns-then-not-branch-clause-unsound : goal.returns-then-not-branch-clause-unsound
returns-then-not-branch-clause-unsound g c = (
  (refl, inr refl),
  λ told.
      let dat = bytes_of ((g.T.Site.disk c.args.site.now).files (c.args.server, c.args.dat.now)) in
      let idx = bytes_of ((g.T.Site.disk c.args.site.now).files (c.args.server, c.args.idx.now)) in
      let bare = sym (ap (λ (d : Disk). has_super (bytes_of (d.files (c.args.server, c.args.dat.now)))) (c.count_entries.ensures.same told)) ∙ sym (c.in_ok-has_super.ensures.block told) ∙ c.if-not-branch.true in
      (refl, (tested-bare dat idx c.in_ok-kept.kept.count (c.in_ok-kept.ensures.kept told).0 bare, inr (refl, bare))),
)

pub returns-clause-kept : goal.returns-clause-kept
returns-clause-kept g c = λ told.
    let dat = bytes_of ((g.T.Site.disk c.args.site.now).files (c.args.server, c.args.dat.now)) in
    let idx = bytes_of ((g.T.Site.disk c.args.site.now).files (c.args.server, c.args.idx.now)) in
    let super = sym (ap (λ (d : Disk). has_super (bytes_of (d.files (c.args.server, c.args.dat.now)))) (c.count_entries.ensures.same told)) ∙ sym (c.in_ok-has_super.ensures.block told) ∙ c.if-not-branch.false in
    (tested-ok dat idx c.in_ok-kept.kept.count (c.in_ok-kept.ensures.kept told).0 super, (c.in_ok-kept.ensures.kept told).1)
