use Rattle.std.proofs.Common.{Some, ◌∙◌, sym, subst, IsTrue, arith}
use Rattle.site_model.specs.Disk.{Disk, bytes_of}
use Rattle.dat_volume.specs.Needles.{header_damage, IsRecordAt}
use Rattle.dat_volume.proofs.Own.{read_own, own_header, damaged_not_own}
use Rattle.dat_volume.proofs.opening.has_record.Goals as goal

pub returns-in-Err-clause-has : goal.returns-in-Err-clause-has
returns-in-Err-clause-has g c =
    let dat = bytes_of ((g.T.Site.disk c.args.site.now).files (c.args.server, c.args.dat.now)) in
    damaged_not_own (IsTrue g.T.Site.tells) dat c.args.entry (header_damage dat) c.in-Err.fault c.unless_damaged.result (own_header dat c.args.entry) c.in-Err.ensures.answer.1 c.unless_damaged.ensures

pub returns-clause-has : goal.returns-clause-has
returns-clause-has g c = λ told.
    let dat = bytes_of ((g.T.Site.disk c.args.site.now).files (c.args.server, c.args.dat.now)) in
    let found = subst (λ (d : Disk). IsRecordAt (bytes_of (d.files (c.args.server, c.args.dat.now))) (Some c.args.entry) (Some c.in_default-record_at.field-0)) (c.cookie_at.ensures.same told) (c.in_default-record_at.ensures.answer told) in
    sym (read_own dat c.args.entry c.in_default-record_at.field-0 (sym c.has_size.ensures ∙ c.if-not-has_size.false) (omega arith) found.0 found.1)
