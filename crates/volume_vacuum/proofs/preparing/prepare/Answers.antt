use Rattle.std.proofs.Common.{ℕ, List, sym, ◌∙◌, ap, subst}
use Rattle.std.proofs.lemmas.Result.{err_from_is_err_and}
use Rattle.volume_forms.specs.declared.Entry.{Entry}
use Rattle.needle_record.specs.Records.{Index}
use Rattle.dat_volume.specs.Causes.{ReadBlamesServer}
use Rattle.dat_volume.specs.Places.{dat_in}
use Rattle.volume_vacuum.specs.Copies.{IsByPlace, overlap, headers_damage, TellsFirst}
use Rattle.volume_vacuum.specs.Home.{own_dat}
use Rattle.volume_vacuum.proofs.Checked.{told_first, blameless}
use Rattle.volume_vacuum.proofs.Whole.{refusal_damage, overlap_told, headers_told, own_file}
use Rattle.volume_vacuum.proofs.preparing.prepare.Goals as goal

pub returns-in_err-layout-clause-err : goal.returns-in_err-layout-clause-err
returns-in_err-layout-clause-err g c =
    let volume = c.args.volume.now in
    let files = (g.T.Site.disk c.args.site.now).files in
    let es = c.in_ok-entries.entries.items in
    let fault = c.in_err-layout.field-0.0 in
    let by = subst (λ (i : Index). IsByPlace i es) c.index.ensures c.in_ok-entries.ensures in
    let p = err_from_is_err_and c.from_residual-in_err-layout.result c.from_residual-in_err-layout.ensures.1 in
    rw (p.1, p.2)
    (refusal_damage g.T.Site.tells volume files by fault (blameless volume.server _ fault c.in_err-layout.ensures.told.0) c.in_err-layout.ensures.told.1 (λ told.
    overlap_told (dat_in files volume.server volume.volume) es fault
    (subst (λ (l : List Entry). TellsFirst (overlap 8 l) fault) c.deref.ensures.value (told_first _ fault c.in_err-layout.ensures.told.0))))

pub returns-in_err-check_entries-clause-err : goal.returns-in_err-check_entries-clause-err
returns-in_err-check_entries-clause-err g c =
    let volume = c.args.volume.now in
    let files = (g.T.Site.disk c.args.site.now).files in
    let es = c.in_ok-entries.entries.items in
    let home = c.in_ok-home.home in
    let fault = c.in_err-check_entries.field-0.0 in
    let by = subst (λ (i : Index). IsByPlace i es) c.index.ensures c.in_ok-entries.ensures in
    let at_server = c.in_ok-home.ensures.own.0 ∙ c.server.ensures in
    let at_volume = c.in_ok-home.ensures.own.1 ∙ c.volume.ensures in
    let p = err_from_is_err_and c.from_residual-in_err-check_entries.result c.from_residual-in_err-check_entries.ensures.1 in
    rw (p.1, p.2)
    (refusal_damage g.T.Site.tells volume files by fault (subst (λ (s : ℕ). ReadBlamesServer s fault) at_server c.in_err-check_entries.ensures.fault.0) c.in_err-check_entries.ensures.fault.1 (λ told.
    headers_told (dat_in files volume.server volume.volume) es fault
    (ap (overlap 8) (sym c.deref.ensures.value) ∙ c.in_ok-layout.ensures.apart)
    (subst (λ (dat : List ℕ). TellsFirst (headers_damage dat es) fault) (own_file home c.in_ok-home.ensures.named at_server at_volume (c.front_of.ensures.same told))
    (subst (λ (l : List Entry). TellsFirst (headers_damage (own_dat (g.T.Site.disk c.front_of.new.site).files home) l) fault) c.deref-2.ensures.value (c.in_err-check_entries.ensures.told told)))))
