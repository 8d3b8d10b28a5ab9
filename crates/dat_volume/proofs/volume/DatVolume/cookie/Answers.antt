use Rattle.std.proofs.Common.{List, ℕ, Some, None, Ok, Err, refl, sym, ◌∙◌, ap}
use Rattle.std.proofs.lemmas.Result.{err_from_is_err_and}
use Rattle.site_model.specs.Disk.{bytes_of}
use Rattle.dat_volume.specs.Places.{dat_in}
use Rattle.dat_volume.proofs.Live.{cookie_needle}
use Rattle.dat_volume.proofs.volume.DatVolume.cookie.Goals as goal

pub returns-in_default-clause-needle : goal.returns-in_default-clause-needle
returns-in_default-clause-needle g c = λ told ps begins.
    let volume = c.args.self.now in
    let dat = dat_in (g.T.Site.disk c.args.site.now).files volume.server volume.volume in
    cookie_needle dat volume.index volume.used ps c.args.id begins dat None (sym c.get.ensures.value ∙ c.in_default.is) refl (Ok None) refl

pub returns-in_err-cookie-clause-needle : goal.returns-in_err-cookie-clause-needle
returns-in_err-cookie-clause-needle g c =
    let volume = c.args.self.now in
    let files = (g.T.Site.disk c.args.site.now).files in
    let p = err_from_is_err_and c.from_residual-in_err-cookie.result c.from_residual-in_err-cookie.ensures.1 in
    rw (p.1, p.2) (λ told ps begins.
    cookie_needle (dat_in files volume.server volume.volume) volume.index volume.used ps c.args.id begins (bytes_of (files (volume.server, c.deref.result.now))) (Some c.in-Some.entry)
    (sym c.get.ensures.value ∙ c.in-Some.is) (ap (λ (name : List ℕ). bytes_of (files (volume.server, name))) (c.deref.ensures ∙ c.in_ok-name.ensures))
    (Err c.in_err-cookie.field-0.0) (c.in_err-cookie.ensures.answer.1 told))

pub returns-clause-needle : goal.returns-clause-needle
returns-clause-needle g c = λ told ps begins.
    let volume = c.args.self.now in
    let files = (g.T.Site.disk c.args.site.now).files in
    cookie_needle (dat_in files volume.server volume.volume) volume.index volume.used ps c.args.id begins (bytes_of (files (volume.server, c.deref.result.now))) (Some c.in-Some.entry)
    (sym c.get.ensures.value ∙ c.in-Some.is) (ap (λ (name : List ℕ). bytes_of (files (volume.server, name))) (c.deref.ensures ∙ c.in_ok-name.ensures))
    (Ok (Some c.in_ok-cookie.cookie)) (c.in_ok-cookie.ensures.answer told)
