use Rattle.std.proofs.Common.{◌≡◌, ◌≤◌, ℕ, length, take, subst, ◌∙◌, ap}
use Rattle.std.proofs.lemmas.Result.{err_from_is_err_and}
use Rattle.site_model.specs.Disk.{Disk, bytes_of}
use Rattle.dat_volume.specs.Needles.{bytes_from}
use Rattle.dat_volume.specs.Reading.{TellsEnd}
use Rattle.dat_volume.proofs.Heads.{head_damage, end_told, header_told, placed_end, placed_bytes}
use Rattle.dat_volume.proofs.reading.front_at.Goals as goal

pub returns-in_err-check_end-clause-answer : goal.returns-in_err-check_end-clause-answer
returns-in_err-check_end-clause-answer g c =
    let dat = bytes_of ((g.T.Site.disk c.args.site.now).files (c.args.server, c.args.name.now)) in
    let why = c.in_err-check_end.field-0.0 in
    let place = c.place_of-place in
    let p = err_from_is_err_and c.from_residual.result c.from_residual.ensures.1 in
    rw (p.1, p.2) (
      c.in_err-check_end.ensures.told.0,
      λ told. end_told dat c.args.entry why (subst (λ (n : ℕ). TellsEnd n (length dat) why) (placed_end c.args.entry place.result.at place.result.length place.ensures.at place.ensures.length) (c.in_err-check_end.ensures.told.1 told)),
    )

pub returns-in_err-check_header-clause-answer : goal.returns-in_err-check_header-clause-answer
returns-in_err-check_header-clause-answer g c =
    let dat = bytes_of ((g.T.Site.disk c.args.site.now).files (c.args.server, c.args.name.now)) in
    let read = c.deref.result.now in
    let place = c.place_of-place in
    let p = err_from_is_err_and c.from_residual-in_err-check_header.result c.from_residual-in_err-check_header.ensures.1 in
    rw (p.1, p.2) (
      c.in_err-check_header.ensures.differ,
      λ told. header_told dat read c.args.entry c.in_err-check_header.field-0.0
          (head_damage dat read c.args.entry c.args.count c.requires.header c.requires.within
          (subst (λ (n : ℕ). n ≤ length dat) (placed_end c.args.entry place.result.at place.result.length place.ensures.at place.ensures.length) (c.in_ok-check_end.ensures.within told))
          (placed_bytes _ dat read c.args.entry place.result.at c.args.count (c.deref.ensures.value ∙ c.in_ok-bytes.ensures.bytes told) (ap (λ (d : Disk). bytes_of (d.files (c.args.server, c.args.name.now))) (c.check_end.ensures.same told)) place.ensures.at))
          c.in_err-check_header.ensures.told,
    )

pub returns-clause-answer : goal.returns-clause-answer
returns-clause-answer g c = λ told.
    let dat = bytes_of ((g.T.Site.disk c.args.site.now).files (c.args.server, c.args.name.now)) in
    let place = c.place_of-place in
    let there : c.in_ok-bytes.bytes.items ≡ take c.args.count (bytes_from dat c.args.entry) =
    placed_bytes _ dat c.in_ok-bytes.bytes.items c.args.entry place.result.at c.args.count (c.in_ok-bytes.ensures.bytes told) (ap (λ (d : Disk). bytes_of (d.files (c.args.server, c.args.name.now))) (c.check_end.ensures.same told)) place.ensures.at in (
      there,
      head_damage dat c.deref.result.now c.args.entry c.args.count c.requires.header c.requires.within
          (subst (λ (n : ℕ). n ≤ length dat) (placed_end c.args.entry place.result.at place.result.length place.ensures.at place.ensures.length) (c.in_ok-check_end.ensures.within told))
          (c.deref.ensures.value ∙ there)
          ∙ c.in_ok-check_header.ensures.ok,
    )
