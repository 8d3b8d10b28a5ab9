use Rattle.std.proofs.Common.{◌≡◌, Some, Ok, sym, ◌∙◌, subst}
use Rattle.std.specs.Prelude.{length, option_map}
use Rattle.std.proofs.lemmas.Result.{err_from_is_err_and}
use Rattle.site_model.specs.Disk.{Disk}
use Rattle.image_meaning.specs.Files.{contents, files_of, index_at}
use Rattle.dat_volume.specs.Opening.{counted, TellsCount}
use Rattle.dat_volume.specs.Holding.{held_dat, held_index}
use Rattle.site_recovery.proofs.Homing.{counted_within}
use Rattle.site_recovery.proofs.Finding.{home_found, count_fails}
use Rattle.site_recovery.proofs.testing.homes.home_at.Goals as goal

pub returns-in_err-count-clause-unsound : goal.returns-in_err-count-clause-unsound
returns-in_err-count-clause-unsound g c =
    let p = err_from_is_err_and c.from_residual-in_err-count.result c.from_residual-in_err-count.ensures.1 in
    rw (p.1, p.2) (λ told.
    let size : Some c.in-Some.size ≡ option_map length (index_at (files_of (contents (g.T.Site.disk c.args.site.now).files) c.args.volume) c.args.server) = sym c.in-Some.is ∙ c.in_ok-size.ensures.size told in
    count_fails (g.T.Site.disk c.args.site.now).files c.args.volume c.args.server c.requires.low c.in-Some.size size c.in_err-count.field-0.0
    (subst (λ (d : Disk). TellsCount c.args.volume (held_dat d.files c.args.server c.args.volume) (held_index d.files c.args.server c.args.volume) c.in_err-count.field-0.0)
    (c.index_size.ensures.same told) (c.in_err-count.ensures.unsound.1 told)))

pub returns-clause-home : goal.returns-clause-home
returns-clause-home g c = λ told.
    let size : Some c.in-Some.size ≡ option_map length (index_at (files_of (contents (g.T.Site.disk c.args.site.now).files) c.args.volume) c.args.server) = sym c.in-Some.is ∙ c.in_ok-size.ensures.size told in
    let counts =
    subst (λ (d : Disk). counted (held_dat d.files c.args.server c.args.volume) (held_index d.files c.args.server c.args.volume) ≡ Ok c.in_ok-count.count)
    (c.index_size.ensures.same told) (c.in_ok-count.ensures.count told) in
    home_found (g.T.Site.disk c.args.site.now).files c.args.volume c.args.server c.requires.low c.in-Some.size size c.in_ok-count.count c.kept_bytes-kept.result counts c.kept_bytes-kept.ensures
    (counted_within (held_dat (g.T.Site.disk c.args.site.now).files c.args.server c.args.volume) (held_index (g.T.Site.disk c.args.site.now).files c.args.server c.args.volume) c.in_ok-count.count counts)
