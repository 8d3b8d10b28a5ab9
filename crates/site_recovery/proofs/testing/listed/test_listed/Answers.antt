use Rattle.std.proofs.Common.{◌≡◌, None, List, subst, sym}
use Rattle.std.specs.Prelude.{slice_get}
use Rattle.std.proofs.lemmas.Result.{err_from_is_err_and}
use Rattle.site_model.specs.Disk.{Disk}
use Rattle.image_meaning.specs.Files.{has_index}
use Rattle.image_meaning.specs.Laws.Plain.{lowest-all_fail}
use Rattle.image_meaning.specs.Plain.{index_home}
use Rattle.coded_volume.specs.Checking.{files_on}
use Rattle.site_recovery.specs.declared.forms.Home.{Home}
use Rattle.site_recovery.specs.Listing.{AreFilesOf}
use Rattle.site_recovery.proofs.Homing.{no_home}
use Rattle.site_recovery.proofs.Opened.{plain_fails}
use Rattle.site_recovery.proofs.testing.listed.test_listed.Goals as goal

pub returns-in_err-homes-clause-unsound : goal.returns-in_err-homes-clause-unsound
returns-in_err-homes-clause-unsound g c =
    let p = err_from_is_err_and c.from_residual.result c.from_residual.ensures.1 in
    rw (p.1, p.2) (λ told. plain_fails c.args.volume (files_on (g.T.Site.disk c.args.site.now).files c.args.volume) c.in_err-homes.field-0.0 (c.in_err-homes.ensures.unsound told))

pub test_unindexed-requires-clause-no_index : goal.test_unindexed-requires-clause-no_index
test_unindexed-requires-clause-no_index g c = λ told.
    let F = files_on (g.T.Site.disk c.args.site.now).files c.args.volume in
    let none = no_home F c.in_ok-homes.homes.items (c.in_ok-homes.ensures.homes told) (subst (λ (homes : List Home). slice_get homes 0 ≡ None) c.deref.ensures.value (sym c.in-None.ensures.value)) in
    subst (λ (d : Disk). index_home (files_on d.files c.args.volume) ≡ None) (sym (c.in_ok-homes.ensures.same told)) (lowest-all_fail (has_index F) none)

pub test_unindexed-requires-clause-files : goal.test_unindexed-requires-clause-files
test_unindexed-requires-clause-files g c = λ told.
    subst (λ (d : Disk). AreFilesOf d.files c.args.volume c.args.files.now) (sym (c.in_ok-homes.ensures.same told)) (c.requires.files told)
