use Rattle.std.proofs.Common.{subst, sym}
use Rattle.std.proofs.lemmas.Result.{err_from_is_err_and}
use Rattle.site_model.specs.Disk.{Disk}
use Rattle.image_meaning.specs.Files.{index_bytes, dat_bytes}
use Rattle.image_meaning.specs.Laws.PlainLoss.{is_plain}
use Rattle.image_meaning.specs.Sound.{HasSuper}
use Rattle.dat_volume.specs.Opening.{KeepsLengths}
use Rattle.coded_volume.specs.Checking.{files_on}
use Rattle.site_recovery.specs.Homes.{FailsTests, IsHome}
use Rattle.site_recovery.proofs.Homing.{first_home, home_is_first, records_pass}
use Rattle.site_recovery.proofs.Opened.{plain_form, plain_fails}
use Rattle.site_recovery.proofs.testing.listed.test_indexed.Goals as goal

pub test_homes-requires-clause-lowest : goal.test_homes-requires-clause-lowest
test_homes-requires-clause-lowest g c = λ told. first_home (files_on (g.T.Site.disk c.args.site.now).files c.args.volume) c.args.homes.now (c.requires.homes told) c.args.lowest c.requires.first

pub returns-in_err-test_homes-clause-unsound : goal.returns-in_err-test_homes-clause-unsound
returns-in_err-test_homes-clause-unsound g c =
    let p = err_from_is_err_and c.from_residual.result c.from_residual.ensures.1 in
    rw (p.1, p.2) (λ told. plain_fails c.args.volume (files_on (g.T.Site.disk c.args.site.now).files c.args.volume) c.in_err-test_homes.field-0.0 (c.in_err-test_homes.ensures.unsound told))

pub test_supers-requires-clause-lowest : goal.test_supers-requires-clause-lowest
test_supers-requires-clause-lowest g c = λ told.
    subst (λ (d : Disk). IsHome (files_on d.files c.args.volume) c.args.lowest) (sym (c.in_ok-test_homes.ensures.same told)) (first_home (files_on (g.T.Site.disk c.args.site.now).files c.args.volume) c.args.homes.now (c.requires.homes told) c.args.lowest c.requires.first)

pub returns-in_err-dat_length-clause-unsound : goal.returns-in_err-dat_length-clause-unsound
returns-in_err-dat_length-clause-unsound g c =
    let p = err_from_is_err_and c.from_residual-in_err-dat_length.result c.from_residual-in_err-dat_length.ensures.1 in
    rw (p.1, p.2) (λ told. plain_fails c.args.volume (files_on (g.T.Site.disk c.args.site.now).files c.args.volume) c.in_err-dat_length.field-0.0
    (subst (λ (d : Disk). FailsTests c.args.volume (files_on d.files c.args.volume) c.in_err-dat_length.field-0.0) (c.in_ok-test_homes.ensures.same told) (c.in_err-dat_length.ensures.unsound told)))

pub returns-clause-found : goal.returns-clause-found
returns-clause-found g c = λ told.
    let F = files_on (g.T.Site.disk c.args.site.now).files c.args.volume in
    let at = home_is_first F c.args.homes.now (c.requires.homes told) c.args.lowest c.requires.first in
    record {
      passes = plain_form F (is_plain F c.args.lowest.server at) (record {
        entries_follow = records_pass F c.args.homes.now (c.requires.homes told);
        one_home = c.in_ok-test_homes.ensures.one_home told;
        super = subst (λ (d : Disk). HasSuper (files_on d.files c.args.volume)) (c.in_ok-test_homes.ensures.same told) (c.in_ok-dat_length.ensures.supers told);
      });
      has = record {
        at = at;
        keeps =
            subst
            (λ (d : Disk). KeepsLengths (dat_bytes (files_on d.files c.args.volume) c.args.lowest.server) (index_bytes (files_on d.files c.args.volume) c.args.lowest.server) (c.in_ok-dat_length.dat_length, c.in_ok-dat_length.idx_length))
            (c.in_ok-test_homes.ensures.same told) (c.in_ok-dat_length.ensures.lengths told);
      };
    }
