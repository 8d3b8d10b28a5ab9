use Rattle.std.proofs.Common.{ℕ, List, sym, subst}
use Rattle.coded_volume.specs.Checking.{files_on}
use Rattle.site_recovery.specs.CodedSettling.{IsTestedCoded, IsSettledCoded}
use Rattle.site_recovery.proofs.FormLeft.{its_of, its_files, found_as, plain_left, coded_left, none_settled, lost_settled}
use Rattle.site_recovery.proofs.InTurn.{its_order}
use Rattle.site_recovery.proofs.Taking.{on_ok, settles_none}
use Rattle.site_recovery.proofs.settling.forms.settle_form.Goals as goal

pub settle_indexed-requires-clause-order : goal.settle_indexed-requires-clause-order
settle_indexed-requires-clause-order g c = its_order (g.T.Site.servers c.args.site.now) c.args.found.now.group.volume c.args.files.now c.files_in-its.result.now c.requires.order c.files_in-its.ensures

pub settle_indexed-requires-clause-of : goal.settle_indexed-requires-clause-of
settle_indexed-requires-clause-of g c = its_of c.args.found.now.group.volume c.args.files.now c.files_in-its.result.now c.files_in-its.ensures

pub settle_indexed-requires-clause-files : goal.settle_indexed-requires-clause-files
settle_indexed-requires-clause-files g c = λ told. its_files c.args.found.now.group.volume c.args.files.now c.files_in-its.result.now c.files_in-its.ensures (g.T.Site.disk c.args.site.now).files (c.requires.files told)

pub settle_coded-requires-clause-order : goal.settle_coded-requires-clause-order
settle_coded-requires-clause-order g c = its_order (g.T.Site.servers c.args.site.now) c.args.found.now.group.volume c.args.files.now c.files_in-its.result.now c.requires.order c.files_in-its.ensures

pub settle_coded-requires-clause-files : goal.settle_coded-requires-clause-files
settle_coded-requires-clause-files g c = λ told. its_files c.args.found.now.group.volume c.args.files.now c.files_in-its.result.now c.files_in-its.ensures (g.T.Site.disk c.args.site.now).files (c.requires.files told)

pub settle_coded-requires-clause-tested : goal.settle_coded-requires-clause-tested
settle_coded-requires-clause-tested g c = λ told.
    subst (λ (ids : List ℕ). IsTestedCoded (files_on (g.T.Site.disk c.args.site.now).files c.args.found.now.group.volume) ids) (sym c.deref-in-Coded.ensures.value) (found_as (files_on (g.T.Site.disk c.args.site.now).files c.args.found.now.group.volume) c.args.found.now.form _ c.in-Coded.is (c.requires.tested told)).1.tested

pub settle_none-requires-clause-order : goal.settle_none-requires-clause-order
settle_none-requires-clause-order g c = its_order (g.T.Site.servers c.args.site.now) c.args.found.now.group.volume c.args.files.now c.files_in-its.result.now c.requires.order c.files_in-its.ensures

pub settle_none-requires-clause-of : goal.settle_none-requires-clause-of
settle_none-requires-clause-of g c = its_of c.args.found.now.group.volume c.args.files.now c.files_in-its.result.now c.files_in-its.ensures

pub settle_none-requires-clause-files : goal.settle_none-requires-clause-files
settle_none-requires-clause-files g c = λ told. its_files c.args.found.now.group.volume c.args.files.now c.files_in-its.result.now c.files_in-its.ensures (g.T.Site.disk c.args.site.now).files (c.requires.files told)

pub returns-in-Plain-clause-done : goal.returns-in-Plain-clause-done
returns-in-Plain-clause-done g c = on_ok c.settle_indexed.result (λ left. λ told.
    plain_left c.args.found.now.group.volume (g.T.Site.disk c.args.site.now).files (g.T.Site.disk c.settle_indexed.new.site).files c.in-Plain.home (found_as (files_on (g.T.Site.disk c.args.site.now).files c.args.found.now.group.volume) c.args.found.now.form _ c.in-Plain.is (c.requires.tested told)).at (left told)) c.settle_indexed.ensures.done

pub returns-in-Coded-clause-done : goal.returns-in-Coded-clause-done
returns-in-Coded-clause-done g c = on_ok c.settle_coded.result (λ left. λ told.
    coded_left c.args.found.now.group.volume (g.T.Site.disk c.args.site.now).files (g.T.Site.disk c.settle_coded.new.site).files c.in-Coded.checked.deleted.items (found_as (files_on (g.T.Site.disk c.args.site.now).files c.args.found.now.group.volume) c.args.found.now.form _ c.in-Coded.is (c.requires.tested told)).1.tested
    (subst (λ (ids : List ℕ). IsSettledCoded c.args.found.now.group.volume ids (g.T.Site.disk c.args.site.now).files (g.T.Site.disk c.settle_coded.new.site).files) c.deref-in-Coded.ensures.value (left told))) c.settle_coded.ensures.done

pub returns-in-Lost-clause-effect : goal.returns-in-Lost-clause-effect
returns-in-Lost-clause-effect g c = λ told. settles_none _

pub returns-in-Lost-clause-done : goal.returns-in-Lost-clause-done
returns-in-Lost-clause-done g c = λ told. lost_settled c.args.found.now.group.volume (g.T.Site.disk c.args.site.now).files (found_as (files_on (g.T.Site.disk c.args.site.now).files c.args.found.now.group.volume) c.args.found.now.form _ c.in-Lost.is (c.requires.tested told))

pub returns-in-Absent-clause-done : goal.returns-in-Absent-clause-done
returns-in-Absent-clause-done g c = on_ok c.settle_none.result (λ left. λ told.
    none_settled c.args.found.now.group.volume (g.T.Site.disk c.args.site.now).files (g.T.Site.disk c.settle_none.new.site).files (found_as (files_on (g.T.Site.disk c.args.site.now).files c.args.found.now.group.volume) c.args.found.now.form _ c.in-Absent.is (c.requires.tested told)) (left told)) c.settle_none.ensures.done
