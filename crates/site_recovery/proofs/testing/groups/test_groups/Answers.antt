use Rattle.std.proofs.Common.{◌+◌, ◌∙◌, List, [], ◌∷◌, ◌++◌, map, take, ap, subst, sym}
use Rattle.std.specs.Prelude.{slice_index_or}
use Rattle.std.specs.List.{All}
use Rattle.std.proofs.lemmas.Result.{err_from_is_err_and}
use Rattle.std.proofs.lemmas.List.{map-append, take_all, take_more}
use Rattle.std.proofs.lemmas.List.Elements.{All-push}
use Rattle.site_model.specs.Disk.{Disk}
use Rattle.coded_volume.specs.Checking.{files_on}
use Rattle.site_recovery.specs.declared.forms.Group.{Group}
use Rattle.site_recovery.specs.declared.forms.TestedGroup.{TestedGroup}
use Rattle.site_recovery.specs.Listing.{AreFilesOf, AreInOrder}
use Rattle.site_recovery.specs.Opening.{AreTestedGroups, FailsListed, IsTestedForm, IsWithin}
use Rattle.site_model.specs.Laws.Count.{calls_on_anywhere, calls_untold}
use Rattle.site_recovery.proofs.Copied.{files_of_volume}
use Rattle.site_recovery.proofs.InTurn.{its_order, groups_next, first_fault}
use Rattle.site_recovery.proofs.testing.groups.test_groups.Goals as goal

pub files_in-its-requires : goal.files_in-its-requires
files_in-its-requires g c = c.requires.groups.each c.loop-group.group-index (record { volume = 0; start = 0; end = 0 }) c.loop-group-test.true

pub test_listed-requires-clause-order : goal.test_listed-requires-clause-order
test_listed-requires-clause-order g c =
    let group : Group = slice_index_or c.args.groups.now c.loop-group.group-index (record { volume = 0; start = 0; end = 0 }) in
    subst (λ n. AreInOrder n c.files_in-its.result.now) (sym c.loop-group.invariant.runs.servers)
    (its_order (g.T.Site.servers c.args.site.now) group.volume c.args.files.now c.files_in-its.result.now c.requires.order c.files_in-its.ensures)

pub test_listed-requires-clause-files : goal.test_listed-requires-clause-files
test_listed-requires-clause-files g c = λ told.
    let group : Group = slice_index_or c.args.groups.now c.loop-group.group-index (record { volume = 0; start = 0; end = 0 }) in
    subst (λ (d : Disk). AreFilesOf d.files group.volume c.files_in-its.result.now) (sym (c.loop-group.invariant.same_disk told))
    (files_of_volume (g.T.Site.disk c.args.site.now).files group.volume c.args.files.now c.files_in-its.result.now (c.requires.files told) c.files_in-its.ensures)

pub returns-in_err-form-clause-unsound : goal.returns-in_err-form-clause-unsound
returns-in_err-form-clause-unsound g c =
    let p = err_from_is_err_and c.from_residual.result c.from_residual.ensures.1 in
    rw (p.1, p.2) (λ told.
    let group : Group = slice_index_or c.args.groups.now c.loop-group.group-index (record { volume = 0; start = 0; end = 0 }) in
    first_fault (g.T.Site.disk c.args.site.now).files c.args.groups.now c.loop-group.group-index (record { volume = 0; start = 0; end = 0 }) c.loop-group-test.true c.loop-group.tested.items (c.loop-group.invariant.tested told)
    (g.T.Site.servers c.args.site.now) c.args.files.now c.requires.order (c.requires.files told) c.requires.groups c.in_err-form.field-0.0
    (subst (λ (d : Disk). FailsListed group.volume (files_on d.files group.volume) c.in_err-form.field-0.0) (c.loop-group.invariant.same_disk told) (c.in_err-form.ensures.unsound told)))

pub loop-group-preserved : goal.loop-group-preserved
loop-group-preserved g c =
    let group : Group = slice_index_or c.args.groups.now c.loop-group.group-index (record { volume = 0; start = 0; end = 0 }) in
    record {
      runs = calls_untold (calls_on_anywhere c.loop-group.invariant.runs c.test_listed.ensures.runs);
      same_disk = λ told. c.test_listed.ensures.same told ∙ c.loop-group.invariant.same_disk told;
      within =
          subst (λ (tested : List TestedGroup). All (λ (t : TestedGroup). IsWithin (g.T.Site.servers c.args.site.now) t.form) tested) (sym c.in_ok-push.ensures.items)
          (All-push (λ (t : TestedGroup). IsWithin (g.T.Site.servers c.args.site.now) t.form) c.loop-group.tested.items (record { group = group; form = c.in_ok-form.form }) c.loop-group.invariant.within
          (subst (λ n. IsWithin n c.in_ok-form.form) c.loop-group.invariant.runs.servers c.in_ok-form.ensures.within));
      same_groups = ap (map (λ (t : TestedGroup). t.group)) c.in_ok-push.ensures.items
          ∙ map-append (λ (t : TestedGroup). t.group) c.loop-group.tested.items (record { group = group; form = c.in_ok-form.form } ∷ []) ∙ ap (λ (l : List Group). l ++ group ∷ []) c.loop-group.invariant.same_groups
          ∙ sym (take_more c.args.groups.now c.loop-group.group-index (record { volume = 0; start = 0; end = 0 }) c.loop-group-test.true);
      tested = λ told.
          subst (λ (tested : List TestedGroup). AreTestedGroups (g.T.Site.disk c.args.site.now).files (take (c.loop-group.group-index + 1) c.args.groups.now) tested) (sym c.in_ok-push.ensures.items)
          (groups_next (g.T.Site.disk c.args.site.now).files c.args.groups.now c.loop-group.group-index (record { volume = 0; start = 0; end = 0 }) c.loop-group-test.true c.loop-group.tested.items (c.loop-group.invariant.tested told) c.in_ok-form.form
          (subst (λ (d : Disk). IsTestedForm (files_on d.files group.volume) c.in_ok-form.form) (c.loop-group.invariant.same_disk told) (c.in_ok-form.ensures.found told)));
    }

pub returns-clause-tested : goal.returns-clause-tested
returns-clause-tested g c = λ told.
    subst (λ (groups : List Group). AreTestedGroups (g.T.Site.disk c.args.site.now).files groups c.loop-group.tested.items) (take_all c.loop-group.group-index c.args.groups.now c.loop-group-test.false) (c.loop-group.invariant.tested told)

pub returns-clause-same_groups : goal.returns-clause-same_groups
returns-clause-same_groups g c = c.loop-group.invariant.same_groups ∙ take_all c.loop-group.group-index c.args.groups.now c.loop-group-test.false
