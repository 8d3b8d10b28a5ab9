use Rattle.std.proofs.Common.{List, sym, ◌∙◌, subst}
use Rattle.std.specs.List.{All}
use Rattle.site_model.specs.Disk.{Disk}
use Rattle.site_recovery.specs.declared.forms.TestedGroup.{TestedGroup}
use Rattle.site_recovery.specs.Answering.{IsAnswerOf}
use Rattle.site_recovery.specs.Opening.{AreTestedGroups, IsWithin}
use Rattle.site_recovery.proofs.FormsRun.{groups_at, tested_rise, plain_below, run_finds, run_clears, run_due, run_settles, run_recovers, run_tidies}
use Rattle.site_recovery.proofs.Whole.{recovers_look}
use Rattle.site_recovery.proofs.recovering.forms.recover_forms.Goals as goal

pub returns-in_err-files-clause-effect : goal.returns-in_err-files-clause-effect
returns-in_err-files-clause-effect g c = λ told. recovers_look (c.in_err-files.ensures.same told)

pub returns-in_err-groups-clause-effect : goal.returns-in_err-groups-clause-effect
returns-in_err-groups-clause-effect g c = λ told. recovers_look (c.list_files.ensures.same told)

pub returns-in_err-tested-clause-effect : goal.returns-in_err-tested-clause-effect
returns-in_err-tested-clause-effect g c = λ told. recovers_look (c.test_groups.ensures.same told ∙ c.list_files.ensures.same told)

pub answer_listed-requires-clause-rise : goal.answer_listed-requires-clause-rise
answer_listed-requires-clause-rise g c = tested_rise c.in_ok-files.files.items c.deref.result.now c.deref.ensures.value c.in_ok-groups.groups.items c.deref-3.result.now c.deref-3.ensures.value c.in_ok-tested.tested.items c.in_ok-groups.ensures c.in_ok-tested.ensures.same_groups c.deref-4.result.now c.deref-4.ensures.value

pub returns-in_err-found-clause-effect : goal.returns-in_err-found-clause-effect
returns-in_err-found-clause-effect g c = λ told. recovers_look (c.test_groups.ensures.same told ∙ c.list_files.ensures.same told)

pub returns-in_err-settle_temps-clause-effect : goal.returns-in_err-settle_temps-clause-effect
returns-in_err-settle_temps-clause-effect g c = λ told. run_clears (g.T.Site.servers c.args.site.now) (g.T.Site.disk c.args.site.now) c.in_ok-files.files.items c.in_ok-files.ensures.order (c.in_ok-files.ensures.found told) c.in_ok-tested.tested.items (groups_at c.in_ok-files.files.items c.deref.result.now c.deref.ensures.value c.in_ok-groups.groups.items c.deref-3.result.now c.deref-3.ensures.value c.in_ok-tested.tested.items c.in_ok-groups.ensures c.in_ok-tested.ensures.same_groups) c.deref-3.result.now c.in_ok-tested.ensures.same_groups (g.T.Site.disk c.test_groups.new.site) (c.test_groups.ensures.same told ∙ c.list_files.ensures.same told) (subst (λ (d : Disk). AreTestedGroups d.files c.deref-3.result.now c.in_ok-tested.tested.items) (sym (c.test_groups.ensures.same told)) (c.in_ok-tested.ensures.tested told)) (g.T.Site.disk c.settle_temps.new.site) (c.settle_temps.ensures.effect told)

pub settle_forms-requires-clause-due : goal.settle_forms-requires-clause-due
settle_forms-requires-clause-due g c = λ told.
    run_due (g.T.Site.servers c.args.site.now) (g.T.Site.disk c.args.site.now) c.in_ok-files.files.items c.in_ok-files.ensures.order (c.in_ok-files.ensures.found told) c.in_ok-tested.tested.items (groups_at c.in_ok-files.files.items c.deref.result.now c.deref.ensures.value c.in_ok-groups.groups.items c.deref-3.result.now c.deref-3.ensures.value c.in_ok-tested.tested.items c.in_ok-groups.ensures c.in_ok-tested.ensures.same_groups) c.deref-3.result.now c.in_ok-tested.ensures.same_groups (g.T.Site.disk c.test_groups.new.site) (c.test_groups.ensures.same told ∙ c.list_files.ensures.same told) (subst (λ (d : Disk). AreTestedGroups d.files c.deref-3.result.now c.in_ok-tested.tested.items) (sym (c.test_groups.ensures.same told)) (c.in_ok-tested.ensures.tested told)) (g.T.Site.disk c.settle_temps.new.site) (c.settle_temps.ensures.effect told) (c.in_ok-settle_temps.ensures.done told) c.deref-6.result.now c.deref-7.result.now c.deref-6.ensures.value c.deref-7.ensures.value

pub returns-in_err-settle_forms-clause-effect : goal.returns-in_err-settle_forms-clause-effect
returns-in_err-settle_forms-clause-effect g c = λ told.
    run_settles (g.T.Site.servers c.args.site.now) (g.T.Site.disk c.args.site.now) c.in_ok-files.files.items c.in_ok-files.ensures.order (c.in_ok-files.ensures.found told) c.in_ok-tested.tested.items (groups_at c.in_ok-files.files.items c.deref.result.now c.deref.ensures.value c.in_ok-groups.groups.items c.deref-3.result.now c.deref-3.ensures.value c.in_ok-tested.tested.items c.in_ok-groups.ensures c.in_ok-tested.ensures.same_groups) c.deref-3.result.now c.in_ok-tested.ensures.same_groups (g.T.Site.disk c.test_groups.new.site) (c.test_groups.ensures.same told ∙ c.list_files.ensures.same told) (subst (λ (d : Disk). AreTestedGroups d.files c.deref-3.result.now c.in_ok-tested.tested.items) (sym (c.test_groups.ensures.same told)) (c.in_ok-tested.ensures.tested told)) (g.T.Site.disk c.settle_temps.new.site) (c.settle_temps.ensures.effect told) (c.in_ok-settle_temps.ensures.done told) (g.T.Site.disk c.settle_forms.new.site) (c.settle_forms.ensures.effect told)

pub returns-clause-finds : goal.returns-clause-finds
returns-clause-finds g c = λ told.
    run_finds (g.T.Site.servers c.args.site.now) (g.T.Site.disk c.args.site.now) c.in_ok-files.files.items c.in_ok-files.ensures.order (c.in_ok-files.ensures.found told) c.in_ok-tested.tested.items (groups_at c.in_ok-files.files.items c.deref.result.now c.deref.ensures.value c.in_ok-groups.groups.items c.deref-3.result.now c.deref-3.ensures.value c.in_ok-tested.tested.items c.in_ok-groups.ensures c.in_ok-tested.ensures.same_groups) c.deref-3.result.now c.in_ok-tested.ensures.same_groups (g.T.Site.disk c.test_groups.new.site) (c.test_groups.ensures.same told ∙ c.list_files.ensures.same told) (subst (λ (d : Disk). AreTestedGroups d.files c.deref-3.result.now c.in_ok-tested.tested.items) (sym (c.test_groups.ensures.same told)) (c.in_ok-tested.ensures.tested told)) c.in_ok-found.found
    (subst (λ n. IsAnswerOf n c.in_ok-tested.tested.items c.in_ok-found.found) c.servers-servers.ensures.servers (subst (λ (ts : List TestedGroup). IsAnswerOf c.servers-servers.result ts c.in_ok-found.found) c.deref-4.ensures.value c.in_ok-found.ensures))
    (subst (λ n. All (λ (t : TestedGroup). IsWithin n t.form) c.in_ok-tested.tested.items) c.list_files.ensures.runs.servers c.in_ok-tested.ensures.within)

pub returns-clause-homes : goal.returns-clause-homes
returns-clause-homes g c =
    plain_below (g.T.Site.servers c.args.site.now) c.in_ok-tested.tested.items c.in_ok-found.found
    (subst (λ n. IsAnswerOf n c.in_ok-tested.tested.items c.in_ok-found.found) c.servers-servers.ensures.servers (subst (λ (ts : List TestedGroup). IsAnswerOf c.servers-servers.result ts c.in_ok-found.found) c.deref-4.ensures.value c.in_ok-found.ensures))
    (g.T.Site.servers c.list_files.new.site) c.in_ok-tested.ensures.within c.list_files.ensures.runs.servers

pub returns-clause-recovered : goal.returns-clause-recovered
returns-clause-recovered g c = λ told.
    run_recovers (g.T.Site.servers c.args.site.now) (g.T.Site.disk c.args.site.now) c.in_ok-files.files.items c.in_ok-files.ensures.order (c.in_ok-files.ensures.found told) c.in_ok-tested.tested.items (groups_at c.in_ok-files.files.items c.deref.result.now c.deref.ensures.value c.in_ok-groups.groups.items c.deref-3.result.now c.deref-3.ensures.value c.in_ok-tested.tested.items c.in_ok-groups.ensures c.in_ok-tested.ensures.same_groups) c.deref-3.result.now c.in_ok-tested.ensures.same_groups (g.T.Site.disk c.test_groups.new.site) (c.test_groups.ensures.same told ∙ c.list_files.ensures.same told) (subst (λ (d : Disk). AreTestedGroups d.files c.deref-3.result.now c.in_ok-tested.tested.items) (sym (c.test_groups.ensures.same told)) (c.in_ok-tested.ensures.tested told)) (g.T.Site.disk c.settle_temps.new.site) (c.settle_temps.ensures.effect told) (c.in_ok-settle_temps.ensures.done told) (g.T.Site.disk c.settle_forms.new.site) (c.settle_forms.ensures.effect told) c.deref-7.result.now c.deref-7.ensures.value (c.in_ok-settle_forms.ensures.done told)

pub returns-clause-tidied : goal.returns-clause-tidied
returns-clause-tidied g c = λ told sound.
    run_tidies (g.T.Site.servers c.args.site.now) (g.T.Site.disk c.args.site.now) c.in_ok-files.files.items c.in_ok-files.ensures.order (c.in_ok-files.ensures.found told) c.in_ok-tested.tested.items (groups_at c.in_ok-files.files.items c.deref.result.now c.deref.ensures.value c.in_ok-groups.groups.items c.deref-3.result.now c.deref-3.ensures.value c.in_ok-tested.tested.items c.in_ok-groups.ensures c.in_ok-tested.ensures.same_groups) c.deref-3.result.now c.in_ok-tested.ensures.same_groups (g.T.Site.disk c.test_groups.new.site) (c.test_groups.ensures.same told ∙ c.list_files.ensures.same told) (subst (λ (d : Disk). AreTestedGroups d.files c.deref-3.result.now c.in_ok-tested.tested.items) (sym (c.test_groups.ensures.same told)) (c.in_ok-tested.ensures.tested told)) (g.T.Site.disk c.settle_temps.new.site) (c.settle_temps.ensures.effect told) (c.in_ok-settle_temps.ensures.done told) (g.T.Site.disk c.settle_forms.new.site) (c.settle_forms.ensures.effect told) c.deref-7.result.now c.deref-7.ensures.value (c.in_ok-settle_forms.ensures.done told) sound

pub returns-clause-effect : goal.returns-clause-effect
returns-clause-effect g c = λ told.
    run_settles (g.T.Site.servers c.args.site.now) (g.T.Site.disk c.args.site.now) c.in_ok-files.files.items c.in_ok-files.ensures.order (c.in_ok-files.ensures.found told) c.in_ok-tested.tested.items (groups_at c.in_ok-files.files.items c.deref.result.now c.deref.ensures.value c.in_ok-groups.groups.items c.deref-3.result.now c.deref-3.ensures.value c.in_ok-tested.tested.items c.in_ok-groups.ensures c.in_ok-tested.ensures.same_groups) c.deref-3.result.now c.in_ok-tested.ensures.same_groups (g.T.Site.disk c.test_groups.new.site) (c.test_groups.ensures.same told ∙ c.list_files.ensures.same told) (subst (λ (d : Disk). AreTestedGroups d.files c.deref-3.result.now c.in_ok-tested.tested.items) (sym (c.test_groups.ensures.same told)) (c.in_ok-tested.ensures.tested told)) (g.T.Site.disk c.settle_temps.new.site) (c.settle_temps.ensures.effect told) (c.in_ok-settle_temps.ensures.done told) (g.T.Site.disk c.settle_forms.new.site) (c.settle_forms.ensures.effect told)
