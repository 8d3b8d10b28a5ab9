use Rattle.std.proofs.Common.{◌≡◌, ℕ, ◌<◌, false, ◌∙◌, refl, subst}
use Rattle.plan_steps.specs.declared.plan.Stage.TheVariants.{Registered, Gone}
use Rattle.plan_steps.specs.declared.step.Step.TheVariants as step
use Rattle.std.specs.Prelude.{IfNone}
use Rattle.plan_steps.specs.Walk.{has_file}
use Rattle.plan_steps.specs.Progressing.{running}
use Rattle.plan_run.proofs.Told.{due_kind, held_there, tells_table}
use Rattle.plan_run.proofs.places.drop_step.Goals as goal

pub tell_place-requires-clause-kind : goal.tell_place-requires-clause-kind
tell_place-requires-clause-kind g c = due_kind (running c.args.plan.now c.args.progress.now) (running c.args.plan.now c.clear_step.new.progress) (g.T.Site.servers c.args.site.now) c.requires.work.of_plan c.requires.work.on_its_way
    (step.Unregister c.args.server c.args.kind) c.args.server c.args.kind Registered Gone c.requires.due.0 c.in_ok-clear_step.ensures.steps.taken.after (λ taken u. refl) c.args.table.now c.args.table.now c.requires.table

pub returns-clause-table : goal.returns-clause-table
returns-clause-table g c =
    tells_table (running c.args.plan.now c.args.progress.now) (running c.args.plan.now c.clear_step.new.progress) (g.T.Site.servers c.args.site.now) c.requires.work.of_plan c.requires.work.on_its_way
    (step.Unregister c.args.server c.args.kind) c.args.server c.args.kind Registered Gone c.requires.due.0 c.in_ok-clear_step.ensures.steps.taken.after (λ taken u. refl) c.args.table.now c.tell_place.new.table c.requires.table
    c.holder_of-place.result c.tell_place.ensures
    (held_there (running c.args.plan.now c.args.progress.now) (running c.args.plan.now c.clear_step.new.progress) (g.T.Site.servers c.args.site.now) c.requires.work.of_plan c.requires.work.on_its_way
    (step.Unregister c.args.server c.args.kind) c.args.server c.args.kind Registered Gone c.requires.due.0 c.in_ok-clear_step.ensures.steps.taken.after (λ taken u. refl) c.args.table.now c.tell_place.new.table c.requires.table c.holder_of-place.result c.holder_of-place.ensures.has (subst (λ n. IfNone c.holder_of-place.result ((server : ℕ) → server < n → has_file c.args.plan.now c.clear_step.new.progress.files.items server c.args.kind ≡ false)) (c.servers.ensures.value ∙ c.requires.table.servers) c.holder_of-place.ensures.none))
