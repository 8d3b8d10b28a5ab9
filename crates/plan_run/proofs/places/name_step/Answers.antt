use Rattle.std.proofs.Common.{◌≡◌, Some, refl, arith}
use Rattle.plan_steps.specs.declared.plan.Stage.TheVariants.{Synced, Registered}
use Rattle.plan_steps.specs.declared.step.Step.TheVariants as step
use Rattle.plan_steps.specs.Progressing.{running}
use Rattle.plan_run.proofs.Told.{due_kind, due_server, named_there, tells_table}
use Rattle.plan_run.proofs.places.name_step.Goals as goal

pub tell_place-requires-clause-kind : goal.tell_place-requires-clause-kind
tell_place-requires-clause-kind g c = due_kind (running c.args.plan.now c.args.progress.now) (running c.args.plan.now c.register_step.new.progress) (g.T.Site.servers c.args.site.now) c.requires.work.of_plan c.requires.work.on_its_way
    (step.Register c.args.server c.args.kind) c.args.server c.args.kind Synced Registered c.requires.due.0 c.in_ok-register_step.ensures.steps.taken.after (λ taken u. refl) c.args.table.now c.args.table.now c.requires.table

pub tell_place-requires-clause-server : goal.tell_place-requires-clause-server
tell_place-requires-clause-server g c = λ other e.
    let same : c.args.server ≡ other = cc in
    let below = due_server (running c.args.plan.now c.args.progress.now) (running c.args.plan.now c.register_step.new.progress) (g.T.Site.servers c.args.site.now) c.requires.work.of_plan c.requires.work.on_its_way
    (step.Register c.args.server c.args.kind) c.args.server c.args.kind Synced Registered c.requires.due.0 c.in_ok-register_step.ensures.steps.taken.after (λ taken u. refl) c.args.table.now c.args.table.now c.requires.table in
    omega (arith, same, below, c.requires.table.servers)

pub returns-clause-table : goal.returns-clause-table
returns-clause-table g c =
    tells_table (running c.args.plan.now c.args.progress.now) (running c.args.plan.now c.register_step.new.progress) (g.T.Site.servers c.args.site.now) c.requires.work.of_plan c.requires.work.on_its_way
    (step.Register c.args.server c.args.kind) c.args.server c.args.kind Synced Registered c.requires.due.0 c.in_ok-register_step.ensures.steps.taken.after (λ taken u. refl) c.args.table.now c.tell_place.new.table c.requires.table
    (Some c.args.server) c.tell_place.ensures
    (named_there (running c.args.plan.now c.args.progress.now) (running c.args.plan.now c.register_step.new.progress) (g.T.Site.servers c.args.site.now) c.requires.work.of_plan c.requires.work.on_its_way
    (step.Register c.args.server c.args.kind) c.args.server c.args.kind Synced Registered c.requires.due.0 c.in_ok-register_step.ensures.steps.taken.after (λ taken u. refl) c.args.table.now c.tell_place.new.table c.requires.table refl)
