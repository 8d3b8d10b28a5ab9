use Rattle.std.proofs.Common.{refl}
use Rattle.plan_steps.specs.declared.plan.Stage.TheVariants as stage
use Rattle.plan_steps.specs.After.{at_stage}
use Rattle.plan_steps.specs.Progressing.{running}
use Rattle.plan_run.proofs.Finished.{told_at, clear_touches, clear_keeps, clear_fits, clear_told}
use Rattle.plan_run.proofs.finishing.clear_file.Goals as goal

pub returns-in-Ok-clause-effect : goal.returns-in-Ok-clause-effect
returns-in-Ok-clause-effect g c = λ told. record {
  touches =
      clear_touches (running c.args.plan.now c.args.progress.now) (g.T.Site.servers c.args.site.now) c.args.at c.args.temp.now c.args.name.now c.requires.file c.index.result.now c.index.ensures
      (g.T.Site.disk c.args.site.now) (g.T.Site.disk c.clear.new.site) (c.clear.ensures.effect told);
  kept =
      clear_keeps (running c.args.plan.now c.args.progress.now) (g.T.Site.servers c.args.site.now) c.args.at c.args.temp.now c.args.name.now c.requires.file c.index.result.now c.index.ensures
      (g.T.Site.disk c.args.site.now) (g.T.Site.disk c.clear.new.site) (c.clear.ensures.effect told);
  fitting =
      clear_fits (running c.args.plan.now c.args.progress.now) (g.T.Site.servers c.args.site.now) c.args.at c.args.temp.now c.args.name.now c.requires.file c.index.result.now c.index.ensures
      (g.T.Site.disk c.args.site.now) (g.T.Site.disk c.clear.new.site) (c.clear.ensures.effect told) (c.in-Ok.ensures.done told) c.index_mut.result.now c.index_mut.ensures.value;
  told =
      clear_told (running c.args.plan.now c.args.progress.now) (g.T.Site.servers c.args.site.now) c.args.at c.args.temp.now c.args.name.now c.requires.file c.index.result.now c.index.ensures
      (g.T.Site.disk c.args.site.now) (g.T.Site.disk c.clear.new.site) (c.clear.ensures.effect told) c.index_mut.result.now c.index_mut.ensures.value;
}

pub returns-in-Err-clause-effect : goal.returns-in-Err-clause-effect
returns-in-Err-clause-effect g c = λ told. record {
  touches =
      clear_touches (running c.args.plan.now c.args.progress.now) (g.T.Site.servers c.args.site.now) c.args.at c.args.temp.now c.args.name.now c.requires.file c.index.result.now c.index.ensures
      (g.T.Site.disk c.args.site.now) (g.T.Site.disk c.clear.new.site) (c.clear.ensures.effect told);
  kept =
      clear_keeps (running c.args.plan.now c.args.progress.now) (g.T.Site.servers c.args.site.now) c.args.at c.args.temp.now c.args.name.now c.requires.file c.index.result.now c.index.ensures
      (g.T.Site.disk c.args.site.now) (g.T.Site.disk c.clear.new.site) (c.clear.ensures.effect told);
  fitting = tt;
  told = tt;
}

pub returns-in-Ok-clause-state : goal.returns-in-Ok-clause-state
returns-in-Ok-clause-state g c = record {
  place = refl;
  files = told_at c.args.progress.now.files.items c.args.at c.index_mut.result.now c.index_mut.ensures.value (at_stage stage.Gone);
}
