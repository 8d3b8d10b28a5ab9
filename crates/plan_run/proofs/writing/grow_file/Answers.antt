use Rattle.std.proofs.Common.{length, refl}
use Rattle.plan_steps.specs.After.{grown_by}
use Rattle.plan_steps.specs.Progressing.{running}
use Rattle.plan_run.proofs.Finished.{told_at, grow_touches, grow_keeps, grow_fits, grow_told}
use Rattle.plan_run.proofs.writing.grow_file.Goals as goal

pub returns-in-Ok-clause-effect : goal.returns-in-Ok-clause-effect
returns-in-Ok-clause-effect g c = λ told. record {
  touches =
      grow_touches (running c.args.plan.now c.args.progress.now) (g.T.Site.servers c.args.site.now) c.args.at c.args.temp.now c.args.name.now c.requires.file c.index-file.result.now c.index-file.ensures
      (g.T.Site.disk c.args.site.now) (g.T.Site.disk c.append.new.self) c.args.piece.now (c.append.ensures.effect told);
  kept =
      grow_keeps (running c.args.plan.now c.args.progress.now) (g.T.Site.servers c.args.site.now) c.args.at c.args.temp.now c.args.name.now c.requires.file c.index-file.result.now c.index-file.ensures
      (g.T.Site.disk c.args.site.now) (g.T.Site.disk c.append.new.self) c.args.piece.now (c.append.ensures.effect told);
  fitting =
      grow_fits (running c.args.plan.now c.args.progress.now) (g.T.Site.servers c.args.site.now) c.args.at c.args.temp.now c.args.name.now c.requires.file c.index-file.result.now c.index-file.ensures
      (g.T.Site.disk c.args.site.now) (g.T.Site.disk c.append.new.self) c.args.piece.now (c.append.ensures.effect told) (c.in-Ok.ensures.done told);
  told =
      grow_told (running c.args.plan.now c.args.progress.now) (g.T.Site.servers c.args.site.now) c.args.at c.args.temp.now c.args.name.now c.requires.file c.index-file.result.now c.index-file.ensures
      (g.T.Site.disk c.args.site.now) (g.T.Site.disk c.append.new.self) c.args.piece.now (c.append.ensures.effect told) (c.in-Ok.ensures.done told);
}

pub returns-in-Err-clause-effect : goal.returns-in-Err-clause-effect
returns-in-Err-clause-effect g c = λ told. record {
  touches =
      grow_touches (running c.args.plan.now c.args.progress.now) (g.T.Site.servers c.args.site.now) c.args.at c.args.temp.now c.args.name.now c.requires.file c.index-file.result.now c.index-file.ensures
      (g.T.Site.disk c.args.site.now) (g.T.Site.disk c.append.new.self) c.args.piece.now (c.append.ensures.effect told);
  kept =
      grow_keeps (running c.args.plan.now c.args.progress.now) (g.T.Site.servers c.args.site.now) c.args.at c.args.temp.now c.args.name.now c.requires.file c.index-file.result.now c.index-file.ensures
      (g.T.Site.disk c.args.site.now) (g.T.Site.disk c.append.new.self) c.args.piece.now (c.append.ensures.effect told);
  fitting = tt;
  told = tt;
}

pub returns-in-Ok-clause-state : goal.returns-in-Ok-clause-state
returns-in-Ok-clause-state g c = record {
  place = refl;
  files = told_at c.args.progress.now.files.items c.args.at c.index-file.result.now c.index-file.ensures (grown_by (length c.args.piece.now));
}
