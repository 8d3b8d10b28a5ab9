use Rattle.std.proofs.Common.{length, refl}
use Rattle.plan_steps.specs.After.{put_whole}
use Rattle.plan_steps.specs.Progressing.{running}
use Rattle.plan_run.proofs.Finished.{told_at, put_touches, put_keeps, put_fits, put_told, names_differ}
use Rattle.plan_run.proofs.writing.put_file.Goals as goal

pub replace-requires-clause-differ : goal.replace-requires-clause-differ
replace-requires-clause-differ g c = names_differ c.requires.volume c.requires.file

pub returns-in-Ok-clause-effect : goal.returns-in-Ok-clause-effect
returns-in-Ok-clause-effect g c = λ told. record {
  touches =
      put_touches (running c.args.plan.now c.args.progress.now) (g.T.Site.servers c.args.site.now) c.args.at c.args.temp.now c.args.name.now c.requires.file c.index-file.result.now c.index-file.ensures
      (g.T.Site.disk c.args.site.now) (g.T.Site.disk c.replace.new.site) c.args.bytes.now (c.replace.ensures.effect told);
  kept =
      put_keeps (running c.args.plan.now c.args.progress.now) (g.T.Site.servers c.args.site.now) c.args.at c.args.temp.now c.args.name.now c.requires.file c.index-file.result.now c.index-file.ensures
      (g.T.Site.disk c.args.site.now) (g.T.Site.disk c.replace.new.site) c.args.bytes.now (c.replace.ensures.effect told);
  fitting =
      put_fits (running c.args.plan.now c.args.progress.now) (g.T.Site.servers c.args.site.now) c.args.at c.args.temp.now c.args.name.now c.requires.file c.index-file.result.now c.index-file.ensures
      (g.T.Site.disk c.args.site.now) (g.T.Site.disk c.replace.new.site) c.args.bytes.now (c.replace.ensures.effect told) (c.in-Ok.ensures.done told);
  told =
      put_told (running c.args.plan.now c.args.progress.now) (g.T.Site.servers c.args.site.now) c.args.at c.args.temp.now c.args.name.now c.requires.file c.index-file.result.now c.index-file.ensures
      (g.T.Site.disk c.args.site.now) (g.T.Site.disk c.replace.new.site) c.args.bytes.now (c.replace.ensures.effect told) (c.in-Ok.ensures.done told);
}

pub returns-in-Err-clause-effect : goal.returns-in-Err-clause-effect
returns-in-Err-clause-effect g c = λ told. record {
  touches =
      put_touches (running c.args.plan.now c.args.progress.now) (g.T.Site.servers c.args.site.now) c.args.at c.args.temp.now c.args.name.now c.requires.file c.index-file.result.now c.index-file.ensures
      (g.T.Site.disk c.args.site.now) (g.T.Site.disk c.replace.new.site) c.args.bytes.now (c.replace.ensures.effect told);
  kept =
      put_keeps (running c.args.plan.now c.args.progress.now) (g.T.Site.servers c.args.site.now) c.args.at c.args.temp.now c.args.name.now c.requires.file c.index-file.result.now c.index-file.ensures
      (g.T.Site.disk c.args.site.now) (g.T.Site.disk c.replace.new.site) c.args.bytes.now (c.replace.ensures.effect told);
  fitting = tt;
  told = tt;
}

pub returns-in-Ok-clause-state : goal.returns-in-Ok-clause-state
returns-in-Ok-clause-state g c = record {
  place = refl;
  files = told_at c.args.progress.now.files.items c.args.at c.index-file.result.now c.index-file.ensures (put_whole (length c.args.bytes.now));
}
