use Rattle.std.proofs.Common.{refl}
use Rattle.plan_steps.specs.Progressing.{running}
use Rattle.plan_run.proofs.AtWork.{server_short, temp_short}
use Rattle.plan_run.proofs.Appended.{read_there, at_file, appends_at, grown_at}
use Rattle.plan_run.proofs.encoding.append_file.Goals as goal

pub temp-requires : goal.temp-requires
temp-requires g c = temp_short (running c.args.plan.now c.args.progress.now) (g.T.Site.servers c.args.site.now) c.args.names.now c.requires.work c.args.at c.args.at c.index-file.result.now refl
    (read_there c.args.progress.now.files.items c.args.at c.index-file.result.now c.requires.there c.index-file.ensures)

pub append-requires : goal.append-requires
append-requires g c = server_short (running c.args.plan.now c.args.progress.now) (g.T.Site.servers c.args.site.now) c.args.names.now c.requires.work c.args.at c.args.at c.index-file.result.now refl
    (read_there c.args.progress.now.files.items c.args.at c.index-file.result.now c.requires.there c.index-file.ensures)

pub returns-in-Ok-clause-effect : goal.returns-in-Ok-clause-effect
returns-in-Ok-clause-effect g c = λ told.
    appends_at (running c.args.plan.now c.args.progress.now) (g.T.Site.servers c.args.site.now) c.args.names.now c.requires.work c.args.at c.index-file.result.now c.requires.there c.index-file.ensures
    c.temp.result.now c.temp.ensures (g.T.Site.disk c.args.site.now) (g.T.Site.disk c.append.new.self) c.args.piece.now (c.append.ensures.effect told)

pub returns-in-Ok-clause-done : goal.returns-in-Ok-clause-done
returns-in-Ok-clause-done g c = λ told.
    grown_at (running c.args.plan.now c.args.progress.now) (g.T.Site.servers c.args.site.now) c.args.names.now c.requires.work c.args.at c.index-file.result.now c.requires.there c.index-file.ensures
    c.temp.result.now c.temp.ensures (g.T.Site.disk c.args.site.now) (g.T.Site.disk c.append.new.self) c.args.piece.now (c.in-Ok.ensures.done told)

pub returns-in-Ok-clause-runs : goal.returns-in-Ok-clause-runs
returns-in-Ok-clause-runs g c =
    at_file c.args.progress.now.files.items c.args.at c.index-file.result.now c.requires.there c.index-file.ensures
    (record { counted = c.in-Ok.ensures.counts; servers = c.append.ensures.servers; blame = tt })

pub returns-in-Err-clause-effect : goal.returns-in-Err-clause-effect
returns-in-Err-clause-effect g c = λ told.
    appends_at (running c.args.plan.now c.args.progress.now) (g.T.Site.servers c.args.site.now) c.args.names.now c.requires.work c.args.at c.index-file.result.now c.requires.there c.index-file.ensures
    c.temp.result.now c.temp.ensures (g.T.Site.disk c.args.site.now) (g.T.Site.disk c.append.new.self) c.args.piece.now (c.append.ensures.effect told)

pub returns-in-Err-clause-runs : goal.returns-in-Err-clause-runs
returns-in-Err-clause-runs g c =
    at_file c.args.progress.now.files.items c.args.at c.index-file.result.now c.requires.there c.index-file.ensures
    (record { counted = c.in-Err.ensures.counts; servers = c.append.ensures.servers; blame = refl })
