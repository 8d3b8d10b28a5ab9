use Rattle.std.proofs.Common.{inl, arith}
use Rattle.std.specs.Prelude.{IsTrue}
use Rattle.plan_steps.specs.Progressing.{running}
use Rattle.plan_run.proofs.Moved.{sync_steps, blamed_few, wrote}
use Rattle.plan_run.proofs.AtWork.{here, temp_short, last_short, is_named, temp_stands, decodes}
use Rattle.plan_run.proofs.steps.sync_step.Goals as goal

pub temp-requires : goal.temp-requires
temp-requires g c = temp_short (running c.args.plan.now c.args.progress.now) (g.T.Site.servers c.args.site.now) c.args.names.now c.requires.work c.place_of-at.result c.requires.due.at c.requires.due.file
    (c.place_of-at.ensures c.requires.due.at c.requires.due.file c.requires.due.there c.requires.due.server_is c.requires.due.kind_is) c.requires.due.there

pub last-requires : goal.last-requires
last-requires g c = last_short (running c.args.plan.now c.args.progress.now) (g.T.Site.servers c.args.site.now) c.args.names.now c.requires.work c.place_of-at.result c.requires.due.at c.requires.due.file
    (c.place_of-at.ensures c.requires.due.at c.requires.due.file c.requires.due.there c.requires.due.server_is c.requires.due.kind_is) c.requires.due.there

pub sync_file-requires-clause-file : goal.sync_file-requires-clause-file
sync_file-requires-clause-file g c = is_named (running c.args.plan.now c.args.progress.now) (g.T.Site.servers c.args.site.now) c.args.names.now c.requires.work c.place_of-at.result c.requires.due.at c.requires.due.file
    (c.place_of-at.ensures c.requires.due.at c.requires.due.file c.requires.due.there c.requires.due.server_is c.requires.due.kind_is) c.requires.due.there
    c.temp.result.now c.last.result.now c.temp.ensures c.last.ensures

pub sync_file-requires-clause-stands : goal.sync_file-requires-clause-stands
sync_file-requires-clause-stands g c = λ told. temp_stands (running c.args.plan.now c.args.progress.now) (g.T.Site.servers c.args.site.now) c.args.names.now c.requires.work c.place_of-at.result c.requires.due.at c.requires.due.file
    (c.place_of-at.ensures c.requires.due.at c.requires.due.file c.requires.due.there c.requires.due.server_is c.requires.due.kind_is) c.requires.due.there
    (g.T.Site.disk c.args.site.now).files (c.requires.told told) c.requires.due.new (inl c.requires.due.stage_is)

pub returns-clause-steps : goal.returns-clause-steps
returns-clause-steps g c =
    let here_now = here (running c.args.plan.now c.args.progress.now) (g.T.Site.servers c.args.site.now) c.args.names.now c.requires.work c.place_of-at.result c.requires.due.at c.requires.due.file
    (c.place_of-at.ensures c.requires.due.at c.requires.due.file c.requires.due.there c.requires.due.server_is c.requires.due.kind_is) c.requires.due.there in
    sync_steps (IsTrue g.T.Site.tells) c.args.plan.now c.requires.work.below c.args.progress.now c.sync_file.new.progress c.requires.work.on_its_way.1.apart c.place_of-at.result c.requires.due.file here_now
    (g.T.Site.disk c.args.site.now) (g.T.Site.disk c.sync_file.new.site) c.args.server c.args.kind c.requires.due.server_is c.requires.due.kind_is c.requires.due.new c.requires.due.stage_is c.requires.due.whole
    (decodes (running c.args.plan.now c.args.progress.now) (g.T.Site.servers c.args.site.now) c.args.names.now c.requires.work c.place_of-at.result c.requires.due.at c.requires.due.file
    (c.place_of-at.ensures c.requires.due.at c.requires.due.file c.requires.due.there c.requires.due.server_is c.requires.due.kind_is) c.requires.due.there c.requires.due.new) c.sync_file.result c.sync_file.ensures.effect c.sync_file.ensures.state

pub returns-clause-few : goal.returns-clause-few
returns-clause-few g c =
    let did = c.sync_file.ensures.runs c.requires.due.file (here (running c.args.plan.now c.args.progress.now) (g.T.Site.servers c.args.site.now) c.args.names.now c.requires.work c.place_of-at.result c.requires.due.at c.requires.due.file
    (c.place_of-at.ensures c.requires.due.at c.requires.due.file c.requires.due.there c.requires.due.server_is c.requires.due.kind_is) c.requires.due.there) in
    blamed_few c.sync_file.result did.blamed (omega arith) (omega arith)

pub returns-clause-wrote : goal.returns-clause-wrote
returns-clause-wrote g c =
    let did = c.sync_file.ensures.runs c.requires.due.file (here (running c.args.plan.now c.args.progress.now) (g.T.Site.servers c.args.site.now) c.args.names.now c.requires.work c.place_of-at.result c.requires.due.at c.requires.due.file
    (c.place_of-at.ensures c.requires.due.at c.requires.due.file c.requires.due.there c.requires.due.server_is c.requires.due.kind_is) c.requires.due.there) in
    wrote g.T.Site.counts c.args.site.now c.sync_file.new.site c.sync_file.result did.write_cause did.blamed.blame
