use Rattle.std.proofs.Common.{ℕ, length, sym, ap, subst, arith}
use Rattle.std.specs.Prelude.{IsTrue}
use Rattle.file_names.specs.declared.Kind.{Kind}
use Rattle.plan_steps.specs.Legal.{IsNew}
use Rattle.plan_steps.specs.Order.{IsReached}
use Rattle.plan_steps.specs.Progressing.{running}
use Rattle.plan_run.proofs.Moved.{put_steps, blamed_few}
use Rattle.plan_run.proofs.AtWork.{here, temp_short, last_short, is_named, get_short, text_short}
use Rattle.plan_run.proofs.steps.info_step.Goals as goal

pub temp-requires : goal.temp-requires
temp-requires g c = temp_short (running c.args.plan.now c.args.progress.now) (g.T.Site.servers c.args.site.now) c.args.names.now c.requires.work c.place_of-at.result c.requires.due.0.at c.requires.due.0.file
    (c.place_of-at.ensures c.requires.due.0.at c.requires.due.0.file c.requires.due.0.there c.requires.due.0.server_is c.requires.due.0.kind_is) c.requires.due.0.there

pub last-requires : goal.last-requires
last-requires g c = last_short (running c.args.plan.now c.args.progress.now) (g.T.Site.servers c.args.site.now) c.args.names.now c.requires.work c.place_of-at.result c.requires.due.0.at c.requires.due.0.file
    (c.place_of-at.ensures c.requires.due.0.at c.requires.due.0.file c.requires.due.0.there c.requires.due.0.server_is c.requires.due.0.kind_is) c.requires.due.0.there

pub put_file-requires-clause-file : goal.put_file-requires-clause-file
put_file-requires-clause-file g c = is_named (running c.args.plan.now c.args.progress.now) (g.T.Site.servers c.args.site.now) c.args.names.now c.requires.work c.place_of-at.result c.requires.due.0.at c.requires.due.0.file
    (c.place_of-at.ensures c.requires.due.0.at c.requires.due.0.file c.requires.due.0.there c.requires.due.0.server_is c.requires.due.0.kind_is) c.requires.due.0.there
    c.temp.result.now c.last.result.now c.temp.ensures c.last.ensures

pub put_file-requires-clause-there : goal.put_file-requires-clause-there
put_file-requires-clause-there g c = get_short c.args.progress.now.files.items c.place_of-at.result c.requires.due.0.file (here (running c.args.plan.now c.args.progress.now) (g.T.Site.servers c.args.site.now) c.args.names.now c.requires.work c.place_of-at.result c.requires.due.0.at c.requires.due.0.file
    (c.place_of-at.ensures c.requires.due.0.at c.requires.due.0.file c.requires.due.0.there c.requires.due.0.server_is c.requires.due.0.kind_is) c.requires.due.0.there)

pub returns-clause-steps : goal.returns-clause-steps
returns-clause-steps g c =
    let here_now = here (running c.args.plan.now c.args.progress.now) (g.T.Site.servers c.args.site.now) c.args.names.now c.requires.work c.place_of-at.result c.requires.due.0.at c.requires.due.0.file
    (c.place_of-at.ensures c.requires.due.0.at c.requires.due.0.file c.requires.due.0.there c.requires.due.0.server_is c.requires.due.0.kind_is) c.requires.due.0.there in
    put_steps (IsTrue g.T.Site.tells) c.args.plan.now c.requires.work.below c.args.progress.now c.put_file.new.progress c.requires.work.on_its_way.1.apart c.place_of-at.result c.requires.due.0.file here_now
    (g.T.Site.disk c.args.site.now) (g.T.Site.disk c.put_file.new.site) c.args.server c.requires.due.0.server_is c.requires.due.0.kind_is (subst (λ (n : ℕ × Kind). IsNew c.args.plan.now n.0 n.1) (λ i. (sym c.requires.due.0.server_is i, sym c.requires.due.0.kind_is i)) c.requires.due.1) c.requires.due.0.stage_is (subst (IsReached c.args.plan.now c.args.progress.now.files.items) (sym (c.place_of-at.ensures c.requires.due.0.at c.requires.due.0.file c.requires.due.0.there c.requires.due.0.server_is c.requires.due.0.kind_is)) c.requires.due.0.turn)
    c.args.text.now c.requires.text c.put_file.result c.put_file.ensures.effect c.put_file.ensures.state

pub returns-clause-few : goal.returns-clause-few
returns-clause-few g c =
    let did = c.put_file.ensures.runs c.requires.due.0.file (here (running c.args.plan.now c.args.progress.now) (g.T.Site.servers c.args.site.now) c.args.names.now c.requires.work c.place_of-at.result c.requires.due.0.at c.requires.due.0.file
    (c.place_of-at.ensures c.requires.due.0.at c.requires.due.0.file c.requires.due.0.there c.requires.due.0.server_is c.requires.due.0.kind_is) c.requires.due.0.there) in
    let short = text_short c.args.plan.now.info c.requires.work.of_plan.geometry (omega (arith, c.requires.work.of_plan.room)) in
    blamed_few c.put_file.result did (omega (arith, ap length c.requires.text, short)) (omega arith)
