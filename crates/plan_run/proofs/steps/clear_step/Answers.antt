use Rattle.std.proofs.Common.{ℕ, refl, sym, subst, arith}
use Rattle.std.specs.Prelude.{IsTrue}
use Rattle.file_names.specs.declared.Kind.{Kind}
use Rattle.plan_steps.specs.declared.step.Step.TheVariants as step
use Rattle.plan_steps.specs.Legal.{IsFound}
use Rattle.plan_steps.specs.Order.{IsReached}
use Rattle.plan_steps.specs.Progressing.{running}
use Rattle.plan_run.proofs.Moved.{clear_steps, blamed_few}
use Rattle.plan_run.proofs.AtWork.{here, temp_short, last_short, is_named, removes}
use Rattle.plan_run.proofs.steps.clear_step.Goals as goal

pub temp-requires : goal.temp-requires
temp-requires g c = temp_short (running c.args.plan.now c.args.progress.now) (g.T.Site.servers c.args.site.now) c.args.names.now c.requires.work c.place_of-at.result c.requires.due.0.at c.requires.due.0.file
    (c.place_of-at.ensures c.requires.due.0.at c.requires.due.0.file c.requires.due.0.there c.requires.due.0.server_is c.requires.due.0.kind_is) c.requires.due.0.there

pub last-requires : goal.last-requires
last-requires g c = last_short (running c.args.plan.now c.args.progress.now) (g.T.Site.servers c.args.site.now) c.args.names.now c.requires.work c.place_of-at.result c.requires.due.0.at c.requires.due.0.file
    (c.place_of-at.ensures c.requires.due.0.at c.requires.due.0.file c.requires.due.0.there c.requires.due.0.server_is c.requires.due.0.kind_is) c.requires.due.0.there

pub clear_file-requires : goal.clear_file-requires
clear_file-requires g c = record {
  file = is_named (running c.args.plan.now c.args.progress.now) (g.T.Site.servers c.args.site.now) c.args.names.now c.requires.work c.place_of-at.result c.requires.due.0.at c.requires.due.0.file
      (c.place_of-at.ensures c.requires.due.0.at c.requires.due.0.file c.requires.due.0.there c.requires.due.0.server_is c.requires.due.0.kind_is) c.requires.due.0.there
      c.temp.result.now c.last.result.now c.temp.ensures c.last.ensures;
}

pub returns-clause-steps : goal.returns-clause-steps
returns-clause-steps g c =
    let here_now = here (running c.args.plan.now c.args.progress.now) (g.T.Site.servers c.args.site.now) c.args.names.now c.requires.work c.place_of-at.result c.requires.due.0.at c.requires.due.0.file
    (c.place_of-at.ensures c.requires.due.0.at c.requires.due.0.file c.requires.due.0.there c.requires.due.0.server_is c.requires.due.0.kind_is) c.requires.due.0.there in
    clear_steps (IsTrue g.T.Site.tells) c.args.plan.now c.requires.work.below c.args.progress.now c.clear_file.new.progress c.requires.work.on_its_way.1.apart c.place_of-at.result c.requires.due.0.file here_now
    (g.T.Site.disk c.args.site.now) (g.T.Site.disk c.clear_file.new.site) c.args.server c.args.kind c.requires.due.0.server_is c.requires.due.0.kind_is (subst (λ (n : ℕ × Kind). IsFound c.args.plan.now n.0 n.1) (λ i. (sym c.requires.due.0.server_is i, sym c.requires.due.0.kind_is i)) c.requires.due.1) c.requires.due.0.stage_is (subst (IsReached c.args.plan.now c.args.progress.now.files.items) (sym (c.place_of-at.ensures c.requires.due.0.at c.requires.due.0.file c.requires.due.0.there c.requires.due.0.server_is c.requires.due.0.kind_is)) c.requires.due.0.turn)
    (removes (running c.args.plan.now c.args.progress.now) (g.T.Site.servers c.args.site.now) c.args.names.now c.requires.work c.place_of-at.result c.requires.due.0.at c.requires.due.0.file
    (c.place_of-at.ensures c.requires.due.0.at c.requires.due.0.file c.requires.due.0.there c.requires.due.0.server_is c.requires.due.0.kind_is) c.requires.due.0.there c.requires.due.0.turn (subst (λ (n : ℕ × Kind). IsFound c.args.plan.now n.0 n.1) (λ i. (sym c.requires.due.0.server_is i, sym c.requires.due.0.kind_is i)) c.requires.due.1)) (step.Unregister c.args.server c.args.kind) (λ u. refl) (λ n e. e) c.clear_file.result c.clear_file.ensures.effect c.clear_file.ensures.state

pub returns-clause-few : goal.returns-clause-few
returns-clause-few g c =
    let did = c.clear_file.ensures.runs c.requires.due.0.file (here (running c.args.plan.now c.args.progress.now) (g.T.Site.servers c.args.site.now) c.args.names.now c.requires.work c.place_of-at.result c.requires.due.0.at c.requires.due.0.file
    (c.place_of-at.ensures c.requires.due.0.at c.requires.due.0.file c.requires.due.0.there c.requires.due.0.server_is c.requires.due.0.kind_is) c.requires.due.0.there) in
    blamed_few c.clear_file.result did (omega arith) (omega arith)
