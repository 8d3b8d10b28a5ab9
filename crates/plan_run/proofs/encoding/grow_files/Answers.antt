use Rattle.std.proofs.Common.{◌≤◌, length, refl, sym, ◌∙◌, ap, subst, arith}
use Rattle.std.proofs.lemmas.Result.{err_from_is_err_and}
use Rattle.site_model.specs.Counts.{widest_piece}
use Rattle.plan_steps.specs.Progressing.{running}
use Rattle.plan_run.specs.Growing.{GrowsTo}
use Rattle.plan_run.proofs.Entered.{HasCalled, narrow, changed, takes_few, one_grown, one_idle, one_tried, one_counted, none_counted, one_few, no_file, item_there, one_called, then_few, then_wrote, few_called}
use Rattle.plan_run.proofs.Together.{front_end}
use Rattle.plan_run.proofs.encoding.grow_files.Goals as goal

pub loop-place-preserved-then-not-takes_entries : goal.loop-place-preserved-then-not-takes_entries
loop-place-preserved-then-not-takes_entries g c =
    let other = sym (c.takes_entries.ensures) ∙ c.if-not-takes_entries.true in
    let there = item_there c.args.progress.now.files.items c.deref-file-items.result.now c.loop-place.place _ c.deref-file-items.ensures.value c.loop-place-test.true in
    record {
      grows = λ told. one_idle (running c.args.plan.now c.args.progress.now) (g.T.Site.servers c.args.site.now) c.args.names.now c.requires.work c.requires.encode c.args.at c.loop-place.place _ (omega (arith, c.loop-place-test.true, ap length c.deref-file-items.ensures.value)) there (g.T.Site.disk c.args.site.now) (g.T.Site.disk c.loop-place.site) (c.loop-place.invariant.grows told) c.args.piece.now c.requires.piece other;
      called = subst (λ n. HasCalled g.T.Site.counts g.T.Site.servers n c.args.site.now c.loop-place.site) (sym (none_counted c.args.at c.args.progress.now.files.items c.loop-place.place _ there other)) c.loop-place.invariant.called;
    }

pub returns-in_err-append_file-clause-effect : goal.returns-in_err-append_file-clause-effect
returns-in_err-append_file-clause-effect g c = λ told.
    let p = err_from_is_err_and c.from_residual.result c.from_residual.ensures.1 in
    let there = item_there c.args.progress.now.files.items c.deref-file-items.result.now c.loop-place.place no_file c.deref-file-items.ensures.value c.loop-place-test.true in
    rw (p.1, p.2) (record {
      touches = one_tried (running c.args.plan.now c.args.progress.now) (g.T.Site.servers c.args.site.now) c.args.names.now c.requires.work c.requires.encode c.args.at c.loop-place.place _ (omega (arith, c.loop-place-test.true, ap length c.deref-file-items.ensures.value)) there (g.T.Site.disk c.args.site.now) (g.T.Site.disk c.loop-place.site) (c.loop-place.invariant.grows told) c.args.piece.now c.requires.piece (g.T.Site.disk c.append_file.new.site) (c.append_file.ensures.effect told);
      grows = tt;
    })

pub returns-in_err-append_file-clause-few : goal.returns-in_err-append_file-clause-few
returns-in_err-append_file-clause-few g c =
    let p = err_from_is_err_and c.from_residual.result c.from_residual.ensures.1 in
    let takes = sym (c.takes_entries.ensures) ∙ c.if-not-takes_entries.false in
    let slim : length c.args.piece.now ≤ widest_piece = omega (arith, ap length c.requires.piece, narrow (running c.args.plan.now c.args.progress.now) (g.T.Site.servers c.args.site.now) c.args.names.now c.requires.work c.requires.encode c.args.at) in
    let there = item_there c.args.progress.now.files.items c.deref-file-items.result.now c.loop-place.place _ c.deref-file-items.ensures.value c.loop-place-test.true in
    rw (p.1, p.2) (then_few c.loop-place.invariant.called _ (c.in_err-append_file.ensures.runs _ there) slim (one_few c.args.at c.args.progress.now.files.items c.loop-place.place _ there c.requires.work.on_its_way.1.apart takes))

pub returns-in_err-append_file-clause-wrote : goal.returns-in_err-append_file-clause-wrote
returns-in_err-append_file-clause-wrote g c =
    let p = err_from_is_err_and c.from_residual.result c.from_residual.ensures.1 in
    let there = item_there c.args.progress.now.files.items c.deref-file-items.result.now c.loop-place.place no_file c.deref-file-items.ensures.value c.loop-place-test.true in
    rw (p.1, p.2) (then_wrote c.loop-place.invariant.called _ (c.in_err-append_file.ensures.runs _ there))

pub loop-place-preserved : goal.loop-place-preserved
loop-place-preserved g c =
    let takes = sym (c.takes_entries.ensures) ∙ c.if-not-takes_entries.false in
    let slim : length c.args.piece.now ≤ widest_piece = omega (arith, ap length c.requires.piece, narrow (running c.args.plan.now c.args.progress.now) (g.T.Site.servers c.args.site.now) c.args.names.now c.requires.work c.requires.encode c.args.at) in
    let there = item_there c.args.progress.now.files.items c.deref-file-items.result.now c.loop-place.place _ c.deref-file-items.ensures.value c.loop-place-test.true in
    record {
      grows = λ told.
          one_grown (running c.args.plan.now c.args.progress.now) (g.T.Site.servers c.args.site.now) c.args.names.now c.requires.work c.requires.encode c.args.at c.loop-place.place _ (omega (arith, c.loop-place-test.true, ap length c.deref-file-items.ensures.value)) there (g.T.Site.disk c.args.site.now) (g.T.Site.disk c.loop-place.site) (c.loop-place.invariant.grows told) c.args.piece.now c.requires.piece (g.T.Site.disk c.append_file.new.site) takes (c.append_file.ensures.effect told)
          (c.in_ok-append_file.ensures.done told);
      called = subst (λ n. HasCalled g.T.Site.counts g.T.Site.servers n c.args.site.now c.append_file.new.site) (sym (one_counted c.args.at c.args.progress.now.files.items c.loop-place.place _ there takes))
          (one_called c.loop-place.invariant.called _ (c.in_ok-append_file.ensures.runs _ there) slim);
    }

pub returns-clause-effect : goal.returns-clause-effect
returns-clause-effect g c = λ told.
    let grown = c.loop-place.invariant.grows told in
    record {
      touches = grown.touches;
      grows = subst (λ states. GrowsTo (running c.args.plan.now c.args.progress.now) states (g.T.Site.disk c.args.site.now) (g.T.Site.disk c.loop-place.site))
          (front_end (changed (running c.args.plan.now c.args.progress.now) (g.T.Site.servers c.args.site.now) c.args.names.now c.requires.work c.requires.encode c.args.at) c.loop-place.place c.args.progress.now.files.items _ refl (omega (arith, c.loop-place-test.false, c.loop-place.auto.place-end, ap length c.deref-file-items.ensures.value))) grown;
    }

pub returns-clause-few : goal.returns-clause-few
returns-clause-few g c = few_called c.loop-place.invariant.called tt (takes_few c.args.at c.args.progress.now.files.items c.requires.work.on_its_way.1.apart c.loop-place.place)
