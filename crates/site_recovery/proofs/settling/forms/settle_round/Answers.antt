use Rattle.std.proofs.Common.{sym}
use Rattle.site_model.specs.Laws.Count.{calls_nowhere, calls_on_anywhere, calls_untold}
use Rattle.site_recovery.specs.FormSettling.{in_round}
use Rattle.site_recovery.proofs.Rounds.{settled_nothing, settled_skip, settled_more, settled_all, this_listed, this_tested, this_below, this_group, volumes_rise, named_volume}
use Rattle.site_recovery.proofs.Taking.{settles_none, settles_on, settles_more}
use Rattle.site_recovery.proofs.settling.forms.settle_round.Goals as goal

pub loop-found-init : goal.loop-found-init
loop-found-init g c = record {
  runs = calls_nowhere _;
  effect = λ told. settles_none _;
  settled = λ told. settled_nothing (in_round c.args.round) (g.T.Site.disk c.args.site.now).files;
}

pub loop-found-preserved-then-not-is_in : goal.loop-found-preserved-then-not-is_in
loop-found-preserved-then-not-is_in g c = record {
  runs = c.loop-found.invariant.runs;
  effect = c.loop-found.invariant.effect;
  settled = λ told. settled_skip (in_round c.args.round) c.args.tested.now c.args.files.now (g.T.Site.disk c.args.site.now).files (c.requires.due told) c.loop-found.found-index c.found-item.result c.loop-found-test.true c.found-item.is (g.T.Site.disk c.loop-found.site).files (c.loop-found.invariant.settled told) (sym (c.if-not-is_in.ensures));
}

pub settle_form-requires-clause-group : goal.settle_form-requires-clause-group
settle_form-requires-clause-group g c = this_group c.args.tested.now c.args.files.now c.requires.groups c.loop-found.found-index c.found-item.result c.loop-found-test.true c.found-item.is

pub settle_form-requires-clause-files : goal.settle_form-requires-clause-files
settle_form-requires-clause-files g c = λ told. this_listed (in_round c.args.round) c.args.tested.now c.args.files.now (g.T.Site.disk c.args.site.now).files (c.requires.due told) c.loop-found.found-index c.found-item.result c.loop-found-test.true c.found-item.is (g.T.Site.disk c.loop-found.site).files (c.loop-found.invariant.settled told) (volumes_rise c.args.tested.now c.args.files.now c.requires.groups) (sym (c.if-not-is_in.ensures))

pub settle_form-requires-clause-tested : goal.settle_form-requires-clause-tested
settle_form-requires-clause-tested g c = λ told. this_tested (in_round c.args.round) c.args.tested.now c.args.files.now (g.T.Site.disk c.args.site.now).files (c.requires.due told) c.loop-found.found-index c.found-item.result c.loop-found-test.true c.found-item.is (g.T.Site.disk c.loop-found.site).files (c.loop-found.invariant.settled told) (volumes_rise c.args.tested.now c.args.files.now c.requires.groups) (sym (c.if-not-is_in.ensures))

pub returns-in_err-settle_form-clause-effect : goal.returns-in_err-settle_form-clause-effect
returns-in_err-settle_form-clause-effect g c = λ told.
    settles_on (c.loop-found.invariant.settled told).settled (c.loop-found.invariant.effect told)
    (settles_more (named_volume c.found-item.result.group.volume (this_below (in_round c.args.round) c.args.tested.now c.args.files.now (g.T.Site.disk c.args.site.now).files (c.requires.due told) c.loop-found.found-index c.found-item.result c.loop-found-test.true c.found-item.is (g.T.Site.disk c.loop-found.site).files (c.loop-found.invariant.settled told) (volumes_rise c.args.tested.now c.args.files.now c.requires.groups) (sym (c.if-not-is_in.ensures)))) (c.settle_form.ensures.effect told))

pub loop-found-preserved : goal.loop-found-preserved
loop-found-preserved g c = record {
  runs = calls_untold (calls_on_anywhere c.loop-found.invariant.runs c.settle_form.ensures.runs);
  effect = λ told.
      settles_on (c.loop-found.invariant.settled told).settled (c.loop-found.invariant.effect told)
      (settles_more (named_volume c.found-item.result.group.volume (this_below (in_round c.args.round) c.args.tested.now c.args.files.now (g.T.Site.disk c.args.site.now).files (c.requires.due told) c.loop-found.found-index c.found-item.result c.loop-found-test.true c.found-item.is (g.T.Site.disk c.loop-found.site).files (c.loop-found.invariant.settled told) (volumes_rise c.args.tested.now c.args.files.now c.requires.groups) (sym (c.if-not-is_in.ensures)))) (c.settle_form.ensures.effect told));
  settled = λ told.
      settled_more (in_round c.args.round) c.args.tested.now c.args.files.now (g.T.Site.disk c.args.site.now).files (c.requires.due told) c.loop-found.found-index c.found-item.result c.loop-found-test.true c.found-item.is (g.T.Site.disk c.loop-found.site).files (c.loop-found.invariant.settled told) (volumes_rise c.args.tested.now c.args.files.now c.requires.groups) (sym (c.if-not-is_in.ensures))
      (g.T.Site.disk c.settle_form.new.site).files (c.settle_form.ensures.effect told).touches.others (c.in_ok-settle_form.ensures.done told);
}

pub returns-clause-done : goal.returns-clause-done
returns-clause-done g c = λ told. settled_all (in_round c.args.round) c.args.tested.now c.loop-found.found-index (g.T.Site.disk c.args.site.now).files (g.T.Site.disk c.loop-found.site).files c.loop-found-test.false (c.loop-found.invariant.settled told)
