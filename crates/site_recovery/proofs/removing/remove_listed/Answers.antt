use Rattle.site_model.specs.Laws.Count.{calls_nowhere, calls_on_anywhere, calls_untold}
use Rattle.site_recovery.proofs.Taking.{takes_none, takes_on}
use Rattle.site_recovery.proofs.Removed.{takes_this, gone_before, gone_next, gone_all_listed}
use Rattle.site_recovery.proofs.removing.remove_listed.Goals as goal

pub loop-listed-init : goal.loop-listed-init
loop-listed-init g c = record {
  runs = calls_nowhere _;
  takes = λ told. takes_none _;
  gone = λ told. gone_before c.args.goes c.args.files.now (g.T.Site.disk c.args.site.now).files;
}

pub returns-in_err-remove_if-clause-effect : goal.returns-in_err-remove_if-clause-effect
returns-in_err-remove_if-clause-effect g c = λ told.
    takes_on (c.loop-listed.invariant.takes told) (takes_this c.args.goes c.args.files.now c.loop-listed.listed-index _ c.loop-listed-test.true (c.remove_if.ensures.effect told))

pub loop-listed-preserved : goal.loop-listed-preserved
loop-listed-preserved g c = record {
  runs = calls_untold (calls_on_anywhere c.loop-listed.invariant.runs c.remove_if.ensures.runs);
  takes = λ told. takes_on (c.loop-listed.invariant.takes told) (takes_this c.args.goes c.args.files.now c.loop-listed.listed-index _ c.loop-listed-test.true (c.remove_if.ensures.effect told));
  gone = λ told.
      gone_next c.args.goes c.args.files.now c.loop-listed.listed-index _ c.loop-listed-test.true (g.T.Site.disk c.loop-listed.site).files (g.T.Site.disk c.remove_if.new.site).files
      (takes_this c.args.goes c.args.files.now c.loop-listed.listed-index _ c.loop-listed-test.true (c.remove_if.ensures.effect told)).files
      (c.loop-listed.invariant.gone told) (c.in_ok-remove_if.ensures.done told);
}

pub returns-clause-done : goal.returns-clause-done
returns-clause-done g c = λ told. gone_all_listed c.args.goes c.args.files.now c.loop-listed.listed-index (g.T.Site.disk c.loop-listed.site).files c.loop-listed-test.false (c.loop-listed.invariant.gone told)
