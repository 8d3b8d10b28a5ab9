use Rattle.std.proofs.Common.{refl, ◌∙◌, get_or, arith}
use Rattle.site_model.specs.Laws.Count.{calls_nowhere, calls_on_anywhere, calls_untold}
use Rattle.site_recovery.proofs.Taking.{takes_none}
use Rattle.site_recovery.proofs.Strays.{takes_journal, journals_none, journals_more, journals_all}
use Rattle.site_recovery.proofs.thinning.clear_journals.Goals as goal

pub loop-server-init : goal.loop-server-init
loop-server-init g c = record {
  runs = calls_nowhere _;
  takes = λ told. takes_none _;
  gone = λ told. journals_none c.args.volume c.args.keeps.now c.args.servers.now (g.T.Site.disk c.args.site.now).files;
}

pub returns-in_err-clear_unless-clause-effect : goal.returns-in_err-clear_unless-clause-effect
returns-in_err-clear_unless-clause-effect g c = λ told.
    takes_journal c.args.volume c.args.keeps.now (get_or c.args.servers.now c.loop-server.server-index 0) _ _ (c.deref.ensures ∙ c.in_ok-name.ensures) refl (c.loop-server.invariant.takes told) (c.clear_unless.ensures.effect told)

pub loop-server-preserved : goal.loop-server-preserved
loop-server-preserved g c = record {
  runs = calls_untold (calls_on_anywhere c.loop-server.invariant.runs c.clear_unless.ensures.runs);
  takes = λ told.
      takes_journal c.args.volume c.args.keeps.now (get_or c.args.servers.now c.loop-server.server-index 0) _ _ (c.deref.ensures ∙ c.in_ok-name.ensures) refl (c.loop-server.invariant.takes told) (c.clear_unless.ensures.effect told);
  gone = λ told.
      let takes = takes_journal c.args.volume c.args.keeps.now (get_or c.args.servers.now c.loop-server.server-index 0) _ _ (c.deref.ensures ∙ c.in_ok-name.ensures) refl (takes_none _) (c.clear_unless.ensures.effect told) in
      journals_more c.args.volume c.args.keeps.now c.args.servers.now c.loop-server.server-index _ _ _ _ (c.deref.ensures ∙ c.in_ok-name.ensures) refl takes.files (c.loop-server.invariant.gone told)
      (λ keep. c.in_ok-clear_unless.ensures.done keep told);
}

pub returns-clause-done : goal.returns-clause-done
returns-clause-done g c = λ told.
    journals_all c.args.volume c.args.keeps.now c.args.servers.now c.loop-server.server-index (g.T.Site.disk c.loop-server.site).files (omega (arith, c.loop-server-test.false, c.loop-server.auto.server-index-end))
    (c.loop-server.invariant.gone told)
