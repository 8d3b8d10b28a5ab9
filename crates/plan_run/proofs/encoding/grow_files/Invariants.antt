use Rattle.std.proofs.Common.{IsTrue, length, take}
use Rattle.std.specs.Prelude.{filter}
use Rattle.plan_steps.specs.declared.step.Step.TheVariants as step
use Rattle.plan_steps.specs.After.{after}
use Rattle.plan_steps.specs.Progressing.{running}
use Rattle.plan_run.specs.Growing.{GrowsTo, takes_entries}
use Rattle.plan_run.proofs.Entered.{HasCalled}
use Rattle.plan_run.proofs.Together.{front_changed}
use Rattle.plan_run.proofs.encoding.grow_files.Given as goal

abbrev pub invariant-loop-place : goal.invariant-loop-place
invariant-loop-place g l = record {
  grows : IsTrue g.T.Site.tells → GrowsTo (running l.plan l.progress) (front_changed (after l.plan l.progress.place 0 (step.WriteEntries l.at)) l.place l.progress.files.items) (g.T.Site.disk l.fn.site) (g.T.Site.disk l.site);
  called : HasCalled g.T.Site.counts g.T.Site.servers (length (filter (takes_entries l.at) (take l.place l.progress.files.items))) l.fn.site l.site;
}
