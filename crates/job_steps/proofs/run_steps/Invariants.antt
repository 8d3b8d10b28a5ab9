use Rattle.std.proofs.Common.{◌≤◌, ◌-◌, false, IsTrue}
use Rattle.job_steps.specs.Steps.{Went, TakesSteps}
use Rattle.job_steps.proofs.run_steps.Given as goal

-- so many steps were run, and the plan isn't at its end
abbrev pub invariant-loop-taken : goal.invariant-loop-taken
invariant-loop-taken g l = record {
  went : Went g.P.Plan.plans (IsTrue g.T.Site.tells) (g.P.Plan.running l.fn.plan) l.taken false (g.P.Plan.running l.plan) (g.P.Plan.places l.fn.plan) (g.P.Plan.places l.plan) (g.T.Site.disk l.fn.site) (g.T.Site.disk l.site);
  counts : TakesSteps l.taken (g.T.Site.servers l.fn.site) (g.T.Site.servers l.site) (g.T.Site.counts l.fn.site) (g.T.Site.counts l.site);
  few : l.taken ≤ l.steps;
}

abbrev pub decreases-loop-taken : goal.decreases-loop-taken
decreases-loop-taken g l = l.steps - l.taken
