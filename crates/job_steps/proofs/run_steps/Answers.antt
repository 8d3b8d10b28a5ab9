-- By the laws on runs of steps: none, and one more.
use Rattle.std.proofs.Common.{arith}
use Rattle.job_steps.specs.StepsOn.{steps_none, steps_more, steps_within, went_none, went_more, went_to_end, tries_next, can_again, cause_within}
use Rattle.job_steps.proofs.run_steps.Goals as goal

pub loop-taken-init : goal.loop-taken-init
loop-taken-init g c = record {
  went = went_none g.P.Plan.plans _ (g.P.Plan.running c.args.plan.now) (g.P.Plan.places c.args.plan.now) (g.T.Site.disk c.args.site.now) c.requires.ready.on_its_way;
  counts = steps_none (g.T.Site.servers c.args.site.now) (g.T.Site.counts c.args.site.now);
  few = omega arith;
}

pub run_step-requires : goal.run_step-requires
run_step-requires g c = record { ready = can_again g.P.Plan.plans _ c.loop-taken.invariant.went c.requires.ready }

pub loop-taken-preserved : goal.loop-taken-preserved
loop-taken-preserved g c = record {
  went = went_more g.P.Plan.plans _ c.loop-taken.invariant.went (rw c.in-Ok-Running.field-0-is at c.in-Ok-Running.ensures.went);
  counts = steps_more c.loop-taken.invariant.counts c.run_step.ensures.counts;
  few = omega (arith, c.loop-taken-test.true);
}

pub returns-in-Ok-Done-clause-went : goal.returns-in-Ok-Done-clause-went
returns-in-Ok-Done-clause-went g c = went_to_end g.P.Plan.plans _ c.loop-taken.invariant.went c.loop-taken-test.true (rw c.in-Ok-Done.field-0-is at c.in-Ok-Done.ensures.went)

pub returns-in-Ok-Done-clause-tries : goal.returns-in-Ok-Done-clause-tries
returns-in-Ok-Done-clause-tries g c = tries_next g.P.Plan.plans _ c.loop-taken.invariant.went c.loop-taken-test.true c.run_step.ensures.tries

pub returns-in-Ok-Done-clause-counts : goal.returns-in-Ok-Done-clause-counts
returns-in-Ok-Done-clause-counts g c = steps_within (omega (arith, c.loop-taken-test.true)) (steps_more c.loop-taken.invariant.counts c.run_step.ensures.counts)

pub returns-in-Err-clause-tries : goal.returns-in-Err-clause-tries
returns-in-Err-clause-tries g c = tries_next g.P.Plan.plans _ c.loop-taken.invariant.went c.loop-taken-test.true c.run_step.ensures.tries

pub returns-in-Err-clause-counts : goal.returns-in-Err-clause-counts
returns-in-Err-clause-counts g c = steps_within (omega (arith, c.loop-taken-test.true)) (steps_more c.loop-taken.invariant.counts c.run_step.ensures.counts)

pub returns-in-Err-clause-cause : goal.returns-in-Err-clause-cause
returns-in-Err-clause-cause g c = cause_within g.P.Plan.plans _ c.loop-taken.invariant.went
    (g.T.Site.counts c.args.site.now) (g.T.Site.counts c.loop-taken.site) (g.T.Site.counts c.run_step.new.site) c.loop-taken.invariant.counts.later.faults c.in-Err.fault c.in-Err.ensures.cause
