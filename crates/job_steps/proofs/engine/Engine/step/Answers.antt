-- By the laws of the board: a work that is out is given back, or its job is finished.
use Rattle.std.proofs.Common.{◌≡◌, false, IsTrue, sym, ◌∙◌}
use Rattle.job_steps.specs.Steps.{Went}
use Rattle.job_steps.proofs.Entering.{is_out, steps_job, has_work}
use Rattle.job_steps.proofs.engine.Engine.step.Goals as goal

pub enter-requires : goal.enter-requires
enter-requires g c = record { out = is_out c.args.job c.args.self.now c.args.self.now c.in-Some-take.work (sym c.take.ensures.work ∙ c.in-Some-take.is) c.take.new.self c.take.ensures.out }

pub returns-in-Ok-clause-steps : goal.returns-in-Ok-clause-steps
returns-in-Ok-clause-steps g c =
    let same : c.unwrap_or-ended.result ≡ c.in-Ok.ended = rw c.in-Ok.is at c.unwrap_or-ended.ensures in
    steps_job c.args.job c.args.self.now c.enter.new.self c.in-Some-take.work (sym c.take.ensures.work ∙ c.in-Some-take.is) c.take.new.self c.take.ensures.out
    (λ ended was is. Went g.P.Plan.plans (IsTrue g.T.Site.tells) (g.P.Plan.running was) c.args.steps ended (g.P.Plan.running is) (g.P.Plan.places was) (g.P.Plan.places is)
    (g.T.Site.disk c.args.site.now) (g.T.Site.disk c.run_steps-ran.new.site))
    c.run_steps-ran.new.plan c.in-Some.volume c.in-Ok.ended (sym c.volume_of.ensures.volume ∙ c.in-Some.is) c.in-Ok.ensures.went
    (rw same at c.enter.ensures.board) (λ is. c.enter.ensures.slot (same ∙ is)) (λ is. c.enter.ensures.slots (same ∙ is))

pub returns-in-Err-clause-steps : goal.returns-in-Err-clause-steps
returns-in-Err-clause-steps g c =
    let same : c.unwrap_or-ended.result ≡ false = rw c.in-Err.is at c.unwrap_or-ended.ensures in (
      c.in-Some-take.work,
      _,
      has_work c.args.job c.args.self.now c.enter.new.self c.in-Some-take.work (sym c.take.ensures.work ∙ c.in-Some-take.is) c.take.new.self c.take.ensures.out
          c.run_steps-ran.new.plan c.unwrap_or-ended.result c.enter.ensures.board same (c.enter.ensures.slots same),
    )
