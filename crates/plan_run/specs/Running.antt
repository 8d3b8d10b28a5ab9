-- A plan that runs, as its definitions see it.
use Rattle.std.specs.Prelude.{◌≡◌}
use Rattle.plan_steps.specs.declared.plan.Plan.{Plan}
use Rattle.plan_steps.specs.Lists.{list_of}
use Rattle.plan_steps.specs.Beginning.{first_states}
use Rattle.plan_run.specs.declared.running.Running.{Running}

-- It is this plan, and nothing of it was done.
pub record Begins (of : Plan) (r : Running) : Type 0 where
  pub plan : r.plan ≡ of
  pub files : r.progress.files.items ≡ first_states of (list_of of)
  pub place : r.progress.place ≡ 8
