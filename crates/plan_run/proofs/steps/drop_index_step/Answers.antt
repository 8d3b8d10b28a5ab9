use Rattle.plan_run.proofs.Moved.{drops_index}
use Rattle.plan_run.proofs.steps.drop_index_step.Goals as goal

pub clear_step-requires-clause-due : goal.clear_step-requires-clause-due
clear_step-requires-clause-due g c = c.requires.due

pub returns-clause-steps : goal.returns-clause-steps
returns-clause-steps g c = drops_index c.clear_step.result c.clear_step.ensures.steps
