use Rattle.std.proofs.Common.{◌∙◌, ap}
use Rattle.plan_steps.specs.Next.{file_at, step_at}
use Rattle.plan_steps.specs.LegalNext.{legal_next}
use Rattle.plan_steps.proofs.plan.Plan.next.Goals as goal

pub returns-clause-legal : goal.returns-clause-legal
returns-clause-legal c =
    legal_next c.args.self.now c.args.progress.now c.step_at.result
    (c.step_at.ensures ∙ ap (step_at c.args.self.now c.args.progress.now.files.items c.args.progress.now.place) (c.file_at.ensures ∙ ap (file_at c.args.progress.now.files.items) c.first_open.ensures))
