-- Replies that step a job which ended in the line that started it: they are no run, and the bound on steps refuses them.
use Rattle.std.proofs.Common.{◌≡◌, false, List, [], ◌∷◌, Some, None, refl, arith}
use Rattle.std.specs.Prelude.{◌==◌, if◌then◌else◌}
use Rattle.site_model.specs.Disk.{Files}
use Rattle.world_model.specs.declared.types.Command.TheVariants.{Encode}
use Rattle.world_model.specs.declared.types.Ratio.TheVariants.{TenFour}
use Rattle.world_model.specs.declared.types.Line.TheVariants as line
use Rattle.world_model.specs.declared.types.Refusal.TheVariants as refusal
use Rattle.world_model.specs.declared.types.Reply.{Reply}
use Rattle.world_model.specs.declared.types.Reply.TheVariants as reply
use Rattle.world_model.specs.World.{World, empty_volume}
use Rattle.world_model.specs.Moves.{Reading, grammatical}
use Rattle.world_model.specs.Runs.{IsRun}
use Rattle.plan_steps.specs.AnyPlans.{Plans}
use Rattle.store_jobs.specs.Store.{Store}
use Rattle.shell_jobs.specs.Progress.{StepsSo}

-- an empty plain volume
abbrev one_volume : World
one_volume = record { servers = 4; limit = 1000; volumes = λ v. if v == 7 then Some empty_volume else None; jobs = []; next_job = 1 }

abbrev lines : List Reading
lines = grammatical (line.Start 7 (Encode TenFour) false) ∷ grammatical (line.Step 1 1000000) ∷ grammatical (line.Step 1 1000000) ∷ []

abbrev replies : List Reply
replies = reply.Done ∷ reply.Running 1 ∷ reply.Running 1 ∷ []

no_run : IsRun one_volume lines replies → ⊥
no_run run = refused run.1.0
  where
    refused : reply.Running 1 ≡ reply.Refused refusal.NoJob → ⊥
    refused e = cc

no_bound : (plans : Plans) (opening : Files) (store : Store plans) → StepsSo plans (record { servers = 4; first = one_volume; opening = opening; lines = lines }) replies store → ⊥
no_bound plans opening store so = omega (arith, so.started 0 7 (record { command = Encode TenFour; background = false; reply = reply.Done; is_line = refl; is_reply = refl; accepted = refl }))
