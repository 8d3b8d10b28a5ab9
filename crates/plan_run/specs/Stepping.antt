-- What a step of a plan takes on a site, and what is known of it, whatever it answers.
use Rattle.std.specs.Prelude.{◌≡◌, ℕ, ◌<◌, Result, OnOk, IfErr, IsErrOf}
use Rattle.site_model.specs.Disk.{Disk}
use Rattle.site_model.specs.Counts.{Counts, Rose, Calls, TakesCalls, widest_piece}
use Rattle.site_model.specs.declared.error.DeviceFault.{DeviceFault}
use Rattle.shard_table.specs.Table.{Row}
use Rattle.image_meaning.specs.Meaning.{max_volumes}
use Rattle.plan_steps.specs.declared.step.Step.{Step}
use Rattle.plan_steps.specs.Lists.{list_of}
use Rattle.plan_steps.specs.Plans.{IsPlan}
use Rattle.plan_steps.specs.Progressing.{Running, IsOnItsWay}
use Rattle.plan_steps.specs.Stepping.{IsInBounds, TriesStep, TakesStep}
use Rattle.plan_run.specs.declared.names.FileNames.{FileNames}
use Rattle.plan_run.specs.Names.{AreNamed}

-- The plan is for so many servers and on its way, and its files have these names.
pub record IsAtWork (r : Running) (servers : ℕ) (names : FileNames) : Type 0 where
  pub below : r.plan.volume < max_volumes
  pub of_plan : IsPlan r.plan servers
  pub on_its_way : (row : Row) × IsOnItsWay r row
  pub bounds : IsInBounds r.plan r.states r.place
  pub named : AreNamed r.plan.volume (list_of r.plan) names

-- The step was tried. Where it succeeded the plan has come on by it, and else it is where it was.
pub record Steps {A : Type 0} (tells : Type 0) (r : Running) (step : Step) (s : Running) (result : Result A DeviceFault) (old new : Disk) : Type 0 where
  pub tried : tells → TriesStep r old new
  pub taken : OnOk result (TakesStep tells r step s old new)
  pub same : IfErr result (λ _. s ≡ r)

-- It took at most 64 calls, none of more than 65,536 bytes, and the faults rose of the server that is told.
pub record TakesFew {A S : Type 0} (counts : S → Counts) (count : S → ℕ) (result : Result A DeviceFault) (old new : S) : Type 0 where
  pub takes : TakesCalls 64 widest_piece (counts old) (counts new)
  pub runs : Calls counts count old new (λ server. IsErrOf result (record { server = server }))

-- and so did its faults in calls that write
abbrev pub FailsWriting : {A S : Type 0} → (S → Counts) → Result A DeviceFault → S → S → Type 0
FailsWriting counts result old new = IfErr result (λ fault. Rose ((counts old).write_faults fault.server) ((counts new).write_faults fault.server))
