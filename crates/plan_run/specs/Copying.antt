-- Parts of shards that a plan reads.
use Rattle.std.specs.Prelude.{◌≡◌, ◌⊎◌, ℕ, ◌+◌, ◌≤◌, List, length, take, drop, slice_get, Some, Result, IfErr}
use Rattle.site_model.specs.Disk.{Files}
use Rattle.site_model.specs.Counts.{Counts, Rose}
use Rattle.site_model.specs.declared.error.DeviceFault.{DeviceFault}
use Rattle.world_model.specs.World.{Volume}
use Rattle.shard_table.specs.Table.{Row}
use Rattle.stripe_layout.specs.declared.Info.{Info}
use Rattle.image_meaning.specs.Parts.{Parts}
use Rattle.image_meaning.specs.Share.{Share, finals, share_of}
use Rattle.degraded_read.specs.Reads.{IsFew}
use Rattle.plan_steps.specs.Kept.{Forms, IsKeptCoded}
use Rattle.plan_steps.specs.Progressing.{Running, FitsProgress}

-- the bytes are those of the parts' shard from a place on
pub record IsShardPart (parts : Parts) (shard at : ℕ) (out : List ℕ) : Type 0 where
  pub whole : List ℕ
  pub there : slice_get parts.shards shard ≡ Some whole
  pub part : out ≡ take (length out) (drop at whole)
  pub within : at + length out ≤ length whole

-- files that fit are kept in the coded form
abbrev pub AreCoded : Running → Files → Type 0
AreCoded r files = (w : Volume) (f : Forms) (row : Row) (start : Share) → FitsProgress w f r row start (share_of files r.plan.volume) → IsKeptCoded f.parts (finals (share_of files r.plan.volume))

-- From files that fit, whatever the plan began with: the bytes are those of a shard from a place on.
abbrev pub GivesShardPart : Running → Files → ℕ → ℕ → List ℕ → Type 0
GivesShardPart r files shard at out = (w : Volume) (f : Forms) (row : Row) (start : Share) → FitsProgress w f r row start (share_of files r.plan.volume) → IsShardPart f.parts shard at out

-- Faults in calls that write rose of the server that is told, or fewer shards than give the others stand on servers whose
-- faults didn't rise.
abbrev pub FailsWritingOrFew : {A S : Type 0} → (S → Counts) → Info → Row → Result A DeviceFault → S → S → Type 0
FailsWritingOrFew counts info row result old new =
    IfErr result (λ fault. Rose ((counts old).write_faults fault.server) ((counts new).write_faults fault.server) ⊎ IsFew info.geometry.ratio row (counts old) (counts new))
