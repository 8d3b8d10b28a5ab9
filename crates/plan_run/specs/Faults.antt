-- Whose faults a call on a plan's file tells.
use Rattle.std.specs.Prelude.{◌≡◌, ℕ, List, slice_get, Some, Result, IsErr, IfErr}
use Rattle.site_model.specs.Counts.{Counts, HasWriteCause, CountsWrite, CallsAt, TakesCalls}
use Rattle.site_model.specs.declared.error.DeviceFault.{DeviceFault}
use Rattle.plan_steps.specs.declared.plan.FileState.{FileState}

-- At most so many calls at this server, none of more bytes. Where the last failed, the fault is the server's.
pub record IsBlamed {A S : Type 0} (counts : S → Counts) (count : S → ℕ) (server calls width : ℕ) (result : Result A DeviceFault) (old new : S) : Type 0 where
  pub takes : TakesCalls calls width (counts old) (counts new)
  pub runs : CallsAt counts count server old new (IsErr result)
  pub blame : IfErr result (λ fault. fault.server ≡ server)

-- the same of calls that write
pub record IsBlamedForWriting {A S : Type 0} (counts : S → Counts) (count : S → ℕ) (server calls width : ℕ) (result : Result A DeviceFault) (old new : S) : Type 0 where
  pub blamed : IsBlamed counts count server calls width result old new
  pub write_cause : HasWriteCause server (counts old) (counts new) (IsErr result)

-- One call at this server that writes so many bytes. Where it failed, the fault is the server's. The site keeps its servers.
pub record WritesAt {A S : Type 0} (counts : S → Counts) (count : S → ℕ) (server width : ℕ) (result : Result A DeviceFault) (old new : S) : Type 0 where
  pub counted : CountsWrite server width (counts old) (counts new) (IsErr result)
  pub servers : count new ≡ count old
  pub blame : IfErr result (λ fault. fault.server ≡ server)

-- of the file at this place of the list
abbrev pub AtFile : List FileState → ℕ → (ℕ → Type 0) → Type 0
AtFile states j P = (s : FileState) → slice_get states j ≡ Some s → P s.server
