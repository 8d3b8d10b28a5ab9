-- What a read of shards does besides the bytes that it gives.
use Rattle.std.specs.Prelude.{◌≡◌, ℕ, ◌+◌, ◌<◌, Option, None, Some, Result, IfErr, IfSome}
use Rattle.site_model.specs.Disk.{Disk}
use Rattle.site_model.specs.Counts.{Calls, Counts, CountsRead, IsLater, Rose}
use Rattle.site_model.specs.declared.error.DeviceFault.{DeviceFault}
use Rattle.world_model.specs.declared.types.Ratio.{Ratio}
use Rattle.world_model.specs.Ratios.{data_count, parity_count}
use Rattle.shard_table.specs.Table.{Row}
use Rattle.degraded_read.specs.Gathering.{reliable}

-- Nothing changes on the disk, so many calls are made, and the faults rose of each server that is told.
pub record OnlyReads {A : Type 0} (tells : Type 0) (disk : A → Disk) (counts : A → Counts) (count : A → ℕ) (takes : Counts → Counts → Type 0) (old new : A) (is_told : ℕ → Type 0) : Type 0 where
  pub same : tells → disk new ≡ disk old
  pub calls : takes (counts old) (counts new)
  pub runs : Calls counts count old new is_told

-- One read of so many bytes at this server.
pub record ReadsOnce {A : Type 0} (tells : Type 0) (disk : A → Disk) (counts : A → Counts) (count : A → ℕ) (server width : ℕ) (old new : A) (is_failed : Type 0) : Type 0 where
  pub same : tells → disk new ≡ disk old
  pub counts_read : CountsRead server width (counts old) (counts new) is_failed
  pub servers : count new ≡ count old

-- ---- the lowest server that failed

-- its faults rose, where one is told
abbrev pub IsBlamed : Option ℕ → Counts → Counts → Type 0
IsBlamed failed old now = IfSome failed (λ s. Rose (old.faults s) (now.faults s))

-- The server that is told at the end is none only where none was told at first, and its faults rose, where those of
-- the first one had.
pub record StaysBlamed (first last : Option ℕ) (start end : Counts) : Type 0 where
  pub kept : last ≡ None → first ≡ None
  pub rose : (old : Counts) → IsLater old start → IsBlamed first old start → IsBlamed last old end

-- fewer shards than give the others stand on servers whose faults didn't rise
abbrev pub IsFew : Ratio → Row → Counts → Counts → Type 0
IsFew r row old new = reliable row old new (data_count r + parity_count r) < data_count r

-- A read that fails tells the lowest server that failed, and few shards stand on servers that didn't.
pub record FailsBy {A : Type 0} (r : Ratio) (row : Row) (result : Result A DeviceFault) (first last : Option ℕ) (start end : Counts) : Type 0 where
  pub stays : StaysBlamed first last start end
  pub told : IfErr result (λ fault. last ≡ Some fault.server)
  pub few : IfErr result (λ _. (old : Counts) → IsLater old start → IsFew r row old end)
