-- Which record a line writes, and what the records of all volumes are then.
use Rattle.std.specs.Prelude.{◌≡◌, ◌≢◌, ◌⊎◌, ℕ, ◌<◌, [], ◌∷◌, ◌++◌, Option, Some, None, Result, OnOk}
use Rattle.site_model.specs.Disk.{Image, Disk, IsSettled}
use Rattle.site_model.specs.Leaves.{Leaves}
use Rattle.world_model.specs.declared.types.Line.{Line}
use Rattle.world_model.specs.declared.types.Line.TheVariants as line
use Rattle.needle_record.specs.declared.Record.{Record}
use Rattle.image_meaning.specs.Files.{contents}
use Rattle.image_meaning.specs.Meaning.{max_volumes}
use Rattle.image_meaning.specs.Times.{records_in}
use Rattle.store_core.specs.declared.halt.Halt.{Halt}

-- the record that a line writes at this time, and its volume
abbrev pub written_by : ℕ → Line → Option (ℕ × Record)
written_by now (line.Put v id cookie content) = Some (v, record { cookie = cookie; id = id; content = Some content; appended = now })
written_by now (line.Delete v id cookie) = Some (v, record { cookie = cookie; id = id; content = None; appended = now })
written_by now (line.Create v server) = None
written_by now (line.Get v id cookie) = None
written_by now (line.Mark v sealed) = None
written_by now line.List = None
written_by now (line.Start v command background) = None
written_by now (line.Step job steps) = None
written_by now (line.Wait job) = None
written_by now line.Lock = None
written_by now line.Unlock = None

-- each volume has the records that it had
abbrev pub HasSameRecords : Image → Image → Type 0
HasSameRecords old new = (v : ℕ) → v < max_volumes → records_in new v ≡ records_in old v

-- Behind the records of this volume stands one more, and each other volume has those that it had.
pub record HasOneMore (v : ℕ) (r : Record) (old new : Image) : Type 0 where
  pub place : ℕ
  pub there : records_in new v ≡ records_in old v ++ (place, r) ∷ []
  pub others : (q : ℕ) → q < max_volumes → q ≢ v → records_in new q ≡ records_in old q

abbrev pub IsWritten : Option (ℕ × Record) → Image → Image → Type 0
IsWritten None old new = HasSameRecords old new
IsWritten (Some (v, r)) old new = HasOneMore v r old new

-- Where the line is done its record is written. A stop within it leaves the records as they were, or with this one.
pub record Writes {A : Type 0} (wrote : Option (ℕ × Record)) (old new : Disk) (result : Result A Halt) : Type 0 where
  pub done : OnOk result (IsWritten wrote (contents old.files) (contents new.files))
  pub leaves : IsSettled old.files → Leaves old new (λ image said. HasSameRecords (contents old.files) image ⊎ IsWritten wrote (contents old.files) image)
