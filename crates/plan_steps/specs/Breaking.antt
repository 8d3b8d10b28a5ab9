-- A decode whose joined data file isn't records to its end, which no volume that was sound as it began has.
use Rattle.std.specs.Prelude.{◌≡◌, ℕ, true, List, length, drop, Some}
use Rattle.site_model.specs.Disk.{standing}
use Rattle.world_model.specs.declared.types.Command.TheVariants.{Decode}
use Rattle.file_names.specs.declared.Kind.TheVariants.{Dat}
use Rattle.needle_record.specs.Records.{Placed, AreRecords}
use Rattle.image_meaning.specs.Share.{Share}
use Rattle.plan_steps.specs.Next.{joined_length}
use Rattle.plan_steps.specs.Progressing.{Running}

-- The data file stands whole as a temporary file, and from the place of the next record on it isn't records to its end.
pub record BreaksOff (r : Running) (now : Share) : Type 0 where
  pub decode : r.plan.command ≡ Decode
  pub dat : List ℕ
  pub stands : standing (now r.plan.home Dat true) ≡ Some dat
  pub whole : length dat ≡ joined_length r.plan
  pub breaks : (ps : List Placed) → AreRecords r.place (drop r.place dat) ps → ⊥
