-- What a get reads while a plan runs, whatever its command. For the store with jobs, to come.
use Rattle.std.proofs.Common.{◌≡◌, inl, inr, ℕ, refl, ap}
use Rattle.world_model.specs.declared.types.Command.{Command}
use Rattle.world_model.specs.declared.types.Command.TheVariants.{Encode, Rebuild, Balance, Decode}
use Rattle.shard_table.specs.Table.{Row}
use Rattle.image_meaning.specs.Share.{Share, finals}
use Rattle.plan_steps.specs.Planned.{is_encode}
use Rattle.plan_steps.specs.Plans.{IsPlan}
use Rattle.plan_steps.specs.Left.{left_of}
use Rattle.plan_steps.specs.Progressing.{Running, IsOnItsWay, Follows}
use Rattle.plan_steps.specs.Reading.{IsGoing, IsRead, LeavesEnough}
use Rattle.plan_contract.specs.Following.{told, made_records}
use Rattle.plan_contract.specs.Read.{reads_data, reads_shards}
use Rattle.plan_contract.specs.ReadDecode.{reads_decode}
use Rattle.plan_steps.specs.Laws.Enough.{leaves_enough}

-- The volume is read as it was.
pub reads_told : (r : Running) (row : Row) (start now : Share) → Follows r row start now → IsGoing r.plan.command (left_of r.plan r.states r.place) → IsRead r.plan.command (told r.plan) (made_records r.plan start) row (finals start) (finals now)
reads_told r row start now follows going = by_command r.plan.command refl going
  where
    by_command : (command : Command) → r.plan.command ≡ command → IsGoing command (left_of r.plan r.states r.place) → IsRead command (told r.plan) (made_records r.plan start) row (finals start) (finals now)
    by_command (Encode ratio) e some = reads_data r row start now follows (ap is_encode e) some
    by_command Rebuild e some = reads_shards r row start now follows (inl e)
    by_command Balance e some = reads_shards r row start now follows (inr e)
    by_command Decode e some = reads_decode r row start now follows e

-- And on every site shards enough are left.
pub enough_told : (r : Running) (row : Row) (servers : ℕ) → IsPlan r.plan servers → IsOnItsWay r row → LeavesEnough r.plan.command r.plan.info row
enough_told r row servers is way = by_command r.plan.command refl
  where
    by_command : (command : Command) → r.plan.command ≡ command → LeavesEnough command r.plan.info row
    by_command (Encode ratio) e = tt
    by_command Rebuild e = leaves_enough r row servers is way (inl e)
    by_command Balance e = leaves_enough r row servers is way (inr e)
    by_command Decode e = tt
