-- The plans that the makers give, with all that they say.
use Rattle.std.specs.Prelude.{◌≡◌, ℕ, List, []}
use Rattle.world_model.specs.declared.types.Command.TheVariants.{Rebuild, Balance}
use Rattle.stripe_layout.specs.declared.Info.{Info}
use Rattle.shard_table.specs.Table.{Row}
use Rattle.plan_steps.specs.declared.plan.Plan.{Plan}
use Rattle.plan_steps.specs.Plans.{missing_of, filled, AreFilled, AreMoves}
use Rattle.plan_code.specs.Made.{IsCodedOf}

-- The rebuild of a volume: each missing shard goes to the server that has the fewest by then, and after that the moves
-- make the shards even.
pub record IsRebuildOf (servers v : ℕ) (text : Info) (listed : ℕ) (ids : List ℕ) (row : Row) (plan : Plan) : Type 0 where
  pub command : plan.command ≡ Rebuild
  pub coded : IsCodedOf v text listed ids row plan
  pub home : plan.home ≡ 0
  pub targets : AreFilled servers row (missing_of text.geometry row) plan.targets.items
  pub moves : AreMoves servers (filled row plan.targets.items) plan.moves.items

-- The balance of a volume: the moves make the shards even.
pub record IsBalanceOf (servers v : ℕ) (text : Info) (listed : ℕ) (ids : List ℕ) (row : Row) (plan : Plan) : Type 0 where
  pub command : plan.command ≡ Balance
  pub coded : IsCodedOf v text listed ids row plan
  pub home : plan.home ≡ 0
  pub targets : plan.targets.items ≡ []
  pub moves : AreMoves servers row plan.moves.items
