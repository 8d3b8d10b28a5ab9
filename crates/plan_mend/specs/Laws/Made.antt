-- What is made are plans.
use Rattle.std.proofs.Common.{ℕ, ◌+◌, ◌*◌, ◌^◌, ◌<◌, ◌≤◌, List, length, sym, subst}
use Rattle.world_model.specs.Sizes.{deletion_length, max_dat}
use Rattle.world_model.specs.declared.types.Command.{Command}
use Rattle.stripe_layout.specs.declared.Info.{Info}
use Rattle.stripe_layout.specs.Laws.Info.{IsInRange}
use Rattle.shard_table.specs.Table.{Row}
use Rattle.plan_steps.specs.declared.plan.Plan.{Plan}
use Rattle.plan_steps.specs.Plans.{missing_of, filled, AreFilled, AreMoves, IsMendPlan, IsPlanBy, IsPlan}
use Rattle.plan_code.specs.Made.{FitTypes, IsCodedOf, StandEnough}
use Rattle.plan_code.specs.Laws.Made.{coded_placed, coded_plans}
use Rattle.plan_mend.specs.Made.{IsRebuildOf, IsBalanceOf}

module _ (servers v listed : ℕ) (text : Info) (ids : List ℕ) (row : Row) (plan : Plan) (given : FitTypes servers row ids) (stand : StandEnough text.geometry row) (range : IsInRange text)
    (short : listed < 2 ^ 60) (room : text.dat_size + deletion_length * length ids ≤ max_dat) where
  abbrev mends : IsCodedOf v text listed ids row plan → AreMoves servers (filled row plan.targets.items) plan.moves.items → IsMendPlan servers plan
  mends coded moves = record { row = row; placed = coded_placed servers v listed text ids row plan coded given.is_row stand; moves = moves }

  pub rebuild_plans : IsRebuildOf servers v text listed ids row plan → IsPlan plan servers
  rebuild_plans is =
      coded_plans servers v listed text ids row plan is.coded given.is_row stand given range short room
      (subst (λ (c : Command). IsPlanBy servers plan c) (sym is.command)
      (mends is.coded is.moves, subst (λ (t : Info). AreFilled servers row (missing_of t.geometry row) plan.targets.items) (sym is.coded.info) is.targets))

  pub balance_plans : IsBalanceOf servers v text listed ids row plan → IsPlan plan servers
  balance_plans is =
      coded_plans servers v listed text ids row plan is.coded given.is_row stand given range short room
      (subst (λ (c : Command). IsPlanBy servers plan c) (sym is.command)
      (mends is.coded (subst (λ (ts : List (ℕ × ℕ)). AreMoves servers (filled row ts) plan.moves.items) (sym is.targets) is.moves), is.targets))
