-- At its first progress a rebuild or a balance follows the coded volume on which it begins. For the store with jobs, to come.
use Rattle.std.proofs.Common.{ℕ, ◌^◌, ◌<◌, List, sym, ap, subst}
use Rattle.std.specs.List.{AllByRecursion}
use Rattle.world_model.specs.declared.types.Command.{Command}
use Rattle.stripe_layout.specs.declared.Info.{Info}
use Rattle.stripe_layout.specs.Laws.Info.{IsInRange}
use Rattle.shard_table.specs.Table.{Row, IsRow}
use Rattle.image_meaning.specs.Meaning.{max_volumes}
use Rattle.image_meaning.specs.Ends.{HasNoFiles}
use Rattle.image_meaning.specs.Share.{Share, finals, temps}
use Rattle.plan_steps.specs.declared.plan.Plan.{Plan}
use Rattle.plan_steps.specs.declared.plan.Progress.{Progress}
use Rattle.plan_steps.specs.Planned.{is_encode}
use Rattle.plan_steps.specs.Plans.{IsPlanBy, IsPlan}
use Rattle.plan_steps.specs.Progressing.{running, Follows}
use Rattle.plan_code.specs.Made.{StandEnough}
use Rattle.plan_code.specs.Started.{StandsCoded, IsFirst, AreNamed}
use Rattle.plan_code.specs.Laws.Coded.{coded_names}
use Rattle.plan_code.specs.Laws.Follow.{first_follows}
use Rattle.plan_mend.specs.Made.{IsRebuildOf, IsBalanceOf}
use Rattle.plan_mend.specs.Laws.Once.{rebuild_once, balance_once}
use Rattle.plan_mend.specs.Laws.Start.{rebuild_starts, balance_starts}

module _ (servers v listed : ℕ) (text : Info) (ids : List ℕ) (row : Row) (plan : Plan) (progress : Progress) (start : Share) (planned : IsPlan plan servers) (on : IsRow servers row) (stand : StandEnough text.geometry row)
    (range : IsInRange text) (fits : AllByRecursion (λ id. id < 2 ^ 64) ids) (named : AreNamed plan) (first : IsFirst plan progress) (below : v < max_volumes) (no_temps : HasNoFiles (temps start))
    (stood : StandsCoded text ids listed row (finals start)) where
  -- a rebuild
  pub rebuild_follows : IsRebuildOf servers v text listed ids row plan → Follows (running plan progress) row start start
  rebuild_follows is =
      let made = subst (λ (c : Command). IsPlanBy servers plan c) is.command planned.made in
      first_follows plan progress row start first (rebuild_once plan servers made.0 made.1 is.command) named (subst (λ n. n < max_volumes) (sym is.coded.volume) below)
      (coded_names servers v listed text ids row plan (finals start) is.coded (ap is_encode is.command) on planned.few_servers stand) no_temps
      (rebuild_starts servers v listed text ids row plan (finals start) on planned.few_servers stand range fits stood is)

  -- a balance
  pub balance_follows : IsBalanceOf servers v text listed ids row plan → Follows (running plan progress) row start start
  balance_follows is =
      let made = subst (λ (c : Command). IsPlanBy servers plan c) is.command planned.made in
      first_follows plan progress row start first (balance_once plan servers made.0 made.1 is.command) named (subst (λ n. n < max_volumes) (sym is.coded.volume) below)
      (coded_names servers v listed text ids row plan (finals start) is.coded (ap is_encode is.command) on planned.few_servers stand) no_temps
      (balance_starts servers v listed text ids row plan (finals start) on planned.few_servers stand range fits stood is)
