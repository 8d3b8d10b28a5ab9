-- What the store takes of a step that was tried, and of one that succeeded, had from what `plan_steps` says of one step. For the
-- store with jobs, to come.
use Rattle.std.proofs.Common.{◌≡◌, ℕ, zero, suc, ◌<◌, Bool, Option, Some, None, is_some, not, refl, sym, ◌∙◌, ap, subst, arith}
use mathlib.Core.Bool.{true≢false}
use Rattle.site_model.specs.Disk.{Disk}
use Rattle.shard_table.specs.Table.{Row}
use Rattle.image_meaning.specs.Share.{share_of}
use Rattle.plan_steps.specs.declared.step.Step.{Step}
use Rattle.plan_steps.specs.Next.{next_step}
use Rattle.plan_steps.specs.Plans as which
use Rattle.plan_steps.specs.Legal.{FitsPlaces}
use Rattle.plan_steps.specs.Left.{left_of}
use Rattle.plan_steps.specs.Laws.Left.{left_none}
use Rattle.plan_steps.specs.Laws.Falls.{left_falls}
use Rattle.plan_steps.specs.Laws.Next.{plan_sized}
use Rattle.plan_steps.specs.Stepping.{IsInBounds, TriesStep, TakesStep}
use Rattle.plan_steps.specs.AsTold.{StandsAsTold}
use Rattle.plan_steps.specs.Progressing as running
use Rattle.plan_steps.specs.AnyPlans.{Tries, Runs, IsLeft, ComesOn}
use Rattle.plan_contract.specs.Following.{told, KeepsAll, leaves, copies}
use Rattle.plan_contract.specs.Contract.{PlannedRun, plans}

-- no step is next
abbrev pub has_ended : running.Running → Bool
has_ended r = not (is_some (next_step r.plan r.states r.place))

module _ (r : PlannedRun) (row : Row) (old new : Disk) (tried : TriesStep r.run old new) where
  keeps : KeepsAll r.run row old new
  keeps start follows = tried.keeps follows.w follows.f row start follows.fits

  -- whether it succeeded or not
  pub step_tries : Tries plans 1 r.run.plan.volume r row old new
  step_tries = record {
    touches = tried.touches;
    few = tried.few;
    leaves = λ start vol follows firm means. leaves r.run row old new keeps start vol follows firm means;
    copies = λ start follows other. copies r.run row old new keeps start follows other;
  }

  module _ (tells : Type 0) (step : Step) (s : running.Running) (took : TakesStep tells r.run step s old new) (onward : Row) (places : FitsPlaces r.run.plan s.states onward) where
    -- the plan that has come so far
    abbrev pub stepped : PlannedRun
    stepped = record { run = s; servers = r.servers; is = subst (λ p. which.IsPlan p r.servers) (sym took.same_plan) r.is }

    pub step_runs : tells → Runs plans 1 r.run.plan.volume r stepped row onward old new
    step_runs is = record {
      tried = step_tries;
      same_plan = ap told took.same_plan;
      planned = λ servers planned. subst (λ p. which.IsPlan p servers) (sym took.same_plan) planned;
      told = λ stands. subst (λ p. StandsAsTold p s.states (share_of new.files r.run.plan.volume)) (sym took.same_plan) (took.told is stands);
      follows = λ start follows. record {
        w = follows.w;
        f = follows.f;
        fits = took.follows is follows.w follows.f row onward start follows.fits places;
      };
    }

    -- fewer steps are left, and none exactly where none is next
    fewer : IsInBounds r.run.plan r.run.states r.run.place → running.IsOnItsWay r.run row → next_step r.run.plan r.run.states r.run.place ≡ Some step → left_of s.plan s.states s.place < left_of r.run.plan r.run.states r.run.place
    fewer bounds way due = subst (λ p. left_of p s.states s.place < left_of r.run.plan r.run.states r.run.place) (sym took.same_plan)
        (left_falls r.run.plan r.run.states s.states r.run.place s.place step
        (record { sized = plan_sized r.run.plan r.servers r.is; listed = way.listed; apart = way.apart; reached = way.reached; short = bounds.short }) due took.after)

    left_by : (o : Option Step) → next_step s.plan s.states s.place ≡ o → left_of s.plan s.states s.place < left_of r.run.plan r.run.states r.run.place
        → IsLeft 1 (not (is_some o)) (left_of r.run.plan r.run.states r.run.place) (left_of s.plan s.states s.place)
    left_by None none less = (left_none s.plan s.states s.place).1 none
    left_by (Some next) there less = (omega (arith, less), λ some. by_left (left_of s.plan s.states s.place) refl)
      where
        ended : left_of s.plan s.states s.place ≡ 0 → ⊥
        ended e = true≢false (ap is_some (sym there ∙ (left_none s.plan s.states s.place).0 e))

        by_left : (n : ℕ) → left_of s.plan s.states s.place ≡ n → 0 < left_of s.plan s.states s.place
        by_left zero e = absurd (ended e)
        by_left (suc n) e = omega (arith, e)

    pub step_comes_on : IsInBounds r.run.plan r.run.states r.run.place → running.IsOnItsWay r.run row → next_step r.run.plan r.run.states r.run.place ≡ Some step → ComesOn plans 1 (has_ended s) r stepped onward
    step_comes_on bounds way due = record {
      same_plan = ap told took.same_plan;
      on_its_way = took.way row onward way places;
      left = left_by (next_step s.plan s.states s.place) refl (fewer bounds way due);
    }
