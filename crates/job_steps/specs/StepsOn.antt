-- One step more, behind those that were run.
use Rattle.std.proofs.Common.{ℕ, ◌+◌, ◌<◌, ◌≤◌, Bool, true, false, refl, sym, ◌∙◌, ap, subst, arith}
use Rattle.site_model.specs.Disk.{Disk}
use Rattle.site_model.specs.Counts.{Counts}
use Rattle.site_model.specs.Laws.Count.{takes_none, takes_on, takes_within, later_none, later_on, rose_after}
use Rattle.shard_table.specs.Table.{Row}
use Rattle.image_meaning.specs.Share.{share_of}
use Rattle.plan_steps.specs.Told.{ToldPlan}
use Rattle.plan_steps.specs.AnyPlans.{Plans, Tries, ComesOn, IsLeft}
use Rattle.store_jobs.specs.Laws.Step.{runs_none, runs_more, runs_within, tries_more, tries_within}
use Rattle.job_steps.specs.declared.StepFault.{StepFault}
use Rattle.job_steps.specs.declared.StepFault.TheVariants as step_fault
use Rattle.job_steps.specs.Steps.{TakesSteps, CanStep, Went, HasStepCause, HasCauseWithin}

-- ---- counts

pub steps_none : (servers : ℕ) (counts : Counts) → TakesSteps 0 servers servers counts counts
steps_none servers counts = record { calls = takes_none counts; later = later_none counts; same_servers = refl; says = refl }

pub steps_more : {n servers between now : ℕ} {old mid new : Counts} → TakesSteps n servers between old mid → TakesSteps 1 between now mid new → TakesSteps (n + 1) servers now old new
steps_more first second = record {
  calls = takes_within (omega arith) (omega arith) (takes_on first.calls second.calls);
  later = later_on first.later second.later;
  same_servers = second.same_servers ∙ first.same_servers;
  says = second.says ∙ first.says;
}

pub steps_within : {m n servers now : ℕ} {old new : Counts} → m ≤ n → TakesSteps m servers now old new → TakesSteps n servers now old new
steps_within within took = record { calls = takes_within (omega (arith, within)) (omega arith) took.calls; later = took.later; same_servers = took.same_servers; says = took.says }

-- ---- how far the plan has come

left_more : (n : ℕ) (ended : Bool) (old mid new : ℕ) → IsLeft n false old mid → IsLeft 1 ended mid new → IsLeft (n + 1) ended old new
left_more n true old mid new first second = second
left_more n false old mid new first second = (omega (arith, first.0, second.0), λ some. second.1 (omega arith))

on_more : (plans : Plans) (n : ℕ) (ended : Bool) (r s t : plans.Running) (mid onward : Row) → ComesOn plans n false r s mid → ComesOn plans 1 ended s t onward → ComesOn plans (n + 1) ended r t onward
on_more plans n ended r s t mid onward first second = record {
  same_plan = second.same_plan ∙ first.same_plan;
  on_its_way = second.on_its_way;
  left = left_more n ended (plans.left r) (plans.left s) (plans.left t) first.left second.left;
}

-- at the end it doesn't matter how many were given
on_within : (plans : Plans) (m n : ℕ) (r s : plans.Running) (onward : Row) → ComesOn plans m true r s onward → ComesOn plans n true r s onward
on_within plans m n r s onward on = record { same_plan = on.same_plan; on_its_way = on.on_its_way; left = on.left }

module _ (plans : Plans) (tells : Type 0) where
  pub went_none : (r : plans.Running) (row : Row) (disk : Disk) → plans.IsOnItsWay r row → Went plans tells r 0 false r row row disk disk
  went_none r row disk on_its_way = record {
    on = record { same_plan = refl; on_its_way = on_its_way; left = (omega arith, λ none. absurd (omega (arith, none))) };
    runs = λ t. runs_none plans (plans.plan r).volume r row disk;
  }

  module _ {n : ℕ} {r s : plans.Running} {row mid : Row} {old between : Disk} (first : Went plans tells r n false s row mid old between) where
    -- one step more
    pub went_more : {ended : Bool} {t : plans.Running} {onward : Row} {new : Disk} → Went plans tells s 1 ended t mid onward between new → Went plans tells r (n + 1) ended t row onward old new
    went_more {ended} {t} {onward} second = record {
      on = on_more plans n ended r s t mid onward first.on second.on;
      runs = λ is. runs_more plans (first.runs is) (second.runs is);
    }

    -- the step that ends the plan
    pub went_to_end : {m : ℕ} {t : plans.Running} {onward : Row} {new : Disk} → n < m → Went plans tells s 1 true t mid onward between new → Went plans tells r m true t row onward old new
    went_to_end {m} {t} {onward} few second =
        let whole = went_more second in
        record { on = on_within plans (n + 1) m r t onward whole.on; runs = λ is. runs_within plans (omega (arith, few)) (whole.runs is) }

    -- a step that was tried
    pub tries_next : {m : ℕ} {new : Disk} → n < m → (tells → Tries plans 1 (plans.plan s).volume s mid between new) → tells → Tries plans m (plans.plan r).volume r row old new
    tries_next few second is = tries_within plans (omega (arith, few)) (tries_more plans (first.runs is) (second is))

    -- the next step may be taken
    pub can_again : CanStep plans tells r row old.files → CanStep plans tells s mid between.files
    can_again can = record {
      on_its_way = first.on.on_its_way;
      told = λ is. subst (λ (p : ToldPlan). plans.StandsAsTold s (share_of between.files p.volume)) (sym first.on.same_plan) ((first.runs is).told (can.told is));
    }

    -- and if it fails, it is for a cause of the whole run
    pub cause_within : (before now after : Counts) → ((server : ℕ) → before.faults server ≤ now.faults server) → (fault : StepFault) → HasStepCause plans tells s between.files now after fault
        → HasCauseWithin plans tells r row old.files before after fault
    cause_within before now after later (step_fault.Fault server) cause = rose_after (before.faults server) (now.faults server) (after.faults server) (later server) cause
    cause_within before now after later (step_fault.Unsound volume rule) cause = (
      record {
        volume_is = cause.0.volume_is ∙ ap (λ (p : ToldPlan). p.volume) first.on.same_plan;
        rule_is = cause.0.rule_is;
        decodes = ap (λ (p : ToldPlan). p.command) (sym first.on.same_plan) ∙ cause.0.decodes;
      },
      λ is start follows. plans.unbroken s mid start (share_of between.files (plans.plan r).volume) ((first.runs is).follows start follows)
          (subst (λ (p : ToldPlan). plans.BreaksOff s (share_of between.files p.volume)) first.on.same_plan (cause.1 is)),
    )
