-- The contract that the store takes of plans that run, met by plans as they are. For the store with jobs, to come.
use Rattle.std.proofs.Common.{◌≡◌, ℕ, Bool, true, false, ◌++◌, refl, sym, ◌∙◌}
use mathlib.Core.Bool.{true≢false}
use Rattle.needle_record.specs.Records.{records}
use Rattle.image_meaning.specs.Coded.{dat_of}
use Rattle.image_meaning.specs.Share.{finals}
use Rattle.plan_steps.specs.declared.plan.Stage.{Stage}
use Rattle.plan_steps.specs.declared.plan.Stage.TheVariants.{Absent, Writing, Synced, Registered, Gone}
use Rattle.plan_steps.specs.Planned.{deletions, is_found}
use Rattle.plan_steps.specs.Walk.{is_last_stage, AreFinished}
use Rattle.plan_steps.specs.Plans as which
use Rattle.plan_steps.specs.Left.{left_of}
use Rattle.plan_steps.specs.Laws.Left.{left_none}
use Rattle.plan_steps.specs.Laws.Next.{no_step_ends}
use Rattle.plan_steps.specs.Laws.End.{IsOver}
use Rattle.plan_steps.specs.AsTold as by_name
use Rattle.plan_steps.specs.Laws.AsTold.{told_fits, told_places}
use Rattle.plan_steps.specs.Progressing as running
use Rattle.plan_steps.specs.AnyPlans.{Plans}
use Rattle.plan_contract.specs.Following.{told, bound, underway, firm}
use Rattle.plan_contract.specs.Ended.{ends_told}
use Rattle.plan_contract.specs.AnyRead.{reads_told, enough_told}
use Rattle.plan_steps.specs.Breaking as breaking
use Rattle.plan_steps.specs.Laws.Breaking as broken

-- a plan that runs, on so many servers
pub record PlannedRun : Type 0 where
  pub run : running.Running
  pub servers : ℕ
  pub is : which.IsPlan run.plan servers

-- where a finished file is
last_new : (b : Bool) (stage : Stage) → b ≡ false → is_last_stage b stage ≡ true → stage ≡ Registered
last_new b Absent new e = absurd (true≢false (sym e))
last_new b Writing new e = absurd (true≢false (sym e))
last_new b Synced new e = absurd (true≢false (sym e))
last_new b Registered new e = refl
last_new b Gone new e = absurd (true≢false (sym e ∙ new))

last_found : (b : Bool) (stage : Stage) → b ≡ true → is_last_stage b stage ≡ true → stage ≡ Gone
last_found b Absent found e = absurd (true≢false (sym e))
last_found b Writing found e = absurd (true≢false (sym e))
last_found b Synced found e = absurd (true≢false (sym e))
last_found true Registered found e = absurd (true≢false (sym e))
last_found false Registered found e = absurd (true≢false (sym found))
last_found b Gone found e = refl

pub over : (r : running.Running) → left_of r.plan r.states r.place ≡ 0 → IsOver r
over r none =
    let all : AreFinished r.plan r.states = (no_step_ends r.plan r.states r.place).0 ((left_none r.plan r.states r.place).0 none) in
    record {
      written = λ j s at new. last_new (is_found r.plan r.plan.command s.server s.kind) s.stage new (all j s at);
      removed = λ j s at found. last_found (is_found r.plan r.plan.command s.server s.kind) s.stage found (all j s at);
    }

abbrev pub plans : Plans
plans = record {
  Running = PlannedRun;
  plan = λ r. told r.run.plan;
  left = λ r. left_of r.run.plan r.run.states r.run.place;
  made_records = λ plan start. records (dat_of (finals start) ++ deletions plan.deleted);
  IsPlan = λ r servers. which.IsPlan r.run.plan servers;
  IsOnItsWay = λ r row. running.IsOnItsWay r.run row;
  StandsAsTold = λ r now. by_name.StandsAsTold r.run.plan r.run.states now;
  BreaksOff = λ r now. breaking.BreaksOff r.run now;
  Follows = λ r row start now. running.Follows r.run row start now;
  on_its_way = λ r row start now follows. follows.fits.way;
  told = λ r row start now follows. told_fits follows.w follows.f r.run row start now follows.fits;
  places = λ r row now way stands. told_places r.run.plan r.run.states row now way.apart way.places stands;
  enough = λ r servers row way is. enough_told r.run row servers is way;
  unbroken = λ r row start now follows breaks. broken.unbroken r.run row start now follows breaks;
  bound = λ r row start now vol follows means. bound r.run row start now follows r.servers r.is vol means;
  underway = λ r row start now vol follows means. underway r.run row start now follows vol means;
  reads = λ r row start now follows going. reads_told r.run row start now follows going;
  firm = λ r row start now follows is. firm r.run row start now follows is;
  ends = λ r servers row start now follows is none. ends_told r.run row start now follows (over r.run none) servers is;
}
