-- No step is left exactly where none is next.
-- For `run_step` of the running plans of `plan_run`, to come.
use Rattle.std.proofs.Common.{◌≡◌, ℕ, zero, suc, ◌+◌, Bool, true, false, List, [], ◌∷◌, None, refl, sym, ◌∙◌, ap, arith}
use Rattle.std.specs.Prelude.{◌↔◌, if◌then◌else◌}
use Rattle.std.proofs.lemmas.Bool.{false≢true}
use Rattle.std.proofs.lemmas.List.Sums.{sum_by-cons}
use Rattle.image_meaning.specs.Laws.Options.{none_some, some_is}
use Rattle.file_names.specs.declared.Kind.{Kind}
use Rattle.file_names.specs.declared.Kind.TheVariants.{Dat, Idx, Cpd, Cpx, Shard, Ecx, Ecj, Vif}
use Rattle.plan_steps.specs.declared.plan.Plan.{Plan}
use Rattle.plan_steps.specs.declared.plan.Stage.{Stage}
use Rattle.plan_steps.specs.declared.plan.Stage.TheVariants.{Absent, Writing, Synced, Registered, Gone}
use Rattle.plan_steps.specs.declared.plan.FileState.{FileState}
use Rattle.plan_steps.specs.Planned.{is_found}
use Rattle.plan_steps.specs.Walk.{is_last_stage, is_finished, AreFinished}
use Rattle.plan_steps.specs.Next.{next_step}
use Rattle.plan_steps.specs.Laws.Next.{no_step_ends}
use Rattle.plan_steps.specs.Left.{written_left, text_left, going_left, pieces_left, coming_left, file_left, left_of}

-- ---- one file

written_none : (pieces : ℕ) (stage : Stage) → (written_left pieces stage ≡ 0) ↔ (is_last_stage false stage ≡ true)
written_none pieces Absent = (λ e. absurd (omega (arith, e)), λ e. absurd (false≢true e))
written_none pieces Writing = (λ e. absurd (omega (arith, e)), λ e. absurd (false≢true e))
written_none pieces Synced = (λ e. absurd (omega (arith, e)), λ e. absurd (false≢true e))
written_none pieces Registered = (λ e. refl, λ e. refl)
written_none pieces Gone = (λ e. absurd (omega (arith, e)), λ e. absurd (false≢true e))

text_none : (stage : Stage) → (text_left stage ≡ 0) ↔ (is_last_stage false stage ≡ true)
text_none Absent = (λ e. absurd (omega (arith, e)), λ e. absurd (false≢true e))
text_none Writing = (λ e. absurd (omega (arith, e)), λ e. absurd (false≢true e))
text_none Synced = (λ e. absurd (omega (arith, e)), λ e. absurd (false≢true e))
text_none Registered = (λ e. refl, λ e. refl)
text_none Gone = (λ e. absurd (omega (arith, e)), λ e. absurd (false≢true e))

going_none : (stage : Stage) → (going_left stage ≡ 0) ↔ (is_last_stage true stage ≡ true)
going_none Absent = (λ e. absurd (omega (arith, e)), λ e. absurd (false≢true e))
going_none Writing = (λ e. absurd (omega (arith, e)), λ e. absurd (false≢true e))
going_none Synced = (λ e. absurd (omega (arith, e)), λ e. absurd (false≢true e))
going_none Registered = (λ e. absurd (omega (arith, e)), λ e. absurd (false≢true e))
going_none Gone = (λ e. refl, λ e. refl)

coming_none : (plan : Plan) (place n : ℕ) (stage : Stage) (kind : Kind) → (coming_left plan place n stage kind ≡ 0) ↔ (is_last_stage false stage ≡ true)
coming_none plan place n stage Dat = written_none (pieces_left plan place n Dat) stage
coming_none plan place n stage Idx = written_none (pieces_left plan place n Idx) stage
coming_none plan place n stage Cpd = written_none (pieces_left plan place n Cpd) stage
coming_none plan place n stage Cpx = written_none (pieces_left plan place n Cpx) stage
coming_none plan place n stage (Shard i) = written_none (pieces_left plan place n (Shard i)) stage
coming_none plan place n stage Ecx = written_none (pieces_left plan place n Ecx) stage
coming_none plan place n stage Ecj = written_none (pieces_left plan place n Ecj) stage
coming_none plan place n stage Vif = text_none stage

pub file_none : (plan : Plan) (place : ℕ) (s : FileState) → (file_left plan place s ≡ 0) ↔ (is_finished plan s ≡ true)
file_none plan place s = by_found (is_found plan plan.command s.server s.kind)
  where
    by_found : (b : Bool) → ((if b then going_left s.stage else coming_left plan place s.length s.stage s.kind) ≡ 0) ↔ (is_last_stage b s.stage ≡ true)
    by_found true = going_none s.stage
    by_found false = coming_none plan place s.length s.stage s.kind

-- ---- all of them

module _ (plan : Plan) (place : ℕ) where
  left_cons : (s : FileState) (states : List FileState) → left_of plan (s ∷ states) place ≡ file_left plan place s + left_of plan states place
  left_cons s states = sum_by-cons (file_left plan place) s states

  none_all : (states : List FileState) → left_of plan states place ≡ 0 → AreFinished plan states
  none_all [] none k s at = absurd (none_some at)
  none_all (x ∷ states) none zero s at = ap (is_finished plan) (sym (some_is x s at)) ∙ (file_none plan place x).0 (omega (arith, none, left_cons x states))
  none_all (x ∷ states) none (suc k) s at = none_all states (omega (arith, none, left_cons x states)) k s at

  all_none : (states : List FileState) → AreFinished plan states → left_of plan states place ≡ 0
  all_none [] all = refl
  all_none (x ∷ states) all = omega (arith, left_cons x states, (file_none plan place x).1 (all 0 x refl), all_none states (λ k s at. all (suc k) s at))

-- The bound is 0 exactly where there is no next step.
pub left_none : (plan : Plan) (states : List FileState) (place : ℕ) → (left_of plan states place ≡ 0) ↔ (next_step plan states place ≡ None)
left_none plan states place = (
  λ none. (no_step_ends plan states place).1 (none_all plan place states none),
  λ ended. all_none plan place states ((no_step_ends plan states place).0 ended),
)
