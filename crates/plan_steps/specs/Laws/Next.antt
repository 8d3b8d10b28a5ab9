-- What the next step is, and that there is none exactly at the end.
-- That a plan is sized is for `plan_run`, whose running plans are to come.
use Rattle.std.proofs.Common.{◌≡◌, ◌⊎◌, ⊎_elim, ℕ, not, Bool, true, false, List, None, refl, sym, ◌∙◌, ap}
use Rattle.std.specs.Prelude.{◌↔◌}
use Rattle.std.proofs.lemmas.Bool.{false≢true}
use Rattle.image_meaning.specs.Laws.Options.{none_some}
use Rattle.plan_steps.specs.declared.plan.Plan.{Plan}
use Rattle.plan_steps.specs.declared.plan.FileState.{FileState}
use Rattle.plan_steps.specs.Walk.{is_finished, is_open, AreFinished}
use Rattle.plan_steps.specs.Laws.Walk.{place_cases}
use Rattle.plan_steps.specs.Next.{IsSized, file_at, step_at, next_step}
use Rattle.plan_steps.specs.Plans.{IsPlan}

not_open : (b : Bool) → not b ≡ false → b ≡ true
not_open true e = refl
not_open false e = absurd (false≢true (sym e))

not_done : (b : Bool) → not b ≡ true → b ≡ true → ⊥
not_done true e h = false≢true e
not_done false e h = false≢true h

-- There is no next step exactly where all files of the list are finished.
pub no_step_ends : (plan : Plan) (states : List FileState) (place : ℕ) → (next_step plan states place ≡ None) ↔ AreFinished plan states
no_step_ends plan states place = ⊎_elim
    (λ found. (
      λ none. absurd (none_some (sym none ∙ ap (λ o. step_at plan states place (file_at states o)) found.2 ∙ ap (step_at plan states place) found.3)),
      λ all. absurd (not_done (is_finished plan found.1) found.4 (all found.0 found.1 found.3)),
    ))
    (λ none. (
      λ _ k s at. not_open (is_finished plan s) (none.1 k s at),
      λ all. ap (λ o. step_at plan states place (file_at states o)) none.0,
    ))
    (place_cases (is_open plan) states)

-- The numbers of a plan of a volume are in range.
pub plan_sized : (plan : Plan) (servers : ℕ) → IsPlan plan servers → IsSized plan
plan_sized plan servers is = record { geometry = is.geometry; room = is.room; entries = is.entries; count = is.count }
