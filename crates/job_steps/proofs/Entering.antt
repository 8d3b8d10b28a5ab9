-- A work that was taken is entered: given back, or its job is finished.
use Rattle.std.proofs.Common.{◌≡◌, ℕ, Bool, true, false, Some, None, Ok, refl, sym, ◌∙◌, ap, subst}
use Rattle.std.specs.Prelude.{if◌then◌else◌}
use Rattle.job_board.specs.Jobs.{Jobs, IsOut, volume_for, with_work, without, work_of}
use Rattle.store_jobs.specs.Laws.Board.{out_set, finished_taken, given_back}
use Rattle.job_steps.specs.declared.engine.Work.{Work}
use Rattle.job_steps.specs.declared.engine.Engine.{Engine}
use Rattle.job_steps.specs.Stepping.{HasSlot, HasWork, HasEnded, StepsJob}

module _ {P : Type 0} (job : ℕ) (old new : Engine P) (was : Work P) (had : work_of old.board.unfinished job ≡ Some was) (taken : Jobs (Work P)) (out : taken ≡ with_work old.board job None) where
  pub is_out : IsOut taken.unfinished job
  is_out = subst (λ (b : Jobs (Work P)). IsOut b.unfinished job) (sym out) (out_set job old.board.unfinished was had)

  module _ (last : P) (ended : Bool) (board : new.board ≡ (if ended then without taken job else with_work taken job (Some (record { plan = last; after = was.after })))) where
    -- given back
    pub has_work : ended ≡ false → new.slots ≡ old.slots → HasWork job old new was (record { plan = last; after = was.after })
    has_work is slots = record {
      had = had;
      same_after = refl;
      slots = slots;
      board = given_back old.board taken new.board job (record { plan = last; after = was.after }) out
          (board ∙ ap (λ b. if b then without taken job else with_work taken job (Some (record { plan = last; after = was.after }))) is);
    }

    -- finished
    has_ended : (volume : ℕ) → volume_for old.board.unfinished job ≡ Some volume → ended ≡ true → HasSlot old.slots new.slots volume was.after → HasEnded job old new was
    has_ended volume of_volume is slots = record {
      had = had;
      volume = volume;
      of_volume = of_volume;
      slots = slots;
      board = finished_taken old.board taken new.board job out (board ∙ ap (λ b. if b then without taken job else with_work taken job (Some (record { plan = last; after = was.after }))) is);
    }

  -- by whether it has ended
  pub steps_job : (went : Bool → P → P → Type 0) (last : P) (volume : ℕ) (ended : Bool) → volume_for old.board.unfinished job ≡ Some volume → went ended was.plan last
      → new.board ≡ (if ended then without taken job else with_work taken job (Some (record { plan = last; after = was.after })))
      → (ended ≡ true → HasSlot old.slots new.slots volume was.after) → (ended ≡ false → new.slots ≡ old.slots) → StepsJob job old new went (Ok ended)
  steps_job went last volume true of_volume goes board slot slots = (was, last, has_ended last true board volume of_volume refl (slot refl), goes)
  steps_job went last volume false of_volume goes board slot slots = (was, record { plan = last; after = was.after }, has_work last false board refl (slots refl), goes)
