-- Steps that read before they append.
use Rattle.std.proofs.Common.{◌≡◌, inl, ℕ, ◌+◌, ◌<◌, ◌≤◌, Result, Ok, Err, refl, sym, subst, arith}
use Rattle.std.specs.Prelude.{IsErrOf}
use Rattle.site_model.specs.Disk.{Disk}
use Rattle.site_model.specs.Counts.{Counts, TakesCalls, widest_piece}
use Rattle.site_model.specs.Laws.Count.{calls_on_anywhere, rose_after, takes_on, takes_within, takes_write}
use Rattle.site_model.specs.Touches.{touches_none}
use Rattle.site_model.specs.declared.error.DeviceFault.{DeviceFault}
use Rattle.stripe_layout.specs.declared.Info.{Info}
use Rattle.shard_table.specs.Table.{Row}
use Rattle.image_meaning.specs.Meaning.{max_volumes}
use Rattle.image_meaning.specs.Share.{share_of, few_none, few_more}
use Rattle.degraded_read.specs.Reads.{OnlyReads}
use Rattle.plan_steps.specs.declared.step.Step.{Step}
use Rattle.plan_steps.specs.Laws.Progress.{progress_firm}
use Rattle.plan_steps.specs.Laws.Run.{temps_keep}
use Rattle.plan_steps.specs.Progressing.{Running}
use Rattle.plan_steps.specs.Stepping.{TriesStep}
use Rattle.plan_run.specs.Copying.{FailsWritingOrFew}
use Rattle.plan_run.specs.Faults.{WritesAt}
use Rattle.plan_run.specs.Stepping.{Steps, TakesFew}
use Rattle.plan_run.proofs.Moved.{writes_few, writes_wrote}

module _ (r : Running) (below : r.plan.volume < max_volumes) (old : Disk) where
  looked : TriesStep r old old
  looked = record {
    touches = touches_none old;
    few = few_more (omega arith) (few_none old.files);
    keeps = λ w f row start fits. temps_keep r.plan below f start old (progress_firm w f r row start (share_of old.files r.plan.volume) fits) fits.fits.kept (touches_none old);
  }

  -- a read that fails leaves the step undone
  pub undone : {A : Type 0} (tells : Type 0) (by : Step) (mid : Disk) → (tells → mid ≡ old) → (fault : DeviceFault) → Steps {A = A} tells r by r (Err fault) old mid
  undone tells by mid same fault = record { tried = λ t. subst (TriesStep r old) (sym (same t)) looked; taken = tt; same = refl }

-- of fewer calls
pub reads_within : {S : Type 0} {tells : Type 0} {disk : S → Disk} {counts : S → Counts} {count : S → ℕ} {old mid : S} {n : ℕ} {F : ℕ → Type 0} → n ≤ 16 → OnlyReads tells disk counts count (TakesCalls n widest_piece) old mid F
    → OnlyReads tells disk counts count (TakesCalls 16 widest_piece) old mid F
reads_within few reads = record { same = reads.same; calls = takes_within few (omega arith) reads.calls; runs = reads.runs }

module _ {A S : Type 0} {tells : Type 0} {disk : S → Disk} {counts : S → Counts} {count : S → ℕ} {old mid : S} where
  pub read_few : (read : Result A DeviceFault) → OnlyReads tells disk counts count (TakesCalls 16 widest_piece) old mid (λ s. IsErrOf read (record { server = s })) → TakesFew counts count read old mid
  read_few read reads = record { takes = takes_within (omega arith) (omega arith) reads.calls; runs = reads.runs }

  module _ {new : S} {F : ℕ → Type 0} where
    pub then_few : (result : Result A DeviceFault) {server width : ℕ} → OnlyReads tells disk counts count (TakesCalls 16 widest_piece) old mid F → WritesAt counts count server width result mid new → width ≤ widest_piece
        → TakesFew counts count result old new
    then_few result reads did narrow = record {
      takes = takes_within {m = 16 + 1} (omega arith) (omega arith) (takes_on {n = 1} reads.calls (takes_within (omega arith) narrow (takes_write did.counted)));
      runs = calls_on_anywhere reads.runs (writes_few result did narrow).runs;
    }

    pub then_fails : (info : Info) (row : Row) (result : Result A DeviceFault) {server width : ℕ} → OnlyReads tells disk counts count (TakesCalls 16 widest_piece) old mid F → WritesAt counts count server width result mid new
        → FailsWritingOrFew counts info row result old new
    then_fails info row (Ok value) reads did = tt
    then_fails info row (Err fault) reads did =
        inl (rose_after ((counts old).write_faults fault.server) ((counts mid).write_faults fault.server) ((counts new).write_faults fault.server) (reads.runs.later.write_faults fault.server)
        (writes_wrote counts count mid new (Err fault) did))
