-- Reads one after the other.
use Rattle.std.proofs.Common.{ℕ, ◌≤◌, refl, ◌∙◌}
use Rattle.site_model.specs.Disk.{Disk}
use Rattle.site_model.specs.Counts.{Counts, CallsAt, TakesCalls, widest_piece}
use Rattle.site_model.specs.Laws.Count.{calls_nowhere, calls_on_anywhere, calls_read, takes_read}
use Rattle.degraded_read.specs.Reads.{OnlyReads, ReadsOnce}

module _ {A : Type 0} {tells : Type 0} {disk : A → Disk} {counts : A → Counts} {count : A → ℕ} where
  pub reads_none : {P : Counts → Counts → Type 0} (at : A) → P (counts at) (counts at) → OnlyReads tells disk counts count P at at (λ s. ⊥)
  reads_none at none = record { same = λ told. refl; calls = none; runs = calls_nowhere at }

  pub reads_on : {P Q R : Counts → Counts → Type 0} {F G : ℕ → Type 0} {old mid new : A} → (P (counts old) (counts mid) → Q (counts mid) (counts new) → R (counts old) (counts new))
      → OnlyReads tells disk counts count P old mid F → OnlyReads tells disk counts count Q mid new G → OnlyReads tells disk counts count R old new G
  reads_on both first second = record {
    same = λ told. second.same told ∙ first.same told;
    calls = both first.calls second.calls;
    runs = calls_on_anywhere first.runs second.runs;
  }

  -- the same reads, in other words
  pub reads_so : {P Q : Counts → Counts → Type 0} {F : ℕ → Type 0} {old new : A} → (P (counts old) (counts new) → Q (counts old) (counts new)) → OnlyReads tells disk counts count P old new F → OnlyReads tells disk counts count Q old new F
  reads_so so did = record { same = did.same; calls = so did.calls; runs = did.runs }

  pub reads_once : {server width : ℕ} {F : Type 0} {old new : A} → width ≤ widest_piece → ReadsOnce tells disk counts count server width old new F → OnlyReads tells disk counts count (TakesCalls 1 width) old new (λ s. ⊥)
  reads_once {server} {width} {F} {old} {new} narrow did =
      let at : CallsAt counts count server old new F = calls_read narrow did.counts_read did.servers in
      record {
        same = did.same;
        calls = takes_read did.counts_read;
        runs = record { later = at.later; failed = λ s none. absurd none; says = at.says; servers = at.servers; no_wider = at.no_wider };
      }
