-- The lowest server that failed, over several reads.
use Rattle.std.proofs.Common.{◌≡◌, ◌⊎◌, inl, inr, ℕ, Option, None, Some, refl, sym, subst, arith, Result, Err}
use Rattle.std.specs.Prelude.{IfErr}
use Rattle.site_model.specs.Counts.{Counts, Rose, IsLater}
use Rattle.site_model.specs.Laws.Count.{later_none, later_on}
use Rattle.site_model.specs.declared.error.DeviceFault.{DeviceFault}
use Rattle.site_model.specs.Disk.{Disk}
use Rattle.world_model.specs.declared.types.Ratio.{Ratio}
use Rattle.shard_table.specs.Table.{Row}
use Rattle.degraded_read.specs.Reads.{FailsBy, IsBlamed, IsFew, OnlyReads, StaysBlamed}
use Rattle.degraded_read.proofs.Filling.{on_err}
use Rattle.degraded_read.specs.Reading.{NoneRose}

-- the server that is told stays one whose faults rose
pub blamed_later : (old now new : Counts) (failed : Option ℕ) → IsLater now new → IsBlamed failed old now → IsBlamed failed old new
blamed_later old now new None later blamed = tt
blamed_later old now new (Some s) later blamed = omega (arith, later.faults s, blamed)

-- the lower of the server that failed before and the one that failed now
pub blamed_next : (old now new : Counts) (failed : Option ℕ) (server told : ℕ) → IsLater old now → IsLater now new → Rose (now.faults server) (new.faults server) → IsBlamed failed old now → (told ≡ server) ⊎ (failed ≡ Some told)
    → IsBlamed (Some told) old new
blamed_next old now new failed server told before later risen blamed (inl here) = subst (λ s. Rose (old.faults s) (new.faults s)) (sym here) (omega (arith, before.faults server, risen))
blamed_next old now new failed server told before later risen blamed (inr other) =
    let was : Rose (old.faults told) (now.faults told) = subst (λ f. IsBlamed f old now) other blamed in
    omega (arith, was, later.faults told)

pub some_none : {s : ℕ} → Some s ≡ None → ⊥
some_none e = cc

pub stays_same : (failed : Option ℕ) (counts : Counts) → StaysBlamed failed failed counts counts
stays_same failed counts = record { kept = λ none. none; rose = λ old before was. was }

-- nothing failed
pub stays_later : (failed : Option ℕ) (start end : Counts) → IsLater start end → StaysBlamed failed failed start end
stays_later failed start end later = record { kept = λ none. none; rose = λ old before was. blamed_later old start end failed later was }

-- a read failed
pub stays_next : (failed : Option ℕ) (server told : ℕ) (start end : Counts) → IsLater start end → Rose (start.faults server) (end.faults server) → (told ≡ server) ⊎ (failed ≡ Some told) → StaysBlamed failed (Some told) start end
stays_next failed server told start end later risen is = record {
  kept = λ none. absurd (some_none none);
  rose = λ old before was. blamed_next old start end failed server told before later risen was is;
}

pub stays_on : {first next last : Option ℕ} {start mid end : Counts} → IsLater start mid → StaysBlamed first next start mid → StaysBlamed next last mid end → StaysBlamed first last start end
stays_on later one two = record {
  kept = λ none. one.kept (two.kept none);
  rose = λ old before was. two.rose old (later_on before later) (one.rose old before was);
}

-- none failed where no server's faults rose
pub none_told : {last : Option ℕ} {start end : Counts} → StaysBlamed None last start end → NoneRose start end → last ≡ None
none_told {last} {start} {end} stays none = by_case last (stays.rose start (later_none start) tt)
  where
    by_case : (o : Option ℕ) → IsBlamed o start end → o ≡ None
    by_case None blamed = refl
    by_case (Some s) blamed = absurd (none s blamed)

-- the faults rose of a server that is told after none was
pub told_rose : {server : ℕ} {last : Option ℕ} {start end : Counts} → last ≡ Some server → StaysBlamed None last start end → Rose (start.faults server) (end.faults server)
told_rose {server} {last} {start} {end} is stays = subst (λ f. IsBlamed f start end) is (stays.rose start (later_none start) tt)

-- ---- a read that fails

server_told : {A : Type 0} (result : Result A DeviceFault) (last : Option ℕ) (server : ℕ) → IfErr result (λ fault. last ≡ Some fault.server) → result ≡ Err (record { server = server }) → last ≡ Some server
server_told result last server told is = subst (λ r. IfErr r (λ fault. last ≡ Some fault.server)) is told

module _ {A : Type 0} {r : Ratio} {row : Row} {result : Result A DeviceFault} where
  -- after other reads
  pub fails_on : {first next last : Option ℕ} {start mid end : Counts} → IsLater start mid → StaysBlamed first next start mid → FailsBy r row result next last mid end → FailsBy r row result first last start end
  fails_on later one two = record {
    stays = stays_on later one two.stays;
    told = two.told;
    few = on_err result (λ fault few old before. few old (later_on before later)) two.few;
  }

  -- few shards are on reliable servers since the start
  pub few_since : {first last : Option ℕ} {start end : Counts} → FailsBy r row result first last start end → IfErr result (λ _. IsFew r row start end)
  few_since {start = start} fails = on_err result (λ fault few. few start (later_none start)) fails.few

  -- the server that is told failed
  pub reads_told : {B : Type 0} {tells : Type 0} {disk : B → Disk} {counts : B → Counts} {count : B → ℕ} {P : Counts → Counts → Type 0} {old new : B} {last : Option ℕ} → FailsBy r row result None last (counts old) (counts new)
      → OnlyReads tells disk counts count P old new (λ s. ⊥) → OnlyReads tells disk counts count P old new (λ s. result ≡ Err (record { server = s }))
  reads_told {last = last} fails did = record {
    same = did.same;
    calls = did.calls;
    runs = record {
      later = did.runs.later;
      failed = λ server is. told_rose (server_told result last server fails.told is) fails.stays;
      says = did.runs.says;
      servers = did.runs.servers;
      no_wider = did.runs.no_wider;
    };
  }
