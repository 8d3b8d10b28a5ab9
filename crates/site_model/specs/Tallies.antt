-- The counts that an implementation of a site keeps.
use Rattle.std.specs.Prelude.{◌≡◌, ℕ, ◌+◌, ◌-◌, ◌^◌, min, slice_index}
use Rattle.site_model.specs.Counts.{Counts}
use Rattle.site_model.specs.declared.tally.Tally.{Tally}

abbrev pub counts_of : Tally → Counts
counts_of t = record { faults = λ s. slice_index t.faults s; write_faults = λ s. slice_index t.write_faults s; say_faults = t.say_faults; calls = t.calls; widest = t.widest }

-- the number of the next call, which ends at its type's last value
abbrev pub next_call : Tally → ℕ
next_call t = min (t.calls + 1) (2 ^ 64 - 1)

-- nothing was counted
pub record AreNone (c : Counts) : Type 0 where
  pub faults : (s : ℕ) → c.faults s ≡ 0
  pub write_faults : (s : ℕ) → c.write_faults s ≡ 0
  pub say_faults : c.say_faults ≡ 0
  pub calls : c.calls ≡ 0
  pub widest : c.widest ≡ 0
