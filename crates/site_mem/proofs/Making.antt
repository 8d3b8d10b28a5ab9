-- What a call of a site in memory leaves.
use Rattle.std.proofs.Common.{◌≡◌, ◌⊎◌, inl, inr, ℕ, ◌+◌, ◌-◌, ◌^◌, ◌≤◌, ◌&&◌, ◌||◌, not, min, Bool, true, false, IsTrue, cond, None, get_or, refl, sym, ◌∙◌, ap, subst, arith}
use Rattle.std.specs.Int.{from_bool}
use Rattle.site_mem.specs.Held.{disk_held, call_held}
use Rattle.site_mem.specs.declared.mem.MemSite.{MemSite}
use Rattle.site_mem.specs.declared.history.History.{History}
use Rattle.site_mem.specs.declared.listed.Listed.{Listed}
use Rattle.site_mem.specs.Events.{Event}
use Rattle.site_mem.specs.Record.{nothing}
use Rattle.site_mem.specs.Failing.{lists}
use Rattle.site_mem.specs.Calls.{call_of, at_call, Begins}
use Rattle.site_mem.specs.Site.{disk_at, next_at, wants_at, fails_at, call_at, KeepsListed, Makes, Looks}
use Rattle.site_mem.proofs.Calling.{Steps, begins_stepped, earlier_stepped, begins_look}

pub keeps_listed : (old new : MemSite) → new.listed ≡ old.listed → KeepsListed old new
keeps_listed old new same = record {
  fails = λ number. ap (λ (l : Listed). lists l.calls.items number) same;
  reads_fail = λ server. ap (λ (l : Listed). get_or l.reads server None) same;
}

-- nothing is asked
pub looks : (failed : Bool) (old new : MemSite) → new.history ≡ old.history → new.listed ≡ old.listed → new.wants ≡ old.wants → new.tally.calls ≡ next_at old → Looks failed old new (IsTrue failed)
unfolding disk_held call_held
looks failed old new same listed wants calls = record {
  calls = calls;
  listed = λ on. on;
  only_listed = λ on. on;
  wants = wants;
  keeps = keeps_listed old new listed;
  earlier = λ can number sooner. ap (λ (h : History). at_call number nothing h.entries.items h.lost.since) same;
  begins = λ can. subst (λ (h : History). Begins (disk_at old) None (at_call (next_at old) nothing h.entries.items h.lost.since)) (sym same)
      (begins_look old.tally.calls (next_at old) old.history.entries.items old.history.lost.since (omega (arith, can)) old.numbered old.since);
}

-- What was asked was recorded or not, and failed or not.
module _ (event : Event) (old new : MemSite) (number : ℕ) (listed made entered : Bool) (next : number ≡ next_at old) (lists : listed ≡ fails_at old number) (is_made : made ≡ entered) (steps : Steps number (not listed) event old.history new.history entered) where
  same_steps : Steps (next_at old) (not (fails_at old (next_at old))) event old.history new.history made
  same_steps =
      subst (λ e. Steps (next_at old) (not (fails_at old (next_at old))) event old.history new.history e) (sym is_made)
      (subst (λ b. Steps (next_at old) (not b) event old.history new.history entered) (lists ∙ ap (λ n. fails_at old n) next)
      (subst (λ n. Steps n (not listed) event old.history new.history entered) next steps))

  pub makes : (failed : Bool) (wanting : ℕ) → failed ≡ (listed || not made) → new.listed ≡ old.listed → wants_at old ≤ 2 ^ 64 - 1 → wanting ≡ from_bool (not listed && not made) → new.wants ≡ min (old.wants + wanting) (2 ^ 64 - 1) → new.tally.calls ≡ next_at old
      → Makes event old new failed
  unfolding disk_held call_held
  makes failed wanting fails same fits more wants calls = record {
    calls = calls;
    listed = λ on. fails ∙ ap (λ b. b || not made) (is_listed ∙ on);
    wants = wants ∙ ap (λ n. min (old.wants + n) (2 ^ 64 - 1)) more ∙ counted listed made ∙ ap (λ b. cond (b && not listed) (min (old.wants + 1) (2 ^ 64 - 1)) old.wants) (sym fails)
        ∙ ap (λ b. cond (failed && not b) (min (old.wants + 1) (2 ^ 64 - 1)) old.wants) is_listed;
    keeps = keeps_listed old new same;
    earlier = λ can number sooner. earlier_stepped old.tally.calls number made same_steps (omega (arith, can)) sooner;
    begins = λ can. either made fails (begins_stepped old.tally.calls made same_steps (omega (arith, can)) old.numbered old.since);
  }
    where
      is_listed : listed ≡ fails_at old (next_at old)
      is_listed = lists ∙ ap (λ n. fails_at old n) next

      counted : (b e : Bool) → min (old.wants + from_bool (not b && not e)) (2 ^ 64 - 1) ≡ cond ((b || not e) && not b) (min (old.wants + 1) (2 ^ 64 - 1)) old.wants
      counted true true = omega (arith, fits)
      counted true false = omega (arith, fits)
      counted false true = omega (arith, fits)
      counted false false = refl

      or_true : (b : Bool) → (b || true) ≡ true
      or_true true = refl
      or_true false = refl

      either : (e : Bool) → failed ≡ (listed || not e) → Begins (disk_at old) (cond e (call_of event) None) (call_at new (next_at old))
          → Begins (disk_at old) (call_of event) (call_at new (next_at old)) ⊎ ((failed ≡ true) × Begins (disk_at old) None (call_at new (next_at old)))
      either true fails begins = inl begins
      either false fails begins = inr (fails ∙ or_true listed, begins)

-- a call that didn't fail was recorded and not listed
pub carried : (listed made : Bool) → (listed || not made) ≡ false → (made ≡ true) × (not listed ≡ true)
carried true made off = absurd (cc off)
carried false true off = (refl, refl)
carried false false off = absurd (cc off)
