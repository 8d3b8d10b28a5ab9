-- What the counts of single calls come to over a run of calls.
use Rattle.std.specs.Prelude.{◌≡◌, ◌≢◌, ℕ, ◌+◌, ◌≤◌}
use Rattle.std.proofs.Common.{inl, inr, ◌∙◌, ap, refl, subst, sym, arith}
use Rattle.std.proofs.lemmas.Bool.{cases_eq}
use Rattle.site_model.specs.Counts.{Counts, Rose, CountsRead, CountsWrite, CountsSay, HasCause, IsLater, TakesCalls, Calls, CallsAt, widest_piece}

-- What rose within a run rose in it.
pub rose_after : (before mid now : ℕ) → before ≤ mid → Rose mid now → Rose before now
rose_after before mid now later rose = omega arith

pub later_none : (counts : Counts) → IsLater counts counts
later_none counts = record { faults = λ s. omega arith; write_faults = λ s. omega arith; say_faults = omega arith; calls = omega arith }

pub takes_none : {width : ℕ} (counts : Counts) → TakesCalls 0 width counts counts
takes_none counts = record { no_fewer = omega arith; no_more = omega arith; no_wider = omega arith }

pub later_on : {old mid new : Counts} → IsLater old mid → IsLater mid new → IsLater old new
later_on first second = record {
  faults = λ s. omega (arith, first.faults s, second.faults s);
  write_faults = λ s. omega (arith, first.write_faults s, second.write_faults s);
  say_faults = omega (arith, first.say_faults, second.say_faults);
  calls = omega (arith, first.calls, second.calls);
}

pub takes_on : {m n width : ℕ} {old mid new : Counts} → TakesCalls m width old mid → TakesCalls n width mid new → TakesCalls (m + n) width old new
takes_on first second = record {
  no_fewer = omega (arith, first.no_fewer, second.no_fewer);
  no_more = omega (arith, first.no_more, second.no_more);
  no_wider = omega (arith, first.no_wider, second.no_wider);
}

-- no more and no wider than this is no more and no wider than that
pub takes_within : {m n width wider : ℕ} {old new : Counts} → m ≤ n → width ≤ wider → TakesCalls m width old new → TakesCalls n wider old new
takes_within more wide takes = record {
  no_fewer = takes.no_fewer;
  no_more = omega (arith, takes.no_more);
  no_wider = omega (arith, takes.no_wider);
}

-- a count at every server, from that at one and that it is the same at the others
each_server : (server : ℕ) (old new : ℕ → ℕ) → old server ≤ new server → ((s : ℕ) → s ≢ server → new s ≡ old s) → (s : ℕ) → old s ≤ new s
each_server server old new here others s = elim (cases_eq s server) [
  | inl e ↦ subst (λ t. old t ≤ new t) (sym e) here
  | inr other ↦ omega (arith, others s other)
]

module _ {server width : ℕ} {old new : Counts} {F : Type 0} where
  pub cause_read : CountsRead server width old new F → HasCause server old new F
  cause_read did = record { later = did.later; others = did.others; failed = did.failed }

  pub later_read : CountsRead server width old new F → IsLater old new
  later_read did = record {
    faults = each_server server old.faults new.faults did.later did.others;
    write_faults = λ s. omega (arith, ap (λ (f : ℕ → ℕ). f s) did.writes);
    say_faults = omega (arith, did.says);
    calls = did.calls_rise;
  }

  pub takes_read : CountsRead server width old new F → TakesCalls 1 width old new
  takes_read did = record { no_fewer = did.calls_rise; no_more = did.calls_once; no_wider = omega (arith, did.widest) }

  pub later_write : CountsWrite server width old new F → IsLater old new
  later_write did = record {
    faults = each_server server old.faults new.faults did.later did.others;
    write_faults = each_server server old.write_faults new.write_faults did.writes_later did.writes_others;
    say_faults = omega (arith, did.says);
    calls = did.calls_rise;
  }

  pub takes_write : CountsWrite server width old new F → TakesCalls 1 width old new
  takes_write did = record { no_fewer = did.calls_rise; no_more = did.calls_once; no_wider = omega (arith, did.widest) }

module _ {old new : Counts} {F : Type 0} where
  pub later_say : CountsSay old new F → IsLater old new
  later_say did = record {
    faults = λ s. omega (arith, ap (λ (f : ℕ → ℕ). f s) did.faults);
    write_faults = λ s. omega (arith, ap (λ (f : ℕ → ℕ). f s) did.writes);
    say_faults = did.later;
    calls = did.calls_rise;
  }

-- ---- what stands on every function

module _ {A : Type 0} {counts : A → Counts} {servers : A → ℕ} where
  -- nothing was called
  pub calls_none : {server : ℕ} (at : A) → CallsAt counts servers server at at ⊥
  calls_none at = record {
    later = later_none (counts at);
    others = λ s other. refl;
    failed = λ none. absurd none;
    says = refl;
    servers = refl;
    no_wider = omega arith;
  }

  pub calls_nowhere : (at : A) → Calls counts servers at at (λ server. ⊥)
  calls_nowhere at = record {
    later = later_none (counts at);
    failed = λ server none. absurd none;
    says = refl;
    servers = refl;
    no_wider = omega arith;
  }

  -- one call of a device
  pub calls_read : {server width : ℕ} {F : Type 0} {old new : A} → width ≤ widest_piece → CountsRead server width (counts old) (counts new) F → servers new ≡ servers old → CallsAt counts servers server old new F
  calls_read narrow did same = record {
    later = later_read did;
    others = did.others;
    failed = did.failed;
    says = did.says;
    servers = same;
    no_wider = omega (arith, did.widest);
  }

  pub calls_write : {server width : ℕ} {F : Type 0} {old new : A} → width ≤ widest_piece → CountsWrite server width (counts old) (counts new) F → servers new ≡ servers old → CallsAt counts servers server old new F
  calls_write narrow did same = record {
    later = later_write did;
    others = did.others;
    failed = did.failed;
    says = did.says;
    servers = same;
    no_wider = omega (arith, did.widest);
  }

  -- calls after others that didn't fail
  pub calls_on : {server : ℕ} {F G : Type 0} {old mid new : A} → CallsAt counts servers server old mid F → CallsAt counts servers server mid new G → CallsAt counts servers server old new G
  calls_on {server} first second = record {
    later = later_on first.later second.later;
    others = λ s other. second.others s other ∙ first.others s other;
    failed = λ f. omega (arith, first.later.faults server, second.failed f);
    says = second.says ∙ first.says;
    servers = second.servers ∙ first.servers;
    no_wider = omega (arith, first.no_wider, second.no_wider);
  }

  pub calls_on_anywhere : {F G : ℕ → Type 0} {old mid new : A} → Calls counts servers old mid F → Calls counts servers mid new G → Calls counts servers old new G
  calls_on_anywhere first second = record {
    later = later_on first.later second.later;
    failed = λ server f. omega (arith, first.later.faults server, second.failed server f);
    says = second.says ∙ first.says;
    servers = second.servers ∙ first.servers;
    no_wider = omega (arith, first.no_wider, second.no_wider);
  }

  -- calls at one server are calls
  pub calls_anywhere : {server : ℕ} {F : Type 0} {old new : A} → CallsAt counts servers server old new F → Calls counts servers old new (λ s. (s ≡ server) × F)
  calls_anywhere {server} {F} {old} {new} did = record {
    later = did.later;
    failed = λ s told. subst (λ t. Rose ((counts old).faults t) ((counts new).faults t)) (sym told.0) (did.failed told.1);
    says = did.says;
    servers = did.servers;
    no_wider = did.no_wider;
  }

  -- another word for what is told
  pub calls_told : {F G : ℕ → Type 0} {old new : A} → ((server : ℕ) → G server → F server) → Calls counts servers old new F → Calls counts servers old new G
  calls_told told did = record {
    later = did.later;
    failed = λ server g. did.failed server (told server g);
    says = did.says;
    servers = did.servers;
    no_wider = did.no_wider;
  }

  -- nothing is told of calls that didn't fail
  pub calls_untold : {F : ℕ → Type 0} {old new : A} → Calls counts servers old new F → Calls counts servers old new (λ server. ⊥)
  calls_untold did = calls_told (λ server none. absurd none) did

  pub calls_failed : {server : ℕ} {F G : Type 0} {old new : A} → (G → F) → CallsAt counts servers server old new F → CallsAt counts servers server old new G
  calls_failed failed did = record {
    later = did.later;
    others = did.others;
    failed = λ g. did.failed (failed g);
    says = did.says;
    servers = did.servers;
    no_wider = did.no_wider;
  }
