-- What the answers on a plan's list say.
use Rattle.std.proofs.Common.{◌≡◌, ◌≢◌, ◌⊎◌, inl, inr, ⊎_elim, ℕ, zero, suc, ◌+◌, ◌<◌, ◌≤◌, not, ltb, Bool, true, false, cond, List, [], ◌∷◌, length, Option, Some, None, refl, sym, ◌∙◌, ap, arith}
use Rattle.std.specs.Prelude.{slice_get, ◌==◌, option_map}
use Rattle.std.specs.List.{position, position_or_len}
use Rattle.std.specs.Option.{option_map_or}
use Rattle.std.proofs.lemmas.Bool.{and_parts, and_from, eqb-true, eq-eqb, lt-ltb, false≢true}
use Rattle.std.proofs.lemmas.Bool.Decides.{nat_tests}
use Rattle.image_meaning.specs.Laws.Options.{none_some, some_is}
use Rattle.file_names.specs.declared.Kind.{Kind}
use Rattle.plan_steps.specs.declared.plan.Plan.{Plan}
use Rattle.plan_steps.specs.declared.plan.Stage.{Stage}
use Rattle.plan_steps.specs.declared.plan.Stage.TheVariants.{Absent, Writing, Synced, Registered, Gone}
use Rattle.plan_steps.specs.declared.plan.FileState.{FileState}
use Rattle.plan_steps.specs.Planned.{is_found}
use Rattle.plan_steps.specs.Fitting.{AreStates}
use Rattle.plan_steps.specs.Legal.{HasStage, HasFile}
use Rattle.plan_steps.specs.Listed.{kind_cases}
use Rattle.plan_steps.specs.Walk.{same_kind, is_file, is_registered, is_registered_at, stage_at, has_file}

-- ---- the first that passes

abbrev Looked : (FileState → Bool) → List FileState → ℕ → Type 0
Looked p xs n = ((s : FileState) × (slice_get xs n ≡ Some s) × (p s ≡ true) × (n < length xs)) ⊎ ((length xs ≤ n) × ((k : ℕ) (s : FileState) → slice_get xs k ≡ Some s → p s ≡ false))

look : (p : FileState → Bool) (xs : List FileState) → Looked p xs (position_or_len p xs)
look p [] = inr (omega arith, λ k s e. absurd (none_some e))
look p (x ∷ xs) = by_test (p x) refl (look p xs)
  where
    by_test : (b : Bool) → p x ≡ b → Looked p xs (position_or_len p xs) → Looked p (x ∷ xs) (cond (not b) (1 + position_or_len p xs) 0)
    by_test true e rest = inl (x, refl, e, omega arith)
    by_test false e (inl (s, at, q, less)) =
        let next : 1 + position_or_len p xs ≡ suc (position_or_len p xs) = omega arith in
        inl (s, ap (slice_get (x ∷ xs)) next ∙ at, q, omega (arith, less))
    by_test false e (inr (more, none)) = inr (omega (arith, more), each)
      where
        each : (k : ℕ) (s : FileState) → slice_get (x ∷ xs) k ≡ Some s → p s ≡ false
        each zero s at = ap p (sym (some_is x s at)) ∙ e
        each (suc k) s at = none k s at

-- the place answers where it is, or that none passes
pub place_cases : (p : FileState → Bool) (xs : List FileState)
    → ((at : ℕ) × (s : FileState) × (position p xs ≡ Some at) × (slice_get xs at ≡ Some s) × (p s ≡ true)) ⊎ ((position p xs ≡ None) × ((k : ℕ) (s : FileState) → slice_get xs k ≡ Some s → p s ≡ false))
place_cases p xs = by_look (position_or_len p xs) (look p xs)
  where
    by_look : (n : ℕ) → Looked p xs n
        → ((at : ℕ) × (s : FileState) × (cond (ltb n (length xs)) (Some n) None ≡ Some at) × (slice_get xs at ≡ Some s) × (p s ≡ true)) ⊎ ((cond (ltb n (length xs)) (Some n) None ≡ None) × ((k : ℕ) (s : FileState) → slice_get xs k ≡ Some s → p s ≡ false))
    by_look n (inl (s, at, q, less)) = inl (n, s, ap (λ (b : Bool). cond b (Some n) None) (lt-ltb n (length xs) less), at, q)
    by_look n (inr (more, none)) =
        let over : ltb n (length xs) ≡ false = grind (arith, nat_tests) in
        inr (ap (λ (b : Bool). cond b (Some n) None) over, none)

-- ---- a file

same_kind-true : (a b : Kind) → same_kind a b ≡ true → a ≡ b
same_kind-true a b e = by_cases (kind_cases a b) e
  where
    by_cases : (o : (a ≡ b) ⊎ (a ≢ b)) → ⊎_elim (λ e. true) (λ other. false) o ≡ true → a ≡ b
    by_cases (inl e) h = e
    by_cases (inr other) h = absurd (false≢true h)

pub same_kind-is : (a b : Kind) → a ≡ b → same_kind a b ≡ true
same_kind-is a b e = by_cases (kind_cases a b)
  where
    by_cases : (o : (a ≡ b) ⊎ (a ≢ b)) → ⊎_elim (λ e. true) (λ other. false) o ≡ true
    by_cases (inl e) = refl
    by_cases (inr other) = absurd (other e)

pub file_is : (server : ℕ) (kind : Kind) (s : FileState) → is_file server kind s ≡ true → (s.server ≡ server) × (s.kind ≡ kind)
file_is server kind s e = let both = and_parts (s.server == server) (same_kind s.kind kind) e in (eqb-true s.server server both.0, same_kind-true s.kind kind both.1)

pub is_this : (server : ℕ) (kind : Kind) (s : FileState) → s.server ≡ server → s.kind ≡ kind → is_file server kind s ≡ true
is_this server kind s a b = and_from (s.server == server) (same_kind s.kind kind) (eq-eqb s.server server a) (same_kind-is s.kind kind b)

registered : (stage : Stage) → is_registered stage ≡ true → stage ≡ Registered
registered Absent e = absurd (false≢true e)
registered Writing e = absurd (false≢true e)
registered Synced e = absurd (false≢true e)
registered Registered e = refl
registered Gone e = absurd (false≢true e)

module _ (plan : Plan) (states : List FileState) (server : ℕ) (kind : Kind) where
  abbrev answer : Option ℕ → Bool
  answer place = option_map_or is_registered (stage_at states place) (is_found plan plan.command server kind)

  abbrev of_stage : Option FileState → Bool
  of_stage o = option_map_or is_registered (option_map (λ (s : FileState). s.stage) o) (is_found plan plan.command server kind)

  -- what is answered is so
  pub has_file-true : has_file plan states server kind ≡ true → HasFile plan states server kind
  has_file-true e = ⊎_elim
      (λ found.
      let is = file_is server kind found.1 found.4 in
      inl (found.0, found.1, found.3, is.0, is.1, registered found.1.stage (sym (ap answer found.2 ∙ ap of_stage found.3) ∙ e)))
      (λ none. inr (sym (ap answer none.0) ∙ e, λ k s at a b. false≢true (sym (none.1 k s at) ∙ is_this server kind s a b)))
      (place_cases (is_file server kind) states)

  -- and what is so is answered
  pub has_file-is : AreStates states → HasFile plan states server kind → has_file plan states server kind ≡ true
  has_file-is are has = ⊎_elim
      (λ found.
      let is = file_is server kind found.1 found.4 in
      ap answer found.2 ∙ ap of_stage found.3 ∙ by_file found.0 found.1 found.3 is.0 is.1 has)
      (λ none. ap answer none.0 ∙ by_none none.1 has)
      (place_cases (is_file server kind) states)
    where
      by_file : (at : ℕ) (s : FileState) → slice_get states at ≡ Some s → s.server ≡ server → s.kind ≡ kind → HasFile plan states server kind → is_registered s.stage ≡ true
      by_file at s there a b (inl (k, u, at_k, c, d, stage)) =
          let one : k ≡ at = are.apart k at u s at_k there (c ∙ sym a) (d ∙ sym b) in
          let same : u ≡ s = some_is u s (sym at_k ∙ ap (slice_get states) one ∙ there) in
          ap is_registered (ap (λ (x : FileState). x.stage) (sym same) ∙ stage)
      by_file at s there a b (inr (found, other)) = absurd (other at s there a b)

      by_none : ((k : ℕ) (s : FileState) → slice_get states k ≡ Some s → is_file server kind s ≡ false) → HasFile plan states server kind → is_found plan plan.command server kind ≡ true
      by_none none (inl (k, u, at_k, c, d, stage)) = absurd (false≢true (sym (none k u at_k) ∙ is_this server kind u c d))
      by_none none (inr (found, other)) = found

abbrev pub here : List FileState → Option ℕ → Bool
here states place = option_map_or is_registered (stage_at states place) false

abbrev pub of_file : Option FileState → Bool
of_file o = option_map_or is_registered (option_map (λ (s : FileState). s.stage) o) false

-- a file that is answered to be registered is so
pub registered-true : (states : List FileState) (server : ℕ) (kind : Kind) → is_registered_at states server kind ≡ true → HasStage states server kind Registered
registered-true states server kind e = ⊎_elim
    (λ found.
    let is = file_is server kind found.1 found.4 in
    (found.0, found.1, found.3, is.0, is.1, registered found.1.stage (sym (ap (here states) found.2 ∙ ap of_file found.3) ∙ e)))
    (λ none. absurd (false≢true (sym (ap (here states) none.0) ∙ e)))
    (place_cases (is_file server kind) states)
