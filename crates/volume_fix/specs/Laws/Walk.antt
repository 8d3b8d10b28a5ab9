-- A walk, record by record.
use Rattle.std.proofs.Common.{◌≡◌, ℕ, zero, suc, ◌+◌, ◌<◌, ◌≤◌, nat_lt, List, [], ◌∷◌, ◌++◌, length, drop, Ok, Err, Result, refl, sym, ap, ◌∙◌, length-drop, arith}
use Rattle.std.proofs.Math.Logic.{⊎_elim}
use Rattle.std.proofs.lemmas.Bool.{lt-ltb, le-ltb, ltb-false, or_parts, cond_both, cond-true, cond-false, cases_lt}
use Rattle.wire_num.specs.Numbers.{record_length}
use Rattle.volume_forms.specs.declared.Entry.{Entry}
use Rattle.volume_forms.specs.Forms.{entry_for}
use Rattle.volume_fix.specs.declared.Past.{Past}
use Rattle.volume_fix.specs.Walk.{header_length, id_of, entry_size, is_past, max_size, Walk, entry_or_past, walk_on, walk_within, walk}

-- what is known of a record that isn't past the end
pub record EndsWithin (end at : ℕ) (e : Entry × ℕ) : Type 0 where
  pub least : 32 ≤ e.1
  pub within : at + e.1 ≤ end

least_length : (size : ℕ) → 32 ≤ record_length size
least_length size = omega arith

pub ends_within : (end at : ℕ) (bytes : List ℕ) (e : Entry × ℕ) → entry_or_past end at bytes ≡ Ok e → EndsWithin end at e
ends_within end at bytes e =
    cond_both (is_past end at (entry_size bytes)) _ _ (λ (r : Result (Entry × ℕ) Past). r ≡ Ok e → EndsWithin end at e)
    (λ past h. absurd cc)
    (λ fine h.
    let same : (entry_for (id_of bytes) at (entry_size bytes), record_length (entry_size bytes)) ≡ e = cc in
    let length_is : record_length (entry_size bytes) ≡ e.1 = ap (λ (f : Entry × ℕ). f.1) same in
    let near : at + record_length (entry_size bytes) ≤ end = ltb-false end (at + record_length (entry_size bytes)) (or_parts _ (nat_lt max_size (entry_size bytes)) fine).0 in
    record { least = omega (arith, least_length (entry_size bytes), length_is); within = omega (arith, near, length_is) })

-- ---- each step

-- entries, and then what a walk tells
abbrev pub with_entries : List Entry → Walk → Walk
with_entries es w = record { entries = es ++ w.entries; next = w.next }

-- a walk that has ended
abbrev pub ended : Result ℕ Past → Walk
ended next = record { entries = []; next = next }

one_on : (more others : ℕ → List ℕ → Walk) (end at : ℕ) (bytes : List ℕ) → ((found : Entry × ℕ) → EndsWithin end at found → more (at + found.1) (drop found.1 bytes) ≡ others (at + found.1) (drop found.1 bytes))
    → (r : Result (Entry × ℕ) Past) → entry_or_past end at bytes ≡ r → walk_on more at bytes r ≡ walk_on others at bytes r
one_on more others end at bytes same (Err past) e = refl
one_on more others end at bytes same (Ok found) e = ap (with_entries (found.0 ∷ [])) (same found (ends_within end at bytes found e))

-- a greater bound on the number of records changes nothing
walk_within-enough : (m n end at : ℕ) (bytes : List ℕ) → length bytes ≤ m → length bytes ≤ n → walk_within m end at bytes ≡ walk_within n end at bytes
unfolding walk_within
walk_within-enough zero zero end at bytes h k = refl
walk_within-enough zero (suc n) end at bytes h k = sym (cond-true _ (ended (Ok at)) _ (lt-ltb (length bytes) header_length (omega arith)))
walk_within-enough (suc m) zero end at bytes h k = cond-true _ (ended (Ok at)) _ (lt-ltb (length bytes) header_length (omega arith))
walk_within-enough (suc m) (suc n) end at bytes h k =
    ⊎_elim (λ l. cond-true _ (ended (Ok at)) _ (lt-ltb (length bytes) header_length l) ∙ sym (cond-true _ (ended (Ok at)) _ (lt-ltb (length bytes) header_length l)))
    (λ g. cond-false _ (ended (Ok at)) _ (le-ltb (length bytes) header_length g)
    ∙ one_on (walk_within m end) (walk_within n end) end at bytes (λ found far. walk_within-enough m n end (at + found.1) (drop found.1 bytes) (omega (arith, length-drop found.1 bytes, far.least)) (omega (arith, length-drop found.1 bytes, far.least))) (entry_or_past end at bytes) refl
    ∙ sym (cond-false _ (ended (Ok at)) _ (le-ltb (length bytes) header_length g)))
    (cases_lt (length bytes) header_length)

-- what the walk has come to behind the whole records that stand at its front
pub walk-short : (end at : ℕ) (bytes : List ℕ) → length bytes < header_length → walk end at bytes ≡ ended (Ok at)
unfolding walk walk_within
walk-short end at [] h = refl
walk-short end at (b ∷ bytes) h = cond-true _ (ended (Ok at)) _ (lt-ltb (length (b ∷ bytes)) header_length h)

pub walk-past : (end at : ℕ) (bytes : List ℕ) (past : Past) → header_length ≤ length bytes → entry_or_past end at bytes ≡ Err past → walk end at bytes ≡ ended (Err past)
unfolding walk walk_within
walk-past end at [] past h e = absurd (omega arith)
walk-past end at (b ∷ bytes) past h e =
    cond-false _ (ended (Ok at)) _ (le-ltb (length (b ∷ bytes)) header_length h) ∙ ap (walk_on (walk_within (length bytes) end) at (b ∷ bytes)) e

pub walk-found : (end at : ℕ) (bytes : List ℕ) (found : Entry × ℕ) → header_length ≤ length bytes → entry_or_past end at bytes ≡ Ok found
    → walk end at bytes ≡ with_entries (found.0 ∷ []) (walk end (at + found.1) (drop found.1 bytes))
unfolding walk walk_within
walk-found end at [] found h e = absurd (omega arith)
walk-found end at (b ∷ bytes) found h e =
    let far = ends_within end at (b ∷ bytes) found e in
    cond-false _ (ended (Ok at)) _ (le-ltb (length (b ∷ bytes)) header_length h) ∙ ap (walk_on (walk_within (length bytes) end) at (b ∷ bytes)) e
    ∙ ap (with_entries (found.0 ∷ []))
    (walk_within-enough (length bytes) (length (drop found.1 (b ∷ bytes))) end (at + found.1) (drop found.1 (b ∷ bytes)) (omega (arith, length-drop found.1 (b ∷ bytes), far.least)) (omega arith))
