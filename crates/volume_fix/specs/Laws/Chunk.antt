-- A walk over bytes that come in parts.
use Rattle.std.proofs.Common.{◌≡◌, ℕ, zero, suc, ◌+◌, ◌-◌, ◌<◌, ◌≤◌, List, [], ◌∷◌, ◌++◌, length, drop, Ok, Err, Result, refl, sym, ap, subst, ◌∙◌, length-append, length-drop, arith}
use Rattle.std.specs.Prelude.{MatchResult, IfOk}
use Rattle.std.proofs.lemmas.Result.{MatchResult-weaker}
use Rattle.std.proofs.Math.Logic.{⊎_elim}
use Rattle.std.proofs.lemmas.Bool.{cases_lt}
use Rattle.std.proofs.lemmas.List.{drop-append-le, drop-drop}
use Rattle.wire_num.specs.Numbers.{number_of}
use Rattle.wire_num.specs.Laws.Number.{number_of-append}
use Rattle.volume_forms.specs.declared.Entry.{Entry}
use Rattle.volume_fix.specs.declared.Past.{Past}
use Rattle.volume_fix.specs.Walk.{header_length, id_of, entry_size, Walk, LeavesNoHeader, entry_if_within, entry_or_past, walk}
use Rattle.volume_fix.specs.Laws.Walk.{EndsWithin, ends_within, with_entries, ended, walk-short, walk-past, walk-found}

-- What a walk over bytes says when more bytes follow: where it came to a next place, it goes on from there, and where it came to a record past the end, it says the same.
abbrev pub GoesOnFrom : Walk → ℕ → ℕ → List ℕ → List ℕ → Type 0
GoesOnFrom w end at bytes more =
    MatchResult w.next
    (λ next. LeavesNoHeader end at (length bytes) next × (walk end at (bytes ++ more) ≡ with_entries w.entries (walk end next (drop (next - at) (bytes ++ more)))))
    (λ past. walk end at (bytes ++ more) ≡ w)

abbrev pub GoesOn : ℕ → ℕ → List ℕ → List ℕ → Type 0
GoesOn end at bytes more = GoesOnFrom (walk end at bytes) end at bytes more

drop-append : (n : ℕ) (xs ys : List ℕ) → drop n (xs ++ ys) ≡ drop n xs ++ drop (n - length xs) ys
drop-append zero xs ys = ap (λ m. xs ++ drop m ys) {x = 0} {y = 0 - length xs} (omega arith)
drop-append (suc n) [] ys = ap (λ m. drop m ys) {x = suc n} {y = suc n - 0} (omega arith)
drop-append (suc n) (x ∷ xs) ys = drop-append n xs ys ∙ ap (λ m. drop n xs ++ drop m ys) {x = n - length xs} {y = suc n - length (x ∷ xs)} (omega arith)

-- what the bytes after a whole header say doesn't matter
entry_or_past-append : (end at : ℕ) (xs ys : List ℕ) → header_length ≤ length xs → entry_or_past end at (xs ++ ys) ≡ entry_or_past end at xs
entry_or_past-append end at xs ys h =
    let id : id_of (xs ++ ys) ≡ id_of xs = ap (number_of 8) (drop-append-le 4 xs ys (omega arith)) ∙ number_of-append 8 (drop 4 xs) ys (omega (arith, length-drop 4 xs)) in
    let size : entry_size (xs ++ ys) ≡ entry_size xs = ap (number_of 4) (drop-append-le 12 xs ys (omega arith)) ∙ number_of-append 4 (drop 12 xs) ys (omega (arith, length-drop 12 xs)) in
    λ i. entry_if_within end at (id i) (size i)

-- fewer bytes than a header has
goes_on-short : (end at : ℕ) (bytes more : List ℕ) → length bytes < header_length → GoesOn end at bytes more
goes_on-short end at bytes more h =
    let none : at - at ≡ 0 = omega arith in
    let on : walk end at (bytes ++ more) ≡ walk end at (drop (at - at) (bytes ++ more)) = ap (λ m. walk end at (drop m (bytes ++ more))) (sym none) in
    subst (λ w. GoesOnFrom w end at bytes more) (sym (walk-short end at bytes h)) (record { onward = omega arith; left = omega arith; within = λ a. a }, on)

-- a record past the end
goes_on-past : (end at : ℕ) (bytes more : List ℕ) (past : Past) → header_length ≤ length bytes → entry_or_past end at bytes ≡ Err past → GoesOn end at bytes more
goes_on-past end at bytes more past h e =
    let both : walk end at (bytes ++ more) ≡ ended (Err past) =
    walk-past end at (bytes ++ more) past (omega (arith, length-append bytes more)) (entry_or_past-append end at bytes more h ∙ e) in
    subst (λ w. GoesOnFrom w end at bytes more) (sym (walk-past end at bytes past h e)) both

-- one record more at the front
goes_on-after : (end at : ℕ) (bytes more : List ℕ) (found : Entry × ℕ) → header_length ≤ length bytes → entry_or_past end at bytes ≡ Ok found
    → (es : List Entry) (next : Result ℕ Past) → GoesOnFrom (record { entries = es; next = next }) end (at + found.1) (drop found.1 bytes) (drop (found.1 - length bytes) more)
    → GoesOnFrom (record { entries = found.0 ∷ es; next = next }) end at bytes more
goes_on-after end at bytes more found h e es next on =
    let one : walk end at (bytes ++ more) ≡ with_entries (found.0 ∷ []) (walk end (at + found.1) (drop found.1 bytes ++ drop (found.1 - length bytes) more)) =
    walk-found end at (bytes ++ more) found (omega (arith, length-append bytes more)) (entry_or_past-append end at bytes more h ∙ e)
    ∙ ap (λ xs. with_entries (found.0 ∷ []) (walk end (at + found.1) xs)) (drop-append found.1 bytes more) in
    by_next one (ends_within end at bytes found e) next on
  where
    by_next : walk end at (bytes ++ more) ≡ with_entries (found.0 ∷ []) (walk end (at + found.1) (drop found.1 bytes ++ drop (found.1 - length bytes) more)) → EndsWithin end at found
        → (next : Result ℕ Past) → GoesOnFrom (record { entries = es; next = next }) end (at + found.1) (drop found.1 bytes) (drop (found.1 - length bytes) more)
        → GoesOnFrom (record { entries = found.0 ∷ es; next = next }) end at bytes more
    by_next one far (Err past) on = one ∙ ap (with_entries (found.0 ∷ [])) on
    by_next one far (Ok place) on =
        let known = on.0 in
        let whole : found.1 + (place - (at + found.1)) ≡ place - at = omega (arith, known.onward) in
        let rest : drop (place - (at + found.1)) (drop found.1 bytes ++ drop (found.1 - length bytes) more) ≡ drop (place - at) (bytes ++ more) =
        ap (drop (place - (at + found.1))) (sym (drop-append found.1 bytes more)) ∙ drop-drop (place - (at + found.1)) found.1 (bytes ++ more) ∙ ap (λ m. drop m (bytes ++ more)) whole in (
          record {
            onward = omega (arith, known.onward);
            left = omega (arith, known.left, length-drop found.1 bytes);
            within = λ b. known.within far.within;
          },
          one ∙ ap (with_entries (found.0 ∷ [])) on.1 ∙ ap (λ xs. with_entries (found.0 ∷ es) (walk end place xs)) rest,
        )

by_record : (end at : ℕ) (bytes more : List ℕ) → header_length ≤ length bytes
    → ((found : Entry × ℕ) → EndsWithin end at found → GoesOn end (at + found.1) (drop found.1 bytes) (drop (found.1 - length bytes) more))
    → (r : Result (Entry × ℕ) Past) → entry_or_past end at bytes ≡ r → GoesOn end at bytes more
by_record end at bytes more whole on (Err past) e = goes_on-past end at bytes more past whole e
by_record end at bytes more whole on (Ok found) e =
    let rest : Walk = walk end (at + found.1) (drop found.1 bytes) in
    subst (λ w. GoesOnFrom w end at bytes more) (sym (walk-found end at bytes found whole e))
    (goes_on-after end at bytes more found whole e rest.entries rest.next (on found (ends_within end at bytes found e)))

goes_on_within : (most end at : ℕ) (bytes more : List ℕ) → length bytes ≤ most → GoesOn end at bytes more
goes_on_within zero end at bytes more h = goes_on-short end at bytes more (omega arith)
goes_on_within (suc most) end at bytes more h =
    ⊎_elim (goes_on-short end at bytes more)
    (λ whole. by_record end at bytes more whole (λ found far. goes_on_within most end (at + found.1) (drop found.1 bytes) (drop (found.1 - length bytes) more) (omega (arith, far.least, length-drop found.1 bytes))) (entry_or_past end at bytes) refl)
    (cases_lt (length bytes) header_length)

pub goes_on : (end at : ℕ) (bytes more : List ℕ) → GoesOn end at bytes more
goes_on end at bytes more = goes_on_within (length bytes) end at bytes more (omega arith)

-- where a walk came to
pub leaves_no_header : (end at : ℕ) (bytes : List ℕ) (r : Result ℕ Past) → r ≡ (walk end at bytes).next → IfOk r (LeavesNoHeader end at (length bytes))
leaves_no_header end at bytes r e =
    subst (λ n. IfOk n (LeavesNoHeader end at (length bytes))) (sym e) (MatchResult-weaker (walk end at bytes).next (goes_on end at bytes []) (λ next k. k.0) (λ past k. tt))
