-- What a scan of an index's entries tells of them.
use Rattle.std.proofs.Common.{◌≡◌, ℕ, zero, suc, min, ◌+◌, ◌-◌, ◌*◌, ◌/◌, ◌%◌, ◌<◌, ◌≤◌, List, [], ◌∷◌, ◌++◌, length, take, drop, Bool, true, false, cond, Some, None, refl, sym, ◌∙◌, ap, subst, arith, append_assoc}
use Rattle.std.specs.Prelude.{◌==◌, ◌&&◌, slice_get}
use Rattle.std.proofs.Math.ListN.{length-append}
use Rattle.std.proofs.Math.Seq.{take-add}
use Rattle.std.proofs.lemmas.List.{take_at, take-append-drop, length-take-le, append-nil}
use Rattle.std.proofs.lemmas.Bool.{ne_eqb, eq-eqb, eqb-true, eqb-false}
use Rattle.volume_forms.specs.declared.Entry.{Entry}
use Rattle.volume_forms.specs.Forms.{entries, entries_within, entry_at}
use Rattle.volume_forms.specs.Kept.{entry_end, kept_length}
use Rattle.volume_forms.specs.Laws.Entry.{entries-append, length-entries}
use Rattle.dat_volume.specs.declared.chain.Chain.{Chain}
use Rattle.dat_volume.specs.Opening.{is_size, chained}
use Rattle.dat_volume.specs.Scanning.{no_chain, with_entry, with_entries, HasChain}

-- ---- the bytes of entries

single : (bytes : List ℕ) → length bytes ≡ 16 → entries bytes ≡ entry_at bytes ∷ []
unfolding entries entries_within
single bytes long = ap (λ n. entries_within (n / 16) bytes) long

-- the first sixteen bytes are the first entry
pub entries-first : (bytes : List ℕ) → 16 ≤ length bytes → entries bytes ≡ entry_at (take 16 bytes) ∷ entries (drop 16 bytes)
entries-first bytes long =
    ap entries (sym (take-append-drop 16 bytes))
    ∙ entries-append 1 (take 16 bytes) (drop 16 bytes) (length-take-le 16 bytes long)
    ∙ ap (λ es. es ++ entries (drop 16 bytes)) (single (take 16 bytes) (length-take-le 16 bytes long))

-- fewer are none
pub entries-none : (bytes : List ℕ) → length bytes < 16 → entries bytes ≡ []
unfolding entries entries_within
entries-none bytes short = ap (λ n. entries_within n bytes) (none (length bytes) short)
  where
    none : (n : ℕ) → n < 16 → n / 16 ≡ 0
    none n h = omega arith

-- ---- one scan after another

pub with_entries-append : (chain : Chain) (es fs : List Entry) → with_entries chain (es ++ fs) ≡ with_entries (with_entries chain es) fs
unfolding with_entries
with_entries-append chain [] fs = refl
with_entries-append chain (e ∷ es) fs = with_entries-append (with_entry chain e) es fs

pub with_entries-first : (chain : Chain) (e : Entry) (es : List Entry) → with_entries chain (e ∷ es) ≡ with_entries (with_entry chain e) es
unfolding with_entries
with_entries-first chain e es = refl

pub with_entries-none : (chain : Chain) → with_entries chain [] ≡ chain
unfolding with_entries
with_entries-none chain = refl

pub with_entries-count : (chain : Chain) (es : List Entry) → (with_entries chain es).count ≡ chain.count + length es
unfolding with_entries
with_entries-count chain [] = omega arith
with_entries-count chain (e ∷ es) = omega (arith, with_entries-count (with_entry chain e) es)

-- the first entry of what is left
pub scan_step : (chain next : Chain) (rest first behind : List ℕ) (e : Entry) → first ≡ take 16 rest → behind ≡ drop 16 rest → 16 ≤ length rest → e ≡ entry_at first → next ≡ with_entry chain e
    → with_entries next (entries behind) ≡ with_entries chain (entries rest)
scan_step chain next rest first behind e front back long reads pushed =
    (λ i. with_entries (pushed i) (entries (back i))) ∙ ap (λ x. with_entries (with_entry chain x) (entries (drop 16 rest))) (reads ∙ ap entry_at front)
    ∙ sym (with_entries-first chain (entry_at (take 16 rest)) (entries (drop 16 rest))) ∙ ap (with_entries chain) (sym (entries-first rest long))

pub scan_end : (chain : Chain) (rest : List ℕ) → length rest < 16 → chain ≡ with_entries chain (entries rest)
scan_end chain rest short = sym (ap (with_entries chain) (entries-none rest short) ∙ with_entries-none chain)

-- ---- what it tells

-- where entries end that begin at this place
ends : ℕ → List Entry → ℕ
ends place [] = place
ends place (e ∷ es) = ends (entry_end e) es

ends-kept_length : (e : Entry) (es : List Entry) → ends (entry_end e) es ≡ kept_length (e ∷ es)
unfolding ends
ends-kept_length e [] = refl
ends-kept_length e (f ∷ es) = ends-kept_length f es

ends_eight : (es : List Entry) → ends 8 es ≡ kept_length es
unfolding ends
ends_eight [] = refl
ends_eight (e ∷ es) = ends-kept_length e es

kept_length-push : (es : List Entry) (e : Entry) → kept_length (es ++ e ∷ []) ≡ entry_end e
kept_length-push [] e = refl
kept_length-push (x ∷ []) e = refl
kept_length-push (x ∷ y ∷ es) e = kept_length-push (y ∷ es) e

slice_get-push : {A : Type 0} (es : List A) (e : A) → slice_get (es ++ e ∷ []) (length es) ≡ Some e
slice_get-push [] e = refl
slice_get-push (x ∷ es) e = slice_get-push es e

slice_get-before : {A : Type 0} (es : List A) (e : A) (j : ℕ) → j < length es → slice_get (es ++ e ∷ []) j ≡ slice_get es j
slice_get-before [] e j h = absurd (omega arith)
slice_get-before (x ∷ es) e zero h = refl
slice_get-before (x ∷ es) e (suc j) h = slice_get-before es e j (omega arith)

-- how many of entries and one more follow each other
chained-push : (place : ℕ) (es : List Entry) (e : Entry)
    → chained place (es ++ e ∷ []) ≡ cond ((chained place es == length es) && (8 * e.offset == ends place es) && is_size e.size) (chained place es + 1) (chained place es)
unfolding chained ends
chained-push place [] e = by_test ((8 * e.offset == place) && is_size e.size)
  where
    by_test : (b : Bool) → cond b (suc 0) 0 ≡ cond b (0 + 1) 0
    by_test true = omega arith
    by_test false = refl
chained-push place (x ∷ es) e = by_first (chained-push (entry_end x) es e) ((8 * x.offset == place) && is_size x.size)
  where
    by_first : chained (entry_end x) (es ++ e ∷ [])
        ≡ cond ((chained (entry_end x) es == length es) && (8 * e.offset == ends (entry_end x) es) && is_size e.size) (chained (entry_end x) es + 1) (chained (entry_end x) es)
        → (b : Bool) → cond b (suc (chained (entry_end x) (es ++ e ∷ []))) 0
        ≡ cond ((cond b (suc (chained (entry_end x) es)) 0 == suc (length es)) && (8 * e.offset == ends (entry_end x) es) && is_size e.size) (cond b (suc (chained (entry_end x) es)) 0 + 1) (cond b (suc (chained (entry_end x) es)) 0)
    by_first more false = sym (ap (λ b. cond (b && (8 * e.offset == ends (entry_end x) es) && is_size e.size) (0 + 1) 0) (ne_eqb 0 (suc (length es)) never))
      where
        never : 0 ≡ suc (length es) → ⊥
        never h = absurd (omega arith)
    by_first more true =
        ap suc more
        ∙ by_both (chained (entry_end x) es == length es) ((8 * e.offset == ends (entry_end x) es)) (is_size e.size)
        ∙ ap (λ b. cond (b && (8 * e.offset == ends (entry_end x) es) && is_size e.size) (suc (chained (entry_end x) es) + 1) (suc (chained (entry_end x) es))) (same_test (chained (entry_end x) es) (length es))
      where
        by_both : (b c d : Bool) → suc (cond (b && c && d) (chained (entry_end x) es + 1) (chained (entry_end x) es)) ≡ cond (b && c && d) (suc (chained (entry_end x) es) + 1) (suc (chained (entry_end x) es))
        by_both false c d = refl
        by_both true false d = refl
        by_both true true false = refl
        by_both true true true = omega arith

        same_test : (m n : ℕ) → (m == n) ≡ (suc m == suc n)
        same_test m n = by_eq (m == n) refl
          where
            by_eq : (b : Bool) → (m == n) ≡ b → b ≡ (suc m == suc n)
            by_eq true h = sym (eq-eqb (suc m) (suc n) (ap suc (eqb-true m n h)))
            by_eq false h = sym (ne_eqb (suc m) (suc n) (λ s. eqb-false m n h (omega arith)))

has_push : (es : List Entry) (chain : Chain) (e : Entry) → HasChain es chain → HasChain (es ++ e ∷ []) (with_entry chain e)
has_push es chain e has = record {
  count = omega (arith, has.count, long);
  chained =
      (λ i. cond ((has.chained i == has.count i) && (8 * e.offset == (has.last_end ∙ sym (ends_eight es)) i) && is_size e.size) (has.chained i + 1) (has.chained i)) ∙ sym (chained-push 8 es e);
  last_end = sym (kept_length-push es e);
  before_end = has.last_end ∙ ap kept_length (sym (take_at es (e ∷ []) (length (es ++ e ∷ []) - 1) front));
  last = sym (slice_get-push es e) ∙ ap (slice_get (es ++ e ∷ [])) front;
  before = λ many. has.last ∙ sym (slice_get-before es e (length es - 1) (omega (arith, long, many))) ∙ ap (slice_get (es ++ e ∷ [])) (number many);
  no_before = λ few. has.last ∙ none es (omega (arith, long, few));
  earlier = λ many. has.before (omega (arith, long, many)) ∙ sym (slice_get-before es e (length es - 2) (omega (arith, long, many))) ∙ ap (slice_get (es ++ e ∷ [])) (number_before many);
  no_earlier = λ few. has.no_before (omega (arith, long, few));
}
  where
    long : length (es ++ e ∷ []) ≡ length es + 1
    long = length-append es (e ∷ [])

    front : length es ≡ length (es ++ e ∷ []) - 1
    front = omega (arith, long)

    number : 2 ≤ length (es ++ e ∷ []) → length es - 1 ≡ length (es ++ e ∷ []) - 2
    number many = omega (arith, long, many)

    number_before : 3 ≤ length (es ++ e ∷ []) → length es - 2 ≡ length (es ++ e ∷ []) - 3
    number_before many = omega (arith, long, many)

    none : (es : List Entry) → length es < 1 → slice_get es (length es - 1) ≡ None
    none [] few = refl
    none (x ∷ es) few = absurd (omega arith)

has_none : HasChain [] no_chain
unfolding chained
has_none = record { count = refl; chained = refl; last_end = refl; before_end = refl; last = refl; before = λ many. absurd (omega arith); no_before = λ few. refl; earlier = λ many. absurd (omega arith); no_earlier = λ few. refl }

has_more : (front es : List Entry) (chain : Chain) → HasChain front chain → HasChain (front ++ es) (with_entries chain es)
unfolding with_entries
has_more front [] chain has = subst (λ fs. HasChain fs chain) (sym (append-nil front)) has
has_more front (e ∷ es) chain has = subst (λ fs. HasChain fs (with_entries (with_entry chain e) es)) (append_assoc front (e ∷ []) es) (has_more (front ++ e ∷ []) es (with_entry chain e) (has_push front chain e has))

pub has_chain : (es : List Entry) → HasChain es (with_entries no_chain es)
has_chain es = has_more [] es no_chain has_none

-- ---- pieces

-- the entries that end behind a piece
pub entries-pieces : (bytes : List ℕ) (at count : ℕ) → at % 16 ≡ 0 → at ≤ length bytes → entries (take (at + count) bytes) ≡ entries (take at bytes) ++ entries (take count (drop at bytes))
entries-pieces bytes at count whole within =
    ap entries (take-add at count bytes)
    ∙ entries-append (at / 16) (take at bytes) (take count (drop at bytes)) (length-take-le at bytes within ∙ omega (arith, whole))

pub scan_more : (bytes : List ℕ) (at count : ℕ) (chain next : Chain) (piece : List ℕ) → at % 16 ≡ 0 → at ≤ length bytes → piece ≡ take count (drop at bytes)
    → chain ≡ with_entries no_chain (entries (take at bytes)) → next ≡ with_entries chain (entries piece) → next ≡ with_entries no_chain (entries (take (at + count) bytes))
scan_more bytes at count chain next piece whole within is so_far goes =
    goes ∙ (λ i. with_entries (so_far i) (entries (is i))) ∙ sym (with_entries-append no_chain (entries (take at bytes)) (entries (take count (drop at bytes)))) ∙ ap (with_entries no_chain) (sym (entries-pieces bytes at count whole within))

pub scan_none : (bytes : List ℕ) → no_chain ≡ with_entries no_chain (entries (take 0 bytes))
scan_none bytes = sym (ap (with_entries no_chain) (entries-none (take 0 bytes) (omega arith)) ∙ with_entries-none no_chain)

pub scan_count : (chain next : Chain) (buffer : List ℕ) (n : ℕ) → next ≡ with_entries chain (entries (take n buffer)) → n ≤ length buffer → n % 16 ≡ 0 → 16 * next.count ≡ 16 * chain.count + n
scan_count chain next buffer n goes within whole =
    omega (arith, ap (λ (ch : Chain). ch.count) goes, with_entries-count chain (entries (take n buffer)), length-entries (take n buffer), length-take-le n buffer within, whole)

-- a piece is whole entries
pub whole_piece : (room end at count : ℕ) → room % 16 ≡ 0 → end % 16 ≡ 0 → at % 16 ≡ 0 → at ≤ end → count ≡ min room (end - at) → (count % 16 ≡ 0) × (at + count ≤ end) × ((at + count) % 16 ≡ 0) × (count ≤ room)
whole_piece room end at count room_whole end_whole at_whole within is = omega arith
