-- What a stop within a call leaves is what a stop at some moment since the start may leave.
use Rattle.std.proofs.Common.{◌≡◌, inl, inr, ℕ, zero, suc, ◌<◌, ◌≤◌, ◌==◌, ◌||◌, nat_lt, Bool, true, false, cond, List, [], ◌∷◌, ◌++◌, get_or, None, is_some, refl, sym, ◌∙◌, ap, subst, arith}
use Rattle.std.specs.List.{list_any}
use Rattle.std.proofs.lemmas.Bool.{and_parts, and_from, ltb-false, ne_eqb}
use Rattle.std.proofs.lemmas.List.{append-nil}
use Rattle.site_model.specs.Disk.{Files, Image, Call, Moment, Disk, LeftIn, LeftOfAll, SaidIn, moment, appends, syncs, cuts, renames, removes, says}
use Rattle.site_model.specs.Leaves.{Left, LeftWithin, left_before}
use Rattle.site_mem.specs.declared.entry.Entry.{Entry}
use Rattle.site_mem.specs.declared.history.History.{History}
use Rattle.site_mem.specs.Events.{Event, event_kept, added, told, called, after}
use Rattle.site_mem.specs.Lost.{has_lost, had_lost, has_lost_after, files_without, without}
use Rattle.site_mem.specs.Record.{nothing, after_entry, from, disk_of}
use Rattle.site_mem.specs.Calls.{call_of, at_call, loses_after, is_numbered, are_calls}
use Rattle.site_mem.specs.Counting.{IsCall}
use Rattle.site_mem.specs.Site.{image_of}
use Rattle.site_mem.specs.Torn.{IsLeftIn, IsLeftBy}
use Rattle.site_mem.proofs.Calling.{Steps, lost_by}

calls_push : (entries : List Entry) (e : Entry) → are_calls entries ≡ true → is_numbered e.number (event_kept e.asked) ≡ true → are_calls (entries ++ e ∷ []) ≡ true
calls_push [] e all last = and_from _ _ last refl
calls_push (x ∷ entries) e all last = and_from _ _ (and_parts _ _ all).0 (calls_push entries e (and_parts _ _ all).1 last)

or_true : (b : Bool) → (b || true) ≡ true
or_true true = refl
or_true false = refl

or_false : (a b : Bool) → (a || b) ≡ false → (a ≡ false) × (b ≡ false)
or_false true b off = absurd (cc off)
or_false false b off = (refl, off)

pub call_asked_for : (n : ℕ) (event : Event) → IsCall event → is_numbered n event ≡ true
call_asked_for n (added p bytes) is = absurd is
call_asked_for n (told bytes) is = absurd is
call_asked_for n (called call) is = or_true (n == 0)

module _ {n : ℕ} {b : Bool} {event : Event} {old new : History} where
  pub calls_stepped : (entered : Bool) → Steps n b event old new entered → is_numbered n event ≡ true → are_calls old.entries.items ≡ true → are_calls new.entries.items ≡ true
  calls_stepped true is last all =
      ap (λ (l : List Entry). are_calls l) is.is.entries
      ∙ calls_push old.entries.items is.is.entry all (ap (λ m. is_numbered m (event_kept is.is.entry.asked)) is.is.number ∙ ap (λ v. is_numbered n v) is.is.event ∙ last)
  calls_stepped false is last all = ap (λ (l : List Entry). are_calls l) is.is.entries ∙ all

-- no server lost its files later
not_later : (n : ℕ) (since : List ℕ) (s : ℕ) → list_any (λ m. nat_lt n m) since ≡ false → get_or since s 0 ≤ n
not_later n [] s none = omega arith
not_later n (x ∷ since) zero none = ltb-false n x (or_false (nat_lt n x) _ none).0
not_later n (x ∷ since) (suc s) none = not_later n since s (or_false (nat_lt n x) _ none).1

same_lost : (n : ℕ) (since : List ℕ) (files : Files) → has_lost_after n since ≡ false → files_without (had_lost since n) files ≡ files_without (has_lost since) files
same_lost n since files none = λ i k. cond ((lost_by since n k.0 (not_later n since k.0 none)) i) None (files k)

-- the moments so far stay
module _ (image : Image) (said : List ℕ) where
  within_front : (a b : List Moment) → LeftWithin a image said → LeftWithin (a ++ b) image said
  within_front [] b is = absurd is
  within_front (m ∷ a) b (inl here) = inl here
  within_front (m ∷ a) b (inr there) = inr (within_front a b there)

  within_last : (a : List Moment) (m : Moment) → LeftIn m.call m.files image × SaidIn m.call m.said said → LeftWithin (a ++ m ∷ []) image said
  within_last [] m is = inl is
  within_last (x ∷ a) m is = inr (within_last a m is)

  within_event : (b : Bool) (event : Event) (d : Disk) → LeftWithin d.past image said → LeftWithin (after b event d).past image said
  within_event true (added p bytes) d is = is
  within_event true (told bytes) d is = is
  within_event true (called call) d is = within_front d.past (moment call d ∷ []) is
  within_event false (added p bytes) d is = is
  within_event false (told bytes) d is = is
  within_event false (called call) d is = within_front d.past (moment call d ∷ []) is

  within_from : (d : Disk) (entries : List Entry) → LeftWithin d.past image said → LeftWithin (from d entries).past image said
  within_from d [] is = is
  within_from d (e ∷ entries) is = within_from (after_entry d e) entries (within_event e.is_done (event_kept e.asked) (without (has_lost e.lost.since) d) is)

-- what had been said before a call may have been said by a stop within it
said_before : (call : Call) (said then : List ℕ) → then ≡ said → SaidIn call said then
said_before (appends p bytes) said then same = same
said_before (syncs p) said then same = same
said_before (cuts p n) said then same = same
said_before (renames p q) said then same = same
said_before (removes p) said then same = same
said_before (says bytes) said then same = (0, same ∙ sym (append-nil said))

-- a stop within the call that an entry records, or before it
in_entry : (same b : Bool) (event : Event) (d left : Disk) → is_some (call_of event) ≡ true → IsLeftIn (cond same (call_of event) None) d.files d.said left → LeftWithin (after b event d).past (image_of left) left.said
in_entry same b (added p bytes) d left is is_left = absurd (cc is)
in_entry same b (told bytes) d left is is_left = absurd (cc is)
in_entry true true (called call) d left is is_left = within_last (image_of left) left.said d.past (moment call d) is_left
in_entry true false (called call) d left is is_left = within_last (image_of left) left.said d.past (moment call d) is_left
in_entry false true (called call) d left is is_left = within_last (image_of left) left.said d.past (moment call d) (left_before call d.files (image_of left) is_left.0, said_before call d.said left.said is_left.1)
in_entry false false (called call) d left is is_left = within_last (image_of left) left.said d.past (moment call d) (left_before call d.files (image_of left) is_left.0, said_before call d.said left.said is_left.1)

numbered_call : (n m : ℕ) (event : Event) → 0 < n → n ≤ m → is_numbered m event ≡ true → is_some (call_of event) ≡ true
numbered_call n m event positive more is = sym (ap (λ b. b || is_some (call_of event)) (ne_eqb m 0 (λ none. absurd (omega (arith, none, positive, more))))) ∙ is

abbrev IsLeftFrom : Disk → List Entry → List ℕ → Disk → Type 0
IsLeftFrom d entries since left = Left (without (has_lost since) (from d entries)) 0 (image_of left) left.said

left_since : (n : ℕ) (d : Disk) (entries : List Entry) (since : List ℕ) (left : Disk) → 0 < n → are_calls entries ≡ true → loses_after n entries since ≡ false
    → IsLeftBy (at_call n d entries since) left → IsLeftFrom d entries since left
left_since n d [] since left positive calls none is = inr (subst (λ (f : Files). LeftOfAll f (image_of left)) (same_lost n since d.files none) is.0, is.1)
left_since n d (e ∷ entries) since left positive calls none is = each (nat_lt e.number n) refl (left_since n (after_entry d e) entries since left positive (and_parts _ _ calls).1) none is
  where
    each : (b : Bool) → nat_lt e.number n ≡ b → (loses_after n entries since ≡ false → IsLeftBy (at_call n (after_entry d e) entries since) left → IsLeftFrom (after_entry d e) entries since left)
        → cond b (loses_after n entries since) (has_lost_after n e.lost.since) ≡ false
        → IsLeftBy (cond b (at_call n (after_entry d e) entries since) (record { files = files_without (had_lost e.lost.since n) d.files; said = d.said; call = cond (e.number == n) (call_of (event_kept e.asked)) None })) left → IsLeftFrom (after_entry d e) entries since left
    each true sooner rest none is = rest none is
    each false later rest none is = inl (within_from (image_of left) left.said (after_entry d e) entries (in_entry (e.number == n) e.is_done (event_kept e.asked) (without (has_lost e.lost.since) d) left
        (numbered_call n e.number (event_kept e.asked) positive (ltb-false e.number n later) (and_parts _ _ calls).0)
        (subst (λ (f : Files). IsLeftIn (cond (e.number == n) (call_of (event_kept e.asked)) None) f d.said left) (same_lost n e.lost.since d.files none) is)))

pub since_start : (n : ℕ) (history : History) (left : Disk) → 0 < n → are_calls history.entries.items ≡ true → loses_after n history.entries.items history.lost.since ≡ false
    → IsLeftBy (at_call n nothing history.entries.items history.lost.since) left → Left (disk_of history.entries.items history.lost.since) 0 (image_of left) left.said
since_start n history left positive calls none is = left_since n nothing history.entries.items history.lost.since left positive calls none is
