-- What stood as a call was made is found again from the record.
use Rattle.std.proofs.Common.{◌≡◌, ℕ, ◌+◌, ◌<◌, ◌≤◌, ◌==◌, nat_lt, Bool, true, false, cond, List, [], ◌∷◌, ◌++◌, length, take, drop, get_or, None, Result, Ok, Err, OnOk, refl, sym, ◌∙◌, ap, subst}
use Rattle.std.proofs.lemmas.Bool.{cond-true, cond-false, lt-ltb, le-ltb}
use Rattle.std.proofs.lemmas.List.{take_more, drop_all, drop_more}
use Rattle.site_model.specs.Disk.{Files, Disk}
use Rattle.site_mem.specs.declared.entry.Entry.{Entry}
use Rattle.site_mem.specs.declared.contents.Contents.{Contents}
use Rattle.site_mem.specs.Events.{event_kept}
use Rattle.site_mem.specs.Kept.{files_kept}
use Rattle.site_mem.specs.Lost.{has_lost, had_lost, files_without}
use Rattle.site_mem.specs.Record.{nothing, from, after_entry, AreSame}
use Rattle.site_mem.specs.Calls.{Underway, at_call, call_of}
use Rattle.site_mem.specs.Replayed.{IsContentsAt, Replays}
use Rattle.site_mem.proofs.Recording.{from_push, files_more, said_more}

-- two clauses on Ok make a third
pub on_ok_both : {T E A B C : Type 0} (r : Result T E) → (A → B → C) → OnOk r A → OnOk r B → OnOk r C
on_ok_both (Ok x) both a b = both a b
on_ok_both (Err e) both a b = tt

-- the contents are those of the disk
pub record IsHeld (d : Disk) (contents : Contents) : Type 0 where
  pub files : AreSame (files_kept contents.files.items) d.files
  pub said : contents.said.items ≡ d.said

pub held_more : (d : Disk) (e : Entry) (old new : Contents) → IsHeld d old → Replays e old new → IsHeld (after_entry d e) new
held_more d e old new held is = record {
  files = files_more e.is_done (event_kept e.asked) (files_without (has_lost e.lost.since) (files_kept old.files.items)) (files_kept new.files.items)
      (record { files = files_without (has_lost e.lost.since) d.files; said = d.said; past = d.past })
      (λ k. ap (λ f. cond (has_lost e.lost.since k.0) None f) (held.files k)) is.files;
  said = said_more e.is_done (event_kept e.asked) old.said.items new.said.items
      (record { files = files_without (has_lost e.lost.since) d.files; said = d.said; past = d.past }) held.said is.said;
}

-- after these entries, all before the call
pub record IsSoFar (number i : ℕ) (entries : List Entry) (since : List ℕ) (contents : Contents) : Type 0 where
  pub held : IsHeld (from nothing (take i entries)) contents
  pub rest : at_call number nothing entries since ≡ at_call number (from nothing (take i entries)) (drop i entries) since

pub so_far_none : (number : ℕ) (entries : List Entry) (since : List ℕ) (contents : Contents) → contents.files.items ≡ [] → contents.said.items ≡ [] → IsSoFar number 0 entries since contents
so_far_none number entries since contents no_file nothing_said = record {
  held = record { files = λ k. ap (λ l. files_kept l k) no_file; said = nothing_said };
  rest = refl;
}

module _ (number i : ℕ) (entries : List Entry) (since : List ℕ) (e : Entry) (within : i < length entries) (is : e ≡ get_or entries i e) where
  next_disk : from nothing (take (i + 1) entries) ≡ after_entry (from nothing (take i entries)) e
  next_disk = ap (λ l. from nothing l) (take_more entries i e within ∙ ap (λ x. take i entries ++ x ∷ []) (sym is)) ∙ from_push nothing (take i entries) e

  next_rest : drop i entries ≡ e ∷ drop (i + 1) entries
  next_rest = drop_more entries i e within ∙ ap (λ x. x ∷ drop (i + 1) entries) (sym is)

  pub so_far_more : (old new : Contents) → e.number < number → IsSoFar number i entries since old → Replays e old new → IsSoFar number (i + 1) entries since new
  so_far_more old new sooner far replays = record {
    held = subst (λ d. IsHeld d new) (sym next_disk) (held_more (from nothing (take i entries)) e old new far.held replays);
    rest = far.rest ∙ ap (λ l. at_call number (from nothing (take i entries)) l since) next_rest
        ∙ cond-true (nat_lt e.number number) (at_call number (after_entry (from nothing (take i entries)) e) (drop (i + 1) entries) since) _ (lt-ltb e.number number sooner)
        ∙ ap (λ d. at_call number d (drop (i + 1) entries) since) (sym next_disk);
  }

  pub so_far_end : (old new : Contents) → number ≤ e.number → IsSoFar number i entries since old → files_kept new.files.items ≡ files_without (had_lost e.lost.since number) (files_kept old.files.items) → new.said.items ≡ old.said.items
      → IsContentsAt (at_call number nothing entries since) new
  so_far_end old new later far files said = subst (λ u. IsContentsAt u new)
      (sym (far.rest ∙ ap (λ l. at_call number (from nothing (take i entries)) l since) next_rest ∙ cond-false (nat_lt e.number number) _ _ (le-ltb e.number number later)))
      (record {
        files = λ k. ap (λ (f : Files). f k) files ∙ ap (λ f. cond (had_lost e.lost.since number k.0) None f) (far.held.files k);
        said = said ∙ far.held.said;
      })

pub so_far_all : (number n : ℕ) (entries : List Entry) (since : List ℕ) (old new : Contents) → length entries ≤ n → IsSoFar number n entries since old → files_kept new.files.items ≡ files_without (had_lost since number) (files_kept old.files.items) → new.said.items ≡ old.said.items
    → IsContentsAt (at_call number nothing entries since) new
so_far_all number n entries since old new all far files said = subst (λ u. IsContentsAt u new)
    (sym (far.rest ∙ ap (λ l. at_call number (from nothing (take n entries)) l since) (drop_all n entries all)))
    (record {
      files = λ k. ap (λ (f : Files). f k) files ∙ ap (λ f. cond (had_lost since number k.0) None f) (far.held.files k);
      said = said ∙ far.held.said;
    })

-- the call doesn't depend on what stood
call_any : (n : ℕ) (a b : Disk) (entries : List Entry) (since : List ℕ) → (at_call n a entries since).call ≡ (at_call n b entries since).call
call_any n a b [] since = refl
call_any n a b (e ∷ entries) since = each (nat_lt e.number n) (call_any n (after_entry a e) (after_entry b e) entries since)
  where
    each : (t : Bool) → (at_call n (after_entry a e) entries since).call ≡ (at_call n (after_entry b e) entries since).call
        → (cond t (at_call n (after_entry a e) entries since) (record { files = files_without (had_lost e.lost.since n) a.files; said = a.said; call = cond (e.number == n) (call_of (event_kept e.asked)) None })).call
        ≡ (cond t (at_call n (after_entry b e) entries since) (record { files = files_without (had_lost e.lost.since n) b.files; said = b.said; call = cond (e.number == n) (call_of (event_kept e.asked)) None })).call
    each true rest = rest
    each false rest = refl

pub call_more : (n i : ℕ) (entries : List Entry) (since : List ℕ) (e : Entry) → i < length entries → e ≡ get_or entries i e → e.number < n
    → (at_call n nothing entries since).call ≡ (at_call n nothing (drop i entries) since).call → (at_call n nothing entries since).call ≡ (at_call n nothing (drop (i + 1) entries) since).call
call_more n i entries since e within is sooner far =
    far ∙ ap (λ l. (at_call n nothing l since).call) (next_rest n i entries since e within is)
    ∙ ap (λ (u : Underway). u.call) (cond-true (nat_lt e.number n) (at_call n (after_entry nothing e) (drop (i + 1) entries) since) _ (lt-ltb e.number n sooner))
    ∙ call_any n (after_entry nothing e) nothing (drop (i + 1) entries) since
