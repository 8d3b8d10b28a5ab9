-- The calls of a record that grows.
use Rattle.std.proofs.Common.{◌≡◌, ℕ, ◌+◌, ◌<◌, ◌≤◌, ◌==◌, ◌&&◌, nat_lt, nat_le, Bool, true, false, cond, List, [], ◌∷◌, ◌++◌, get_or, Option, Some, None, is_some, MatchBool, Result, Ok, Err, OnOk, OnErr, is_ok, refl, sym, ◌∙◌, ap, subst, arith}
use Rattle.std.proofs.lemmas.Bool.{and_parts, and_from, cond-true, cond-false, lt-ltb, ltb-true, le-ltb, le-leb, leb-true, eq-eqb, ne_eqb, cond_both}
use Rattle.site_model.specs.Disk.{File, Place, Files, Disk, HasFirmFront, AreBytes, bytes_of, appends, syncs, cuts, renames, removes, says}
use Rattle.site_mem.specs.declared.entry.Entry.{Entry}
use Rattle.site_mem.specs.declared.stored.Stored.{Stored}
use Rattle.site_mem.specs.declared.history.History.{History}
use Rattle.site_mem.specs.Events.{Event, event_kept, added, told, called, after, files_after, put_file, is_place}
use Rattle.site_mem.specs.Kept.{files_kept, file_of, place_kept}
use Rattle.site_mem.specs.Lost.{has_lost, had_lost, files_without}
use Rattle.site_mem.specs.Record.{nothing, after_entry, from, disk_of}
use Rattle.site_mem.specs.Entered.{IsEntered, IsUnentered}
use Rattle.site_mem.specs.Calls.{Underway, call_of, at_call, Begins, are_numbered, are_within, IsNowhereElse}
use Rattle.site_mem.specs.Effects.{Effect, IsDone}
use Rattle.site_mem.specs.Counting.{IsWithin, is_within}
use Rattle.site_mem.proofs.Places.{put_else}
use Rattle.site_mem.proofs.Recording.{disk_entered, disk_kept}
use Rattle.site_mem.proofs.Effecting.{effect_done, effect_begun, effect_none, is_done}

-- what was lost before a call, if nothing was lost since
pub lost_by : (since : List ℕ) (n s : ℕ) → get_or since s 0 ≤ n → had_lost since n s ≡ has_lost since s
lost_by since n s before = both_and (nat_lt 0 (get_or since s 0)) (nat_le (get_or since s 0) n) (le-leb _ _ before)
  where
    both_and : (a b : Bool) → b ≡ true → (a && b) ≡ a
    both_and true b is = is
    both_and false b is = refl

numbered_first : (n : ℕ) (e : Entry) (entries : List Entry) → are_numbered n (e ∷ entries) ≡ true → e.number ≤ n
numbered_first n e entries is = leb-true e.number n (and_parts _ _ is).0

numbered_rest : (n : ℕ) (e : Entry) (entries : List Entry) → are_numbered n (e ∷ entries) ≡ true → are_numbered n entries ≡ true
numbered_rest n e entries is = (and_parts _ _ is).1

pub numbered_more : (m n : ℕ) (entries : List Entry) → m ≤ n → are_numbered m entries ≡ true → are_numbered n entries ≡ true
numbered_more m n [] more is = refl
numbered_more m n (e ∷ entries) more is =
    and_from _ _ (le-leb e.number n (omega (arith, numbered_first m e entries is))) (numbered_more m n entries more (numbered_rest m e entries is))

pub numbered_push : (n : ℕ) (entries : List Entry) (e : Entry) → are_numbered n entries ≡ true → e.number ≤ n → are_numbered n (entries ++ e ∷ []) ≡ true
numbered_push n [] e is last = and_from _ _ (le-leb e.number n last) refl
numbered_push n (x ∷ entries) e is last = and_from _ _ (and_parts _ _ is).0 (numbered_push n entries e (numbered_rest n x entries is) last)

-- the call that was recorded last
at_pushed : (n m : ℕ) (d : Disk) (entries : List Entry) (e : Entry) (now since : List ℕ) → m < n → are_numbered m entries ≡ true → e.number ≡ n → e.lost.since ≡ since → ((s : ℕ) → get_or since s 0 ≤ n)
    → Begins (record { files = files_without (has_lost since) (from d entries).files; said = (from d entries).said; past = (from d entries).past }) (call_of (event_kept e.asked)) (at_call n d (entries ++ e ∷ []) now)
at_pushed n m d [] e now since later is number lost before =
    subst (λ u. Begins (record { files = files_without (has_lost since) d.files; said = d.said; past = d.past }) (call_of (event_kept e.asked)) u)
    (sym (cond-false (nat_lt e.number n) _ _ (le-ltb e.number n (omega (arith, number)))))
    (record {
      files = λ k. ap (λ (l : List ℕ). cond (had_lost l n k.0) None (d.files k)) lost ∙ ap (λ b. cond b None (d.files k)) (lost_by since n k.0 (before k.0));
      said = refl;
      asked = cond-true (e.number == n) (call_of (event_kept e.asked)) None (eq-eqb e.number n number);
    })
at_pushed n m d (x ∷ entries) e now since later is number lost before =
    subst (λ u. Begins (record { files = files_without (has_lost since) (from (after_entry d x) entries).files; said = (from (after_entry d x) entries).said; past = (from (after_entry d x) entries).past }) (call_of (event_kept e.asked)) u)
    (sym (cond-true (nat_lt x.number n) _ _ (lt-ltb x.number n (omega (arith, numbered_first m x entries is, later)))))
    (at_pushed n m (after_entry d x) entries e now since later (numbered_rest m x entries is) number lost before)

-- a call that isn't recorded
at_end : (n m : ℕ) (d : Disk) (entries : List Entry) (since : List ℕ) → m < n → are_numbered m entries ≡ true → ((s : ℕ) → get_or since s 0 ≤ n)
    → Begins (record { files = files_without (has_lost since) (from d entries).files; said = (from d entries).said; past = (from d entries).past }) None (at_call n d entries since)
at_end n m d [] since later is before = record {
  files = λ k. ap (λ b. cond b None (d.files k)) (lost_by since n k.0 (before k.0));
  said = refl;
  asked = refl;
}
at_end n m d (x ∷ entries) since later is before =
    subst (λ u. Begins (record { files = files_without (has_lost since) (from (after_entry d x) entries).files; said = (from (after_entry d x) entries).said; past = (from (after_entry d x) entries).past }) None u)
    (sym (cond-true (nat_lt x.number n) _ _ (lt-ltb x.number n (omega (arith, numbered_first m x entries is, later)))))
    (at_end n m (after_entry d x) entries since later (numbered_rest m x entries is) before)

-- a call before the one that was recorded last
at_before : (n : ℕ) (d : Disk) (entries : List Entry) (e : Entry) (now since : List ℕ) → n < e.number → e.lost.since ≡ since → at_call n d (entries ++ e ∷ []) now ≡ at_call n d entries since
at_before n d [] e now since sooner lost =
    cond-false (nat_lt e.number n) _ _ (le-ltb e.number n (omega (arith, sooner)))
    ∙ (λ i. record { files = files_without (had_lost (lost i) n) d.files; said = d.said; call = (cond-false (e.number == n) (call_of (event_kept e.asked)) None (ne_eqb e.number n (λ same. absurd (omega (arith, same, sooner))))) i })
at_before n d (x ∷ entries) e now since sooner lost = ap (λ u. cond (nat_lt x.number n) u (the_first x)) (at_before n (after_entry d x) entries e now since sooner lost)
  where
    the_first : Entry → Underway
    the_first e = record { files = files_without (had_lost e.lost.since n) d.files; said = d.said; call = cond (e.number == n) (call_of (event_kept e.asked)) None }

-- a call before more was lost
pub at_loss : (n : ℕ) (d : Disk) (entries : List Entry) (since now : List ℕ) → ((s : ℕ) → had_lost now n s ≡ had_lost since n s) → at_call n d entries now ≡ at_call n d entries since
at_loss n d [] since now same = λ i. record { files = λ k. cond ((same k.0) i) None (d.files k); said = d.said; call = None }
at_loss n d (x ∷ entries) since now same = ap (λ u. cond (nat_lt x.number n) u (record { files = files_without (had_lost x.lost.since n) d.files; said = d.said; call = cond (x.number == n) (call_of (event_kept x.asked)) None })) (at_loss n (after_entry d x) entries since now same)

-- what is kept has no more firm bytes than it has
pub front_of : (kept : List Stored) (k : Place) → HasFirmFront (files_kept kept k)
front_of [] k = tt
front_of (s ∷ kept) k = cond_both (is_place (place_kept s) k) (Some (file_of s)) (files_kept kept k) HasFirmFront (λ is. s.front) (λ off. front_of kept k)

-- what is kept are bytes
pub bytes_kept : (kept : List Stored) (k : Place) → AreBytes (bytes_of (files_kept kept k))
bytes_kept [] k = tt
bytes_kept (s ∷ kept) k = cond_both (is_place (place_kept s) k) (Some (file_of s)) (files_kept kept k) (λ f. AreBytes (bytes_of f)) (λ is. s.are_bytes) (λ off. bytes_kept kept k)

-- a place at a server is none where no file stands
else_where : (servers : ℕ) (p k : Place) (file : Option File) (files : Files) → p.0 < servers → servers ≤ k.0 → IsNowhereElse servers files → is_some (put_file p file files k) ≡ false
else_where servers p k file files within far nowhere =
    ap (λ f. is_some f) (put_else p k file files (λ e. absurd (omega (arith, within, far, ap (λ (q : Place). q.0) e)))) ∙ nowhere k far

pub nowhere_after : (servers : ℕ) (event : Event) (files : Files) → IsWithin servers event → IsNowhereElse servers files → IsNowhereElse servers (files_after event files)
nowhere_after servers (added p bytes) files within nowhere k far = else_where servers p k _ files within far nowhere
nowhere_after servers (told bytes) files within nowhere k far = nowhere k far
nowhere_after servers (called (appends p bytes)) files within nowhere k far = else_where servers p k _ files within far nowhere
nowhere_after servers (called (syncs p)) files within nowhere k far = else_where servers p k _ files within far nowhere
nowhere_after servers (called (cuts p n)) files within nowhere k far = else_where servers p k _ files within far nowhere
nowhere_after servers (called (renames p q)) files within nowhere k far =
    else_where servers q k (files p) (put_file p None files) within.1 far (λ r away. else_where servers p r None files within.0 away nowhere)
nowhere_after servers (called (removes p)) files within nowhere k far = else_where servers p k None files within far nowhere
nowhere_after servers (called (says bytes)) files within nowhere k far = nowhere k far

pub within_is : (servers : ℕ) (event : Event) → is_within servers event ≡ true → IsWithin servers event
within_is servers (added p bytes) is = ltb-true p.0 servers is
within_is servers (told bytes) is = tt
within_is servers (called (appends p bytes)) is = ltb-true p.0 servers is
within_is servers (called (syncs p)) is = ltb-true p.0 servers is
within_is servers (called (cuts p n)) is = ltb-true p.0 servers is
within_is servers (called (renames p q)) is = let both = and_parts _ _ is in (ltb-true p.0 servers both.0, ltb-true q.0 servers both.1)
within_is servers (called (removes p)) is = ltb-true p.0 servers is
within_is servers (called (says bytes)) is = tt

is_within_true : (servers : ℕ) (event : Event) → IsWithin servers event → is_within servers event ≡ true
is_within_true servers (added p bytes) is = lt-ltb p.0 servers is
is_within_true servers (told bytes) is = refl
is_within_true servers (called (appends p bytes)) is = lt-ltb p.0 servers is
is_within_true servers (called (syncs p)) is = lt-ltb p.0 servers is
is_within_true servers (called (cuts p n)) is = lt-ltb p.0 servers is
is_within_true servers (called (renames p q)) is = and_from _ _ (lt-ltb p.0 servers is.0) (lt-ltb q.0 servers is.1)
is_within_true servers (called (removes p)) is = lt-ltb p.0 servers is
is_within_true servers (called (says bytes)) is = refl

within_push : (servers : ℕ) (entries : List Entry) (e : Entry) → are_within servers entries ≡ true → is_within servers (event_kept e.asked) ≡ true → are_within servers (entries ++ e ∷ []) ≡ true
within_push servers [] e all last = and_from _ _ last refl
within_push servers (x ∷ entries) e all last = and_from _ _ (and_parts _ _ all).0 (within_push servers entries e (and_parts _ _ all).1 last)

nowhere_without : (servers : ℕ) (lost : ℕ → Bool) (files : Files) → IsNowhereElse servers files → IsNowhereElse servers (files_without lost files)
nowhere_without servers lost files nowhere k far = each (lost k.0)
  where
    each : (b : Bool) → is_some (cond b None (files k)) ≡ false
    each true = refl
    each false = nowhere k far

pub nowhere_entry : (servers : ℕ) (d : Disk) (e : Entry) → is_within servers (event_kept e.asked) ≡ true → IsNowhereElse servers d.files → IsNowhereElse servers (after_entry d e).files
nowhere_entry servers d e within nowhere = each e.is_done
  where
    each : (b : Bool) → IsNowhereElse servers (after b (event_kept e.asked) (record { files = files_without (has_lost e.lost.since) d.files; said = d.said; past = d.past })).files
    each true = nowhere_after servers (event_kept e.asked) (files_without (has_lost e.lost.since) d.files) (within_is servers (event_kept e.asked) within) (nowhere_without servers (has_lost e.lost.since) d.files nowhere)
    each false = nowhere_without servers (has_lost e.lost.since) d.files nowhere

nowhere_from : (servers : ℕ) (d : Disk) (entries : List Entry) → are_within servers entries ≡ true → IsNowhereElse servers d.files → IsNowhereElse servers (from d entries).files
nowhere_from servers d [] within nowhere = nowhere
nowhere_from servers d (e ∷ entries) within nowhere = nowhere_from servers (after_entry d e) entries (and_parts _ _ within).1 (nowhere_entry servers d e (and_parts _ _ within).0 nowhere)

pub nowhere_else : (servers : ℕ) (entries : List Entry) (since : List ℕ) → are_within servers entries ≡ true → IsNowhereElse servers (disk_of entries since).files
nowhere_else servers entries since within = nowhere_without servers (has_lost since) (from nothing entries).files (nowhere_from servers nothing entries within (λ k far. refl))

-- the same of what stood as a call was made
pub nowhere_at : (servers n : ℕ) (d : Disk) (entries : List Entry) (since : List ℕ) → are_within servers entries ≡ true → IsNowhereElse servers d.files → IsNowhereElse servers (at_call n d entries since).files
nowhere_at servers n d [] since within nowhere = nowhere_without servers (had_lost since n) d.files nowhere
nowhere_at servers n d (e ∷ entries) since within nowhere = each (nat_lt e.number n) (nowhere_at servers n (after_entry d e) entries since (and_parts _ _ within).1 (nowhere_entry servers d e (and_parts _ _ within).0 nowhere))
  where
    each : (b : Bool) → IsNowhereElse servers (at_call n (after_entry d e) entries since).files
        → IsNowhereElse servers (cond b (at_call n (after_entry d e) entries since) (record { files = files_without (had_lost e.lost.since n) d.files; said = d.said; call = cond (e.number == n) (call_of (event_kept e.asked)) None })).files
    each true rest = rest
    each false rest = nowhere_without servers (had_lost e.lost.since n) d.files nowhere

-- One entry more, or none for want of memory.
pub record Steps (n : ℕ) (b : Bool) (event : Event) (old new : History) (entered : Bool) : Type 0 where
  pub is : MatchBool entered (IsEntered n b event old new) (IsUnentered old new)

pub steps_from : {n : ℕ} {b : Bool} {event : Event} {old new : History} {E : Type 0} (r : Result (Unit {0}) E) → OnOk r (IsEntered n b event old new) → OnErr r (IsUnentered old new) → Steps n b event old new (is_ok r)
steps_from (Ok x) ok err = record { is = ok }
steps_from (Err e) ok err = record { is = err }

module _ {n : ℕ} {b : Bool} {event : Event} {old new : History} where
  pub disk_stepped : (entered : Bool) → Steps n b event old new entered
      → disk_of new.entries.items new.lost.since ≡ cond entered (after b event (disk_of old.entries.items old.lost.since)) (disk_of old.entries.items old.lost.since)
  disk_stepped true is = disk_entered is.is
  disk_stepped false is = disk_kept is.is

  pub effect_stepped : (entered : Bool) → Steps n b event old new entered → Effect event (disk_of old.entries.items old.lost.since) (disk_of new.entries.items new.lost.since)
  effect_stepped entered is = subst (λ d. Effect event (disk_of old.entries.items old.lost.since) d) (sym (disk_stepped entered is)) (each entered b)
    where
      fronts : (k : Place) → HasFirmFront ((disk_of old.entries.items old.lost.since).files k)
      fronts k = subst (λ f. HasFirmFront f) (old.files k) (front_of old.contents.files.items k)

      each : (made carried : Bool) → Effect event (disk_of old.entries.items old.lost.since) (cond made (after carried event (disk_of old.entries.items old.lost.since)) (disk_of old.entries.items old.lost.since))
      each true true = effect_done event (disk_of old.entries.items old.lost.since) fronts
      each true false = effect_begun event (disk_of old.entries.items old.lost.since)
      each false carried = effect_none event (disk_of old.entries.items old.lost.since)

  pub done_stepped : (entered : Bool) → entered ≡ true → b ≡ true → Steps n b event old new entered → IsDone event (disk_of old.entries.items old.lost.since) (disk_of new.entries.items new.lost.since)
  done_stepped false on carried is = absurd (cc on)
  done_stepped true on carried is =
      subst (λ d. IsDone event (disk_of old.entries.items old.lost.since) d)
      (sym (disk_entered is.is ∙ ap (λ (c : Bool). after c event (disk_of old.entries.items old.lost.since)) carried))
      (is_done event (disk_of old.entries.items old.lost.since))

  pub within_stepped : (servers : ℕ) (entered : Bool) → Steps n b event old new entered → IsWithin servers event → are_within servers old.entries.items ≡ true → are_within servers new.entries.items ≡ true
  within_stepped servers true is within all =
      ap (λ (l : List Entry). are_within servers l) is.is.entries ∙ within_push servers old.entries.items is.is.entry all (ap (λ v. is_within servers v) is.is.event ∙ is_within_true servers event within)
  within_stepped servers false is within all = ap (λ (l : List Entry). are_within servers l) is.is.entries ∙ all

  pub numbered_stepped : (calls now : ℕ) (entered : Bool) → Steps n b event old new entered → calls ≤ now → n ≤ now → are_numbered calls old.entries.items ≡ true → are_numbered now new.entries.items ≡ true
  numbered_stepped calls now true is more last numbered =
      ap (λ (l : List Entry). are_numbered now l) is.is.entries ∙ numbered_push now old.entries.items is.is.entry (numbered_more calls now old.entries.items more numbered) (omega (arith, is.is.number, last))
  numbered_stepped calls now false is more last numbered = ap (λ (l : List Entry). are_numbered now l) is.is.entries ∙ numbered_more calls now old.entries.items more numbered

  pub since_stepped : (calls now : ℕ) (entered : Bool) → Steps n b event old new entered → calls ≤ now → ((s : ℕ) → get_or old.lost.since s 0 ≤ calls + 1) → (s : ℕ) → get_or new.lost.since s 0 ≤ now + 1
  since_stepped calls now true is more before s = omega (arith, is.is.emptied s)
  since_stepped calls now false is more before s = omega (arith, before s, ap (λ l. get_or l s 0) is.is.lost, more)

  -- the call is under way, or it failed and isn't recorded
  pub begins_stepped : (calls : ℕ) (entered : Bool) → Steps n b event old new entered → n ≡ calls + 1 → are_numbered calls old.entries.items ≡ true → ((s : ℕ) → get_or old.lost.since s 0 ≤ calls + 1)
      → Begins (disk_of old.entries.items old.lost.since) (cond entered (call_of event) None) (at_call n nothing new.entries.items new.lost.since)
  begins_stepped calls true is next numbered before =
      subst (λ (l : List Entry). Begins (disk_of old.entries.items old.lost.since) (call_of event) (at_call n nothing l new.lost.since)) (sym is.is.entries)
      (subst (λ v. Begins (disk_of old.entries.items old.lost.since) (call_of v) (at_call n nothing (old.entries.items ++ is.is.entry ∷ []) new.lost.since)) is.is.event
      (at_pushed n calls nothing old.entries.items is.is.entry new.lost.since old.lost.since (omega (arith, next)) numbered is.is.number is.is.lost (λ s. omega (arith, before s, next))))
  begins_stepped calls false is next numbered before =
      subst (λ (l : List Entry). Begins (disk_of old.entries.items old.lost.since) None (at_call n nothing l new.lost.since)) (sym is.is.entries)
      (subst (λ (s : List ℕ). Begins (disk_of old.entries.items old.lost.since) None (at_call n nothing old.entries.items s)) (sym is.is.lost)
      (at_end n calls nothing old.entries.items old.lost.since (omega (arith, next)) numbered (λ s. omega (arith, before s, next))))

  -- earlier calls stay as they were
  pub earlier_stepped : (calls m : ℕ) (entered : Bool) → Steps n b event old new entered → n ≡ calls + 1 → m ≤ calls → at_call m nothing new.entries.items new.lost.since ≡ at_call m nothing old.entries.items old.lost.since
  earlier_stepped calls m true is next sooner =
      ap (λ (l : List Entry). at_call m nothing l new.lost.since) is.is.entries
      ∙ at_before m nothing old.entries.items is.is.entry new.lost.since old.lost.since (omega (arith, is.is.number, next, sooner)) is.is.lost
  earlier_stepped calls m false is next sooner = ap (λ (l : List Entry). at_call m nothing l new.lost.since) is.is.entries ∙ ap (λ (s : List ℕ). at_call m nothing old.entries.items s) is.is.lost

-- a call that isn't recorded, with nothing changed
pub begins_look : (calls n : ℕ) (entries : List Entry) (since : List ℕ) → n ≡ calls + 1 → are_numbered calls entries ≡ true → ((s : ℕ) → get_or since s 0 ≤ calls + 1)
    → Begins (disk_of entries since) None (at_call n nothing entries since)
begins_look calls n entries since next numbered before = at_end n calls nothing entries since (omega (arith, next)) numbered (λ s. omega (arith, before s, next))
