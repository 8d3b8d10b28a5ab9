-- The files of a list that grows, changes and shrinks.
use Rattle.std.proofs.Common.{◌≡◌, ◌≢◌, ◌⊎◌, inl, inr, ⊎_elim, ℕ, zero, suc, ◌+◌, ◌<◌, ◌≤◌, not, Bool, true, false, cond, List, [], ◌∷◌, ◌++◌, length, take, get_or, set, Option, Some, None, is_some, refl, sym, ◌∙◌, ap, subst, arith}
use Rattle.std.specs.List.{remove, filter}
use Rattle.std.specs.Str.{bytes_eq}
use Rattle.std.proofs.lemmas.Slice.Eq.{bytes_eq-Decides}
use Rattle.std.proofs.lemmas.List.{take_more, take_all}
use Rattle.std.proofs.lemmas.Bool.{and_parts, and_from, not-true, not_from_false, cond-true, cond-false}
use Rattle.site_model.specs.Disk.{File, Place, Files}
use Rattle.site_mem.specs.declared.stored.Stored.{Stored}
use Rattle.site_mem.specs.Events.{is_place, put_file}
use Rattle.site_mem.specs.Kept.{place_kept, file_of, files_kept, are_apart, IsAt, MakesRoom}
use Rattle.site_mem.proofs.Places.{by_place, put_here, put_else, put_again}

none_from : (file : Option File) → is_some file ≡ false → file ≡ None
none_from None off = refl
none_from (Some f) off = cc

none_is : (file : Option File) → file ≡ None → is_some file ≡ false
none_is file e = ap (λ f. is_some f) e

pub apart_none : (s : Stored) (kept : List Stored) → are_apart (s ∷ kept) ≡ true → files_kept kept (place_kept s) ≡ None
apart_none s kept apart = none_from _ (not-true (is_some (files_kept kept (place_kept s))) (and_parts _ _ apart).0)

pub apart_rest : (s : Stored) (kept : List Stored) → are_apart (s ∷ kept) ≡ true → are_apart kept ≡ true
apart_rest s kept apart = (and_parts _ _ apart).1

apart_cons : (s : Stored) (kept : List Stored) → files_kept kept (place_kept s) ≡ None → are_apart kept ≡ true → are_apart (s ∷ kept) ≡ true
apart_cons s kept none apart = and_from _ _ (not_from_false _ (none_is _ none)) apart

-- the first file, or one behind it
pub at_first : (s : Stored) (kept : List Stored) → files_kept (s ∷ kept) (place_kept s) ≡ Some (file_of s)
at_first s kept = put_here (place_kept s) (Some (file_of s)) (files_kept kept)

pub behind : (s : Stored) (kept : List Stored) (k : Place) → k ≢ place_kept s → files_kept (s ∷ kept) k ≡ files_kept kept k
behind s kept k ne = put_else (place_kept s) k (Some (file_of s)) (files_kept kept) ne

-- where nothing stands the first file doesn't
not_first : (s : Stored) (kept : List Stored) (k : Place) → files_kept (s ∷ kept) k ≡ None → k ≢ place_kept s
not_first s kept k none e = absurd_some (file_of s) (sym (at_first s kept) ∙ ap (λ q. files_kept (s ∷ kept) q) (sym e) ∙ none)
  where
    absurd_some : (f : File) → ◌≡◌ {A = Option File} (Some f) None → ⊥
    absurd_some f e = cc

pub files_at : (kept : List Stored) (i : ℕ) (d : Stored) → i < length kept → are_apart kept ≡ true → files_kept kept (place_kept (get_or kept i d)) ≡ Some (file_of (get_or kept i d))
files_at [] i d within apart = absurd (omega arith)
files_at (s ∷ kept) zero d within apart = at_first s kept
files_at (s ∷ kept) (suc i) d within apart =
    let there = files_at kept i d (omega arith) (apart_rest s kept apart) in
    behind s kept (place_kept (get_or kept i d)) (λ e. differ _ _ there (ap (λ q. files_kept kept q) e ∙ apart_none s kept apart)) ∙ there
  where
    differ : (file : Option File) (f : File) → file ≡ Some f → file ≡ None → ⊥
    differ file f a b = cc

-- what stands behind the first file is at another place
pub else_than : (s : Stored) (kept : List Stored) (i : ℕ) (d : Stored) → i < length kept → are_apart (s ∷ kept) ≡ true → place_kept (get_or kept i d) ≢ place_kept s
else_than s kept i d within apart e = differ _ _ (files_at kept i d within (apart_rest s kept apart)) (ap (λ q. files_kept kept q) e ∙ apart_none s kept apart)
  where
    differ : (file : Option File) (f : File) → file ≡ Some f → file ≡ None → ⊥
    differ file f a b = cc

-- The new place is that of the file that is replaced, or free.
abbrev pub IsFree : List Stored → Place → Place → Type 0
IsFree kept p q = (q ≡ p) ⊎ (files_kept kept q ≡ None)

free_rest : (s : Stored) (kept : List Stored) (p q : Place) → IsFree (s ∷ kept) p q → IsFree kept p q
free_rest s kept p q free = ⊎_elim (λ e. inl e) (λ none. inr (sym (behind s kept q (not_first s kept q none)) ∙ none)) free

free_else : (s : Stored) (kept : List Stored) (p q : Place) → p ≢ place_kept s → IsFree (s ∷ kept) p q → q ≢ place_kept s
free_else s kept p q ne free = ⊎_elim (λ e f. ne (sym e ∙ f)) (λ none. not_first s kept q none) free

-- one file is replaced
pub files_set : (kept : List Stored) (i : ℕ) (d new : Stored) (k : Place) → i < length kept → are_apart kept ≡ true → IsFree kept (place_kept (get_or kept i d)) (place_kept new)
    → files_kept (set kept i new) k ≡ put_file (place_kept new) (Some (file_of new)) (put_file (place_kept (get_or kept i d)) None (files_kept kept)) k
files_set [] i d new k within apart free = absurd (omega arith)
files_set (s ∷ kept) zero d new k within apart free = by_place (place_kept new) k
    (λ e. ap (λ q. files_kept (new ∷ kept) q) e ∙ at_first new kept ∙ sym (ap (λ q. put_file (place_kept new) (Some (file_of new)) (put_file (place_kept s) None (files_kept (s ∷ kept))) q) e ∙ put_here (place_kept new) (Some (file_of new)) (put_file (place_kept s) None (files_kept (s ∷ kept)))))
    (λ ne off. behind new kept k ne ∙ by_place (place_kept s) k
    (λ e. ap (λ q. files_kept kept q) e ∙ apart_none s kept apart ∙ sym (ap (λ q. put_file (place_kept s) None (files_kept (s ∷ kept)) q) e ∙ put_here (place_kept s) None (files_kept (s ∷ kept))))
    (λ other off. sym (put_else (place_kept s) k None (files_kept (s ∷ kept)) other ∙ behind s kept k other))
    ∙ sym (put_else (place_kept new) k (Some (file_of new)) (put_file (place_kept s) None (files_kept (s ∷ kept))) ne))
files_set (s ∷ kept) (suc i) d new k within apart free =
    let p = place_kept (get_or kept i d) in
    let q = place_kept new in
    let ne_p : p ≢ place_kept s = else_than s kept i d (omega arith) apart in
    let ne_q : q ≢ place_kept s = free_else s kept p q ne_p free in
    let rest = files_set kept i d new k (omega arith) (apart_rest s kept apart) (free_rest s kept p q free) in
    by_place (place_kept s) k
    (λ e. ap (λ r. files_kept (s ∷ set kept i new) r) e ∙ at_first s (set kept i new)
    ∙ sym (put_else q k (Some (file_of new)) (put_file p None (files_kept (s ∷ kept))) (λ f. ne_q (sym f ∙ e)) ∙ put_else p k None (files_kept (s ∷ kept)) (λ f. ne_p (sym f ∙ e)) ∙ ap (λ r. files_kept (s ∷ kept) r) e ∙ at_first s kept))
    (λ ne off. behind s (set kept i new) k ne ∙ rest
    ∙ ap (λ f. cond (is_place q k) (Some (file_of new)) (cond (is_place p k) None f)) (sym (behind s kept k ne)))

pub apart_set : (kept : List Stored) (i : ℕ) (d new : Stored) → i < length kept → are_apart kept ≡ true → IsFree kept (place_kept (get_or kept i d)) (place_kept new) → are_apart (set kept i new) ≡ true
apart_set [] i d new within apart free = absurd (omega arith)
apart_set (s ∷ kept) zero d new within apart free = apart_cons new kept
    (⊎_elim (λ e. ap (λ q. files_kept kept q) e ∙ apart_none s kept apart) (λ none. sym (behind s kept (place_kept new) (not_first s kept _ none)) ∙ none) free)
    (apart_rest s kept apart)
apart_set (s ∷ kept) (suc i) d new within apart free =
    let p = place_kept (get_or kept i d) in
    let q = place_kept new in
    let ne_p : p ≢ place_kept s = else_than s kept i d (omega arith) apart in
    let ne_q : q ≢ place_kept s = free_else s kept p q ne_p free in
    let less = free_rest s kept p q free in
    apart_cons s (set kept i new)
    (files_set kept i d new (place_kept s) (omega arith) (apart_rest s kept apart) less ∙ put_else q (place_kept s) (Some (file_of new)) (put_file p None (files_kept kept)) (λ f. ne_q (sym f)) ∙ put_else p (place_kept s) None (files_kept kept) (λ f. ne_p (sym f)) ∙ apart_none s kept apart)
    (apart_set kept i d new (omega arith) (apart_rest s kept apart) less)

-- one file more
pub files_push : (kept : List Stored) (new : Stored) (k : Place) → files_kept kept (place_kept new) ≡ None → files_kept (kept ++ new ∷ []) k ≡ put_file (place_kept new) (Some (file_of new)) (files_kept kept) k
files_push [] new k none = refl
files_push (s ∷ kept) new k none =
    let ne_q : place_kept new ≢ place_kept s = not_first s kept (place_kept new) none in
    let rest = files_push kept new k (sym (behind s kept _ ne_q) ∙ none) in
    by_place (place_kept s) k
    (λ e. ap (λ r. files_kept (s ∷ (kept ++ new ∷ [])) r) e ∙ at_first s (kept ++ new ∷ []) ∙ sym (put_else (place_kept new) k (Some (file_of new)) (files_kept (s ∷ kept)) (λ f. ne_q (sym f ∙ e)) ∙ ap (λ r. files_kept (s ∷ kept) r) e ∙ at_first s kept))
    (λ ne off. behind s (kept ++ new ∷ []) k ne ∙ rest ∙ ap (λ f. cond (is_place (place_kept new) k) (Some (file_of new)) f) (sym (behind s kept k ne)))

pub apart_push : (kept : List Stored) (new : Stored) → are_apart kept ≡ true → files_kept kept (place_kept new) ≡ None → are_apart (kept ++ new ∷ []) ≡ true
apart_push [] new apart none = refl
apart_push (s ∷ kept) new apart none =
    let ne_q : place_kept new ≢ place_kept s = not_first s kept (place_kept new) none in
    let less : files_kept kept (place_kept new) ≡ None = sym (behind s kept _ ne_q) ∙ none in
    apart_cons s (kept ++ new ∷ [])
    (files_push kept new (place_kept s) less ∙ put_else (place_kept new) (place_kept s) (Some (file_of new)) (files_kept kept) (λ f. ne_q (sym f)) ∙ apart_none s kept apart)
    (apart_push kept new (apart_rest s kept apart) less)

-- one file less
pub files_remove : (kept : List Stored) (i : ℕ) (d : Stored) (k : Place) → i < length kept → are_apart kept ≡ true → files_kept (remove kept i) k ≡ put_file (place_kept (get_or kept i d)) None (files_kept kept) k
files_remove [] i d k within apart = absurd (omega arith)
files_remove (s ∷ kept) zero d k within apart = by_place (place_kept s) k
    (λ e. ap (λ q. files_kept kept q) e ∙ apart_none s kept apart ∙ sym (ap (λ q. put_file (place_kept s) None (files_kept (s ∷ kept)) q) e ∙ put_here (place_kept s) None (files_kept (s ∷ kept))))
    (λ ne off. sym (put_else (place_kept s) k None (files_kept (s ∷ kept)) ne ∙ behind s kept k ne))
files_remove (s ∷ kept) (suc i) d k within apart =
    let p = place_kept (get_or kept i d) in
    let ne_p : p ≢ place_kept s = else_than s kept i d (omega arith) apart in
    let rest = files_remove kept i d k (omega arith) (apart_rest s kept apart) in
    by_place (place_kept s) k
    (λ e. ap (λ r. files_kept (s ∷ remove kept i) r) e ∙ at_first s (remove kept i) ∙ sym (put_else p k None (files_kept (s ∷ kept)) (λ f. ne_p (sym f ∙ e)) ∙ ap (λ r. files_kept (s ∷ kept) r) e ∙ at_first s kept))
    (λ ne off. behind s (remove kept i) k ne ∙ rest ∙ ap (λ f. cond (is_place p k) None f) (sym (behind s kept k ne)))

pub apart_remove : (kept : List Stored) (i : ℕ) (d : Stored) → i < length kept → are_apart kept ≡ true → are_apart (remove kept i) ≡ true
apart_remove [] i d within apart = absurd (omega arith)
apart_remove (s ∷ kept) zero d within apart = apart_rest s kept apart
apart_remove (s ∷ kept) (suc i) d within apart =
    let ne_p : place_kept (get_or kept i d) ≢ place_kept s = else_than s kept i d (omega arith) apart in
    apart_cons s (remove kept i)
    (files_remove kept i d (place_kept s) (omega arith) (apart_rest s kept apart) ∙ put_else (place_kept (get_or kept i d)) (place_kept s) None (files_kept kept) (λ f. ne_p (sym f)) ∙ apart_none s kept apart)
    (apart_remove kept i d (omega arith) (apart_rest s kept apart))

-- what doesn't stand among these files or in the next one
pub none_more : (kept : List Stored) (i : ℕ) (s : Stored) (k : Place) → i < length kept → s ≡ get_or kept i s → files_kept (take i kept) k ≡ None → is_place (place_kept s) k ≡ false → files_kept (take (i + 1) kept) k ≡ None
none_more kept i s k within is none off = ap (λ l. files_kept l k) (take_more kept i s within ∙ ap (λ x. take i kept ++ x ∷ []) (sym is)) ∙ pushed (take i kept) none
  where
    pushed : (l : List Stored) → files_kept l k ≡ None → files_kept (l ++ s ∷ []) k ≡ None
    pushed [] none = cond-false (is_place (place_kept s) k) (Some (file_of s)) None off
    pushed (t ∷ l) none =
        let ne = not_first t l k none in
        behind t (l ++ s ∷ []) k ne ∙ pushed l (sym (behind t l k ne) ∙ none)

pub none_all : (kept : List Stored) (n : ℕ) (k : Place) → length kept ≤ n → files_kept (take n kept) k ≡ None → files_kept kept k ≡ None
none_all kept n k all none = ap (λ l. files_kept l k) (sym (take_all n kept all)) ∙ none

-- What a list of files is after a change of the one that is kept at a place.
module _ (kept : List Stored) (at : ℕ) (p : Place) (is : IsAt kept at p) (apart : are_apart kept ≡ true) where
  pub stands_at : (old : Stored) → old ≡ get_or kept at old → files_kept kept p ≡ Some (file_of old)
  stands_at old same = ap (λ q. files_kept kept q) (sym (is.place old)) ∙ files_at kept at old is.within apart ∙ ap (λ s. Some (file_of s)) (sym same)

  -- a change that keeps the place
  pub place_stays : (old new : Stored) → old ≡ get_or kept at old → place_kept new ≡ place_kept old → place_kept new ≡ p
  place_stays old new same place = place ∙ ap place_kept same ∙ is.place old

  pub apart_changed : (new : Stored) → place_kept new ≡ p → are_apart (set kept at new) ≡ true
  apart_changed new place = apart_set kept at new new is.within apart (inl (place ∙ sym (is.place new)))

  pub files_replaced : (new : Stored) → place_kept new ≡ p → files_kept (set kept at new) ≡ put_file p (Some (file_of new)) (files_kept kept)
  files_replaced new place = λ i k.
      (files_set kept at new new k is.within apart (inl (place ∙ sym (is.place new)))
      ∙ ap (λ q. put_file q (Some (file_of new)) (put_file (place_kept (get_or kept at new)) None (files_kept kept)) k) place
      ∙ ap (λ q. put_file p (Some (file_of new)) (put_file q None (files_kept kept)) k) (is.place new)
      ∙ put_again p k (Some (file_of new)) None (files_kept kept)) i

  pub files_changed : (old new : Stored) (op : Option File → Option File) → old ≡ get_or kept at old → place_kept new ≡ place_kept old → Some (file_of new) ≡ op (Some (file_of old))
      → files_kept (set kept at new) ≡ put_file p (op (files_kept kept p)) (files_kept kept)
  files_changed old new op same place becomes =
      files_replaced new (place_stays old new same place)
      ∙ ap (λ f. put_file p f (files_kept kept)) (becomes ∙ ap op (sym (stands_at old same)))

  pub files_removed : (d : Stored) → files_kept (remove kept at) ≡ put_file p None (files_kept kept)
  files_removed d = λ i k. (files_remove kept at d k is.within apart ∙ ap (λ q. put_file q None (files_kept kept) k) (is.place d)) i

  -- the file has another name then
  pub renamed_place : (old new : Stored) (name wanted : List ℕ) → old ≡ get_or kept at old → place_kept new ≡ (old.server, name) → name ≡ wanted → place_kept new ≡ (p.0, wanted)
  renamed_place old new name wanted same place named =
      place ∙ ap (λ n. (old.server, n)) named ∙ ap (λ n. (n, wanted)) (ap (λ s. s.server) same ∙ ap (λ (q : Place). q.0) (is.place old))

  -- the file at p stands at q then, which is free
  pub files_renamed : (old new : Stored) (q : Place) → old ≡ get_or kept at old → place_kept new ≡ q → file_of new ≡ file_of old → IsFree kept p q
      → files_kept (set kept at new) ≡ put_file q (files_kept kept p) (put_file p None (files_kept kept))
  files_renamed old new q same place file free = λ i k.
      (files_set kept at new new k is.within apart (subst (λ r. IsFree kept r (place_kept new)) (sym (is.place new)) (subst (λ r. IsFree kept p r) (sym place) free))
      ∙ ap (λ r. put_file r (Some (file_of new)) (put_file (place_kept (get_or kept at new)) None (files_kept kept)) k) place
      ∙ ap (λ r. put_file q (Some (file_of new)) (put_file r None (files_kept kept)) k) (is.place new)
      ∙ ap (λ f. put_file q f (put_file p None (files_kept kept)) k) (ap Some file ∙ sym (stands_at old same))) i

  pub apart_renamed : (new : Stored) (q : Place) → place_kept new ≡ q → IsFree kept p q → are_apart (set kept at new) ≡ true
  apart_renamed new q place free = apart_set kept at new new is.within apart (subst (λ r. IsFree kept r (place_kept new)) (sym (is.place new)) (subst (λ r. IsFree kept p r) (sym place) free))

-- a place put as it is
pub put_same : (p : Place) (file : Option File) (files : Files) → files p ≡ file → put_file p file files ≡ files
put_same p file files is = λ i k. (same k) i
  where
    same : (k : Place) → put_file p file files k ≡ files k
    same k = by_place p k (λ e. ap (λ q. put_file p file files q) e ∙ put_here p file files ∙ sym is ∙ ap (λ q. files q) (sym e)) (λ ne off. put_else p k file files ne)

pub pushed_files : (kept : List Stored) (new : Stored) (p : Place) → files_kept kept p ≡ None → place_kept new ≡ p → files_kept (kept ++ new ∷ []) ≡ put_file p (Some (file_of new)) (files_kept kept)
pushed_files kept new p none place = λ i k. (files_push kept new k (ap (λ q. files_kept kept q) place ∙ none) ∙ ap (λ q. put_file q (Some (file_of new)) (files_kept kept) k) place) i

pub pushed_apart : (kept : List Stored) (new : Stored) (p : Place) → are_apart kept ≡ true → files_kept kept p ≡ None → place_kept new ≡ p → are_apart (kept ++ new ∷ []) ≡ true
pushed_apart kept new p apart none place = apart_push kept new apart (ap (λ q. files_kept kept q) place ∙ none)

-- the same, where there was room for it or not
pub tried_apart : (room : Bool) (kept : List Stored) (new : Stored) (p : Place) → are_apart kept ≡ true → files_kept kept p ≡ None → place_kept new ≡ p → are_apart (cond room (kept ++ new ∷ []) kept) ≡ true
tried_apart true kept new p apart none place = pushed_apart kept new p apart none place
tried_apart false kept new p apart none place = apart

pub room_made : (p q : Place) (old new : Files) → new ≡ put_file q None old → p ≢ q → MakesRoom p q old new
room_made p q old new is ne = subst (λ (f : Files). MakesRoom p q old f) (sym is)
    (record { free = inr (put_here q None old); here = put_else q p None old ne; others = λ k other. put_else q k None old other })

module _ (p q : Place) (old new : Files) (room : MakesRoom p q old new) where
  moved_at : (file : Option File) → file ≡ new p → (k : Place) → put_file q file (put_file p None new) k ≡ put_file q (old p) (put_file p None old) k
  moved_at file is k = by_place q k
      (λ e. ap (λ r. put_file q file (put_file p None new) r) e ∙ put_here q file (put_file p None new) ∙ is ∙ room.here
      ∙ sym (ap (λ r. put_file q (old p) (put_file p None old) r) e ∙ put_here q (old p) (put_file p None old)))
      (λ ne off. put_else q k file (put_file p None new) ne
      ∙ by_place p k
      (λ e. ap (λ r. put_file p None new r) e ∙ put_here p None new ∙ sym (ap (λ r. put_file p None old r) e ∙ put_here p None old))
      (λ other off. put_else p k None new other ∙ room.others k ne ∙ sym (put_else p k None old other))
      ∙ sym (put_else q k (old p) (put_file p None old) ne))

  pub moved_room : put_file q (new p) (put_file p None new) ≡ put_file q (old p) (put_file p None old)
  moved_room = λ i k. (moved_at (new p) refl k) i

  -- there was no file to be renamed
  pub moved_none : new p ≡ None → new ≡ put_file q (old p) (put_file p None old)
  moved_none none = sym (λ i k. (kept k) i) ∙ moved_room
    where
      at_new : new q ≡ new p
      at_new = ⊎_elim (λ e. ap new e) (λ gone. gone ∙ sym none) room.free

      kept : (k : Place) → put_file q (new p) (put_file p None new) k ≡ new k
      kept k = by_place q k
          (λ e. ap (λ r. put_file q (new p) (put_file p None new) r) e ∙ put_here q (new p) (put_file p None new) ∙ sym at_new ∙ ap new (sym e))
          (λ ne off. put_else q k (new p) (put_file p None new) ne ∙ by_place p k
          (λ e. ap (λ r. put_file p None new r) e ∙ put_here p None new ∙ sym none ∙ ap new (sym e))
          (λ other off. put_else p k None new other))

pub other_name : (server : ℕ) (old new : List ℕ) → true ≡ not (bytes_eq old new) → ◌≢◌ {A = Place} (server, old) (server, new)
other_name server old new differ e = clash (bytes_eq old new) differ ((bytes_eq-Decides old new).1 (ap (λ (q : Place). q.1) e))
  where
    clash : (b : Bool) → true ≡ not b → b ≡ true → ⊥
    clash b differ is = cc (ap not is)

-- the files at places that don't pass the test
abbrev pub outside : (Place → Bool) → List Stored → List Stored
outside test kept = filter (λ s. not (test (place_kept s))) kept

pub files_outside : (test : Place → Bool) (kept : List Stored) (k : Place) → files_kept (outside test kept) k ≡ cond (test k) None (files_kept kept k)
files_outside test [] k = each (test k)
  where
    each : (b : Bool) → ◌≡◌ {A = Option File} None (cond b None None)
    each true = refl
    each false = refl
files_outside test (s ∷ kept) k = each (test (place_kept s)) refl (files_outside test kept k)
  where
    each : (b : Bool) → test (place_kept s) ≡ b → files_kept (outside test kept) k ≡ cond (test k) None (files_kept kept k)
        → files_kept (cond (not b) (s ∷ outside test kept) (outside test kept)) k ≡ cond (test k) None (files_kept (s ∷ kept) k)
    each true is rest = rest ∙ by_place (place_kept s) k
        (λ e. cond-true (test k) None (files_kept kept k) (ap test e ∙ is) ∙ sym (cond-true (test k) None (files_kept (s ∷ kept) k) (ap test e ∙ is)))
        (λ ne off. ap (λ f. cond (test k) None f) (sym (behind s kept k ne)))
    each false is rest = by_place (place_kept s) k
        (λ e. ap (λ q. files_kept (s ∷ outside test kept) q) e ∙ at_first s (outside test kept) ∙ sym (cond-false (test k) None (files_kept (s ∷ kept) k) (ap test e ∙ is) ∙ ap (λ q. files_kept (s ∷ kept) q) e ∙ at_first s kept))
        (λ ne off. behind s (outside test kept) k ne ∙ rest ∙ ap (λ f. cond (test k) None f) (sym (behind s kept k ne)))

pub apart_outside : (test : Place → Bool) (kept : List Stored) → are_apart kept ≡ true → are_apart (outside test kept) ≡ true
apart_outside test [] apart = refl
apart_outside test (s ∷ kept) apart = each (test (place_kept s)) (apart_outside test kept (apart_rest s kept apart))
  where
    nothing_there : (b : Bool) → cond b None (files_kept kept (place_kept s)) ≡ None
    nothing_there true = refl
    nothing_there false = apart_none s kept apart

    each : (b : Bool) → are_apart (outside test kept) ≡ true → are_apart (cond (not b) (s ∷ outside test kept) (outside test kept)) ≡ true
    each true rest = rest
    each false rest = apart_cons s (outside test kept) (files_outside test kept (place_kept s) ∙ nothing_there (test (place_kept s))) rest

-- the same, as a list that was filtered by another name of the test
pub files_lost : (lost : ℕ → Bool) (kept now : List Stored) → now ≡ filter (λ s. not (lost s.server)) kept → files_kept now ≡ (λ k. cond (lost k.0) None (files_kept kept k))
files_lost lost kept now is = λ i k. (ap (λ l. files_kept l k) is ∙ files_outside (λ p. lost p.0) kept k) i

pub apart_lost : (lost : ℕ → Bool) (kept now : List Stored) → now ≡ filter (λ s. not (lost s.server)) kept → are_apart kept ≡ true → are_apart now ≡ true
apart_lost lost kept now is apart = ap are_apart is ∙ apart_outside (λ p. lost p.0) kept apart
