-- Tests on places, and files with one place changed.
use Rattle.std.proofs.Common.{◌≡◌, ◌≢◌, ⊎_elim, ◌==◌, Bool, true, false, Option, sym, ◌∙◌, subst, rules, tests}
use Rattle.std.specs.Str.{bytes_eq}
use Rattle.std.proofs.lemmas.Slice.Eq.{bytes_eq-Decides}
use Rattle.std.proofs.lemmas.Bool.{cases_Bool, eqb-true, and_parts, cond-true, cond-false, false_from_ne_true}
use Rattle.site_model.specs.Disk.{File, Place, Files}
use Rattle.site_mem.specs.Events.{is_place, put_file}

pub is_place-self : (p : Place) → is_place p p ≡ true
is_place-self (s, n) = search (rules, tests, bytes_eq-Decides)

pub is_place-same : (p k : Place) → is_place p k ≡ true → k ≡ p
is_place-same (s, n) (t, m) is =
    let both = and_parts (t == s) (bytes_eq m n) is in
    let a : t ≡ s = eqb-true t s both.0 in
    let b : m ≡ n = (bytes_eq-Decides m n).0 both.1 in
    cc

pub is_place-other : (p k : Place) → k ≢ p → is_place p k ≡ false
is_place-other p k ne = false_from_ne_true (is_place p k) (λ is. ne (is_place-same p k is))

-- a place is this one or another
pub by_place : {P : Type 0} (p k : Place) → (k ≡ p → P) → (k ≢ p → is_place p k ≡ false → P) → P
by_place p k here there = ⊎_elim (λ is. here (is_place-same p k is)) (λ off. there (λ e. differ (is_place p k) off (subst (λ q. is_place q k ≡ true) e (is_place-self k))) off) (cases_Bool (is_place p k))
  where
    differ : (b : Bool) → b ≡ false → b ≡ true → ⊥
    differ b off is = cc

pub put_here : (p : Place) (file : Option File) (files : Files) → put_file p file files p ≡ file
put_here p file files = cond-true (is_place p p) file (files p) (is_place-self p)

pub put_else : (p k : Place) (file : Option File) (files : Files) → k ≢ p → put_file p file files k ≡ files k
put_else p k file files ne = cond-false (is_place p k) file (files k) (is_place-other p k ne)

-- what was put last counts
pub put_again : (p k : Place) (file other : Option File) (files : Files) → put_file p file (put_file p other files) k ≡ put_file p file files k
put_again p k file other files = by_place p k
    (λ e. subst (λ q. put_file p file (put_file p other files) q ≡ put_file p file files q) (sym e) (put_here p file (put_file p other files) ∙ sym (put_here p file files)))
    (λ ne off. put_else p k file (put_file p other files) ne ∙ put_else p k other files ne ∙ sym (put_else p k file files ne))
