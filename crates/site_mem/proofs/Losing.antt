-- Files that are lost, one server more.
use Rattle.std.proofs.Common.{◌≡◌, ◌⊎◌, ⊎_elim, ℕ, ◌+◌, ◌<◌, ◌≤◌, ◌==◌, ◌||◌, ◌&&◌, nat_lt, nat_le, Bool, true, false, cond, List, get_or, Option, None, refl, sym, ◌∙◌, ap, subst, arith}
use Rattle.std.proofs.lemmas.Bool.{cases_eq, cases_lt, cond-true, cond-false, eq-eqb, ne_eqb, lt-ltb, le-ltb, lt-leb}
use Rattle.site_model.specs.Disk.{File, Place, Files}
use Rattle.site_mem.specs.declared.entry.Entry.{Entry}
use Rattle.site_mem.specs.declared.stored.Stored.{Stored}
use Rattle.site_mem.specs.Kept.{files_kept}
use Rattle.site_mem.specs.Lost.{has_lost, had_lost, files_without, Loses}
use Rattle.site_mem.specs.Record.{nothing, from, disk_of, AreSame}

module _ {server number : ℕ} {old new : List ℕ} (positive : 0 < number) (is : Loses server number old new) where
  pub has_lost_more : (s : ℕ) → has_lost new s ≡ ((s == server) || has_lost old s)
  has_lost_more s = ⊎_elim
      (λ e. here (subst (λ t. get_or new t 0 ≡ cond (nat_lt 0 (get_or old t 0)) (get_or old t 0) number) (sym e) is.here) ∙ sym (ap (λ b. b || has_lost old s) (eq-eqb s server e)))
      (λ ne. ap (λ n. nat_lt 0 n) (is.others s ne) ∙ sym (ap (λ b. b || has_lost old s) (ne_eqb s server ne)))
      (cases_eq s server)
    where
      here : get_or new s 0 ≡ cond (nat_lt 0 (get_or old s 0)) (get_or old s 0) number → nat_lt 0 (get_or new s 0) ≡ true
      here e = ⊎_elim
          (λ on. lt-ltb 0 (get_or new s 0) (omega (arith, e ∙ cond-true (nat_lt 0 (get_or old s 0)) (get_or old s 0) number (lt-ltb 0 (get_or old s 0) on), on)))
          (λ off. lt-ltb 0 (get_or new s 0) (omega (arith, e ∙ cond-false (nat_lt 0 (get_or old s 0)) (get_or old s 0) number (le-ltb 0 (get_or old s 0) off), positive)))
          (cases_lt 0 (get_or old s 0))

  lost_twice : (s : ℕ) (f : Option File) → cond (has_lost new s) None (cond (has_lost old s) None f) ≡ cond (has_lost new s) None f
  lost_twice s f = each (s == server) (has_lost old s) (has_lost new s) (has_lost_more s)
    where
      each : (e b a : Bool) → a ≡ (e || b) → cond a None (cond b None f) ≡ cond a None f
      each e b true is = refl
      each e false false is = refl
      each true true false is = absurd (cc is)
      each false true false is = absurd (cc is)

  -- what stands goes on with what is lost
  pub files_less : (kept now : List Stored) (entries more : List Entry) → more ≡ entries → AreSame (files_kept kept) (disk_of entries old).files → files_kept now ≡ files_without (has_lost new) (files_kept kept)
      → AreSame (files_kept now) (disk_of more new).files
  files_less kept now entries more same_entries same is k =
      ap (λ (f : Files). f k) is ∙ ap (λ f. cond (has_lost new k.0) None f) (same k) ∙ lost_twice k.0 ((from nothing entries).files k)
      ∙ sym (ap (λ (l : List Entry). (disk_of l new).files k) same_entries)

  pub disk_less : (entries : List Entry) (k : Place) → (disk_of entries new).files k ≡ cond (k.0 == server) None ((disk_of entries old).files k)
  disk_less entries k = each (k.0 == server) (has_lost old k.0) (has_lost new k.0) (has_lost_more k.0)
    where
      each : (e b a : Bool) → a ≡ (e || b) → cond a None ((from nothing entries).files k) ≡ cond e None (cond b None ((from nothing entries).files k))
      each true b true is = refl
      each true b false is = absurd (cc is)
      each false b a is = ap (λ t. cond t None ((from nothing entries).files k)) is

  pub since_less : (calls : ℕ) → number ≤ calls + 1 → ((s : ℕ) → get_or old s 0 ≤ calls + 1) → (s : ℕ) → get_or new s 0 ≤ calls + 1
  since_less calls now before s = ⊎_elim
      (λ e. subst (λ t. get_or new t 0 ≤ calls + 1) (sym e) (here (nat_lt 0 (get_or old server 0)) is.here (before server)))
      (λ ne. omega (arith, is.others s ne, before s))
      (cases_eq s server)
    where
      here : (b : Bool) → get_or new server 0 ≡ cond b (get_or old server 0) number → get_or old server 0 ≤ calls + 1 → get_or new server 0 ≤ calls + 1
      here true e old = omega (arith, e, old)
      here false e old = omega (arith, e, now)

  -- an earlier call found no more lost
  pub had_lost_same : (n s : ℕ) → n < number → had_lost new n s ≡ had_lost old n s
  had_lost_same n s sooner = ⊎_elim
      (λ e. subst (λ t. had_lost new n t ≡ had_lost old n t) (sym e) (here (cases_lt 0 (get_or old server 0))))
      (λ ne. ap (λ m. nat_lt 0 m && nat_le m n) (is.others s ne))
      (cases_eq s server)
    where
      off : (b : Bool) → b ≡ false → (a : Bool) → (a && b) ≡ false
      off b e true = e
      off b e false = refl

      here : ((0 < get_or old server 0) ⊎ (get_or old server 0 ≤ 0)) → had_lost new n server ≡ had_lost old n server
      here cases = ⊎_elim
          (λ on. ap (λ m. nat_lt 0 m && nat_le m n) (is.here ∙ cond-true (nat_lt 0 (get_or old server 0)) (get_or old server 0) number (lt-ltb 0 (get_or old server 0) on)))
          (λ none. ap (λ m. nat_lt 0 m && nat_le m n) (is.here ∙ cond-false (nat_lt 0 (get_or old server 0)) (get_or old server 0) number (le-ltb 0 (get_or old server 0) none))
          ∙ off (nat_le number n) (lt-leb number n sooner) (nat_lt 0 number)
          ∙ sym (ap (λ b. b && nat_le (get_or old server 0) n) (le-ltb 0 (get_or old server 0) none)))
          cases
