-- The names of the files at a server.
use Rattle.std.proofs.Common.{◌≡◌, ◌≢◌, ◌⊎◌, inl, inr, ⊎_elim, ℕ, zero, suc, ◌+◌, ◌<◌, ◌==◌, Bool, true, false, cond, List, [], ◌∷◌, ◌++◌, length, take, get_or, Option, None, IsSome, is_some, string_bytes, refl, sym, ◌∙◌, ap, subst, arith}
use Rattle.std.specs.List.{Contains, AllPairs}
use Rattle.std.proofs.lemmas.Bool.{cond_both, cond-true, eq-eqb, eqb-true}
use Rattle.std.proofs.lemmas.List.Kept.{AllPairs-cons}
use Rattle.std.proofs.lemmas.List.{take_more, get_or_default}
use Rattle.site_model.specs.Disk.{File, Place, Files, IsListOf}
use Rattle.site_mem.specs.declared.stored.Stored.{Stored}
use Rattle.site_mem.specs.Kept.{place_kept, files_kept, are_apart, names_at}
use Rattle.site_mem.specs.Record.{AreSame}
use Rattle.site_mem.proofs.Places.{by_place}
use Rattle.site_mem.proofs.Keeping.{apart_none, apart_rest, at_first, behind}

first_there : {A : Type 0} (x : A) (xs : List A) → Contains (x ∷ xs) x
first_there x xs = (0, omega arith, refl)

behind_there : {A : Type 0} (x y : A) (xs : List A) → Contains xs y → Contains (x ∷ xs) y
behind_there x y xs is = (suc is.0, omega (arith, is.1), is.2)

there_cases : {A : Type 0} (x y : A) (xs : List A) → Contains (x ∷ xs) y → (y ≡ x) ⊎ Contains xs y
there_cases x y xs (zero, within, is) = inl (sym is)
there_cases x y xs (suc k, within, is) = inr (k, omega (arith, within), is)

names_some : (server : ℕ) (name : List ℕ) (kept : List Stored) → Contains (names_at server kept) name → IsSome (files_kept kept (server, name))
names_some server name [] is = absurd (omega (arith, is.1))
names_some server name (s ∷ kept) is = by_place (place_kept s) (server, name)
    (λ e. subst (λ k. IsSome (files_kept (s ∷ kept) k)) (sym e) (subst (λ f. IsSome f) (sym (at_first s kept)) refl))
    (λ ne off. subst (λ f. IsSome f) (sym (behind s kept (server, name) ne)) (names_some server name kept (rest (s.server == server) (λ on. ne) (eqb-true s.server server) is)))
  where
    rest : (b : Bool) → (b ≡ true → ◌≢◌ {A = Place} (server, name) (place_kept s)) → (b ≡ true → s.server ≡ server) → Contains (cond b (string_bytes s.name ∷ names_at server kept) (names_at server kept)) name → Contains (names_at server kept) name
    rest true ne here is = ⊎_elim (λ e. absurd (ne refl (ap (λ n. (server, n)) e ∙ ap (λ n. (n, string_bytes s.name)) (sym (here refl))))) (λ there. there) (there_cases (string_bytes s.name) name (names_at server kept) is)
    rest false ne here is = is

names_there : (server : ℕ) (name : List ℕ) (kept : List Stored) → IsSome (files_kept kept (server, name)) → Contains (names_at server kept) name
names_there server name [] is = absurd (cc is)
names_there server name (s ∷ kept) is = by_place (place_kept s) (server, name)
    (λ e. subst (λ n. Contains (names_at server (s ∷ kept)) n) (sym (ap (λ (k : Place). k.1) e))
    (subst (λ l. Contains l (string_bytes s.name)) (sym (cond-true (s.server == server) _ _ (eq-eqb s.server server (sym (ap (λ (k : Place). k.0) e))))) (first_there (string_bytes s.name) (names_at server kept))))
    (λ ne off. more (s.server == server) (names_there server name kept (subst (λ f. IsSome f) (behind s kept (server, name) ne) is)))
  where
    more : (b : Bool) → Contains (names_at server kept) name → Contains (cond b (string_bytes s.name ∷ names_at server kept) (names_at server kept)) name
    more true is = behind_there (string_bytes s.name) name (names_at server kept) is
    more false is = is

names_once : (server : ℕ) (kept : List Stored) → are_apart kept ≡ true → AllPairs (λ a b. a ≢ b) (names_at server kept)
names_once server [] apart = λ i j d before within. absurd (omega (arith, within))
names_once server (s ∷ kept) apart = cond_both (s.server == server) (string_bytes s.name ∷ names_at server kept) (names_at server kept) (λ l. AllPairs (λ a b. a ≢ b) l)
    (λ here. AllPairs-cons (λ a b. a ≢ b) (string_bytes s.name) (names_at server kept) (λ k d within e. absurd (none_there (eqb-true s.server server here) (k, within, shown k d within e))) (names_once server kept (apart_rest s kept apart)))
    (λ off. names_once server kept (apart_rest s kept apart))
  where
    shown : (k : ℕ) (d : List ℕ) → k < length (names_at server kept) → string_bytes s.name ≡ get_or (names_at server kept) k d → get_or (names_at server kept) k (string_bytes s.name) ≡ string_bytes s.name
    shown k d within e = get_or_default (names_at server kept) k (string_bytes s.name) d within ∙ sym e

    none_there : s.server ≡ server → Contains (names_at server kept) (string_bytes s.name) → ⊥
    none_there here is = clash (files_kept kept (server, string_bytes s.name)) (names_some server (string_bytes s.name) kept is)
        (ap (λ n. files_kept kept (n, string_bytes s.name)) (sym here) ∙ apart_none s kept apart)
      where
        clash : (f : Option File) → IsSome f → f ≡ None → ⊥
        clash f on none = cc (on, ap (λ g. is_some g) none)

-- the names that were gathered are those of the files
pub names_list : (server : ℕ) (kept : List Stored) (files : Files) (names : List (List ℕ)) → are_apart kept ≡ true → AreSame (files_kept kept) files → names ≡ names_at server kept → IsListOf files server names
names_list server kept files names apart same is =
    subst (λ l. IsListOf files server l) (sym is)
    (record {
      all = λ name. ((λ there. subst (λ f. IsSome f) (same (server, name)) (names_some server name kept there)), (λ on. names_there server name kept (subst (λ f. IsSome f) (sym (same (server, name))) on)));
      once = names_once server kept apart;
    })

names_pushed : (server : ℕ) (kept : List Stored) (s : Stored) → names_at server (kept ++ s ∷ []) ≡ names_at server kept ++ names_at server (s ∷ [])
names_pushed server [] s = refl
names_pushed server (t ∷ kept) s = each (t.server == server) (names_pushed server kept s)
  where
    each : (b : Bool) → names_at server (kept ++ s ∷ []) ≡ names_at server kept ++ names_at server (s ∷ [])
        → cond b (string_bytes t.name ∷ names_at server (kept ++ s ∷ [])) (names_at server (kept ++ s ∷ [])) ≡ cond b (string_bytes t.name ∷ names_at server kept) (names_at server kept) ++ names_at server (s ∷ [])
    each true is = ap (λ xs. string_bytes t.name ∷ xs) is
    each false is = is

-- one file more was looked at
pub names_more : (server : ℕ) (kept : List Stored) (i : ℕ) (s : Stored) → i < length kept → s ≡ get_or kept i s → names_at server (take (i + 1) kept) ≡ names_at server (take i kept) ++ names_at server (s ∷ [])
names_more server kept i s within is = ap (λ l. names_at server l) (take_more kept i s within ∙ ap (λ x. take i kept ++ x ∷ []) (sym is)) ∙ names_pushed server (take i kept) s
