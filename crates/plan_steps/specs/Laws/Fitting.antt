-- How files go on to fit, as one file of a plan goes on.
use Rattle.std.proofs.Common.{◌≡◌, ◌≢◌, ◌⊎◌, inl, inr, ⊎_elim, ℕ, zero, suc, ◌<◌, true, false, List, [], ◌∷◌, Option, Some, None, refl, sym, ◌∙◌, ap, subst}
use Rattle.std.specs.Prelude.{slice_get, slice_set}
use Rattle.std.proofs.lemmas.Bool.{cases_eq}
use Rattle.image_meaning.specs.Laws.Options.{some_is}
use Rattle.site_model.specs.Disk.{File, Place, Files}
use Rattle.file_names.specs.declared.Kind.{Kind}
use Rattle.file_names.specs.declared.FileName.{FileName}
use Rattle.file_names.specs.Names.{IsKind, place_of}
use Rattle.file_names.specs.Laws.Name.{same_name}
use Rattle.site_model.specs.Counts.{max_servers}
use Rattle.image_meaning.specs.Meaning.{max_volumes}
use Rattle.image_meaning.specs.Laws.Copy.{temp_apart}
use Rattle.image_meaning.specs.Places.{finals_apart}
use Rattle.image_meaning.specs.Share.{Share, share_of, finals}
use Rattle.plan_steps.specs.declared.plan.FileState.{FileState}
use Rattle.plan_steps.specs.Kept.{Forms, HasAForm}
use Rattle.plan_steps.specs.Fitting.{StandsBy, StandsAt, AreStates, IsOther, FitsStates}

pub get_set : {A : Type 0} (xs : List A) (j : ℕ) (x y : A) → slice_get xs j ≡ Some x → slice_get (slice_set xs j y) j ≡ Some y
get_set [] j x y e = absurd (none_some e)
  where
    none_some : {A : Type 0} {x : A} → None ≡ Some x → ⊥
    none_some e = cc
get_set (z ∷ xs) zero x y e = refl
get_set (z ∷ xs) (suc j) x y e = get_set xs j x y e

pub get_set_other : {A : Type 0} (xs : List A) (i j : ℕ) (y : A) → i ≢ j → slice_get (slice_set xs j y) i ≡ slice_get xs i
get_set_other [] i j y other = refl
get_set_other (z ∷ xs) zero zero y other = absurd (other refl)
get_set_other (z ∷ xs) zero (suc j) y other = refl
get_set_other (z ∷ xs) (suc i) zero y other = refl
get_set_other (z ∷ xs) (suc i) (suc j) y other = get_set_other xs i j y (λ e. other (ap suc e))

-- ---- the share of a volume, as the files of one name change

-- all files but this one and its temporary one are as they were
pub record IsSameBut (server : ℕ) (kind : Kind) (old new : Share) : Type 0 where
  pub finals : (s : ℕ) (k : Kind) → (s ≡ server → k ≡ kind → ⊥) → new s k false ≡ old s k false
  pub temps : (s : ℕ) (k : Kind) → IsKind k → (s ≡ server → k ≡ kind → ⊥) → new s k true ≡ old s k true

-- temporary files with different names stand at different places
temps_apart : (v s t : ℕ) (a b : Kind) → v < max_volumes → IsKind a → IsKind b → (s ≡ t → a ≡ b → ⊥) → place_of v s a true ≢ place_of v t b true
temps_apart v s t a b h is_a is_b other e =
    let f : FileName = record { volume = v; kind = a; temp = true } in
    let g : FileName = record { volume = v; kind = b; temp = true } in
    let names : f ≡ g = same_name f g (record { volume = h; kind = is_a }) (record { volume = h; kind = is_b }) (ap (λ (q : Place). q.1) e) in
    other (ap (λ (q : Place). q.0) e) (ap (λ (n : FileName). n.kind) names)

-- calls on one file and its temporary one leave the others
pub same_but : (v server : ℕ) (kind : Kind) (old new : Files) → v < max_volumes → IsKind kind
    → ((k : Place) → k ≢ place_of v server kind false → k ≢ place_of v server kind true → new k ≡ old k) → IsSameBut server kind (share_of old v) (share_of new v)
same_but v server kind old new h is others = record {
  finals = λ s k other. others (place_of v s k false) (λ e. let same = finals_apart v s server k kind h e in other same.0 same.1) (temp_apart v s server k kind h);
  temps = λ s k fits other. others (place_of v s k true) (λ e. temp_apart v server s kind k h (sym e)) (temps_apart v s server k kind h fits is other);
}

-- ---- the list

module _ (states : List FileState) (j : ℕ) (s next : FileState) (at : slice_get states j ≡ Some s) (server : next.server ≡ s.server) (kind : next.kind ≡ s.kind) where
  abbrev moved : List FileState
  moved = slice_set states j next

  -- what is in the list afterwards was in it, or is the file that goes on
  pub was_in : (i : ℕ) (a : FileState) → slice_get moved i ≡ Some a → ((i ≡ j) × (a ≡ next)) ⊎ ((i ≢ j) × (slice_get states i ≡ Some a))
  was_in i a e = by_place (cases_eq i j)
    where
      by_place : (i ≡ j) ⊎ (i ≢ j) → ((i ≡ j) × (a ≡ next)) ⊎ ((i ≢ j) × (slice_get states i ≡ Some a))
      by_place (inl same) = inl (same, some_is a next (sym e ∙ ap (slice_get moved) same ∙ get_set states j s next at))
      by_place (inr other) = inr (other, sym (get_set_other states i j next other) ∙ e)

  -- each file of the list has a state with its name before
  named_before : (i : ℕ) (a : FileState) → slice_get moved i ≡ Some a → (b : FileState) × (slice_get states i ≡ Some b) × (b.server ≡ a.server) × (b.kind ≡ a.kind)
  named_before i a e = ⊎_elim
      (λ same. (s, ap (slice_get states) same.0 ∙ at, sym server ∙ ap (λ (x : FileState). x.server) (sym same.1), sym kind ∙ ap (λ (x : FileState). x.kind) (sym same.1)))
      (λ other. (a, other.1, refl, refl))
      (was_in i a e)

  pub states_on : AreStates states → AreStates moved
  states_on are = record {
    named = λ i a e.
        let b = named_before i a e in
        let was = are.named i b.0 b.1 in
        (subst IsKind b.3 was.0, subst (λ n. n < max_servers) b.2 was.1);
    apart = λ i k a c e g same_server same_kind.
        let b = named_before i a e in
        let d = named_before k c g in
        are.apart i k b.0 d.0 b.1 d.1 (b.2 ∙ same_server ∙ sym d.2) (b.3 ∙ same_kind ∙ sym d.3);
  }

  pub other_before : (n : ℕ) (c : Kind) → IsOther moved n c → IsOther states n c
  other_before n c other i a e same_server same_kind = by_place (cases_eq i j)
    where
      by_place : (i ≡ j) ⊎ (i ≢ j) → ⊥
      by_place (inl same) =
          let is : a ≡ s = some_is a s (sym e ∙ ap (slice_get states) same ∙ at) in
          other j next (get_set states j s next at) (server ∙ ap (λ (x : FileState). x.server) (sym is) ∙ same_server) (kind ∙ ap (λ (x : FileState). x.kind) (sym is) ∙ same_kind)
      by_place (inr apart) = other i a (get_set_other states i j next apart ∙ e) same_server same_kind

  -- One file goes on to another stage, and the files fit again.
  pub fits_on : (f : Forms) (given : ℕ → Kind → Option File) (start old new : Share) → AreStates states → FitsStates f given start states old → IsSameBut s.server s.kind old new
      → StandsAt given new next → HasAForm f (finals new) → FitsStates f given start moved new
  fits_on f given start old new are fits same stands kept = record {
    each = λ i a e. ⊎_elim
        (λ is. subst (StandsAt given new) (sym is.1) stands)
        (λ other. unchanged i a other.0 other.1)
        (was_in i a e);
    others = λ n c other.
        let before = other_before n c other in
        same.finals n c (apart_from n c before) ∙ fits.others n c before;
    temps = λ n c below is other.
        let before = other_before n c other in
        same.temps n c is (apart_from n c before) ∙ fits.temps n c below is before;
    kept = kept;
  }
    where
      apart_from : (n : ℕ) (c : Kind) → IsOther states n c → n ≡ s.server → c ≡ s.kind → ⊥
      apart_from n c other same_server same_kind = other j s at (sym same_server) (sym same_kind)

      unchanged : (i : ℕ) (a : FileState) → i ≢ j → slice_get states i ≡ Some a → StandsAt given new a
      unchanged i a other e =
          let apart : a.server ≡ s.server → a.kind ≡ s.kind → ⊥ = λ same_server same_kind. other (are.apart i j a s e at same_server same_kind) in
          let final = same.finals a.server a.kind apart in
          let temp = same.temps a.server a.kind (are.named i a e).0 apart in
          subst (λ (p : Option File × Option File). StandsBy a.stage a.length (given a.server a.kind) p.0 p.1) (λ k. (sym final k, sym temp k)) (fits.each i a e)
