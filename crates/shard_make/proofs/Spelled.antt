-- The temporary names of a volume's shards, one after the other.
use Rattle.std.proofs.Common.{◌≡◌, inl, inr, ℕ, ◌+◌, ◌-◌, ◌<◌, List, [], ◌∷◌, ◌++◌, length, map, get_or, sym, ◌∙◌, ap, subst, length-append, arith}
use Rattle.std.proofs.lemmas.Bool.{cases_lt}
use Rattle.std.proofs.lemmas.List.{get_or-append_right, get_or_append_left, get_or-map, length-map, map-append}
use Rattle.shard_make.specs.Names.{AreTempNames, temp_shard}

-- no name yet
pub no_names : (volume : ℕ) (names : List (List ℕ)) → names ≡ [] → AreTempNames volume 0 names
no_names volume names none = record { count = ap length none; each = λ i h. absurd (omega (arith, h)) }

pub one_more_name : {A : Type 0} (f : A → List ℕ) (names more : List A) (volume n : ℕ) (name : A) → more ≡ names ++ name ∷ [] → f name ≡ temp_shard volume n → AreTempNames volume n (map f names)
    → AreTempNames volume (n + 1) (map f more)
one_more_name f names more volume n name e is so_far =
    let last : List (List ℕ) = f name ∷ [] in
    let both : map f more ≡ map f names ++ f name ∷ [] = ap (map f) e ∙ map-append f names (name ∷ []) in
    record {
      count = ap length both ∙ length-append (map f names) (f name ∷ []) ∙ omega (arith, so_far.count);
      each = λ i h. ap (λ xs. get_or xs i []) both ∙ elim (cases_lt i n) [
        | inl less ↦ get_or_append_left (map f names) (f name ∷ []) [] i (omega (arith, less, so_far.count)) ∙ so_far.each i less
        | inr more ↦
            let at : i ≡ n = omega (arith, h, more) in
            let first : i - n ≡ 0 = omega (arith, at) in
            get_or-append_right (map f names) (f name ∷ []) n i [] so_far.count more ∙ ap (λ m. get_or (f name ∷ []) m []) first ∙ is ∙ ap (temp_shard volume) (sym at)
      ];
    }

pub all_names : (volume n m : ℕ) (names : List (List ℕ)) → n ≡ m → AreTempNames volume n names → AreTempNames volume m names
all_names volume n m names same first = subst (λ k. AreTempNames volume k names) same first

-- a name of the list
pub name_is : {A : Type 0} (f : A → List ℕ) (xs : List A) (volume n i : ℕ) (s : A) → AreTempNames volume n (map f xs) → i < n → s ≡ get_or xs i s → f s ≡ temp_shard volume i
name_is f xs volume n i s names h e = ap f e ∙ sym (get_or-map f xs i s [] (omega (arith, h, names.count, length-map xs f))) ∙ names.each i h
