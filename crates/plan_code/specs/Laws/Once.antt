-- Each file is once in the list of an encode and of a decode.
use Rattle.std.proofs.Common.{◌≡◌, inl, inr, ⊎_elim, ℕ, zero, suc, ◌+◌, ◌%◌, ◌<◌, ◌≤◌, Bool, true, false, cond, List, [], ◌∷◌, ◌++◌, map, flat_map, filter, slice_get, Option, Some, None, refl, sym, ◌∙◌, ap, subst, arith}
use Rattle.std.specs.List.{range_with_len}
use Rattle.world_model.specs.declared.types.Ratio.{Ratio}
use Rattle.world_model.specs.declared.types.Command.TheVariants.{Encode, Decode}
use Rattle.file_names.specs.declared.Kind.{Kind}
use Rattle.file_names.specs.declared.Kind.TheVariants.{Dat, Idx, Cpd, Cpx, Shard, Ecx, Ecj, Vif}
use Rattle.file_names.specs.Names.{IsKind}
use Rattle.site_model.specs.Counts.{max_servers}
use Rattle.shard_table.specs.Table.{Row, place_in}
use Rattle.image_meaning.specs.Files.{all_servers}
use Rattle.image_meaning.specs.Laws.Options.{some_is}
use Rattle.plan_steps.specs.declared.plan.Plan.{Plan}
use Rattle.plan_steps.specs.declared.plan.FileState.{FileState}
use Rattle.plan_steps.specs.Planned.{held}
use Rattle.plan_steps.specs.Fitting.{AreStates}
use Rattle.plan_steps.specs.Order.{Names}
use Rattle.plan_steps.specs.Lists.{is_target, shard_names, left_names, encode_names, list_by, list_of}
use Rattle.plan_steps.specs.Plans.{all_numbers, place_if, IsEncodePlan, IsDecodePlan}
use Rattle.plan_steps.specs.Members.{Has, at_has, has_either, has_map, map_has, flat_has, filter_has, range_has}
use Rattle.plan_steps.specs.Beginning.{first_state, first_states}
use Rattle.plan_steps.specs.Laws.Order.{named_at}
use Rattle.plan_code.specs.Started.{AreNamed}

-- ---- lists without repetition

-- no element comes again
abbrev pub Once : {A : Type 0} → List A → Type 0
Once [] = Unit {0}
Once (x ∷ xs) = (Has xs x → ⊥) × Once xs

pub once_append : {A : Type 0} (xs ys : List A) → Once xs → Once ys → ((x : A) → Has xs x → Has ys x → ⊥) → Once (xs ++ ys)
once_append [] ys h k apart = k
once_append (x ∷ xs) ys h k apart = ((λ has. ⊎_elim h.0 (apart x (inl refl)) (has_either xs ys x has)), once_append xs ys h.1 k (λ y a b. apart y (inr a) b))

-- as long as one function tells them apart, another does where it tells what that one does
once_by : {A B C : Type 0} (f : A → B) (g : A → C) (xs : List A) → Once (map f xs) → ((x y : A) → g x ≡ g y → f x ≡ f y) → Once (map g xs)
once_by f g [] h tells = tt
once_by f g (x ∷ xs) h tells = (
  (λ has.
      let found = map_has g xs (g x) has in
      h.0 (subst (Has (map f xs)) (tells found.0 x found.2) (has_map f xs found.0 found.1))),
  once_by f g xs h.1 tells,
)

once_map : {A B : Type 0} (f : A → B) (xs : List A) → Once xs → ((x y : A) → f x ≡ f y → x ≡ y) → Once (map f xs)
once_map f [] h tells = tt
once_map f (x ∷ xs) h tells = (
  (λ has.
      let found = map_has f xs (f x) has in
      h.0 (subst (Has xs) (tells found.0 x found.2) found.1)),
  once_map f xs h.1 tells,
)

pub once_filter : {A : Type 0} (test : A → Bool) (xs : List A) → Once xs → Once (filter test xs)
once_filter test [] h = tt
once_filter test (x ∷ xs) h = by_test (test x) (once_filter test xs h.1)
  where
    by_test : (b : Bool) → Once (filter test xs) → Once (cond b (x ∷ filter test xs) (filter test xs))
    by_test true rest = ((λ has. h.0 (filter_has test xs x has).0), rest)
    by_test false rest = rest

pub once_range : (a n : ℕ) → Once (range_with_len a n)
once_range a zero = tt
once_range a (suc n) = ((λ has. let from = (range_has (a + 1) n a has).0 in omega (arith, from)), once_range (a + 1) n)

pub once_flat : {A B : Type 0} (f : A → List B) (xs : List A) → Once xs → ((x : A) → Once (f x)) → ((x y : A) (b : B) → Has (f x) b → Has (f y) b → x ≡ y) → Once (flat_map f xs)
once_flat f [] h each tells = tt
once_flat f (x ∷ xs) h each tells =
    once_append (f x) (flat_map f xs) (each x) (once_flat f xs h.1 each tells)
    (λ b here there. let found = flat_has f xs b there in h.0 (subst (Has xs) (tells found.0 x b found.2 here) found.1))

-- two places of one element are one
once_at : {A : Type 0} (xs : List A) → Once xs → (i j : ℕ) (x : A) → slice_get xs i ≡ Some x → slice_get xs j ≡ Some x → i ≡ j
once_at [] h i j x a b = absurd cc
once_at (y ∷ xs) h zero zero x a b = refl
once_at (y ∷ xs) h zero (suc j) x a b = absurd (h.0 (subst (Has xs) (sym (some_is y x a)) (at_has xs j x b)))
once_at (y ∷ xs) h (suc i) zero x a b = absurd (h.0 (subst (Has xs) (sym (some_is y x b)) (at_has xs i x a)))
once_at (y ∷ xs) h (suc i) (suc j) x a b = ap suc (once_at xs h.1 i j x a b)

-- ---- names of files

-- kinds by number, all shards alike
abbrev pub rank : Kind → ℕ
rank Vif = 0
rank Ecx = 1
rank Ecj = 2
rank (Shard i) = 3
rank Idx = 4
rank Dat = 5
rank Cpd = 6
rank Cpx = 7

shard_is : (i j : ℕ) → ◌≡◌ {A = Kind} (Shard i) (Shard j) → i ≡ j
shard_is i j e = cc

-- what stands in a list of shards
pub shard_rank : (shards : List (ℕ × ℕ)) (x : ℕ × Kind) → Has (shard_names shards) x → rank x.1 ≡ 3
shard_rank shards x has = let found = map_has (λ (p : ℕ × ℕ). (p.1, Shard p.0)) shards x has in ap (λ (q : ℕ × Kind). rank q.1) (sym found.2)

-- shards of different numbers have different names
pub shards_once : (shards : List (ℕ × ℕ)) → Once (map (λ (p : ℕ × ℕ). p.0) shards) → Once (shard_names shards)
shards_once shards h = once_by (λ (p : ℕ × ℕ). p.0) (λ (p : ℕ × ℕ). (p.1, Shard p.0)) shards h (λ p q e. shard_is p.0 q.0 (ap (λ (x : ℕ × Kind). x.1) e))

-- some servers
pub servers_once : (test : ℕ → Bool) → Once (filter test all_servers)
servers_once test = once_filter test all_servers (once_range 0 max_servers)

at_kind : (kind : Kind) (servers : List ℕ) (x : ℕ × Kind) → Has (map (λ s. (s, kind)) servers) x → rank x.1 ≡ rank kind
at_kind kind servers x has = let found = map_has (λ s. (s, kind)) servers x has in ap (λ (q : ℕ × Kind). rank q.1) (sym found.2)

kind_once : (kind : Kind) (servers : List ℕ) → Once servers → Once {A = ℕ × Kind} (map (λ s. (s, kind)) servers)
kind_once kind servers h = once_map (λ s. (s, kind)) servers h (λ s t e. ap (λ (x : ℕ × Kind). x.0) e)

-- ---- an encode

module _ (plan : Plan) (servers : ℕ) (is : IsEncodePlan servers plan) where
  abbrev targeted : List ℕ
  targeted = filter (is_target plan) all_servers

  abbrev texts : Names
  texts = map (λ s. (s, Vif)) targeted

  abbrev indexes : Names
  indexes = map (λ s. (s, Ecx)) targeted

  abbrev shards : Names
  shards = shard_names plan.targets.items

  abbrev ends : Names
  ends = (plan.home, Idx) ∷ (plan.home, Dat) ∷ []

  end_rank : (x : ℕ × Kind) → Has ends x → 4 ≤ rank x.1
  end_rank x (inl e) = let at : 4 ≡ rank x.1 = ap (λ (q : ℕ × Kind). rank q.1) e in omega (arith, at)
  end_rank x (inr (inl e)) = let at : 5 ≡ rank x.1 = ap (λ (q : ℕ × Kind). rank q.1) e in omega (arith, at)
  end_rank x (inr (inr none)) = absurd none

  ends_once : Once ends
  ends_once = ((λ has. ⊎_elim (λ e. let at : 5 ≡ 4 = ap (λ (q : ℕ × Kind). rank q.1) e in absurd (omega (arith, at))) (λ none. none) has), ((λ none. none), tt))

  numbers_once : Once (map (λ (p : ℕ × ℕ). p.0) plan.targets.items)
  numbers_once = subst (λ (ts : List (ℕ × ℕ)). Once (map (λ (p : ℕ × ℕ). p.0) ts)) (sym is.targets)
      (subst Once (sym (numbers (all_numbers plan.info.geometry))) (once_range 0 _))
    where
      numbers : (is : List ℕ) → map (λ (p : ℕ × ℕ). p.0) (map (λ i. (i, i % servers)) is) ≡ is
      numbers [] = refl
      numbers (i ∷ is) = ap (λ rest. i ∷ rest) (numbers is)

  behind_indexes : (x : ℕ × Kind) → Has (shards ++ ends) x → 3 ≤ rank x.1
  behind_indexes x has = ⊎_elim (λ shard. let at : rank x.1 ≡ 3 = shard_rank plan.targets.items x shard in omega (arith, at)) (λ last. let at = end_rank x last in omega (arith, at)) (has_either shards ends x has)

  behind_texts : (x : ℕ × Kind) → Has (indexes ++ (shards ++ ends)) x → 1 ≤ rank x.1
  behind_texts x has = ⊎_elim
      (λ index. let at : rank x.1 ≡ 1 = at_kind Ecx targeted x index in omega (arith, at))
      (λ rest. let at = behind_indexes x rest in omega (arith, at))
      (has_either indexes (shards ++ ends) x has)

  encoded_once : Once (encode_names targeted plan.targets.items plan.home)
  encoded_once =
      once_append texts (indexes ++ (shards ++ ends)) (kind_once Vif targeted (servers_once (is_target plan)))
      (once_append indexes (shards ++ ends) (kind_once Ecx targeted (servers_once (is_target plan)))
      (once_append shards ends (shards_once plan.targets.items numbers_once) ends_once (λ x a b. let s = shard_rank plan.targets.items x a in let e = end_rank x b in omega (arith, s, e)))
      (λ x a b. let i : rank x.1 ≡ 1 = at_kind Ecx targeted x a in let r = behind_indexes x b in omega (arith, i, r)))
      (λ x a b. let t : rank x.1 ≡ 0 = at_kind Vif targeted x a in let r = behind_texts x b in omega (arith, t, r))

  pub encode_once : (ratio : Ratio) → plan.command ≡ Encode ratio → Once (list_of plan)
  encode_once ratio e = subst Once (sym (ap (list_by plan) e)) encoded_once

-- ---- a decode

place_number : (i : ℕ) (o : Option ℕ) (p : ℕ × ℕ) → Has (place_if i o) p → p.0 ≡ i
place_number i None p has = absurd has
place_number i (Some s) p (inl e) = ap (λ (q : ℕ × ℕ). q.0) (sym e)
place_number i (Some s) p (inr none) = absurd none

-- the shards that stand are there once each
places_once : (row : Row) (numbers : List ℕ) → Once numbers → Once (map (λ (p : ℕ × ℕ). p.0) (flat_map (λ i. place_if i (place_in row i)) numbers))
places_once row [] h = tt
places_once row (i ∷ numbers) h = by_place (place_in row i) (places_once row numbers h.1)
  where
    by_place : (o : Option ℕ) → Once (map (λ (p : ℕ × ℕ). p.0) (flat_map (λ i. place_if i (place_in row i)) numbers))
        → Once (map (λ (p : ℕ × ℕ). p.0) (place_if i o ++ flat_map (λ i. place_if i (place_in row i)) numbers))
    by_place None more = more
    by_place (Some s) more = (
      (λ has.
          let named = map_has (λ (p : ℕ × ℕ). p.0) (flat_map (λ i. place_if i (place_in row i)) numbers) i has in
          let found = flat_has (λ i. place_if i (place_in row i)) numbers named.0 named.1 in
          h.0 (subst (Has numbers) (sym (place_number found.0 (place_in row found.0) named.0 found.2) ∙ named.2) found.1)),
      more,
    )

left_server : (s : ℕ) (x : ℕ × Kind) → Has (left_names s) x → (x.0 ≡ s) × (rank x.1 ≤ 2)
left_server s x (inl e) = let at : 1 ≡ rank x.1 = ap (λ (q : ℕ × Kind). rank q.1) e in (ap (λ (q : ℕ × Kind). q.0) (sym e), omega (arith, at))
left_server s x (inr (inl e)) = let at : 2 ≡ rank x.1 = ap (λ (q : ℕ × Kind). rank q.1) e in (ap (λ (q : ℕ × Kind). q.0) (sym e), omega (arith, at))
left_server s x (inr (inr (inl e))) = let at : 0 ≡ rank x.1 = ap (λ (q : ℕ × Kind). rank q.1) e in (ap (λ (q : ℕ × Kind). q.0) (sym e), omega (arith, at))
left_server s x (inr (inr (inr none))) = absurd none

left_once : (s : ℕ) → Once (left_names s)
left_once s = (
  (λ has. ⊎_elim (λ e. apart Ecj Ecx (λ (q : 2 ≡ 1). omega (arith, q)) e) (λ more. ⊎_elim (λ e. apart Vif Ecx (λ (q : 0 ≡ 1). omega (arith, q)) e) (λ none. none) more) has),
  ((λ has. ⊎_elim (λ e. apart Vif Ecj (λ (q : 0 ≡ 2). omega (arith, q)) e) (λ none. none) has), ((λ none. none), tt)),
)
  where
    apart : (a b : Kind) → (rank a ≡ rank b → ⊥) → ◌≡◌ {A = ℕ × Kind} (s, a) (s, b) → ⊥
    apart a b other e = other (ap (λ (q : ℕ × Kind). rank q.1) e)

module _ (plan : Plan) (servers : ℕ) (is : IsDecodePlan servers plan) where
  abbrev holders : List ℕ
  holders = filter (held plan) all_servers

  abbrev found : Names
  found = shard_names plan.places.items ++ flat_map left_names holders

  found_rank : (x : ℕ × Kind) → Has found x → rank x.1 ≤ 3
  found_rank x has = ⊎_elim
      (λ shard. let at = shard_rank plan.places.items x shard in omega (arith, at))
      (λ left. let at = flat_has left_names holders x left in let r = (left_server at.0 x at.2).1 in omega (arith, r))
      (has_either (shard_names plan.places.items) (flat_map left_names holders) x has)

  found_once : Once found
  found_once =
      once_append (shard_names plan.places.items) (flat_map left_names holders)
      (shards_once plan.places.items (subst (λ (ps : List (ℕ × ℕ)). Once (map (λ (p : ℕ × ℕ). p.0) ps)) (sym is.placed.places) (places_once is.row (all_numbers plan.info.geometry) (once_range 0 _))))
      (once_flat left_names holders (servers_once (held plan)) left_once (λ s t x a b. sym (left_server s x a).0 ∙ (left_server t x b).0))
      (λ x a b.
      let s = shard_rank plan.places.items x a in
      let at = flat_has left_names holders x b in
      let r = (left_server at.0 x at.2).1 in
      omega (arith, s, r))

  pub decode_once : plan.command ≡ Decode → Once (list_of plan)
  decode_once e = subst Once (sym (ap (list_by plan) e)) (
    (λ has. ⊎_elim
        (λ same. let at : 4 ≡ 5 = ap (λ (q : ℕ × Kind). rank q.1) same in absurd (omega (arith, at)))
        (λ there. let at : 5 ≤ 3 = found_rank (plan.home, Dat) there in absurd (omega (arith, at)))
        has),
    ((λ there. let at : 4 ≤ 3 = found_rank (plan.home, Idx) there in absurd (omega (arith, at))), found_once),
  )

-- ---- the list when the plan begins

-- So are the states of such a list, where its names are those of files on servers.
pub first_apart : (plan : Plan) → Once (list_of plan) → AreNamed plan → AreStates (first_states plan (list_of plan))
first_apart plan once named = record {
  named = λ j s at.
      let found = named_at (first_state plan) (list_of plan) j s at in
      subst (λ (x : FileState). IsKind x.kind × (x.server < max_servers)) found.2 (named j found.0.0 found.0.1 found.1);
  apart = λ i j a b at_a at_b same_server same_kind.
      let one = named_at (first_state plan) (list_of plan) i a at_a in
      let two = named_at (first_state plan) (list_of plan) j b at_b in
      let same : one.0 ≡ two.0 = λ k. (server_is one.0 a two.0 b one.2 two.2 same_server k, kind_is one.0 a two.0 b one.2 two.2 same_kind k) in
      once_at (list_of plan) once i j two.0 (one.1 ∙ ap Some same) two.1;
}
  where
    server_is : (x : ℕ × Kind) (a : FileState) (y : ℕ × Kind) (b : FileState) → first_state plan x ≡ a → first_state plan y ≡ b → a.server ≡ b.server → x.0 ≡ y.0
    server_is x a y b e f same = ap (λ (s : FileState). s.server) e ∙ same ∙ sym (ap (λ (s : FileState). s.server) f)

    kind_is : (x : ℕ × Kind) (a : FileState) (y : ℕ × Kind) (b : FileState) → first_state plan x ≡ a → first_state plan y ≡ b → a.kind ≡ b.kind → x.1 ≡ y.1
    kind_is x a y b e f same = ap (λ (s : FileState). s.kind) e ∙ same ∙ sym (ap (λ (s : FileState). s.kind) f)
