-- The list of an encode: each file comes after those that it waits for.
use Rattle.std.proofs.Common.{◌≡◌, ◌≢◌, ◌⊎◌, inl, inr, ⊎_elim, ℕ, zero, suc, ◌+◌, ◌<◌, ◌≤◌, true, false, List, [], ◌∷◌, ◌++◌, length, map, Some, refl, sym, ◌∙◌, ap, arith}
use Rattle.std.specs.Prelude.{slice_get, ◌==◌}
use Rattle.std.proofs.lemmas.Bool.{eqb-true, eq-eqb}
use Rattle.image_meaning.specs.Laws.Options.{none_some, some_is}
use Rattle.file_names.specs.declared.Kind.{Kind}
use Rattle.file_names.specs.declared.Kind.TheVariants.{Dat, Idx, Shard, Ecx, Vif}
use Rattle.stripe_layout.specs.Stripes.{shards_in_all}
use Rattle.site_model.specs.Counts.{max_servers}
use Rattle.plan_steps.specs.declared.plan.Plan.{Plan}
use Rattle.plan_steps.specs.Planned.{is_encode, is_found_plain}
use Rattle.plan_steps.specs.Laws.Found.{encode_finds}
use Rattle.plan_steps.specs.Legal.{IsFound, IsNew}
use Rattle.plan_steps.specs.Order.{Names, HasBesideBefore, WaitsToRegister, IsAfterShards}
use Rattle.plan_steps.specs.Lists.{encode_names}

-- ---- lists in parts

get_front : {A : Type 0} (xs ys : List A) (k : ℕ) (x : A) → slice_get xs k ≡ Some x → (slice_get (xs ++ ys) k ≡ Some x) × (k < length xs)
get_front [] ys k x e = absurd (none_some e)
get_front (z ∷ xs) ys zero x e = (e, omega arith)
get_front (z ∷ xs) ys (suc k) x e = let rest = get_front xs ys k x e in (rest.0, omega (arith, rest.1))

get_behind : {A : Type 0} (xs ys : List A) (k : ℕ) → slice_get (xs ++ ys) (length xs + k) ≡ slice_get ys k
get_behind [] ys k = let same : 0 + k ≡ k = omega arith in ap (slice_get ys) same
get_behind (z ∷ xs) ys k =
    let next : suc (length xs) + k ≡ suc (length xs + k) = omega arith in
    ap (slice_get (z ∷ (xs ++ ys))) next ∙ get_behind xs ys k

get_either : {A : Type 0} (xs ys : List A) (k : ℕ) (x : A) → slice_get (xs ++ ys) k ≡ Some x → ((slice_get xs k ≡ Some x) ⊎ ((m : ℕ) × (slice_get ys m ≡ Some x)))
get_either [] ys k x e = inr (k, e)
get_either (z ∷ xs) ys zero x e = inl e
get_either (z ∷ xs) ys (suc k) x e = get_either xs ys k x e

get_map : {A B : Type 0} (f : A → B) (xs : List A) (k : ℕ) (x : A) → slice_get xs k ≡ Some x → slice_get (map f xs) k ≡ Some (f x)
get_map f [] k x e = absurd (none_some e)
get_map f (z ∷ xs) zero x e = ap (λ y. Some (f y)) (some_is z x e)
get_map f (z ∷ xs) (suc k) x e = get_map f xs k x e

map_get : {A B : Type 0} (f : A → B) (xs : List A) (k : ℕ) (y : B) → slice_get (map f xs) k ≡ Some y → (x : A) × (slice_get xs k ≡ Some x) × (f x ≡ y)
map_get f [] k y e = absurd (none_some e)
map_get f (x ∷ xs) zero y e = (x, refl, some_is (f x) y e)
map_get f (x ∷ xs) (suc k) y e = map_get f xs k y e

-- ---- the list of an encode

-- each of n shards has a target, which is in the list of servers
pub record AreTargets (n : ℕ) (servers : List ℕ) (targets : List (ℕ × ℕ)) : Type 0 where
  pub each : (i : ℕ) → i < n → (k : ℕ) × (s : ℕ) × (s < max_servers) × (slice_get targets k ≡ Some (i, s))
  pub listed : (k i s : ℕ) → slice_get targets k ≡ Some (i, s) → (m : ℕ) × (slice_get servers m ≡ Some s)

module _ (plan : Plan) (encode : is_encode plan.command ≡ true) (none : plan.deleted.items ≡ []) (servers : List ℕ) (targets : List (ℕ × ℕ)) (are : AreTargets (shards_in_all plan.info.geometry) servers targets) where
  abbrev names : Names
  names = encode_names servers targets plan.home

  abbrev texts : Names
  texts = map (λ s. (s, Vif)) servers

  abbrev indexes : Names
  indexes = map (λ s. (s, Ecx)) servers

  abbrev shards : Names
  shards = map (λ (p : ℕ × ℕ). (p.1, Shard p.0)) targets

  abbrev ends : Names
  ends = (plan.home, Idx) ∷ (plan.home, Dat) ∷ []

  abbrev before_shards : ℕ
  before_shards = length texts + length indexes

  is_new : (server : ℕ) (kind : Kind) → is_found_plain plan server kind ≡ false → IsNew plan server kind
  is_new server kind e = encode_finds plan server kind encode ∙ e

  -- the files beside shards stand before all shards
  beside_target : (j s m : ℕ) → before_shards ≤ j → slice_get servers m ≡ Some s → HasBesideBefore plan names j s
  beside_target j s m far at =
      let text = get_front texts (indexes ++ (shards ++ ends)) m (s, Vif) (get_map (λ s. (s, Vif)) servers m s at) in
      let index = get_front indexes (shards ++ ends) m (s, Ecx) (get_map (λ s. (s, Ecx)) servers m s at) in
      record {
        text = inl (m, omega (arith, text.1, far), text.0, is_new s Vif refl);
        index = inl (length texts + m, omega (arith, index.1, far), get_behind texts (indexes ++ (shards ++ ends)) m ∙ index.0, is_new s Ecx refl);
        journal = inl none;
      }

  shard_at : (k i s : ℕ) → slice_get targets k ≡ Some (i, s) → (slice_get names (before_shards + k) ≡ Some (s, Shard i)) × (k < length shards)
  shard_at k i s at =
      let found = get_front shards ends k (s, Shard i) (get_map (λ (p : ℕ × ℕ). (p.1, Shard p.0)) targets k (i, s) at) in
      let place : before_shards + k ≡ length texts + (length indexes + k) = omega arith in (
        ap (slice_get names) place ∙ get_behind texts (indexes ++ (shards ++ ends)) (length indexes + k) ∙ get_behind indexes (shards ++ ends) k ∙ found.0,
        found.1,
      )

  -- a shard of the list is a target's
  shard_listed : (k s i : ℕ) → slice_get names k ≡ Some (s, Shard i) → (m : ℕ) × (slice_get servers m ≡ Some s)
  shard_listed k s i e = ⊎_elim
      (λ text. let found = map_get (λ s. (s, Vif)) servers k (s, Shard i) text in absurd (vif_shard (ap (λ (p : ℕ × Kind). p.1) found.2)))
      (λ rest. ⊎_elim
      (λ index. let found = map_get (λ s. (s, Ecx)) servers rest.0 (s, Shard i) index in absurd (ecx_shard (ap (λ (p : ℕ × Kind). p.1) found.2)))
      (λ more. ⊎_elim
      (λ shard.
      let found = map_get (λ (p : ℕ × ℕ). (p.1, Shard p.0)) targets more.0 (s, Shard i) shard in
      are.listed more.0 found.0.0 s (found.1 ∙ (λ n. Some (found.0.0, (found.2 n).0))))
      (λ last. absurd (at_end last.0 last.1))
      (get_either shards ends more.0 (s, Shard i) more.1))
      (get_either indexes (shards ++ ends) rest.0 (s, Shard i) rest.1))
      (get_either texts (indexes ++ (shards ++ ends)) k (s, Shard i) e)
    where
      vif_shard : Vif ≢ Shard i
      vif_shard e = cc

      ecx_shard : Ecx ≢ Shard i
      ecx_shard e = cc

      idx_shard : Idx ≢ Shard i
      idx_shard e = cc

      dat_shard : Dat ≢ Shard i
      dat_shard e = cc

      at_end : (m : ℕ) → slice_get ends m ≡ Some (s, Shard i) → ⊥
      at_end zero e = idx_shard (ap (λ (p : ℕ × Kind). p.1) (some_is (plan.home, Idx) (s, Shard i) e))
      at_end (suc zero) e = dat_shard (ap (λ (p : ℕ × Kind). p.1) (some_is (plan.home, Dat) (s, Shard i) e))
      at_end (suc (suc m)) e = none_some e

  -- the only index of the list is the home's
  index_listed : (k s : ℕ) → slice_get names k ≡ Some (s, Idx) → s ≡ plan.home
  index_listed k s e = ⊎_elim
      (λ text. let found = map_get (λ s. (s, Vif)) servers k (s, Idx) text in absurd (vif_idx (ap (λ (p : ℕ × Kind). p.1) found.2)))
      (λ rest. ⊎_elim
      (λ index. let found = map_get (λ s. (s, Ecx)) servers rest.0 (s, Idx) index in absurd (ecx_idx (ap (λ (p : ℕ × Kind). p.1) found.2)))
      (λ more. ⊎_elim
      (λ shard. let found = map_get (λ (p : ℕ × ℕ). (p.1, Shard p.0)) targets more.0 (s, Idx) shard in absurd (shard_idx found.0.0 (ap (λ (p : ℕ × Kind). p.1) found.2)))
      (λ last. at_end last.0 last.1)
      (get_either shards ends more.0 (s, Idx) more.1))
      (get_either indexes (shards ++ ends) rest.0 (s, Idx) rest.1))
      (get_either texts (indexes ++ (shards ++ ends)) k (s, Idx) e)
    where
      vif_idx : Vif ≢ Idx
      vif_idx e = cc

      ecx_idx : Ecx ≢ Idx
      ecx_idx e = cc

      shard_idx : (i : ℕ) → Shard i ≢ Idx
      shard_idx i e = cc

      dat_idx : Dat ≢ Idx
      dat_idx e = cc

      at_end : (m : ℕ) → slice_get ends m ≡ Some (s, Idx) → s ≡ plan.home
      at_end zero e = ap (λ (p : ℕ × Kind). p.0) (sym (some_is (plan.home, Idx) (s, Idx) e))
      at_end (suc zero) e = absurd (dat_idx (ap (λ (p : ℕ × Kind). p.1) (some_is (plan.home, Dat) (s, Idx) e)))
      at_end (suc (suc m)) e = absurd (none_some e)

  -- each shard comes after the files beside it
  pub encode_shards_wait : (k i s : ℕ) → slice_get targets k ≡ Some (i, s) → WaitsToRegister plan names (before_shards + k) s (Shard i)
  encode_shards_wait k i s at = let there = are.listed k i s at in beside_target (before_shards + k) s there.0 (omega arith) there.1

  -- the index after all shards
  pub encode_index_waits : IsAfterShards plan names (before_shards + length shards) plan.home
  encode_index_waits = record {
    encode = encode;
    shards = λ i h.
        let target = are.each i h in
        let there = shard_at target.0 i target.1 target.3 in
        (target.1, target.2, (before_shards + target.0, omega (arith, there.1), there.0, is_new target.1 (Shard i) refl));
    none_found = λ s i. is_new s (Shard i) refl;
    beside = λ k s i e. let there = shard_listed k s i e in beside_target (before_shards + length shards) s there.0 (omega arith) there.1;
    found_here = λ s e. sym (eqb-true plan.home s (sym (encode_finds plan s Idx encode) ∙ e));
    listed_here = index_listed;
  }

  -- and the data file after the index
  pub encode_data_waits : (m : ℕ) → m ≡ before_shards + length shards → (k : ℕ) × (k < m + 1) × (slice_get names k ≡ Some (plan.home, Idx)) × IsFound plan plan.home Idx
  encode_data_waits m e =
      let place : before_shards + length shards ≡ length texts + (length indexes + (length shards + 0)) = omega arith in (
        before_shards + length shards,
        omega (arith, e),
        ap (slice_get names) place ∙ get_behind texts (indexes ++ (shards ++ ends)) (length indexes + (length shards + 0)) ∙ get_behind indexes (shards ++ ends) (length shards + 0) ∙ get_behind shards ends 0,
        encode_finds plan plan.home Idx encode ∙ itself plan.home,
      )
    where
      itself : (n : ℕ) → (n == n) ≡ true
      itself n = eq-eqb n n refl
