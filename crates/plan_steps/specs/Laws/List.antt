-- The list of any plan: each file comes after those that it waits for, so when its turn comes it may be finished.
use Rattle.std.proofs.Common.{◌≡◌, ◌≢◌, ◌⊎◌, inl, inr, ⊎_elim, ℕ, zero, suc, ◌+◌, ◌%◌, ◌<◌, ◌≤◌, true, false, List, [], ◌∷◌, ◌++◌, length, map, Some, refl, sym, ◌∙◌, ap, subst, arith}
use Rattle.std.specs.Prelude.{◌==◌, filter, flat_map, slice_get}
use Rattle.std.specs.List.{range_with_len}
use Rattle.std.proofs.Math.Nat.{mod-lt}
use Rattle.std.proofs.lemmas.Bool.{and_from, eq-eqb, false≢true}
use Rattle.image_meaning.specs.Laws.Options.{none_some, some_is}
use Rattle.world_model.specs.declared.types.Command.{Command}
use Rattle.world_model.specs.declared.types.Command.TheVariants.{Encode, Rebuild, Balance, Decode}
use Rattle.world_model.specs.declared.types.Ratio.{Ratio}
use Rattle.file_names.specs.declared.Kind.{Kind}
use Rattle.file_names.specs.declared.Kind.TheVariants.{Dat, Idx, Shard, Ecx, Vif}
use Rattle.stripe_layout.specs.Stripes.{shards_in_all}
use Rattle.shard_table.specs.Table.{Row}
use Rattle.image_meaning.specs.Files.{all_servers}
use Rattle.site_model.specs.Counts.{max_servers}
use Rattle.image_meaning.specs.Laws.Servers.{lowest-some}
use Rattle.plan_steps.specs.declared.plan.Plan.{Plan}
use Rattle.plan_steps.specs.declared.plan.FileState.{FileState}
use Rattle.plan_steps.specs.Planned.{held, placed, is_at, is_found, is_found_plain, is_found_coded, is_encode}
use Rattle.plan_steps.specs.Laws.Found.{encode_finds}
use Rattle.plan_steps.specs.Fitting.{AreStates}
use Rattle.plan_steps.specs.Legal.{IsFound, IsNew, MayRegister, MayRemove}
use Rattle.plan_steps.specs.Order.{Names, names_of, IsReached, WaitsToRegister, WaitsToGo}
use Rattle.plan_steps.specs.Laws.Order.{name_at, may_register, may_remove}
use Rattle.plan_steps.specs.Lists.{is_target, shard_names, left_names, encode_names, decode_names, list_by, list_of}
use Rattle.plan_steps.specs.Plans.{all_numbers, IsPlan, IsPlanBy, IsEncodePlan, IsMendPlan}
use Rattle.plan_steps.specs.Members.{Has, has_at, at_has, get_behind, get_either, has_either, map_has, flat_has, has_filter, filter_has, has_range, has_any}
use Rattle.plan_steps.specs.Laws.Encode.{AreTargets, encode_shards_wait, encode_index_waits, encode_data_waits}
use Rattle.plan_steps.specs.Laws.Decode.{decode_data_waits, decode_index_waits, decode_found_waits}
use Rattle.plan_steps.specs.MendList.{Fills, rebuild_fills, balance_fills}
use Rattle.plan_steps.specs.Laws.Mend.{mend_waits, mend_goes}

get_mapped : {A : Type 0} (f : ℕ → A) (a n i : ℕ) → i < n → slice_get (map f (range_with_len a n)) i ≡ Some (f (a + i))
get_mapped f a zero i h = absurd (omega (arith, h))
get_mapped f a (suc n) zero h = let same : a ≡ a + 0 = omega arith in ap (λ k. Some (f k)) same
get_mapped f a (suc n) (suc i) h = let next : (a + 1) + i ≡ a + suc i = omega arith in get_mapped f (a + 1) n i (omega (arith, h)) ∙ ap (λ k. Some (f k)) next

two_parts : (k a b m q : ℕ) → k ≡ a + m → m ≡ b + q → k ≡ a + b + q
two_parts k a b m q first second = omega arith

three_parts : (k a b c m q e : ℕ) → k ≡ a + m → m ≡ b + q → q ≡ c + e → k ≡ a + b + c + e
three_parts k a b c m q e first second third = omega arith

before : (k a q n : ℕ) → k ≡ a + q → q < n → k < a + n
before k a q n e h = omega arith

no_more : (k a : ℕ) → k ≡ a + 0 → k ≡ a
no_more k a e = omega arith

-- ---- an encode

-- a file of the list by its place
module _ (servers : List ℕ) (targets : List (ℕ × ℕ)) (home : ℕ) where
  abbrev texts : Names
  texts = map (λ s. (s, Vif)) servers

  abbrev indexes : Names
  indexes = map (λ s. (s, Ecx)) servers

  abbrev ends : Names
  ends = (home, Idx) ∷ (home, Dat) ∷ []

  abbrev front : ℕ
  front = length texts + length indexes

  abbrev pub IsEncodedAt : ℕ → ℕ → Kind → Type 0
  IsEncodedAt k server kind =
      ((kind ≡ Vif) ⊎ (kind ≡ Ecx))
      ⊎ (((q : ℕ) × (i : ℕ) × (k ≡ front + q) × (kind ≡ Shard i) × (slice_get targets q ≡ Some (i, server)))
      ⊎ (((k ≡ front + length (shard_names targets)) × (server ≡ home) × (kind ≡ Idx))
      ⊎ ((k ≡ front + length (shard_names targets) + 1) × (server ≡ home) × (kind ≡ Dat))))

  encoded_at : (k server : ℕ) (kind : Kind) → slice_get (encode_names servers targets home) k ≡ Some (server, kind) → IsEncodedAt k server kind
  encoded_at k server kind at = ⊎_elim
      (λ text. let found = map_has (λ s. (s, Vif)) servers (server, kind) (at_has texts k (server, kind) text) in inl (inl (ap (λ (p : ℕ × Kind). p.1) (sym found.2))))
      (λ rest. ⊎_elim
      (λ index. let found = map_has (λ s. (s, Ecx)) servers (server, kind) (at_has indexes rest.0 (server, kind) index) in inl (inr (ap (λ (p : ℕ × Kind). p.1) (sym found.2))))
      (λ more. ⊎_elim
      (λ shard. let found = target_of targets more.0 server kind shard in inr (inl (more.0, found.0, two_parts k (length texts) (length indexes) rest.0 more.0 rest.1 more.1, found.1, found.2)))
      (λ last. at_end last.0 (three_parts k (length texts) (length indexes) (length (shard_names targets)) rest.0 more.0 last.0 rest.1 more.1 last.1) last.2)
      (get_either (shard_names targets) ends more.0 (server, kind) more.2))
      (get_either indexes (shard_names targets ++ ends) rest.0 (server, kind) rest.2))
      (get_either texts (indexes ++ (shard_names targets ++ ends)) k (server, kind) at)
    where
      target_of : (ts : List (ℕ × ℕ)) (q server : ℕ) (kind : Kind) → slice_get (shard_names ts) q ≡ Some (server, kind) → (i : ℕ) × (kind ≡ Shard i) × (slice_get ts q ≡ Some (i, server))
      target_of [] q server kind at = absurd (none_some at)
      target_of (p ∷ ts) zero server kind at =
          let same = some_is (p.1, Shard p.0) (server, kind) at in
          (p.0, ap (λ (x : ℕ × Kind). x.1) (sym same), ap (λ s. Some (p.0, s)) (ap (λ (x : ℕ × Kind). x.0) same))
      target_of (p ∷ ts) (suc q) server kind at = target_of ts q server kind at

      at_end : (q : ℕ) → k ≡ front + length (shard_names targets) + q → slice_get ends q ≡ Some (server, kind) → IsEncodedAt k server kind
      at_end zero e at =
          let same = some_is (home, Idx) (server, kind) at in
          inr (inr (inl (no_more k (front + length (shard_names targets)) e, ap (λ (p : ℕ × Kind). p.0) (sym same), ap (λ (p : ℕ × Kind). p.1) (sym same))))
      at_end (suc zero) e at =
          let same = some_is (home, Dat) (server, kind) at in
          inr (inr (inr (e, ap (λ (p : ℕ × Kind). p.0) (sym same), ap (λ (p : ℕ × Kind). p.1) (sym same))))
      at_end (suc (suc q)) e at = absurd (none_some at)

  -- the index comes behind all shards
  index_behind : (k server i : ℕ) → slice_get (encode_names servers targets home) k ≡ Some (server, Shard i) → (m : ℕ) × (k < m) × (slice_get (encode_names servers targets home) m ≡ Some (home, Idx))
  index_behind k server i at = by_place (encoded_at k server (Shard i) at)
    where
      place : front + length (shard_names targets) ≡ length texts + (length indexes + (length (shard_names targets) + 0))
      place = omega arith

      there : slice_get (encode_names servers targets home) (front + length (shard_names targets)) ≡ Some (home, Idx)
      there = ap (slice_get (encode_names servers targets home)) place ∙ get_behind texts (indexes ++ (shard_names targets ++ ends)) (length indexes + (length (shard_names targets) + 0))
          ∙ get_behind indexes (shard_names targets ++ ends) (length (shard_names targets) + 0) ∙ get_behind (shard_names targets) ends 0

      short : (ts : List (ℕ × ℕ)) (q : ℕ) (p : ℕ × ℕ) → slice_get ts q ≡ Some p → q < length (shard_names ts)
      short [] q p at = absurd (none_some at)
      short (t ∷ ts) zero p at = omega arith
      short (t ∷ ts) (suc q) p at = omega (arith, short ts q p at)

      by_place : IsEncodedAt k server (Shard i) → (m : ℕ) × (k < m) × (slice_get (encode_names servers targets home) m ≡ Some (home, Idx))
      by_place (inl (inl e)) = cc
      by_place (inl (inr e)) = cc
      by_place (inr (inl (q, j, e, shard, target))) = (front + length (shard_names targets), before k front q (length (shard_names targets)) e (short targets q (j, server) target), there)
      by_place (inr (inr (inl (e, here, idx)))) = cc
      by_place (inr (inr (inr (e, here, dat)))) = cc

module _ (plan : Plan) (encode : is_encode plan.command ≡ true) (none : plan.deleted.items ≡ []) (servers : List ℕ) (targets : List (ℕ × ℕ)) (are : AreTargets (shards_in_all plan.info.geometry) servers targets) where
  abbrev encoded : Names
  encoded = encode_names servers targets plan.home

  finds : (server : ℕ) (kind : Kind) → is_found plan plan.command server kind ≡ is_found_plain plan server kind
  finds server kind = encode_finds plan server kind encode

  at_home : (server : ℕ) (kind : Kind) → server ≡ plan.home → (kind ≡ Idx) ⊎ (kind ≡ Dat) → IsNew plan server kind → ⊥
  at_home server kind here (inl e) new = false≢true (sym new ∙ ap (is_found plan plan.command server) e ∙ finds server Idx ∙ eq-eqb plan.home server (sym here))
  at_home server kind here (inr e) new = false≢true (sym new ∙ ap (is_found plan plan.command server) e ∙ finds server Dat ∙ eq-eqb plan.home server (sym here))

  encode_waits : (k server : ℕ) (kind : Kind) → slice_get encoded k ≡ Some (server, kind) → IsNew plan server kind → WaitsToRegister plan encoded k server kind
  encode_waits k server kind at new = by_place (encoded_at servers targets plan.home k server kind at)
    where
      by_place : IsEncodedAt servers targets plan.home k server kind → WaitsToRegister plan encoded k server kind
      by_place (inl (inl e)) = subst (WaitsToRegister plan encoded k server) (sym e) tt
      by_place (inl (inr e)) = subst (WaitsToRegister plan encoded k server) (sym e) tt
      by_place (inr (inl (q, i, e, shard, target))) = subst (WaitsToRegister plan encoded k server) (sym shard)
          (subst (λ m. WaitsToRegister plan encoded m server (Shard i)) (sym e) (encode_shards_wait plan encode none servers targets are q i server target))
      by_place (inr (inr (inl (e, here, idx)))) = absurd (at_home server kind here (inl idx) new)
      by_place (inr (inr (inr (e, here, dat)))) = absurd (at_home server kind here (inr dat) new)

  encode_goes : (k server : ℕ) (kind : Kind) → slice_get encoded k ≡ Some (server, kind) → IsFound plan server kind → WaitsToGo plan encoded k server kind
  encode_goes k server kind at found = by_place (encoded_at servers targets plan.home k server kind at)
    where
      not_found : (c : Kind) → kind ≡ c → is_found_plain plan server c ≡ false → ⊥
      not_found c e other = false≢true (sym other ∙ sym (finds server c) ∙ ap (is_found plan plan.command server) (sym e) ∙ found)

      by_place : IsEncodedAt servers targets plan.home k server kind → WaitsToGo plan encoded k server kind
      by_place (inl (inl e)) = absurd (not_found Vif e refl)
      by_place (inl (inr e)) = absurd (not_found Ecx e refl)
      by_place (inr (inl (q, i, e, shard, target))) = absurd (not_found (Shard i) shard refl)
      by_place (inr (inr (inl (e, here, idx)))) = subst (λ (x : ℕ × ℕ × Kind). WaitsToGo plan encoded x.0 x.1 x.2) (λ j. (sym e j, sym here j, sym idx j))
          (encode_index_waits plan encode none servers targets are)
      by_place (inr (inr (inr (e, here, dat)))) = subst (λ (x : ℕ × ℕ × Kind). WaitsToGo plan encoded x.0 x.1 x.2) (λ j. (sym e j, sym here j, sym dat j))
          (encode_data_waits plan encode none servers targets are (front servers targets plan.home + length (shard_names targets)) refl)

module _ (plan : Plan) (servers : ℕ) (some : 0 < servers) (few : servers ≤ max_servers) (is : IsEncodePlan servers plan) where
  abbrev round : ℕ → ℕ × ℕ
  round i = (i, i % servers)

  target_at : (homes : List ℕ) → homes ≡ filter (is_target plan) all_servers → (k i s : ℕ) → slice_get plan.targets.items k ≡ Some (i, s) → (m : ℕ) × (slice_get homes m ≡ Some s)
  target_at homes are k i s at =
      let has : Has plan.targets.items (i, s) = at_has plan.targets.items k (i, s) at in
      let found = map_has round (all_numbers plan.info.geometry) (i, s) (subst (λ (ts : List (ℕ × ℕ)). Has ts (i, s)) is.targets has) in
      let below = mod-lt found.0 some in
      let server : found.0 % servers ≡ s = ap (λ (p : ℕ × ℕ). p.1) found.2 in
      has_at homes s (subst (λ (hs : List ℕ). Has hs s) (sym are)
      (has_filter (is_target plan) all_servers s (has_range 0 max_servers s (omega arith) (omega (arith, below, server, few))) (has_any (λ (p : ℕ × ℕ). p.1 == s) plan.targets.items (i, s) has (eq-eqb s s refl))))

  zero_more : (i : ℕ) → Some (round (0 + i)) ≡ Some (round i)
  zero_more i = let same : 0 + i ≡ i = omega arith in ap (λ k. Some (round k)) same

  encode_targets : (homes : List ℕ) → homes ≡ filter (is_target plan) all_servers → AreTargets (shards_in_all plan.info.geometry) homes plan.targets.items
  encode_targets homes are = record {
    each = λ i h.
        let below = mod-lt i some in
        (i, i % servers, omega (arith, below, few), ap (λ (ts : List (ℕ × ℕ)). slice_get ts i) is.targets ∙ get_mapped round 0 (shards_in_all plan.info.geometry) i h ∙ zero_more i);
    listed = target_at homes are;
  }

-- ---- a decode

module _ (plan : Plan) (decode : plan.command ≡ Decode) (home : plan.home < max_servers) where
  abbrev found_names : Names
  found_names = shard_names plan.places.items ++ flat_map left_names (filter (held plan) all_servers)

  abbrev decoded : Names
  decoded = decode_names plan.home found_names

  coded_found : (server : ℕ) (kind : Kind) → is_found plan plan.command server kind ≡ is_found_coded plan server kind
  coded_found server kind = ap (λ c. is_found plan c server kind) decode

  left_held : (s server : ℕ) (kind : Kind) → held plan s ≡ true → Has (left_names s) (server, kind) → is_found_coded plan server kind ≡ true
  left_held s server kind e (inl same) = subst (λ (p : ℕ × Kind). is_found_coded plan p.0 p.1 ≡ true) same e
  left_held s server kind e (inr (inl same)) = subst (λ (p : ℕ × Kind). is_found_coded plan p.0 p.1 ≡ true) same e
  left_held s server kind e (inr (inr (inl same))) = subst (λ (p : ℕ × Kind). is_found_coded plan p.0 p.1 ≡ true) same e
  left_held s server kind e (inr (inr (inr none))) = absurd none

  shard_found : (p : ℕ × ℕ) → Has plan.places.items p → placed plan p.0 p.1 ≡ true
  shard_found p has = has_any (is_at p.0 p.1) plan.places.items p has (and_from (p.0 == p.0) (p.1 == p.1) (eq-eqb p.0 p.0 refl) (eq-eqb p.1 p.1 refl))

  found_listed : (server : ℕ) (kind : Kind) → Has found_names (server, kind) → IsFound plan server kind
  found_listed server kind has = coded_found server kind ∙ ⊎_elim
      (λ shard. let found = map_has (λ (p : ℕ × ℕ). (p.1, Shard p.0)) plan.places.items (server, kind) shard in subst (λ (p : ℕ × Kind). is_found_coded plan p.0 p.1 ≡ true) found.2 (shard_found found.0 found.1))
      (λ left.
      let found = flat_has left_names (filter (held plan) all_servers) (server, kind) left in
      left_held found.0 server kind (filter_has (held plan) all_servers found.0 found.1).1 found.2)
      (has_either (shard_names plan.places.items) (flat_map left_names (filter (held plan) all_servers)) (server, kind) has)

  not_new : (server : ℕ) (kind : Kind) → IsNew plan server kind → IsFound plan server kind → ⊥
  not_new server kind new found = false≢true (sym new ∙ found)

  pub decode_waits : (k server : ℕ) (kind : Kind) → slice_get decoded k ≡ Some (server, kind) → IsNew plan server kind → WaitsToRegister plan decoded k server kind
  decode_waits zero server kind at new = subst (λ (p : ℕ × Kind). WaitsToRegister plan decoded 0 p.0 p.1) (some_is (plan.home, Dat) (server, kind) at) (decode_data_waits plan decode found_names)
  decode_waits (suc zero) server kind at new = subst (λ (p : ℕ × Kind). WaitsToRegister plan decoded 1 p.0 p.1) (some_is (plan.home, Idx) (server, kind) at) (decode_index_waits plan decode found_names)
  decode_waits (suc (suc k)) server kind at new = absurd (not_new server kind new (found_listed server kind (at_has found_names k (server, kind) at)))

  pub decode_goes : (k server : ℕ) (kind : Kind) → slice_get decoded k ≡ Some (server, kind) → IsFound plan server kind → WaitsToGo plan decoded k server kind
  decode_goes zero server kind at found = absurd (subst (λ (p : ℕ × Kind). IsFound plan p.0 p.1 → ⊥) (some_is (plan.home, Dat) (server, kind) at) (not_new plan.home Dat (coded_found plan.home Dat)) found)
  decode_goes (suc zero) server kind at found = absurd (subst (λ (p : ℕ × Kind). IsFound plan p.0 p.1 → ⊥) (some_is (plan.home, Idx) (server, kind) at) (not_new plan.home Idx (coded_found plan.home Idx)) found)
  decode_goes (suc (suc k)) server kind at found = decode_found_waits plan decode found_names (suc (suc k)) server kind (omega arith) home found

-- ---- any plan

module _ (plan : Plan) (servers : ℕ) (is : IsPlan plan servers) where
  pub mend_fills : (c : Command) → IsPlanBy servers plan c → (c ≡ Rebuild) ⊎ (c ≡ Balance) → (mend : IsMendPlan servers plan) × Fills servers plan mend.row
  mend_fills c made (inl e) = let by : IsPlanBy servers plan Rebuild = subst (IsPlanBy servers plan) e made in (by.0, rebuild_fills plan servers by.0.row by.0.placed by.1)
  mend_fills c made (inr e) = let by : IsPlanBy servers plan Balance = subst (IsPlanBy servers plan) e made in (by.0, balance_fills plan servers by.0.row by.0.placed by.1)

  -- a file that is written comes after those that it waits for
  pub list_waits : (k server : ℕ) (kind : Kind) → slice_get (list_of plan) k ≡ Some (server, kind) → IsNew plan server kind → WaitsToRegister plan (list_of plan) k server kind
  list_waits k server kind at new = by_command plan.command refl is.made at
    where
      by_command : (c : Command) → plan.command ≡ c → IsPlanBy servers plan c → slice_get (list_by plan c) k ≡ Some (server, kind) → WaitsToRegister plan (list_by plan c) k server kind
      by_command (Encode ratio) e made there = encode_waits plan (ap is_encode e) made.0.deleted (filter (is_target plan) all_servers) plan.targets.items (encode_targets plan servers is.some_server is.few_servers made.0 (filter (is_target plan) all_servers) refl) k server kind there new
      by_command Rebuild e made there =
          let fills = mend_fills Rebuild made (inl refl) in
          mend_waits plan (ap is_encode e) servers is.few_servers fills.0.row fills.0.placed fills.1 fills.0.moves.in_turn k server kind there
      by_command Balance e made there =
          let fills = mend_fills Balance made (inr refl) in
          mend_waits plan (ap is_encode e) servers is.few_servers fills.0.row fills.0.placed fills.1 fills.0.moves.in_turn k server kind there
      by_command Decode e made there = decode_waits plan e (lowest-some (held plan) plan.home made.home).1 k server kind there new

  -- and so does one that was found
  pub list_goes : (k server : ℕ) (kind : Kind) → slice_get (list_of plan) k ≡ Some (server, kind) → IsFound plan server kind → WaitsToGo plan (list_of plan) k server kind
  list_goes k server kind at found = by_command plan.command refl is.made at
    where
      by_command : (c : Command) → plan.command ≡ c → IsPlanBy servers plan c → slice_get (list_by plan c) k ≡ Some (server, kind) → WaitsToGo plan (list_by plan c) k server kind
      by_command (Encode ratio) e made there = encode_goes plan (ap is_encode e) made.0.deleted (filter (is_target plan) all_servers) plan.targets.items (encode_targets plan servers is.some_server is.few_servers made.0 (filter (is_target plan) all_servers) refl) k server kind there found
      by_command Rebuild e made there =
          let fills = mend_fills Rebuild made (inl refl) in
          mend_goes plan (ap is_encode e) servers is.few_servers fills.0.row fills.0.placed fills.1 fills.0.moves.in_turn k server kind there found
      by_command Balance e made there =
          let fills = mend_fills Balance made (inr refl) in
          mend_goes plan (ap is_encode e) servers is.few_servers fills.0.row fills.0.placed fills.1 fills.0.moves.in_turn k server kind there found
      by_command Decode e made there = decode_goes plan e (lowest-some (held plan) plan.home made.home).1 k server kind there found

  -- the index of an encode comes behind each shard
  pub list_index_behind : (ratio : Ratio) → plan.command ≡ Encode ratio → (k server i : ℕ) → slice_get (list_of plan) k ≡ Some (server, Shard i) → (m : ℕ) × (k < m) × (slice_get (list_of plan) m ≡ Some (plan.home, Idx))
  list_index_behind ratio e k server i at =
      let list : list_of plan ≡ encode_names (filter (is_target plan) all_servers) plan.targets.items plan.home = ap (list_by plan) e in
      let found = index_behind (filter (is_target plan) all_servers) plan.targets.items plan.home k server i (ap (λ names. slice_get names k) (sym list) ∙ at) in
      (found.0, found.1, ap (λ names. slice_get names found.0) list ∙ found.2)

  -- ---- when a file's turn comes

  module _ (states : List FileState) (are : AreStates states) (listed : names_of states ≡ list_of plan) (j : ℕ) (reached : IsReached plan states j) (s : FileState) (at : slice_get states j ≡ Some s) where
    named : slice_get (list_of plan) j ≡ Some (s.server, s.kind)
    named = ap (λ names. slice_get names j) (sym listed) ∙ name_at (λ (s : FileState). (s.server, s.kind)) states j s at

    -- one that is written may be registered
    pub turn_registers : IsNew plan s.server s.kind → MayRegister plan states s.server s.kind
    turn_registers new = may_register plan states are j reached s.server s.kind (subst (λ names. WaitsToRegister plan names j s.server s.kind) (sym listed) (list_waits j s.server s.kind named new))

    -- and one that was found may be removed, whichever server the table names
    pub turn_removes : (row : Row) → IsFound plan s.server s.kind → MayRemove plan states row s.server s.kind
    turn_removes row found = may_remove plan states are j reached row s.server s.kind (subst (λ names. WaitsToGo plan names j s.server s.kind) (sym listed) (list_goes j s.server s.kind named found))
