-- What stands at the end of an encode: all shards, each once, with a text and an index beside them, and nothing else.
use Rattle.std.proofs.Common.{◌≡◌, ◌≢◌, ◌⊎◌, inl, inr, ⊎_elim, ℕ, ◌+◌, ◌%◌, ◌<◌, ◌≤◌, true, false, List, [], ◌∷◌, ◌++◌, map, Option, None, is_some, IsTrue, refl, sym, ◌∙◌, ap, subst, arith}
use Rattle.std.specs.Prelude.{◌==◌, nat_lt, filter, unwrap_or}
use Rattle.std.proofs.Math.Nat.{mod-lt}
use mathlib.Core.Bool.{true≢false}
use Rattle.std.proofs.lemmas.Bool.{and_parts, and_from, eqb-true, eq-eqb, lt-ltb, ltb-true}
use Rattle.wire_num.specs.Pairs.{pairs, pairs_within, journal_bytes}
use Rattle.world_model.specs.World.{Volume}
use Rattle.world_model.specs.declared.types.Command.{Command}
use Rattle.world_model.specs.declared.types.Command.TheVariants.{Encode, Rebuild, Balance, Decode}
use Rattle.world_model.specs.Ratios.{data_count, parity_count, counts-sixteen}
use Rattle.file_names.specs.declared.Kind.{Kind}
use Rattle.file_names.specs.declared.Kind.TheVariants.{Dat, Idx, Cpd, Cpx, Shard, Ecx, Ecj, Vif}
use Rattle.file_names.specs.Names.{IsKind, max_shards}
use Rattle.stripe_layout.specs.declared.Info.{Info}
use Rattle.stripe_layout.specs.Stripes.{shards_in_all}
use Rattle.shard_table.specs.Table.{Row, place_in}
use Rattle.image_meaning.specs.Files.{all_servers, has_index, stands, bytes_at, is_holder, shard_home}
use Rattle.site_model.specs.Counts.{max_servers}
use Rattle.image_meaning.specs.Coded.{deleted_at}
use Rattle.image_meaning.specs.Sound.{Stands, IsHolder}
use Rattle.image_meaning.specs.Ends.{IsTidyCoded, IsWhole, IsEven}
use Rattle.image_meaning.specs.Laws.Plain.{lowest-all_fail}
use Rattle.image_meaning.specs.Laws.Part.{made_coded, made_ratio}
use Rattle.image_meaning.specs.HeldParts.{held_made}
use Rattle.image_meaning.specs.Laws.CodedLoss.{any_range}
use Rattle.image_meaning.specs.Laws.Views.{index_named}
use Rattle.image_meaning.specs.Share.{Share, finals}
use Rattle.plan_steps.specs.declared.plan.Plan.{Plan}
use Rattle.plan_steps.specs.Kept.{Forms, IsKeptCoded}
use Rattle.plan_steps.specs.Laws.Kept.{coded_where}
use Rattle.plan_steps.specs.Planned.{is_encode, is_found_plain}
use Rattle.plan_steps.specs.Laws.Found.{encode_finds}
use Rattle.plan_steps.specs.Legal.{IsFound, IsNew}
use Rattle.plan_steps.specs.Laws.Legal.{some_at}
use Rattle.plan_steps.specs.Lists.{is_target, shard_names, encode_names, list_by, list_of}
use Rattle.plan_steps.specs.Plans.{all_numbers, IsEncodePlan}
use Rattle.plan_steps.specs.Members.{Has, has_left, has_right, has_either, has_map, map_has, filter_has, has_range, range_has, any_has}
use Rattle.plan_steps.specs.Laws.Round.{bool_same, bit_most, count_same, round_test, round_counts}
use Rattle.plan_steps.specs.Laws.End.{IsOver, end_new, end_stands, end_none, row_homes}
use Rattle.plan_steps.specs.Progressing.{Running, FitsProgress}

no_pairs : pairs [] ≡ []
unfolding pairs pairs_within
no_pairs = refl

-- the list of an encode
pub encode_list : (plan : Plan) (c : Command) → is_encode c ≡ true → list_by plan c ≡ encode_names (filter (is_target plan) all_servers) plan.targets.items plan.home
encode_list plan (Encode ratio) e = refl
encode_list plan Rebuild e = absurd (true≢false (sym e))
encode_list plan Balance e = absurd (true≢false (sym e))
encode_list plan Decode e = absurd (true≢false (sym e))

-- which file is in it: one of those beside shards at a target, a shard at its target, or an old file
abbrev pub IsEncoded : Plan → ℕ → Kind → Type 0
IsEncoded plan server kind = ((is_target plan server ≡ true) × ((kind ≡ Vif) ⊎ (kind ≡ Ecx))) ⊎ (((i : ℕ) × (kind ≡ Shard i) × Has plan.targets.items (i, server)) ⊎ ((server ≡ plan.home) × ((kind ≡ Idx) ⊎ (kind ≡ Dat))))

module _ (plan : Plan) where
  abbrev pub servers_of : List ℕ
  servers_of = filter (is_target plan) all_servers

  abbrev pub texts : List (ℕ × Kind)
  texts = map (λ s. (s, Vif)) servers_of

  abbrev pub indexes : List (ℕ × Kind)
  indexes = map (λ s. (s, Ecx)) servers_of

  abbrev pub shards : List (ℕ × Kind)
  shards = shard_names plan.targets.items

  abbrev pub ends : List (ℕ × Kind)
  ends = (plan.home, Idx) ∷ (plan.home, Dat) ∷ []

  pub by_names : (server : ℕ) (kind : Kind) → Has (texts ++ (indexes ++ (shards ++ ends))) (server, kind) → IsEncoded plan server kind
  by_names server kind has = ⊎_elim
      (λ text.
      let found = map_has (λ s. (s, Vif)) servers_of (server, kind) text in
      inl (at_target found.0 found.2 found.1, inl (ap (λ (p : ℕ × Kind). p.1) (sym found.2))))
      (λ rest. ⊎_elim
      (λ index.
      let found = map_has (λ s. (s, Ecx)) servers_of (server, kind) index in
      inl (at_target found.0 found.2 found.1, inr (ap (λ (p : ℕ × Kind). p.1) (sym found.2))))
      (λ more. ⊎_elim
      (λ one.
      let found = map_has (λ (p : ℕ × ℕ). (p.1, Shard p.0)) plan.targets.items (server, kind) one in
      inr (inl (found.0.0, ap (λ (p : ℕ × Kind). p.1) (sym found.2), subst (λ s. Has plan.targets.items (found.0.0, s)) (ap (λ (p : ℕ × Kind). p.0) found.2) found.1)))
      at_end
      (has_either shards ends (server, kind) more))
      (has_either indexes (shards ++ ends) (server, kind) rest))
      (has_either texts (indexes ++ (shards ++ ends)) (server, kind) has)
    where
      at_target : (s : ℕ) {k : Kind} → ◌≡◌ {A = ℕ × Kind} (s, k) (server, kind) → Has servers_of s → is_target plan server ≡ true
      at_target s {k} same has = ap (is_target plan) (ap (λ (p : ℕ × Kind). p.0) (sym same)) ∙ (filter_has (is_target plan) all_servers s has).1

      at_end : Has ends (server, kind) → IsEncoded plan server kind
      at_end (inl same) = inr (inr (ap (λ (p : ℕ × Kind). p.0) (sym same), inl (ap (λ (p : ℕ × Kind). p.1) (sym same))))
      at_end (inr (inl same)) = inr (inr (ap (λ (p : ℕ × Kind). p.0) (sym same), inr (ap (λ (p : ℕ × Kind). p.1) (sym same))))
      at_end (inr (inr none)) = absurd none

  shard_in : (i s : ℕ) → Has plan.targets.items (i, s) → Has (texts ++ (indexes ++ (shards ++ ends))) (s, Shard i)
  shard_in i s has = has_right texts (indexes ++ (shards ++ ends)) (s, Shard i) (has_right indexes (shards ++ ends) (s, Shard i) (has_left shards ends (s, Shard i) (has_map (λ (p : ℕ × ℕ). (p.1, Shard p.0)) plan.targets.items (i, s) has)))

  old_in : (kind : Kind) → (kind ≡ Idx) ⊎ (kind ≡ Dat) → Has (texts ++ (indexes ++ (shards ++ ends))) (plan.home, kind)
  old_in kind is = has_right texts (indexes ++ (shards ++ ends)) (plan.home, kind) (has_right indexes (shards ++ ends) (plan.home, kind) (has_right shards ends (plan.home, kind) (by_kind is)))
    where
      by_kind : (kind ≡ Idx) ⊎ (kind ≡ Dat) → Has ends (plan.home, kind)
      by_kind (inl e) = inl (λ k. (plan.home, sym e k))
      by_kind (inr e) = inr (inl (λ k. (plan.home, sym e k)))

  -- ---- the targets

  module _ (servers : ℕ) (is : IsEncodePlan servers plan) where
    abbrev n : ℕ
    n = shards_in_all plan.info.geometry

    target_has : (i : ℕ) → i < n → Has plan.targets.items (i, i % servers)
    target_has i h = subst (λ (ts : List (ℕ × ℕ)). Has ts (i, i % servers)) (sym is.targets) (has_map (λ i. (i, i % servers)) (all_numbers plan.info.geometry) i (has_range 0 n i (omega arith) (omega (arith, h))))

    target_is : (i s : ℕ) → Has plan.targets.items (i, s) → (i < n) × (s ≡ i % servers)
    target_is i s has =
        let found = map_has (λ i. (i, i % servers)) (all_numbers plan.info.geometry) (i, s) (subst (λ (ts : List (ℕ × ℕ)). Has ts (i, s)) is.targets has) in
        let same : found.0 ≡ i = ap (λ (p : ℕ × ℕ). p.0) found.2 in
        (subst (λ k. k < n) same (omega (arith, (range_has 0 n found.0 found.1).1)), ap (λ (p : ℕ × ℕ). p.1) (sym found.2) ∙ ap (λ k. k % servers) same)

-- ---- the end

kind_shard : (i j : ℕ) → ◌≡◌ {A = Kind} (Shard i) (Shard j) → i ≡ j
kind_shard i j e = cc

module _ (w : Volume) (f : Forms) (r : Running) (row : Row) (start now : Share) (fits : FitsProgress w f r row start now) (over : IsOver r) (encode : is_encode r.plan.command ≡ true)
    (servers : ℕ) (is : IsEncodePlan servers r.plan) (some_server : 0 < servers) (few : servers ≤ max_servers) where
  abbrev all : ℕ
  all = shards_in_all r.plan.info.geometry

  list_is : list_of r.plan ≡ encode_names (filter (is_target r.plan) all_servers) r.plan.targets.items r.plan.home
  list_is = encode_list r.plan r.plan.command encode

  in_list : (server : ℕ) (kind : Kind) → Has (encode_names (filter (is_target r.plan) all_servers) r.plan.targets.items r.plan.home) (server, kind) → Has (list_of r.plan) (server, kind)
  in_list server kind has = subst (λ (names : List (ℕ × Kind)). Has names (server, kind)) (sym list_is) has

  listed : (server : ℕ) (kind : Kind) → Has (list_of r.plan) (server, kind) → IsEncoded r.plan server kind
  listed server kind has = by_names r.plan server kind (subst (λ (names : List (ℕ × Kind)). Has names (server, kind)) list_is has)

  new_by : (server : ℕ) (kind : Kind) → is_found_plain r.plan server kind ≡ false → IsNew r.plan server kind
  new_by server kind e = encode_finds r.plan server kind encode ∙ e

  found_by : (server : ℕ) (kind : Kind) → IsFound r.plan server kind → is_found_plain r.plan server kind ≡ true
  found_by server kind e = sym (encode_finds r.plan server kind encode) ∙ e

  same_all : shards_in_all f.parts.info.geometry ≡ all
  same_all = ap (λ (info : Info). shards_in_all info.geometry) fits.begins.tells.info

  all_few : all ≤ max_shards
  all_few = counts-sixteen r.plan.info.geometry.ratio

  -- ---- shards

  below_of : (i : ℕ) → i % servers < max_servers
  below_of i = omega (arith, mod-lt i some_server, few)

  -- shard i stands at server i, counted round
  shard_stands : (i : ℕ) → i < all → Stands (finals now) (i % servers) (Shard i)
  shard_stands i h = (
    below_of i,
    ap is_some (end_new w f r row start now fits over (i % servers) (Shard i) (in_list (i % servers) (Shard i) (shard_in r.plan i (i % servers) (target_has r.plan servers is i h))) (new_by (i % servers) (Shard i) refl)
        ∙ some_at f.parts.shards i (omega (arith, h, same_all, fits.forms.parts.striped.count))),
  )

  -- and nowhere else
  shard_only : (s i : ℕ) → i < max_shards → Stands (finals now) s (Shard i) → (i < all) × (s ≡ i % servers)
  shard_only s i h st = ⊎_elim
      (λ new. by_name (listed s (Shard i) new.0))
      (λ found. absurd (true≢false (sym (found_by s (Shard i) found.1))))
      (end_stands w f r row start now fits over s (Shard i) st.0 h st.1)
    where
      by_name : IsEncoded r.plan s (Shard i) → (i < all) × (s ≡ i % servers)
      by_name (inl (target, inl e)) = absurd cc
      by_name (inl (target, inr e)) = absurd cc
      by_name (inr (inl (j, e, has))) = target_is r.plan servers is i s (subst (λ k. Has r.plan.targets.items (k, s)) (sym (kind_shard i j e)) has)
      by_name (inr (inr (home, inl e))) = absurd cc
      by_name (inr (inr (home, inr e))) = absurd cc

  pub encode_once : (s t i : ℕ) → i < max_shards → Stands (finals now) s (Shard i) → Stands (finals now) t (Shard i) → s ≡ t
  encode_once s t i h a b = (shard_only s i h a).1 ∙ sym (shard_only t i h b).1

  -- a target holds a shard
  target_holds : (s : ℕ) → s < max_servers → is_target r.plan s ≡ true → IsHolder (finals now) s
  unfolding is_holder
  target_holds s below e =
      let found = any_has (λ (p : ℕ × ℕ). p.1 == s) r.plan.targets.items e in
      let here = target_is r.plan servers is found.0.0 found.0.1 found.1 in
      let at : found.0.0 % servers ≡ s = sym here.1 ∙ eqb-true found.0.1 s found.2 in
      let st : Stands (finals now) s (Shard found.0.0) = subst (λ q. Stands (finals now) q (Shard found.0.0)) at (shard_stands found.0.0 here.0) in
      (below, any_range (λ i. stands (finals now) s (Shard i)) 0 max_shards found.0.0 (omega arith) (omega (arith, here.0, all_few)) st.1)

  -- ---- no other file

  -- of a kind that an encode neither writes nor leaves
  none_of : (server : ℕ) (kind : Kind) → server < max_servers → IsKind kind → (IsEncoded r.plan server kind → is_found_plain r.plan server kind ≡ false → ⊥) → (is_found_plain r.plan server kind ≡ true → Has (list_of r.plan) (server, kind)) → finals now server kind ≡ None
  none_of server kind below kind_is not_new old = end_none w f r row start now fits over server kind below kind_is
      (λ has new. not_new (listed server kind has) (sym (encode_finds r.plan server kind encode) ∙ new))
      (λ found. old (found_by server kind found))

  at_home : (server : ℕ) (kind : Kind) → (kind ≡ Idx) ⊎ (kind ≡ Dat) → (r.plan.home == server) ≡ true → Has (list_of r.plan) (server, kind)
  at_home server kind old e = subst (λ s. Has (list_of r.plan) (s, kind)) (eqb-true r.plan.home server e) (in_list r.plan.home kind (old_in r.plan kind old))

  no_idx : (server : ℕ) → server < max_servers → finals now server Idx ≡ None
  no_idx server below = none_of server Idx below tt not_new (at_home server Idx (inl refl))
    where
      not_new : IsEncoded r.plan server Idx → (r.plan.home == server) ≡ false → ⊥
      not_new (inl (target, inl e)) other = absurd cc
      not_new (inl (target, inr e)) other = absurd cc
      not_new (inr (inl (j, e, has))) other = absurd cc
      not_new (inr (inr (home, e))) other = true≢false (sym (eq-eqb r.plan.home server (sym home)) ∙ other)

  no_dat : (server : ℕ) → server < max_servers → finals now server Dat ≡ None
  no_dat server below = none_of server Dat below tt not_new (at_home server Dat (inr refl))
    where
      not_new : IsEncoded r.plan server Dat → (r.plan.home == server) ≡ false → ⊥
      not_new (inl (target, inl e)) other = absurd cc
      not_new (inl (target, inr e)) other = absurd cc
      not_new (inr (inl (j, e, has))) other = absurd cc
      not_new (inr (inr (home, e))) other = true≢false (sym (eq-eqb r.plan.home server (sym home)) ∙ other)

  no_cpx : (server : ℕ) → server < max_servers → finals now server Cpx ≡ None
  no_cpx server below = none_of server Cpx below tt not_new (λ e. absurd (true≢false (sym e)))
    where
      not_new : IsEncoded r.plan server Cpx → false ≡ false → ⊥
      not_new (inl (target, inl e)) other = absurd cc
      not_new (inl (target, inr e)) other = absurd cc
      not_new (inr (inl (j, e, has))) other = absurd cc
      not_new (inr (inr (home, inl e))) other = absurd cc
      not_new (inr (inr (home, inr e))) other = absurd cc

  no_cpd : (server : ℕ) → server < max_servers → finals now server Cpd ≡ None
  no_cpd server below = none_of server Cpd below tt not_new (λ e. absurd (true≢false (sym e)))
    where
      not_new : IsEncoded r.plan server Cpd → false ≡ false → ⊥
      not_new (inl (target, inl e)) other = absurd cc
      not_new (inl (target, inr e)) other = absurd cc
      not_new (inr (inl (j, e, has))) other = absurd cc
      not_new (inr (inr (home, inl e))) other = absurd cc
      not_new (inr (inr (home, inr e))) other = absurd cc

  no_ecj : (server : ℕ) → server < max_servers → finals now server Ecj ≡ None
  no_ecj server below = none_of server Ecj below tt not_new (λ e. absurd (true≢false (sym e)))
    where
      not_new : IsEncoded r.plan server Ecj → false ≡ false → ⊥
      not_new (inl (target, inl e)) other = absurd cc
      not_new (inl (target, inr e)) other = absurd cc
      not_new (inr (inl (j, e, has))) other = absurd cc
      not_new (inr (inr (home, inl e))) other = absurd cc
      not_new (inr (inr (home, inr e))) other = absurd cc

  -- so no index stands, and the volume is coded
  pub encode_coded : IsKeptCoded f.parts (finals now)
  encode_coded = coded_where f (finals now) fits.fits.kept (lowest-all_fail (has_index (finals now)) (λ s below. ap is_some (index_named (finals now) s (ap is_some (no_cpx s below)) ∙ no_idx s below)))

  -- ---- tidy and whole

  no_journal : (server : ℕ) → IsHolder (finals now) server → bytes_at (finals now) server Ecj ≡ []
  no_journal server holder = ap (λ (o : Option (List ℕ)). unwrap_or o []) (no_ecj server holder.0)

  no_ids : (server : ℕ) → IsHolder (finals now) server → deleted_at (finals now) server ≡ []
  no_ids server holder = ap pairs (no_journal server holder) ∙ no_pairs

  same_ids : (s t : ℕ) → IsHolder (finals now) s → IsHolder (finals now) t → deleted_at (finals now) s ≡ deleted_at (finals now) t
  same_ids s t a b = no_ids s a ∙ sym (no_ids t b)

  not_there : (o : Option (List ℕ)) → o ≡ None → is_some o ≡ true → ⊥
  not_there o none some = true≢false (sym some ∙ ap is_some none)

  shard_holder : (s i : ℕ) → i < max_shards → Stands (finals now) s (Shard i) → IsHolder (finals now) s
  unfolding is_holder
  shard_holder s i h st = (st.0, any_range (λ i. stands (finals now) s (Shard i)) 0 max_shards i (omega arith) (omega (arith, h)) st.1)

  beside_holds : (server : ℕ) (kind : Kind) → (kind ≡ Vif) ⊎ (kind ≡ Ecx) → IsKind kind → Stands (finals now) server kind → IsHolder (finals now) server
  beside_holds server kind which kind_is st = ⊎_elim
      (λ new. by_name (listed server kind new.0))
      (λ found. absurd (not_found which (found_by server kind found.1)))
      (end_stands w f r row start now fits over server kind st.0 kind_is st.1)
    where
      not_found : (kind ≡ Vif) ⊎ (kind ≡ Ecx) → is_found_plain r.plan server kind ≡ true → ⊥
      not_found (inl e) found = true≢false (sym (ap (is_found_plain r.plan server) (sym e) ∙ found))
      not_found (inr e) found = true≢false (sym (ap (is_found_plain r.plan server) (sym e) ∙ found))

      apart : (k : Kind) → kind ≡ k → (k ≢ Vif) × (k ≢ Ecx) → ⊥
      apart k e other = ⊎_elim (λ v. other.0 (sym e ∙ v)) (λ x. other.1 (sym e ∙ x)) which

      by_name : IsEncoded r.plan server kind → IsHolder (finals now) server
      by_name (inl (target, is)) = target_holds server st.0 target
      by_name (inr (inl (j, e, has))) = absurd (apart (Shard j) e ((λ e. cc), (λ e. cc)))
      by_name (inr (inr (home, inl e))) = absurd (apart Idx e ((λ e. cc), (λ e. cc)))
      by_name (inr (inr (home, inr e))) = absurd (apart Dat e ((λ e. cc), (λ e. cc)))

  at_holders : (server : ℕ) (kind : Kind) → IsKind kind → Stands (finals now) server kind → IsHolder (finals now) server
  at_holders server Dat h st = absurd (not_there (finals now server Dat) (no_dat server st.0) st.1)
  at_holders server Idx h st = absurd (not_there (finals now server Idx) (no_idx server st.0) st.1)
  at_holders server Cpd h st = absurd (not_there (finals now server Cpd) (no_cpd server st.0) st.1)
  at_holders server Cpx h st = absurd (not_there (finals now server Cpx) (no_cpx server st.0) st.1)
  at_holders server (Shard i) h st = shard_holder server i h st
  at_holders server Ecx h st = beside_holds server Ecx (inr refl) tt st
  at_holders server Ecj h st = absurd (not_there (finals now server Ecj) (no_ecj server st.0) st.1)
  at_holders server Vif h st = beside_holds server Vif (inl refl) tt st

  pub encode_tidy : IsTidyCoded (finals now)
  encode_tidy = record {
    once = encode_once;
    same_journal = same_ids;
    whole_journal = λ server holder. no_journal server holder ∙ sym (ap journal_bytes (no_ids server holder));
    no_dat = no_dat;
    no_cpd = no_cpd;
    at_holders = at_holders;
  }

  pub encode_whole : IsWhole (finals now)
  encode_whole = record {
    coded = made_coded f.parts (finals now) (held_made f.parts (finals now) encode_coded.holds) encode_coded.form;
    there = λ i h. (i % servers, shard_stands i (omega (arith, h, same_all, ap (λ q. data_count q + parity_count q) (made_ratio f.parts (finals now) (held_made f.parts (finals now) encode_coded.holds) encode_coded.form.enough))));
    once = encode_once;
    same_journal = same_ids;
  }

  pub encode_row : (i : ℕ) → i < max_shards → place_in row i ≡ shard_home (finals now) i
  encode_row = row_homes w f r row start now fits encode_once

  -- ---- even

  stands_round : (s i : ℕ) → s < servers → i < max_shards → stands (finals now) s (Shard i) ≡ round_test all servers s i
  stands_round s i below h = bool_same (stands (finals now) s (Shard i)) (round_test all servers s i)
      (λ st. let only = shard_only s i h (omega (arith, below, few), st) in and_from (nat_lt i all) (i % servers == s) (lt-ltb i all only.0) (eq-eqb (i % servers) s (sym only.1)))
      (λ e.
      let both = and_parts (nat_lt i all) (i % servers == s) e in
      subst (λ q. IsTrue (stands (finals now) q (Shard i))) (eqb-true (i % servers) s both.1) (shard_stands i (ltb-true i all both.0)).1)

  pub encode_even : IsEven (finals now) servers
  encode_even s t a b =
      let count = round_counts all servers max_shards some_server in
      omega (
        arith,
        count_same (λ i. stands (finals now) s (Shard i)) (round_test all servers s) 0 max_shards (λ i from to. stands_round s i a (omega (arith, to))),
        count_same (λ i. stands (finals now) t (Shard i)) (round_test all servers t) 0 max_shards (λ i from to. stands_round t i b (omega (arith, to))),
        count.each s a,
        count.each t b,
        bit_most (nat_lt s count.rest),
        bit_most (nat_lt t count.rest),
      )
