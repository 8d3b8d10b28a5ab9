-- What stands at the end of a decode: the data file and the index at the home, and nothing else.
use Rattle.std.proofs.Common.{◌≡◌, ◌≢◌, ◌⊎◌, inl, inr, ⊎_elim, ℕ, ◌<◌, true, false, List, ◌++◌, None, is_some, IsTrue, refl, sym, ◌∙◌, ap, subst, arith}
use Rattle.std.specs.Prelude.{◌==◌, ◌&&◌, filter, flat_map}
use mathlib.Core.Bool.{true≢false}
use Rattle.std.proofs.lemmas.Bool.{and_parts, eqb-true, eq-eqb}
use Rattle.world_model.specs.World.{Volume}
use Rattle.world_model.specs.declared.types.Command.TheVariants.{Decode}
use Rattle.file_names.specs.declared.Kind.{Kind}
use Rattle.file_names.specs.declared.Kind.TheVariants.{Dat, Idx, Cpd, Cpx, Shard, Ecx, Ecj, Vif}
use Rattle.file_names.specs.Names.{IsKind, max_shards}
use Rattle.volume_forms.specs.Forms.{has_super}
use Rattle.needle_record.specs.Records.{records}
use Rattle.shard_table.specs.Table.{Row, place_in}
use Rattle.image_meaning.specs.Files.{VolumeFiles, all_servers, has_index}
use Rattle.site_model.specs.Counts.{max_servers}
use Rattle.image_meaning.specs.Plain.{IsExact}
use Rattle.image_meaning.specs.Coded.{dat_of}
use Rattle.image_meaning.specs.Laws.Plain.{IsAlone, lowest-all_fail}
use Rattle.image_meaning.specs.Laws.Part.{made_dat}
use Rattle.image_meaning.specs.HeldParts.{held_made}
use Rattle.image_meaning.specs.Laws.Servers.{lowest-some}
use Rattle.image_meaning.specs.Laws.Views.{index_named}
use Rattle.image_meaning.specs.Share.{Share, finals}
use Rattle.plan_steps.specs.declared.plan.Plan.{Plan}
use Rattle.plan_steps.specs.Kept.{Forms, IsKeptCoded}
use Rattle.plan_steps.specs.Laws.Kept.{coded_where}
use Rattle.plan_steps.specs.Planned.{deletions, joined, joined_index, held, placed, is_at, is_found, is_found_coded}
use Rattle.plan_steps.specs.Legal.{IsFound, IsNew, BeginsPlan}
use Rattle.plan_steps.specs.Lists.{shard_names, left_names, decode_names, list_by, list_of}
use Rattle.plan_steps.specs.Members.{Has, has_left, has_right, has_either, has_map, map_has, has_flat, flat_has, has_filter, filter_has, has_range, any_has, has_any}
use Rattle.plan_steps.specs.Laws.End.{IsOver, end_new, end_stands, row_none}
use Rattle.plan_steps.specs.Progressing.{Running, FitsProgress}

module _ (plan : Plan) (decode : plan.command ≡ Decode) where
  abbrev pub found_names : List (ℕ × Kind)
  found_names = shard_names plan.places.items ++ flat_map left_names (filter (held plan) all_servers)

  pub list_is : list_of plan ≡ decode_names plan.home found_names
  list_is = ap (list_by plan) decode

  pub finds : (server : ℕ) (kind : Kind) → is_found plan plan.command server kind ≡ is_found_coded plan server kind
  finds server kind = ap (λ c. is_found plan c server kind) decode

  -- ---- all that was found is in the list

  shard_listed : (server i : ℕ) → placed plan i server ≡ true → Has found_names (server, Shard i)
  shard_listed server i e =
      let found = any_has (is_at i server) plan.places.items e in
      let both = and_parts (found.0.0 == i) (found.0.1 == server) found.2 in
      has_left (shard_names plan.places.items) (flat_map left_names (filter (held plan) all_servers)) (server, Shard i)
      (subst (Has (shard_names plan.places.items)) (λ k. (eqb-true found.0.1 server both.1 k, Shard (eqb-true found.0.0 i both.0 k)))
      (has_map (λ (p : ℕ × ℕ). (p.1, Shard p.0)) plan.places.items found.0 found.1))

  beside_listed : (server : ℕ) (kind : Kind) → server < max_servers → held plan server ≡ true → Has (left_names server) (server, kind) → Has found_names (server, kind)
  beside_listed server kind below e here =
      has_right (shard_names plan.places.items) (flat_map left_names (filter (held plan) all_servers)) (server, kind)
      (has_flat left_names (filter (held plan) all_servers) server (server, kind) (has_filter (held plan) all_servers server (has_range 0 max_servers server (omega arith) (omega (arith, below))) e) here)

  found_by : (server : ℕ) (kind : Kind) → server < max_servers → is_found_coded plan server kind ≡ true → Has found_names (server, kind)
  found_by server Dat below e = absurd (true≢false (sym e))
  found_by server Idx below e = absurd (true≢false (sym e))
  found_by server Cpd below e = absurd (true≢false (sym e))
  found_by server Cpx below e = absurd (true≢false (sym e))
  found_by server (Shard i) below e = shard_listed server i e
  found_by server Ecx below e = beside_listed server Ecx below e (inl refl)
  found_by server Ecj below e = beside_listed server Ecj below e (inr (inl refl))
  found_by server Vif below e = beside_listed server Vif below e (inr (inr (inl refl)))

  pub found_listed : (server : ℕ) (kind : Kind) → server < max_servers → IsFound plan server kind → Has (list_of plan) (server, kind)
  found_listed server kind below found = subst (λ (names : List (ℕ × Kind)). Has names (server, kind)) (sym list_is) (inr (inr (found_by server kind below (sym (finds server kind) ∙ found))))

  -- ---- and what it writes are the two files

  names_found : (server : ℕ) (kind : Kind) → Has found_names (server, kind) → is_found_coded plan server kind ≡ true
  names_found server kind has = ⊎_elim
      (λ shard.
      let found = map_has (λ (p : ℕ × ℕ). (p.1, Shard p.0)) plan.places.items (server, kind) shard in
      subst (λ (p : ℕ × Kind). is_found_coded plan p.0 p.1 ≡ true) found.2 (has_any (is_at found.0.0 found.0.1) plan.places.items found.0 found.1 (both found.0.0 found.0.1)))
      (λ beside.
      let found = flat_has left_names (filter (held plan) all_servers) (server, kind) beside in
      by_name found.0 (filter_has (held plan) all_servers found.0 found.1).1 found.2)
      (has_either (shard_names plan.places.items) (flat_map left_names (filter (held plan) all_servers)) (server, kind) has)
    where
      both : (i s : ℕ) → is_at i s (i, s) ≡ true
      both i s = (λ k. eq-eqb i i refl k && eq-eqb s s refl k)

      by_name : (s : ℕ) → held plan s ≡ true → Has (left_names s) (server, kind) → is_found_coded plan server kind ≡ true
      by_name s e (inl same) = subst (λ (p : ℕ × Kind). is_found_coded plan p.0 p.1 ≡ true) same e
      by_name s e (inr (inl same)) = subst (λ (p : ℕ × Kind). is_found_coded plan p.0 p.1 ≡ true) same e
      by_name s e (inr (inr (inl same))) = subst (λ (p : ℕ × Kind). is_found_coded plan p.0 p.1 ≡ true) same e
      by_name s e (inr (inr (inr none))) = absurd none

  pub new_listed : (server : ℕ) (kind : Kind) → Has (list_of plan) (server, kind) → IsNew plan server kind → (server ≡ plan.home) × ((kind ≡ Idx) ⊎ (kind ≡ Dat))
  new_listed server kind has new = by_place (subst (λ (names : List (ℕ × Kind)). Has names (server, kind)) list_is has)
    where
      by_place : Has (decode_names plan.home found_names) (server, kind) → (server ≡ plan.home) × ((kind ≡ Idx) ⊎ (kind ≡ Dat))
      by_place (inl same) = (ap (λ (p : ℕ × Kind). p.0) (sym same), inr (ap (λ (p : ℕ × Kind). p.1) (sym same)))
      by_place (inr (inl same)) = (ap (λ (p : ℕ × Kind). p.0) (sym same), inl (ap (λ (p : ℕ × Kind). p.1) (sym same)))
      by_place (inr (inr found)) = absurd (true≢false (sym (names_found server kind found) ∙ sym (finds server kind) ∙ new))

  home_new : (kind : Kind) → is_found_coded plan plan.home kind ≡ false → IsNew plan plan.home kind
  home_new kind e = finds plan.home kind ∙ e

  has_dat : Has (list_of plan) (plan.home, Dat)
  has_dat = subst (λ (names : List (ℕ × Kind)). Has names (plan.home, Dat)) (sym list_is) (inl refl)

  has_idx : Has (list_of plan) (plan.home, Idx)
  has_idx = subst (λ (names : List (ℕ × Kind)). Has names (plan.home, Idx)) (sym list_is) (inr (inl refl))

  -- ---- the start

  -- the volume was coded
  pub start_coded : (f : Forms) (start : VolumeFiles) → BeginsPlan f plan start → IsKeptCoded f.parts start
  start_coded f start begins = coded_where f start begins.kept (lowest-all_fail (has_index start) (λ s below.
      ap is_some (index_named start s (ap is_some (none s Cpx below tt refl)) ∙ none s Idx below tt refl)))
    where
      none : (s : ℕ) (kind : Kind) → s < max_servers → IsKind kind → is_found_coded plan s kind ≡ false → start s kind ≡ None
      none s kind below is e = begins.finds.none_else s kind below is (finds s kind ∙ e)

-- ---- the end

module _ (w : Volume) (f : Forms) (r : Running) (row : Row) (start now : Share) (fits : FitsProgress w f r row start now) (over : IsOver r) (decode : r.plan.command ≡ Decode) where
  home_below : r.plan.home < max_servers
  home_below = (lowest-some (held r.plan) r.plan.home (fits.begins.tells.home decode)).1

  -- The data file and the index stand at the home, and no other file.
  pub decode_alone : IsAlone (finals now) r.plan.home (joined f.parts) (joined_index f.parts)
  decode_alone = record {
    below = home_below;
    has_dat = end_new w f r row start now fits over r.plan.home Dat (has_dat r.plan decode) (home_new r.plan decode Dat refl);
    has_index = end_new w f r row start now fits over r.plan.home Idx (has_idx r.plan decode) (home_new r.plan decode Idx refl);
    alone = λ server kind is st. ⊎_elim
        (λ new. new_listed r.plan decode server kind new.0 new.1)
        (λ found. absurd (found.0 (found_listed r.plan decode server kind st.0 found.1)))
        (end_stands w f r row start now fits over server kind st.0 is st.1);
  }

  -- they are records and their entries to the end
  pub decode_exact : IsExact (joined f.parts) (joined_index f.parts) (records (joined f.parts))
  decode_exact = let exact = (fits.begins.joined decode).exact in subst (IsExact (joined f.parts) (joined_index f.parts)) (sym exact.has) exact

  pub decode_super : IsTrue (has_super (joined f.parts))
  decode_super = (fits.begins.joined decode).super

  -- the data file is that of the start's shards, with the deletions behind it
  pub decode_joins : joined f.parts ≡ dat_of (finals start) ++ deletions r.plan.deleted.items
  decode_joins =
      let kept = start_coded r.plan decode f (finals start) fits.begins in
      let is : dat_of (finals start) ≡ f.parts.dat = made_dat f.parts (finals start) (held_made f.parts (finals start) kept.holds) kept.form.enough fits.forms.parts in
      λ i. sym is i ++ deletions (fits.begins.tells.deleted i)

  -- and the table has no shard
  pub decode_row : (i : ℕ) → i < max_shards → place_in row i ≡ None
  decode_row = row_none w f r row start now fits (λ server i h st. neither i (decode_alone.alone server (Shard i) h st).1)
    where
      neither : (i : ℕ) → (◌≡◌ {A = Kind} (Shard i) Idx) ⊎ (◌≡◌ {A = Kind} (Shard i) Dat) → ⊥
      neither i (inl e) = cc
      neither i (inr e) = cc
