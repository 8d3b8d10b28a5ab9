-- Where the copies of shards stand, copy by copy.
use Rattle.std.proofs.Common.{◌≡◌, ◌≢◌, ◌⊎◌, inl, inr, ℕ, zero, suc, ◌+◌, ◌<◌, ◌≤◌, Bool, true, false, cond, eqb, List, [], ◌∷◌, ◌++◌, length, map, filter, take, set, replicate, Option, Some, None, refl, sym, ◌∙◌, ap, subst, arith}
use Rattle.std.specs.Prelude.{◌↔◌, IsTrue, nat_eq, slice_index_or, Contains}
use Rattle.std.specs.List.{All, list_any}
use Rattle.std.specs.Option.{option_eq}
use mathlib.Core.Bool.{true≢false}
use Rattle.std.proofs.lemmas.Bool.{cases_eq, cases_lt, eq-eqb, eqb-true}
use Rattle.std.proofs.lemmas.List.{map-append, take_more, append-nil, get_or-set_same, get_or-set_other, get_or_append_left, get_or_push, get_or_past, get_or_default, length-replicate, length-set}
use Rattle.std.proofs.lemmas.List.Elements.{filter-append, All-contains, Contains-get_or}
use Rattle.std.proofs.lemmas.List.Folds.{Any-from_list_any, list_any_at}
use Rattle.std.proofs.Math.ListN.{length-append}
use Rattle.file_names.specs.Names.{max_shards}
use Rattle.file_names.specs.declared.Kind.TheVariants.{Shard}
use Rattle.image_meaning.specs.Files.{VolumeFiles, stands, shard_home}
use Rattle.image_meaning.specs.Sound.{IsHolder, Stands}
use Rattle.image_meaning.specs.Laws.Servers.{lowest-some}
use Rattle.coded_volume.specs.declared.checking.ShardCopy.{ShardCopy}
use Rattle.coded_volume.specs.Checking.{AreCopies, AreStanding}
use Rattle.coded_volume.proofs.Standing.{stands_holder}
use Rattle.site_recovery.specs.Listing.{lower_of, IsLeastOf}
use Rattle.site_recovery.specs.Placing.{servers_with, AreHomesOf, MarksHomes}
use Rattle.site_recovery.specs.Spreading.{IsAmong}
use Rattle.site_recovery.specs.CodedGone.{HasShardHomes}
use Rattle.site_recovery.proofs.Names.{least_next}
use Rattle.site_recovery.proofs.Members.{map_has, map_in, filter_has, filter_in, none_in}
use Rattle.site_recovery.proofs.CodedLeft.{lowest_is}
use Rattle.site_recovery.proofs.CodedSettled.{AreMarked}

-- ---- the homes

none_at : (n i : ℕ) → ◌≡◌ {A = Option ℕ} (slice_index_or (replicate n None) i None) None
none_at zero i = refl
none_at (suc n) zero = refl
none_at (suc n) (suc i) = none_at n i

pub homes_none : (n : ℕ) → n ≡ max_shards → AreHomesOf [] (replicate n None)
homes_none n all = record {
  all = length-replicate n None ∙ all;
  each = λ i small. subst (λ (o : Option ℕ). IsLeastOf (servers_with [] i) o) (sym (none_at n i)) (λ x has. none_in x has);
}

module _ (copies : List ShardCopy) (copy : ShardCopy) where
  with_same : servers_with (copies ++ copy ∷ []) copy.shard ≡ servers_with copies copy.shard ++ copy.server ∷ []
  with_same =
      let test : ShardCopy → Bool = λ c. eqb c.shard copy.shard in
      ap (map (λ c. c.server)) (filter-append test copies (copy ∷ []) ∙ ap (λ b. filter test copies ++ cond b (copy ∷ []) []) (eq-eqb copy.shard copy.shard refl))
      ∙ map-append (λ c. c.server) (filter test copies) (copy ∷ [])

  with_other : (i : ℕ) → i ≢ copy.shard → servers_with (copies ++ copy ∷ []) i ≡ servers_with copies i
  with_other i other =
      let test : ShardCopy → Bool = λ c. eqb c.shard i in
      ap (map (λ c. c.server)) (filter-append test copies (copy ∷ []) ∙ ap (λ b. filter test copies ++ cond b (copy ∷ []) []) (not_it (eqb copy.shard i) refl) ∙ append-nil (filter test copies))
    where
      not_it : (b : Bool) → eqb copy.shard i ≡ b → b ≡ false
      not_it false e = refl
      not_it true e = absurd (other (sym (eqb-true copy.shard i e)))

-- one copy more
pub homes_more : (copies : List ShardCopy) (n : ℕ) (d : ShardCopy) (homes new : List (Option ℕ)) (least : ℕ) → n < length copies → (slice_index_or copies n d).shard < max_shards → AreHomesOf (take n copies) homes
    → least ≡ lower_of (slice_index_or homes (slice_index_or copies n d).shard None) (slice_index_or copies n d).server → new ≡ set homes (slice_index_or copies n d).shard (Some least) → AreHomesOf (take (n + 1) copies) new
homes_more copies n d homes new least fits small before is same = record {
  all = ap length same ∙ length-set homes (slice_index_or copies n d).shard (Some least) ∙ before.all;
  each = λ i low. at_shard (slice_index_or copies n d) small is i low (cases_eq i (slice_index_or copies n d).shard) refl;
}
  where
    here : (copy : ShardCopy) → copy.shard < max_shards → least ≡ lower_of (slice_index_or homes copy.shard None) copy.server
        → IsLeastOf (servers_with (take n copies ++ copy ∷ []) copy.shard) (slice_index_or (set homes copy.shard (Some least)) copy.shard None)
    here copy low is =
        subst (λ (xs : List ℕ). IsLeastOf xs (slice_index_or (set homes copy.shard (Some least)) copy.shard None)) (sym (with_same (take n copies) copy))
        (subst (λ (o : Option ℕ). IsLeastOf (servers_with (take n copies) copy.shard ++ copy.server ∷ []) o) (sym (get_or-set_same homes copy.shard (Some least) None (omega (arith, before.all, low))))
        (subst (λ x. IsLeastOf (servers_with (take n copies) copy.shard ++ copy.server ∷ []) (Some x)) (sym is)
        (least_next (servers_with (take n copies) copy.shard) (slice_index_or homes copy.shard None) copy.server (before.each copy.shard low))))

    there : (copy : ShardCopy) (i : ℕ) → i < max_shards → i ≢ copy.shard → IsLeastOf (servers_with (take n copies ++ copy ∷ []) i) (slice_index_or (set homes copy.shard (Some least)) i None)
    there copy i low other =
        subst (λ (xs : List ℕ). IsLeastOf xs (slice_index_or (set homes copy.shard (Some least)) i None)) (sym (with_other (take n copies) copy i other))
        (subst (λ (o : Option ℕ). IsLeastOf (servers_with (take n copies) i) o) (sym (get_or-set_other homes copy.shard i (Some least) None other)) (before.each i low))

    by_shard : (copy : ShardCopy) → copy.shard < max_shards → least ≡ lower_of (slice_index_or homes copy.shard None) copy.server → (i : ℕ) → i < max_shards → (i ≡ copy.shard) ⊎ (i ≢ copy.shard)
        → IsLeastOf (servers_with (take n copies ++ copy ∷ []) i) (slice_index_or (set homes copy.shard (Some least)) i None)
    by_shard copy low is i small (inl same) = subst (λ j. IsLeastOf (servers_with (take n copies ++ copy ∷ []) j) (slice_index_or (set homes copy.shard (Some least)) j None)) (sym same) (here copy low is)
    by_shard copy low is i small (inr other) = there copy i small other

    at_shard : (copy : ShardCopy) → copy.shard < max_shards → least ≡ lower_of (slice_index_or homes copy.shard None) copy.server → (i : ℕ) → i < max_shards → (i ≡ copy.shard) ⊎ (i ≢ copy.shard)
        → copy ≡ slice_index_or copies n d → IsLeastOf (servers_with (take (n + 1) copies) i) (slice_index_or new i None)
    at_shard copy low is i small cases it =
        subst (λ (cs : List ShardCopy). IsLeastOf (servers_with cs i) (slice_index_or new i None)) (sym (take_more copies n d fits))
        (subst (λ (hs : List (Option ℕ)). IsLeastOf (servers_with (take n copies ++ slice_index_or copies n d ∷ []) i) (slice_index_or hs i None)) (sym same)
        (subst (λ (c : ShardCopy). IsLeastOf (servers_with (take n copies ++ c ∷ []) i) (slice_index_or (set homes c.shard (Some least)) i None)) it (by_shard copy low is i small cases)))

-- ---- the homes of a volume's shards

module _ (copies : List ShardCopy) where
  -- a server with the shard has a copy of it
  pub with_has : (server i : ℕ) → Contains (servers_with copies i) server → Contains copies (record { server = server; shard = i })
  with_has server i has =
      let found = map_has (λ (c : ShardCopy). c.server) (filter (λ c. eqb c.shard i) copies) server has in
      let kept = filter_has (λ c. eqb c.shard i) copies found.0 found.1 in
      subst (Contains copies) (copy_is found.0 found.2 (eqb-true found.0.shard i kept.1)) kept.0
    where
      copy_is : (c : ShardCopy) → c.server ≡ server → c.shard ≡ i → c ≡ record { server = server; shard = i }
      copy_is c p q k = record { server = p k; shard = q k }

  with_in : (server i : ℕ) → Contains copies (record { server = server; shard = i }) → Contains (servers_with copies i) server
  with_in server i has = map_in (λ (c : ShardCopy). c.server) (filter (λ c. eqb c.shard i) copies) (record { server = server; shard = i }) (filter_in (λ c. eqb c.shard i) copies (record { server = server; shard = i }) has (eq-eqb i i refl))

module _ (files : VolumeFiles) (servers : ℕ) (copies : List ShardCopy) (homes : List (Option ℕ)) (are : AreCopies servers copies) (stand : AreStanding files copies) (of : AreHomesOf copies homes) where
  pub homes_are : HasShardHomes files homes
  homes_are i small = by_home (slice_index_or homes i None) refl (of.each i small)
    where
      by_home : (o : Option ℕ) → slice_index_or homes i None ≡ o → IsLeastOf (servers_with copies i) o → slice_index_or homes i None ≡ shard_home files i
      by_home (Some s) e least =
          let copy = All-contains (λ (c : ShardCopy). Stands files c.server (Shard c.shard)) copies (record { server = s; shard = i }) stand.stand (with_has copies s i least.0) in
          e ∙ sym (lowest_is (λ t. stands files t (Shard i)) s copy.0 copy.1 (λ t less st. absurd (let low : s ≤ t = least.1 t (with_in copies t i (stand.all t i small (omega (arith, copy.0), st))) in omega (arith, low, less))))
      by_home None e least = e ∙ sym (none_home (shard_home files i) refl)
        where
          none_home : (o : Option ℕ) → shard_home files i ≡ o → shard_home files i ≡ None
          none_home None f = f
          none_home (Some t) f =
              let is = lowest-some (λ s. stands files s (Shard i)) t f in
              absurd (least t (with_in copies t i (stand.all t i small (is.1, is.0.passes))))

  -- they are servers of the site
  pub homes_below : (i server : ℕ) → i < max_shards → shard_home files i ≡ Some server → server < servers
  homes_below i server small home =
      let is = lowest-some (λ s. stands files s (Shard i)) server home in
      All-contains (λ (c : ShardCopy). c.server < servers) copies (record { server = server; shard = i }) are.on_servers (stand.all server i small (is.1, is.0.passes))

  -- ---- the marks

  module _ (keeps : List Bool) (marks : MarksHomes servers homes keeps) where
    pub marks_are : AreMarked files keeps
    marks_are = record {
      marked = λ i server small home.
          let at : slice_index_or homes i None ≡ Some server = homes_are i small ∙ home in
          (marks.marks server (homes_below i server small home)).1 (i, omega (arith, of.all, small), sym (get_or_default homes i None (Some server) (omega (arith, of.all, small))) ∙ at);
      home = λ server marked. by_server server marked (cases_lt server servers);
    }
      where
        past : (b : Bool) → b ≡ true → b ≡ false → ⊥
        past b p q = true≢false (sym p ∙ q)

        by_server : (server : ℕ) → slice_index_or keeps server false ≡ true → (server < servers) ⊎ (servers ≤ server) → (i : ℕ) × (i < max_shards) × (shard_home files i ≡ Some server)
        by_server server marked (inl low) =
            let has = (marks.marks server low).0 marked in
            let small : has.0 < max_shards = omega (arith, of.all, has.1) in
            (has.0, small, sym (homes_are has.0 small) ∙ get_or_default homes has.0 None (Some server) has.1 ∙ has.2)
        by_server server marked (inr high) = absurd (past (slice_index_or keeps server false) marked (get_or_past keeps server false (omega (arith, marks.enough, high))))

-- ---- whether a server is a home

module _ (homes : List (Option ℕ)) (server : ℕ) where
  is_it : (o : Option ℕ) → option_eq nat_eq o (Some server) ≡ true → o ≡ Some server
  is_it None e = absurd (true≢false (sym e))
  is_it (Some s) e = ap (λ (n : ℕ). Some n) (eqb-true s server e)

  pub home_among : (b : Bool) → b ≡ list_any (λ o. option_eq nat_eq o (Some server)) homes → IsTrue b ↔ Contains homes (Some server)
  home_among b is = (
    λ yes.
        let found = Any-from_list_any (λ o. option_eq nat_eq o (Some server)) homes (sym is ∙ yes) in
        (found.0, found.2, subst (λ (o : Option ℕ). slice_index_or homes found.0 o ≡ o) (is_it found.1 found.4) found.3),
    λ has. is ∙ list_any_at (λ o. option_eq nat_eq o (Some server)) homes has.0 (Some server) has.1 (ap (λ o. option_eq nat_eq o (Some server)) has.2 ∙ eq-eqb server server refl),
  )

-- ---- one server more

pub marks_none : (homes : List (Option ℕ)) → MarksHomes 0 homes []
marks_none homes = record { enough = refl; marks = λ server h. absurd (omega arith) }

pub marks_more : (n : ℕ) (homes : List (Option ℕ)) (keeps : List Bool) (b : Bool) → MarksHomes n homes keeps → IsTrue b ↔ Contains homes (Some n) → MarksHomes (n + 1) homes (keeps ++ b ∷ [])
marks_more n homes keeps b before here = record {
  enough = omega (arith, length-append keeps (b ∷ []), before.enough);
  marks = λ server h. elim (cases_eq server n) [
    | inl same ↦ subst (λ s. IsTrue (slice_index_or (keeps ++ b ∷ []) s false) ↔ Contains homes (Some s)) (sym same) (subst (λ c. IsTrue c ↔ Contains homes (Some n)) (sym (get_or_push keeps b false n before.enough)) here)
    | inr other ↦ subst (λ c. IsTrue c ↔ Contains homes (Some server)) (sym (get_or_append_left keeps (b ∷ []) false server (omega (arith, before.enough)))) (before.marks server (omega arith))
  ];
}

-- ---- the holders

module _ (files : VolumeFiles) (servers : ℕ) (copies : List ShardCopy) (holders : List ℕ) (are : AreCopies servers copies) (each : (s : ℕ) → Contains holders s ↔ Contains (map (λ c. c.server) copies) s) where
  pub holders_below : All (λ s. s < servers) holders
  holders_below k d lt =
      let has = (each (slice_index_or holders k d)).0 (Contains-get_or holders k d lt) in
      let copy = map_has (λ (c : ShardCopy). c.server) copies (slice_index_or holders k d) has in
      subst (λ s. s < servers) copy.2 (All-contains (λ (c : ShardCopy). c.server < servers) copies copy.0 are.on_servers copy.1)

  pub holders_all : AreStanding files copies → (server : ℕ) → IsHolder files server → IsAmong holders server
  holders_all stand server holds =
      let shard = stands_holder files server holds in
      let has = (each server).1 (map_in (λ (c : ShardCopy). c.server) copies (record { server = server; shard = shard.0 }) (stand.all server shard.0 shard.1 shard.2)) in
      (has.0, has.1, get_or_default holders has.0 0 server has.1 ∙ has.2)
