-- A file that may be registered or removed by the plan's answer may be so.
use Rattle.std.proofs.Common.{◌≡◌, ◌≢◌, ◌⊎◌, inl, inr, ⊎_elim, ℕ, zero, suc, ◌+◌, ◌<◌, ◌≤◌, not, Bool, true, false, List, [], ◌∷◌, Option, Some, None, refl, sym, ◌∙◌, ap, subst, arith}
use Rattle.std.specs.Prelude.{◌&&◌, ◌||◌, ◌==◌}
use Rattle.std.specs.List.{list_any, list_all, range_with_len}
use Rattle.std.proofs.lemmas.Bool.{and_parts, cases_eq, eq-eqb, eqb-true, false≢true}
use borrow.Author.Tests.{ltb-true}
use Rattle.file_names.specs.declared.Kind.{Kind}
use Rattle.file_names.specs.declared.Kind.TheVariants.{Dat, Idx, Cpd, Cpx, Shard, Ecx, Ecj, Vif}
use Rattle.file_names.specs.Names.{max_shards}
use Rattle.stripe_layout.specs.Stripes.{shards_in_all}
use Rattle.shard_table.specs.Table.{Row, place_in}
use Rattle.site_model.specs.Counts.{max_servers}
use Rattle.image_meaning.specs.HeldParts.{any_member}
use Rattle.image_meaning.specs.Laws.CodedLoss.{any_range}
use Rattle.plan_steps.specs.declared.plan.Plan.{Plan}
use Rattle.plan_steps.specs.declared.plan.FileState.{FileState}
use Rattle.plan_steps.specs.Fitting.{AreStates}
use Rattle.plan_steps.specs.Legal.{HasFile, HasAnIndex, HasBeside, HasNoShard, HasElsewhere, MayRegister, MayDropIndex, MayRemove}
use Rattle.plan_steps.specs.Walk.{is_registered_at, has_file}
use Rattle.plan_steps.specs.Laws.Walk.{has_file-true, has_file-is, registered-true}
use Rattle.plan_steps.specs.Planned.{is_encode, is_decode}
use Rattle.plan_steps.specs.Laws.Found.{encode_finds, decode_is}
use Rattle.plan_steps.specs.May.{is_nil, has_an_index, has_shard, has_some_shard, has_beside, may_register, has_all_shards, is_complete, is_complete_at, is_coded, has_no_index_but, is_only_index, is_elsewhere, has_shard_but, stands_elsewhere, is_in_ratio, may_drop_index, may_drop_shard, is_bare, may_remove}

module _ (plan : Plan) (states : List FileState) (are : AreStates states) where
  -- where no index is answered, none stands
  pub no_index-true : not (has_an_index plan states) ≡ true → HasAnIndex plan states → ⊥
  unfolding has_an_index
  no_index-true e (server, below, has) =
      false≢true (sym (ap not (any_range (λ server. has_file plan states server Idx) 0 64 server (omega arith) (omega (arith, below)) (has_file-is plan states server Idx are has))) ∙ e)

  empty_or : (ids : List ℕ) (b : Bool) → (is_nil ids || b) ≡ true → (ids ≡ []) ⊎ (b ≡ true)
  empty_or [] b e = inl refl
  empty_or (id ∷ ids) b e = inr e

  -- the files beside shards that are answered stand
  pub has_beside-true : (server : ℕ) → has_beside plan states server ≡ true → HasBeside plan states server
  unfolding has_beside
  has_beside-true server e =
      let both = and_parts (has_file plan states server Vif && has_file plan states server Ecx) (is_nil plan.deleted.items || has_file plan states server Ecj) e in
      let first = and_parts (has_file plan states server Vif) (has_file plan states server Ecx) both.0 in
      record {
        text = has_file-true plan states server Vif first.0;
        index = has_file-true plan states server Ecx first.1;
        journal = by_journal (empty_or plan.deleted.items (has_file plan states server Ecj) both.1);
      }
    where
      by_journal : (plan.deleted.items ≡ []) ⊎ (has_file plan states server Ecj ≡ true) → (plan.deleted.items ≡ []) ⊎ HasFile plan states server Ecj
      by_journal (inl none) = inl none
      by_journal (inr has) = inr (has_file-true plan states server Ecj has)

  -- what is answered may be registered
  pub may_register_holds : (server : ℕ) (kind : Kind) → may_register plan states server kind ≡ true → MayRegister plan states server kind
  may_register_holds server Dat e = no_index-true e
  may_register_holds server Idx e =
      let both = and_parts (is_decode plan.command && not (has_an_index plan states)) (is_registered_at states server Dat) e in
      let first = and_parts (is_decode plan.command) (not (has_an_index plan states)) both.0 in
      (no_index-true first.1, registered-true states server Dat both.1, decode_is plan.command first.0)
  may_register_holds server Cpd e = absurd (false≢true e)
  may_register_holds server Cpx e = absurd (false≢true e)
  may_register_holds server (Shard i) e = has_beside-true server e
  may_register_holds server Ecx e = tt
  may_register_holds server Ecj e = tt
  may_register_holds server Vif e = tt

-- ---- what may be removed

-- each number of a range that passes as a whole does
all_member : (test : ℕ → Bool) (a n i : ℕ) → list_all test (range_with_len a n) ≡ true → a ≤ i → i < a + n → test i ≡ true
all_member test a zero i e from to = absurd (omega (arith, from, to))
all_member test a (suc n) i e from to =
    let both = and_parts (test a) (list_all test (range_with_len (a + 1) n)) e in
    elim (cases_eq i a) [
      | inl same ↦ ap test same ∙ both.0
      | inr other ↦ all_member test (a + 1) n i both.1 (omega (arith, from, other)) (omega (arith, to))
    ]

or_cases : (a b : Bool) → (a || b) ≡ true → (a ≡ true) ⊎ (b ≡ true)
or_cases true b e = inl refl
or_cases false b e = inr e

elsewhere-true : (place : Option ℕ) (server : ℕ) → is_elsewhere place server ≡ true → (other : ℕ) × (place ≡ Some other) × (other ≢ server)
elsewhere-true None server e = absurd (false≢true e)
elsewhere-true (Some other) server e = (other, refl, λ same. false≢true (sym (ap not (eq-eqb other server same)) ∙ e))

module _ (plan : Plan) (states : List FileState) (are : AreStates states) where
  -- an index that is answered stands
  an_index-true : has_an_index plan states ≡ true → HasAnIndex plan states
  unfolding has_an_index
  an_index-true e = let found = any_member (λ server. has_file plan states server Idx) 0 max_servers e in (found.0, omega (arith, found.2), has_file-true plan states found.0 Idx found.3)

  -- and where no shard is answered, none stands
  no_shard-true : (server : ℕ) → not (has_some_shard plan states server) ≡ true → HasNoShard plan states server
  unfolding has_some_shard
  no_shard-true server e i h has =
      false≢true (sym (ap not (any_range (λ i. has_file plan states server (Shard i)) 0 max_shards i (omega arith) (omega (arith, h)) (has_file-is plan states server (Shard i) are has))) ∙ e)

  bare-true : (server : ℕ) → is_bare plan states server ≡ true → HasAnIndex plan states ⊎ HasNoShard plan states server
  unfolding is_bare
  bare-true server e = ⊎_elim (λ index. inl (an_index-true index)) (λ none. inr (no_shard-true server none)) (or_cases (has_an_index plan states) (not (has_some_shard plan states server)) e)

  -- the index of an encode that may be dropped
  module _ (server : ℕ) (encode : is_encode plan.command ≡ true) where
    all-true : has_all_shards plan states ≡ true → (i : ℕ) → i < shards_in_all plan.info.geometry → (s : ℕ) × (s < max_servers) × HasFile plan states s (Shard i)
    unfolding has_all_shards has_shard
    all-true e i h =
        let found = any_member (λ s. has_file plan states s (Shard i)) 0 max_servers (all_member (λ i. has_shard plan states i) 0 (shards_in_all plan.info.geometry) i e (omega arith) (omega (arith, h))) in
        (found.0, omega (arith, found.2), has_file-true plan states found.0 (Shard i) found.3)

    -- no shard of an encode was found
    below_by : (s i : ℕ) → HasFile plan states s (Shard i) → s < max_servers
    below_by s i (inl (j, u, at, a, b, stage)) = subst (λ n. n < max_servers) a (are.named j u at).1
    below_by s i (inr (found, other)) = absurd (false≢true (sym (encode_finds plan s (Shard i) encode) ∙ found))

    complete-true : is_complete plan states ≡ true → (s i : ℕ) → i < max_shards → HasFile plan states s (Shard i) → HasBeside plan states s
    unfolding is_complete is_complete_at has_some_shard
    complete-true e s i h has = ⊎_elim
        (λ none. absurd (false≢true (sym (ap not (any_range (λ i. has_file plan states s (Shard i)) 0 max_shards i (omega arith) (omega (arith, h)) (has_file-is plan states s (Shard i) are has))) ∙ none)))
        (λ beside. has_beside-true plan states are s beside)
        (or_cases (not (has_some_shard plan states s)) (has_beside plan states s) (all_member (λ s. is_complete_at plan states s) 0 max_servers s e (omega arith) (omega (arith, below_by s i has))))

    only-true : is_only_index plan states server ≡ true → (s : ℕ) → s < max_servers → HasFile plan states s Idx → s ≡ server
    unfolding is_only_index has_no_index_but
    only-true e s h has = ⊎_elim
        (λ same. eqb-true s server same)
        (λ none. absurd (false≢true (sym (ap not (has_file-is plan states s Idx are has)) ∙ none)))
        (or_cases (s == server) (not (has_file plan states s Idx)) (all_member (λ s. has_no_index_but plan states server s) 0 max_servers s e (omega arith) (omega (arith, h))))

  drop-true : (server : ℕ) → may_drop_index plan states server ≡ true → MayDropIndex plan states server
  unfolding may_drop_index is_coded
  drop-true server e =
      let both = and_parts (is_encode plan.command && is_coded plan states) (is_only_index plan states server) e in
      let first = and_parts (is_encode plan.command) (is_coded plan states) both.0 in
      let coded = and_parts (has_all_shards plan states) (is_complete plan states) first.1 in
      record { encode = first.0; all = all-true server first.0 coded.0; beside = complete-true server first.0 coded.1; only = only-true server first.0 both.1 }

  stands_elsewhere-true : (row : Row) (server i : ℕ) → (is_in_ratio plan i && stands_elsewhere plan states server i) ≡ true → HasElsewhere plan states row server i
  unfolding stands_elsewhere has_shard_but
  stands_elsewhere-true row server i e =
      let both = and_parts (is_in_ratio plan i) (list_any (λ other. has_shard_but plan states server i other) (range_with_len 0 max_servers)) e in
      let found = any_member (λ other. has_shard_but plan states server i other) 0 max_servers both.1 in
      let here = and_parts (not (found.0 == server)) (has_file plan states found.0 (Shard i)) found.3 in (
        found.0,
        λ same. false≢true (sym (ap not (eq-eqb found.0 server same)) ∙ here.0),
        inr (omega (arith, found.2), ltb-true i (shards_in_all plan.info.geometry) both.0, has_file-true plan states found.0 (Shard i) here.1),
      )

  shard-true : (row : Row) (server i : ℕ) → may_drop_shard plan states row server i ≡ true → MayRemove plan states row server (Shard i)
  unfolding may_drop_shard
  shard-true row server i e = ⊎_elim
      (λ first. ⊎_elim
      (λ index. inl (an_index-true index))
      (λ named. let other = elsewhere-true (place_in row i) server named in inr (other.0, other.2, inl other.1))
      (or_cases (has_an_index plan states) (is_elsewhere (place_in row i) server) first))
      (λ there. inr (stands_elsewhere-true row server i there))
      (or_cases (has_an_index plan states || is_elsewhere (place_in row i) server) (is_in_ratio plan i && stands_elsewhere plan states server i) e)

  -- what is answered may be removed
  pub may_remove_holds : (row : Row) (server : ℕ) (kind : Kind) → may_remove plan states row server kind ≡ true → MayRemove plan states row server kind
  may_remove_holds row server Dat e = λ has. false≢true (sym (ap not (has_file-is plan states server Idx are has)) ∙ e)
  may_remove_holds row server Idx e = drop-true server e
  may_remove_holds row server Cpd e = absurd (false≢true e)
  may_remove_holds row server Cpx e = absurd (false≢true e)
  may_remove_holds row server (Shard i) e = shard-true row server i e
  may_remove_holds row server Ecx e = bare-true server e
  may_remove_holds row server Ecj e = bare-true server e
  may_remove_holds row server Vif e = bare-true server e
