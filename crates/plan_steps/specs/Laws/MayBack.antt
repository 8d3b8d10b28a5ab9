-- A file that may be registered or removed may be so by the plan's answer.
use Rattle.std.proofs.Common.{◌≡◌, ◌≢◌, ◌⊎◌, inl, inr, ⊎_elim, ℕ, zero, suc, ◌+◌, ◌<◌, ◌≤◌, not, Bool, true, false, List, refl, sym, ◌∙◌, ap, arith}
use Rattle.std.specs.Prelude.{◌&&◌, ◌||◌, ◌==◌, slice_get}
use Rattle.std.specs.List.{list_all, range_with_len}
use Rattle.std.proofs.lemmas.Bool.{and_from, eq-eqb, ne_eqb, lt-ltb, false≢true}
use Rattle.image_meaning.specs.Laws.Options.{some_is}
use Rattle.file_names.specs.declared.Kind.{Kind}
use Rattle.file_names.specs.declared.Kind.TheVariants.{Dat, Idx, Cpd, Cpx, Shard, Ecx, Ecj, Vif}
use Rattle.file_names.specs.Names.{max_shards}
use Rattle.stripe_layout.specs.Stripes.{shards_in_all}
use Rattle.shard_table.specs.Table.{Row, place_in}
use Rattle.site_model.specs.Counts.{max_servers}
use Rattle.image_meaning.specs.HeldParts.{any_member}
use Rattle.image_meaning.specs.Laws.CodedLoss.{any_range}
use Rattle.plan_steps.specs.declared.plan.Plan.{Plan}
use Rattle.plan_steps.specs.declared.plan.Stage.TheVariants.{Registered}
use Rattle.plan_steps.specs.declared.plan.FileState.{FileState}
use Rattle.plan_steps.specs.Planned.{is_decode}
use Rattle.plan_steps.specs.Fitting.{AreStates}
use Rattle.plan_steps.specs.Legal.{HasStage, HasFile, HasAnIndex, HasBeside, HasNoShard, HasElsewhere, MayRegister, MayDropIndex, MayRemove}
use Rattle.plan_steps.specs.Walk.{is_registered, is_file, has_file, is_registered_at}
use Rattle.plan_steps.specs.Laws.Walk.{place_cases, file_is, is_this, has_file-true, has_file-is, here, of_file}
use Rattle.plan_steps.specs.May.{is_nil, has_an_index, has_shard, has_some_shard, has_beside, may_register, has_all_shards, is_complete, is_complete_at, is_coded, has_no_index_but, is_only_index, is_elsewhere, has_shard_but, stands_elsewhere, is_in_ratio, may_drop_index, may_drop_shard, is_bare, may_remove}

-- ---- tests

pub not_by : (b : Bool) → (b ≡ true → ⊥) → not b ≡ true
not_by true none = absurd (none refl)
not_by false none = refl

or_left : (a b : Bool) → a ≡ true → (a || b) ≡ true
or_left true b e = refl
or_left false b e = absurd (false≢true e)

or_right : (a b : Bool) → b ≡ true → (a || b) ≡ true
or_right true b e = refl
or_right false b e = e

by_bool : (b : Bool) → (b ≡ true) ⊎ (b ≡ false)
by_bool true = inl refl
by_bool false = inr refl

all_from : (test : ℕ → Bool) (a n : ℕ) → ((i : ℕ) → a ≤ i → i < a + n → test i ≡ true) → list_all test (range_with_len a n) ≡ true
all_from test a zero each = refl
all_from test a (suc n) each = and_from (test a) (list_all test (range_with_len (a + 1) n)) (each a (omega arith) (omega arith)) (all_from test (a + 1) n (λ i from to. each i (omega (arith, from)) (omega (arith, to))))

module _ (plan : Plan) (states : List FileState) (are : AreStates states) where
  -- ---- what stands

  registered-is : (server : ℕ) (kind : Kind) → HasStage states server kind Registered → is_registered_at states server kind ≡ true
  registered-is server kind (k, u, at_k, a, b, stage) = ⊎_elim
      (λ found.
      let is = file_is server kind found.1 found.4 in
      let one : k ≡ found.0 = are.apart k found.0 u found.1 at_k found.3 (a ∙ sym is.0) (b ∙ sym is.1) in
      let same : u ≡ found.1 = some_is u found.1 (sym at_k ∙ ap (slice_get states) one ∙ found.3) in
      ap (here states) found.2 ∙ ap of_file found.3 ∙ ap is_registered (ap (λ (x : FileState). x.stage) (sym same) ∙ stage))
      (λ none. absurd (false≢true (sym (none.1 k u at_k) ∙ is_this server kind u a b)))
      (place_cases (is_file server kind) states)

  index-is : HasAnIndex plan states → has_an_index plan states ≡ true
  unfolding has_an_index
  index-is (server, below, has) = any_range (λ server. has_file plan states server Idx) 0 max_servers server (omega arith) (omega (arith, below)) (has_file-is plan states server Idx are has)

  no_index-is : (HasAnIndex plan states → ⊥) → not (has_an_index plan states) ≡ true
  unfolding has_an_index
  no_index-is none = not_by (has_an_index plan states) (λ e.
      let found = any_member (λ server. has_file plan states server Idx) 0 max_servers e in
      none (found.0, omega (arith, found.2), has_file-true plan states found.0 Idx found.3))

  pub no_shard-is : (server : ℕ) → HasNoShard plan states server → not (has_some_shard plan states server) ≡ true
  unfolding has_some_shard
  no_shard-is server none = not_by (has_some_shard plan states server) (λ e.
      let found = any_member (λ i. has_file plan states server (Shard i)) 0 max_shards e in
      none found.0 (omega (arith, found.2)) (has_file-true plan states server (Shard found.0) found.3))

  beside-is : (server : ℕ) → HasBeside plan states server → has_beside plan states server ≡ true
  unfolding has_beside
  beside-is server has = and_from (has_file plan states server Vif && has_file plan states server Ecx) (is_nil plan.deleted.items || has_file plan states server Ecj)
      (and_from (has_file plan states server Vif) (has_file plan states server Ecx) (has_file-is plan states server Vif are has.text) (has_file-is plan states server Ecx are has.index))
      (⊎_elim
      (λ none. or_left (is_nil plan.deleted.items) (has_file plan states server Ecj) (ap is_nil none))
      (λ there. or_right (is_nil plan.deleted.items) (has_file plan states server Ecj) (has_file-is plan states server Ecj are there))
      has.journal)

  -- ---- what may be registered

  pub may_register_is : (server : ℕ) (kind : Kind) → MayRegister plan states server kind → may_register plan states server kind ≡ true
  may_register_is server Dat may = no_index-is may
  may_register_is server Idx may =
      and_from (is_decode plan.command && not (has_an_index plan states)) (is_registered_at states server Dat)
      (and_from (is_decode plan.command) (not (has_an_index plan states)) (ap is_decode may.2) (no_index-is may.0))
      (registered-is server Dat may.1)
  may_register_is server Cpd may = absurd may
  may_register_is server Cpx may = absurd may
  may_register_is server (Shard i) may = beside-is server may
  may_register_is server Ecx may = refl
  may_register_is server Ecj may = refl
  may_register_is server Vif may = refl

  -- ---- what may be removed

  shards-is : ((i : ℕ) → i < shards_in_all plan.info.geometry → (s : ℕ) × (s < max_servers) × HasFile plan states s (Shard i)) → has_all_shards plan states ≡ true
  unfolding has_all_shards has_shard
  shards-is all = all_from (λ i. has_shard plan states i) 0 (shards_in_all plan.info.geometry) (λ i from to.
      let there = all i (omega (arith, to)) in
      any_range (λ s. has_file plan states s (Shard i)) 0 max_servers there.0 (omega arith) (omega (arith, there.1)) (has_file-is plan states there.0 (Shard i) are there.2))

  complete-is : ((s i : ℕ) → i < max_shards → HasFile plan states s (Shard i) → HasBeside plan states s) → is_complete plan states ≡ true
  unfolding is_complete is_complete_at has_some_shard
  complete-is beside = all_from (λ s. is_complete_at plan states s) 0 max_servers (λ s from to. by_shard s (by_bool (has_some_shard plan states s)))
    where
      by_shard : (s : ℕ) → (has_some_shard plan states s ≡ true) ⊎ (has_some_shard plan states s ≡ false) → is_complete_at plan states s ≡ true
      by_shard s (inl e) =
          let found = any_member (λ i. has_file plan states s (Shard i)) 0 max_shards e in
          or_right (not (has_some_shard plan states s)) (has_beside plan states s) (beside-is s (beside s found.0 (omega (arith, found.2)) (has_file-true plan states s (Shard found.0) found.3)))
      by_shard s (inr e) = or_left (not (has_some_shard plan states s)) (has_beside plan states s) (ap not e)

  only-is : (server : ℕ) → ((s : ℕ) → s < max_servers → HasFile plan states s Idx → s ≡ server) → is_only_index plan states server ≡ true
  unfolding is_only_index has_no_index_but
  only-is server only = all_from (λ s. has_no_index_but plan states server s) 0 max_servers (λ s from to. by_index s (omega (arith, to)) (by_bool (has_file plan states s Idx)))
    where
      by_index : (s : ℕ) → s < max_servers → (has_file plan states s Idx ≡ true) ⊎ (has_file plan states s Idx ≡ false) → has_no_index_but plan states server s ≡ true
      by_index s below (inl e) = or_left (s == server) (not (has_file plan states s Idx)) (eq-eqb s server (only s below (has_file-true plan states s Idx e)))
      by_index s below (inr e) = or_right (s == server) (not (has_file plan states s Idx)) (ap not e)

  drop-is : (server : ℕ) → MayDropIndex plan states server → may_drop_index plan states server ≡ true
  unfolding may_drop_index is_coded
  drop-is server may =
      and_from (_ && is_coded plan states) (is_only_index plan states server)
      (and_from _ (is_coded plan states) may.encode (and_from (has_all_shards plan states) (is_complete plan states) (shards-is may.all) (complete-is may.beside)))
      (only-is server may.only)

  elsewhere-is : (row : Row) (server i : ℕ) → HasElsewhere plan states row server i → (is_elsewhere (place_in row i) server || (is_in_ratio plan i && stands_elsewhere plan states server i)) ≡ true
  unfolding stands_elsewhere has_shard_but
  elsewhere-is row server i (other, apart, inl named) =
      or_left (is_elsewhere (place_in row i) server) (is_in_ratio plan i && stands_elsewhere plan states server i)
      (ap (λ o. is_elsewhere o server) named ∙ ap not (ne_eqb other server apart))
  elsewhere-is row server i (other, apart, inr (below, short, has)) =
      or_right (is_elsewhere (place_in row i) server) (is_in_ratio plan i && stands_elsewhere plan states server i)
      (and_from (is_in_ratio plan i) (stands_elsewhere plan states server i) (lt-ltb i (shards_in_all plan.info.geometry) short)
      (any_range (λ s. has_shard_but plan states server i s) 0 max_servers other (omega arith) (omega (arith, below))
      (and_from (not (other == server)) (has_file plan states other (Shard i)) (ap not (ne_eqb other server apart)) (has_file-is plan states other (Shard i) are has))))

  or_assoc : (a b c : Bool) → ((a || b) || c) ≡ (a || (b || c))
  or_assoc true b c = refl
  or_assoc false b c = refl

  shard-is : (row : Row) (server i : ℕ) → MayRemove plan states row server (Shard i) → may_drop_shard plan states row server i ≡ true
  unfolding may_drop_shard
  shard-is row server i may =
      or_assoc (has_an_index plan states) (is_elsewhere (place_in row i) server) (is_in_ratio plan i && stands_elsewhere plan states server i)
      ∙ ⊎_elim
      (λ index. or_left (has_an_index plan states) (is_elsewhere (place_in row i) server || (is_in_ratio plan i && stands_elsewhere plan states server i)) (index-is index))
      (λ other. or_right (has_an_index plan states) (is_elsewhere (place_in row i) server || (is_in_ratio plan i && stands_elsewhere plan states server i)) (elsewhere-is row server i other))
      may

  bare-is : (server : ℕ) → HasAnIndex plan states ⊎ HasNoShard plan states server → is_bare plan states server ≡ true
  unfolding is_bare
  bare-is server (inl index) = or_left (has_an_index plan states) (not (has_some_shard plan states server)) (index-is index)
  bare-is server (inr none) = or_right (has_an_index plan states) (not (has_some_shard plan states server)) (no_shard-is server none)

  pub may_remove_is : (row : Row) (server : ℕ) (kind : Kind) → MayRemove plan states row server kind → may_remove plan states row server kind ≡ true
  may_remove_is row server Dat may = not_by (has_file plan states server Idx) (λ e. may (has_file-true plan states server Idx e))
  may_remove_is row server Idx may = drop-is server may
  may_remove_is row server Cpd may = absurd may
  may_remove_is row server Cpx may = absurd may
  may_remove_is row server (Shard i) may = shard-is row server i may
  may_remove_is row server Ecx may = bare-is server may
  may_remove_is row server Ecj may = bare-is server may
  may_remove_is row server Vif may = bare-is server may
