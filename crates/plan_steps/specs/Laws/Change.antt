-- Which changes of one file leave a volume in one of a plan's two forms.
use Rattle.std.proofs.Common.{◌≡◌, ◌≢◌, ◌⊎◌, inl, inr, ℕ, zero, suc, ◌+◌, ◌<◌, ◌≤◌, Bool, true, false, cond, List, ◌∷◌, length, Option, Some, None, is_some, refl, sym, ◌∙◌, ap, subst, arith}
use Rattle.std.specs.Prelude.{filter, slice_get, IsSome}
use Rattle.std.specs.List.{range_with_len}
use Rattle.std.proofs.lemmas.Bool.{cases_eq}
use mathlib.Core.Bool.{true≢false}
use Rattle.world_model.specs.Ratios.{data_count}
use Rattle.file_names.specs.declared.Kind.{Kind}
use Rattle.file_names.specs.declared.Kind.TheVariants.{Dat, Idx, Cpd, Cpx, Shard, Ecx, Ecj, Vif}
use Rattle.file_names.specs.Names.{max_shards}
use Rattle.needle_record.specs.Records.{Placed}
use Rattle.image_meaning.specs.Files.{VolumeFiles, stands, shard_home, standing, is_holder, index_at, dat_at, has_index}
use Rattle.site_model.specs.Counts.{max_servers}
use Rattle.image_meaning.specs.Plain.{index_home}
use Rattle.image_meaning.specs.Sound.{Stands, HasIndex, IsHolder}
use Rattle.image_meaning.specs.Shards.{KeepsCopies}
use Rattle.image_meaning.specs.Laws.Servers.{lowest-some, lowest-exists, lowest-same}
use Rattle.image_meaning.specs.Laws.Views.{index_named, same_index_at, same_dat_at}
use Rattle.image_meaning.specs.Laws.CodedLoss.{any_range}
use Rattle.image_meaning.specs.Parts.{Parts}
use Rattle.image_meaning.specs.HeldParts.{IsBeside, HoldsParts}
use Rattle.plan_steps.specs.Kept.{IsKeptCoded, StandsPlainAt, HasNoneMade, IsKeptPlain}
use Rattle.plan_steps.specs.Laws.Kept.{beside_same, plain_same, none_of_none}
use Rattle.plan_steps.specs.Changes.{IsChanged}

-- ---- kinds

same_shard : (i j : ℕ) → ◌≡◌ {A = Kind} (Shard i) (Shard j) → i ≡ j
same_shard i j e = cc

-- no index, as named or as a vacuum makes it
abbrev pub IsNoIndex : Kind → Type 0
IsNoIndex kind = (Idx ≢ kind) × (Cpx ≢ kind)

shard_no_index : (i : ℕ) → IsNoIndex (Shard i)
shard_no_index i = ((λ e. cc), (λ e. cc))

-- ---- shards

-- the numbers that pass one test are no more than those that pass another
pub fewer_in : (test other : ℕ → Bool) (a n : ℕ) → ((i : ℕ) → i < a + n → test i ≡ true → other i ≡ true) → length (filter test (range_with_len a n)) ≤ length (filter other (range_with_len a n))
fewer_in test other a zero h = omega arith
fewer_in test other a (suc n) h = by_tests (test a) (other a) refl refl (fewer_in test other (a + 1) n (λ i k e. h i (omega (arith, k)) e))
  where
    by_tests : (b c : Bool) → test a ≡ b → other a ≡ c → length (filter test (range_with_len (a + 1) n)) ≤ length (filter other (range_with_len (a + 1) n))
        → length (cond b (a ∷ filter test (range_with_len (a + 1) n)) (filter test (range_with_len (a + 1) n))) ≤ length (cond c (a ∷ filter other (range_with_len (a + 1) n)) (filter other (range_with_len (a + 1) n)))
    by_tests true true p q rest = omega (arith, rest)
    by_tests true false p q rest = absurd (true≢false (sym (h a (omega arith) p) ∙ q))
    by_tests false true p q rest = omega (arith, rest)
    by_tests false false p q rest = rest

module _ (files left : VolumeFiles) where
  -- where each shard that stood stands somewhere, no fewer different shards do
  pub no_fewer_shards : KeepsCopies files left → length (standing files) ≤ length (standing left)
  unfolding standing
  no_fewer_shards still = fewer_in (λ i. is_some (shard_home files i)) (λ i. is_some (shard_home left i)) 0 max_shards (λ i h e. at_home i (omega (arith, h)) (shard_home files i) refl e)
    where
      at_home : (i : ℕ) → i < max_shards → (o : Option ℕ) → shard_home files i ≡ o → is_some o ≡ true → is_some (shard_home left i) ≡ true
      at_home i h None e some = absurd (true≢false (sym some))
      at_home i h (Some s) e some =
          let found = lowest-some (λ server. stands files server (Shard i)) s e in
          let now = still s i h (found.1, found.0.passes) in
          ap is_some (lowest-exists (λ server. stands left server (Shard i)) now.0 now.1.0 now.1.1).1

  -- shards that are as they were stand still
  pub copies_by : ((s i : ℕ) → i < max_shards → left s (Shard i) ≡ files s (Shard i)) → KeepsCopies files left
  copies_by same s i h st = (s, (st.0, ap is_some (same s i h) ∙ st.1))

  -- the files beside the shards that stand are as they were, and so are these
  pub holds_by : (t : Parts) → ((s i : ℕ) → i < max_shards → Stands left s (Shard i) → (left s (Shard i) ≡ files s (Shard i)) × (left s Vif ≡ files s Vif) × (left s Ecx ≡ files s Ecx) × (left s Ecj ≡ files s Ecj))
      → HoldsParts t files → HoldsParts t left
  holds_by t same holds = record {
    each = λ s i h st.
        let kept = same s i h st in
        let was = holds.each s i h (st.0, ap is_some (sym kept.0) ∙ st.1) in
        (beside_same t files left s kept.1 kept.2 kept.3 was.0, was.1 ∙ sym kept.0);
  }

  same_home : ((s : ℕ) → index_at left s ≡ index_at files s) → index_home left ≡ index_home files
  same_home index = lowest-same (has_index left) (has_index files) (λ s. ap is_some (index s))

  -- the indexes are as they were, and so is what stands beside them
  pub plain_by : (ps : List Placed) → HasNoneMade left → ((s : ℕ) → index_at left s ≡ index_at files s) → ((s : ℕ) → HasIndex files s → dat_at left s ≡ dat_at files s) → IsKeptPlain ps files → IsKeptPlain ps left
  plain_by ps none index dat kept = record {
    some_index = subst IsSome (sym (same_home index)) kept.some_index;
    none_made = none;
    each = λ s has. let had : HasIndex files s = (has.0, ap is_some (sym (index s)) ∙ has.1) in plain_same ps files left s (index s) (dat s had) (kept.each s had);
  }

  pub coded_by : (t : Parts) → ((s : ℕ) → index_at left s ≡ index_at files s) → KeepsCopies files left → HoldsParts t left → IsKeptCoded t files → IsKeptCoded t left
  coded_by t index still holds kept = record { form = record { no_index = same_home index ∙ kept.form.no_index; enough = omega (arith, kept.form.enough, no_fewer_shards still) }; holds = holds }

-- ---- one file changes

module _ (files left : VolumeFiles) (server : ℕ) (kind : Kind) (now : Option (List ℕ)) (changed : IsChanged files left server kind now) where
  same_kind : (s : ℕ) (k : Kind) → k ≢ kind → left s k ≡ files s k
  same_kind s k other = changed.others s k (λ at same. other same)

  pub same_index : IsNoIndex kind → (s : ℕ) → index_at left s ≡ index_at files s
  same_index none s = same_index_at files left s (same_kind s Cpx none.1) (same_kind s Idx none.0)

  -- A plain volume stays so, unless the file is an index, is made by a vacuum, or stands beside an index.
  pub plain_changed : (ps : List Placed) → IsNoIndex kind → Cpd ≢ kind → (HasIndex files server → Dat ≢ kind) → IsKeptPlain ps files → IsKeptPlain ps left
  plain_changed ps none no_cpd no_dat kept =
      plain_by files left ps (λ s below. same_kind s Cpx none.1 ∙ kept.none_made s below) (same_index none)
      (λ s has. same_dat_at files left s (same_kind s Cpx none.1) (same_kind s Cpd no_cpd) (changed.others s Dat (λ at same. no_dat (subst (HasIndex files) at has) same))) kept

  shard_holder : (s i : ℕ) → i < max_shards → Stands files s (Shard i) → IsHolder files s
  unfolding is_holder
  shard_holder s i h st = (st.0, any_range (λ i. stands files s (Shard i)) 0 max_shards i (omega arith) (omega (arith, h)) st.1)

  -- a file that is no shard leaves the shards as they are
  pub copies_else : ((i : ℕ) → Shard i ≢ kind) → KeepsCopies files left
  copies_else no_shard = copies_by files left (λ s i h. same_kind s (Shard i) (no_shard i))

  -- and one that stands beside no shard all that is held
  pub holds_free : (t : Parts) → ((i : ℕ) → Shard i ≢ kind) → (IsHolder files server → (Vif ≢ kind) × (Ecx ≢ kind) × (Ecj ≢ kind)) → HoldsParts t files → HoldsParts t left
  holds_free t no_shard free holds = holds_by files left t (λ s i h st.
      let shard = same_kind s (Shard i) (no_shard i) in
      let holder = shard_holder s i h (st.0, ap is_some (sym shard) ∙ st.1) in (
        shard,
        changed.others s Vif (λ at same. (free (subst (IsHolder files) at holder)).0 same),
        changed.others s Ecx (λ at same. (free (subst (IsHolder files) at holder)).1 same),
        changed.others s Ecj (λ at same. (free (subst (IsHolder files) at holder)).2 same),
      )) holds

  -- A file that is no index, no shard and stands beside none leaves the shards as they are.
  pub coded_free : (t : Parts) → IsNoIndex kind → ((i : ℕ) → Shard i ≢ kind) → (IsHolder files server → (Vif ≢ kind) × (Ecx ≢ kind) × (Ecj ≢ kind)) → IsKeptCoded t files → IsKeptCoded t left
  coded_free t none no_shard free kept = coded_by files left t (same_index none) (copies_else no_shard) (holds_free t no_shard free kept.holds) kept

-- ---- a shard comes or goes

module _ (files left : VolumeFiles) (server i : ℕ) (now : Option (List ℕ)) (changed : IsChanged files left server (Shard i) now) where
  -- another shard is as it was
  other_shard : (s j : ℕ) → (s ≡ server → j ≡ i → ⊥) → left s (Shard j) ≡ files s (Shard j)
  other_shard s j other = changed.others s (Shard j) (λ at same. other at (same_shard j i same))

  beside_left : (t : Parts) (s : ℕ) → IsBeside t files s → IsBeside t left s
  beside_left t s was = beside_same t files left s (changed.others s Vif (λ at same. absurd cc)) (changed.others s Ecx (λ at same. absurd cc)) (changed.others s Ecj (λ at same. absurd cc)) was

  holds_shard : (t : Parts) → (Stands left server (Shard i) → IsBeside t files server × (slice_get t.shards i ≡ now)) → HoldsParts t files → HoldsParts t left
  holds_shard t here holds = record { each = λ s j h st. by_place s j h st (cases_eq s server) (cases_eq j i) }
    where
      as_was : (s j : ℕ) → j < max_shards → Stands left s (Shard j) → (s ≡ server → j ≡ i → ⊥) → IsBeside t left s × (slice_get t.shards j ≡ left s (Shard j))
      as_was s j h st other =
          let same = other_shard s j other in
          let was = holds.each s j h (st.0, ap is_some (sym same) ∙ st.1) in
          (beside_left t s was.0, was.1 ∙ sym same)

      by_place : (s j : ℕ) → j < max_shards → Stands left s (Shard j) → (s ≡ server) ⊎ (s ≢ server) → (j ≡ i) ⊎ (j ≢ i) → IsBeside t left s × (slice_get t.shards j ≡ left s (Shard j))
      by_place s j h st (inr other) either = as_was s j h st (λ at same. other at)
      by_place s j h st (inl at) (inr other) = as_was s j h st (λ at same. other same)
      by_place s j h st (inl at) (inl same) =
          let found = here (subst (λ n. Stands left n (Shard i)) at (subst (λ n. Stands left s (Shard n)) same st)) in (
            beside_left t s (subst (IsBeside t files) (sym at) found.0),
            ap (slice_get t.shards) same ∙ found.1 ∙ sym changed.here ∙ (λ k. left (sym at k) (Shard (sym same k))),
          )

  -- each other copy stands still, so all are kept where this one is
  copies_where : ((u : ℕ) × Stands left u (Shard i)) → KeepsCopies files left
  copies_where kept s j h st = by_place (cases_eq s server) (cases_eq j i)
    where
      by_place : (s ≡ server) ⊎ (s ≢ server) → (j ≡ i) ⊎ (j ≢ i) → (u : ℕ) × Stands left u (Shard j)
      by_place (inr other) either = (s, (st.0, ap is_some (other_shard s j (λ at same. other at)) ∙ st.1))
      by_place (inl at) (inr other) = (s, (st.0, ap is_some (other_shard s j (λ at same. other same)) ∙ st.1))
      by_place (inl at) (inl same) = (kept.0, subst (λ n. Stands left kept.0 (Shard n)) (sym same) kept.1)

  pub copies_new : server < max_servers → IsSome now → KeepsCopies files left
  copies_new below some = copies_where (server, (below, ap is_some changed.here ∙ some))

  -- another server has it
  pub copies_gone : (other : ℕ) → other ≢ server → Stands files other (Shard i) → KeepsCopies files left
  copies_gone other apart there = copies_where (other, (there.0, ap is_some (changed.others other (Shard i) (λ at same. apart at)) ∙ there.1))

  -- A shard of the parts comes to a server where their files stand.
  pub holds_new : (t : Parts) → IsBeside t files server → slice_get t.shards i ≡ now → HoldsParts t files → HoldsParts t left
  holds_new t beside shard holds = holds_shard t (λ st. (beside, shard)) holds

  pub coded_new : (t : Parts) → server < max_servers → IsBeside t files server → slice_get t.shards i ≡ now → IsSome now → IsKeptCoded t files → IsKeptCoded t left
  coded_new t below beside shard some kept = coded_by files left t (same_index files left server (Shard i) now changed (shard_no_index i)) (copies_new below some) (holds_new t beside shard kept.holds) kept

  -- A shard goes.
  pub holds_gone : (t : Parts) → now ≡ None → HoldsParts t files → HoldsParts t left
  holds_gone t none holds = holds_shard t (λ st. absurd (true≢false (sym st.1 ∙ ap is_some (changed.here ∙ none)))) holds

  pub coded_gone : (t : Parts) (other : ℕ) → now ≡ None → other ≢ server → Stands files other (Shard i) → IsKeptCoded t files → IsKeptCoded t left
  coded_gone t other none apart there kept = coded_by files left t (same_index files left server (Shard i) now changed (shard_no_index i)) (copies_gone other apart there) (holds_gone t none kept.holds) kept

-- ---- the index comes or goes

module _ (files left : VolumeFiles) (server : ℕ) (now : Option (List ℕ)) (changed : IsChanged files left server Idx now) where
  made_same : (s : ℕ) → left s Cpx ≡ files s Cpx
  made_same s = changed.others s Cpx (λ at same. absurd cc)

  -- at another server the index is as it was
  elsewhere : (s : ℕ) → s ≢ server → index_at left s ≡ index_at files s
  elsewhere s other = same_index_at files left s (made_same s) (changed.others s Idx (λ at same. other at))

  -- at this one it is what comes
  here : (s : ℕ) → s < max_servers → s ≡ server → HasNoneMade files → index_at left s ≡ now
  here s below at none = index_named left s (ap is_some (made_same s ∙ none s below)) ∙ (λ k. left (at k) Idx) ∙ changed.here

  -- The only index goes, and the shards suffice.
  pub index_gone : (t : Parts) → HasNoneMade files → now ≡ None → ((s : ℕ) → HasIndex files s → s ≡ server) → data_count t.info.geometry.ratio ≤ length (standing files) → HoldsParts t files → IsKeptCoded t left
  index_gone t none_made none only enough holds = record {
    form = record {
      no_index = none_left (index_home left) refl;
      enough = omega (arith, enough, no_fewer_shards files left (copies_by files left (λ s i h. shard s i)));
    };
    holds = holds_by files left t (λ s i h st. (shard s i, changed.others s Vif (λ at same. absurd cc), changed.others s Ecx (λ at same. absurd cc), changed.others s Ecj (λ at same. absurd cc))) holds;
  }
    where
      shard : (s i : ℕ) → left s (Shard i) ≡ files s (Shard i)
      shard s i = changed.others s (Shard i) (λ at same. absurd cc)

      none_left : (o : Option ℕ) → index_home left ≡ o → index_home left ≡ None
      none_left None e = e
      none_left (Some s) e =
          let found = lowest-some (has_index left) s e in
          absurd (by_place s found.1 found.0.passes (cases_eq s server))
        where
          by_place : (s : ℕ) → s < max_servers → has_index left s ≡ true → (s ≡ server) ⊎ (s ≢ server) → ⊥
          by_place s h e (inl at) = true≢false (sym e ∙ ap is_some (here s h at none_made ∙ none))
          by_place s h e (inr other) = other (only s (h, ap is_some (sym (elsewhere s other)) ∙ e))

  -- An index comes to files without one, beside its data file.
  pub index_new : (ps : List Placed) → server < max_servers → IsSome now → index_home files ≡ None → StandsPlainAt ps left server → IsKeptPlain ps left
  index_new ps below some none at_server = record {
    some_index = ap is_some (lowest-exists (has_index left) server below (ap is_some (here server below refl none_made) ∙ some)).1;
    none_made = λ s h. made_same s ∙ none_made s h;
    each = λ s has. by_place s has (cases_eq s server);
  }
    where
      none_made : HasNoneMade files
      none_made = none_of_none files none

      by_place : (s : ℕ) → HasIndex left s → (s ≡ server) ⊎ (s ≢ server) → StandsPlainAt ps left s
      by_place s has (inl at) = subst (StandsPlainAt ps left) (sym at) at_server
      by_place s has (inr other) =
          let had = lowest-exists (has_index files) s has.0 (ap is_some (sym (elsewhere s other)) ∙ has.1) in
          absurd (some_none had.0 (sym had.1 ∙ none))
        where
          some_none : (s : ℕ) → Some s ≢ None
          some_none s e = cc
