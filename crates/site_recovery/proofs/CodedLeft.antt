-- What a recovery leaves of a coded volume is of the same form, and keeps the rules that are tested.
use Rattle.std.proofs.Common.{◌≡◌, ◌≢◌, inl, inr, ⊎_elim, ℕ, ◌+◌, ◌*◌, ◌<◌, ◌≤◌, Bool, true, List, length, map, Option, Some, None, is_some, IsTrue, [], refl, sym, ◌∙◌, ap, subst, arith}
use Rattle.std.specs.Prelude.{nat_eq, unwrap_or, option_and_then, Contains}
use Rattle.std.specs.List.{AllByRecursion, IsDistinct}
use mathlib.Core.Bool.{true≢false}
use Rattle.std.proofs.lemmas.Bool.{cases_lt}
use Rattle.world_model.specs.Sizes.{deletion_length, max_dat}
use Rattle.world_model.specs.declared.types.Ratio.{Ratio}
use Rattle.world_model.specs.Ratios.{data_count}
use Rattle.file_names.specs.declared.Kind.{Kind}
use Rattle.file_names.specs.declared.Kind.TheVariants.{Idx, Cpx, Shard, Ecx, Ecj, Vif}
use Rattle.file_names.specs.Names.{max_shards}
use Rattle.wire_num.specs.Pairs.{pairs, journal_bytes}
use Rattle.wire_num.specs.Laws.Pair.{AreIds, pairs_of_journal, length-journal_bytes}
use Rattle.volume_forms.specs.Forms.{entries}
use Rattle.volume_forms.specs.Kept.{entry_end}
use Rattle.stripe_layout.specs.Information.{info_of}
use Rattle.image_meaning.specs.Files.{VolumeFiles, stands, bytes_at, has_index, is_holder, all_shards, shard_home, standing, lowest}
use Rattle.image_meaning.specs.Plain.{index_home}
use Rattle.image_meaning.specs.Coded.{first_holder, info_at, told_ratio, volume_info, ratio_of, deleted_at}
use Rattle.image_meaning.specs.Sound.{IsCoded, IsHolder, Stands, IsSortedIndex}
use Rattle.image_meaning.specs.CodedTests.{PassesCoded}
use Rattle.image_meaning.specs.Laws.Servers.{lowest-some, lowest-none, lowest-exists, lowest-same}
use Rattle.image_meaning.specs.Laws.Views.{same_index_at, has_either, made_has, named_has}
use Rattle.image_meaning.specs.Laws.LossLaw.{coded_form, is_coded}
use Rattle.image_meaning.specs.Laws.Survivable.{fewer}
use Rattle.image_meaning.specs.CodedCopies.{IsCodedThinned, gone_held, same_standing, same_holder}
use Rattle.coded_volume.proofs.Standing.{holder_stands, stands_holder}
use Rattle.site_recovery.specs.CodedSteps.{HaveSameIds}
use Rattle.site_recovery.specs.CodedSettling.{IsTestedCoded}

-- ---- the lowest server

pub lowest_is : (test : ℕ → Bool) (s : ℕ) → s < 64 → test s ≡ true → ((t : ℕ) → t < s → test t ≡ true → ⊥) → lowest test ≡ Some s
lowest_is test s h passes none =
    let found = lowest-exists test s h passes in
    let is = lowest-some test found.0 found.1 in
    let same : found.0 ≡ s = elim (cases_lt found.0 s) [
      | inl less ↦ absurd (none found.0 less is.0.passes)
      | inr not_less ↦ elim (cases_lt s found.0) [
        | inl less ↦ absurd (true≢false (sym passes ∙ is.0.first s (omega arith) less))
        | inr le ↦ omega arith
      ]
    ] in
    found.1 ∙ ap (λ (n : ℕ). Some n) same

-- ---- homes

module _ (files : VolumeFiles) where
  -- the home of a shard has it
  pub home_stands : (i server : ℕ) → shard_home files i ≡ Some server → Stands files server (Shard i)
  home_stands i server home = let is = lowest-some (λ s. stands files s (Shard i)) server home in (is.1, is.0.passes)

-- ---- journals spread

-- The holders' journals have these ids by now, and no other file is changed.
pub record HasJournals (old new : VolumeFiles) (ids : List ℕ) : Type 0 where
  pub others : (server : ℕ) (kind : Kind) → kind ≢ Ecj → new server kind ≡ old server kind
  pub journals : (server : ℕ) → IsHolder old server → bytes_at new server Ecj ≡ journal_bytes ids

module _ (old new : VolumeFiles) (ids : List ℕ) (has : HasJournals old new ids) where
  same_shards : (server i : ℕ) → new server (Shard i) ≡ old server (Shard i)
  same_shards server i = has.others server (Shard i) (λ e. cc)

  pub spread_home : (i : ℕ) → shard_home new i ≡ shard_home old i
  spread_home i = lowest-same (λ s. stands new s (Shard i)) (λ s. stands old s (Shard i)) (λ s. ap is_some (same_shards s i))

  pub spread_held : (server : ℕ) → IsHolder new server → IsHolder old server
  spread_held server h = (h.0, sym (same_holder old new same_shards server) ∙ h.1)

  spread_holds : (server : ℕ) → IsHolder old server → IsHolder new server
  spread_holds server h = (h.0, same_holder old new same_shards server ∙ h.1)

  same_first : first_holder new ≡ first_holder old
  same_first = lowest-same (is_holder new) (is_holder old) (same_holder old new same_shards)

  same_text : (server : ℕ) → info_at new server ≡ info_at old server
  same_text server = ap (option_and_then info_of) (has.others server Vif (λ e. cc))

  spread_info : volume_info new ≡ volume_info old
  unfolding volume_info
  spread_info i = option_and_then (λ s. same_text s i) (same_first i)

  spread_ratio : ratio_of new ≡ ratio_of old
  unfolding ratio_of
  spread_ratio = ap told_ratio spread_info

  spread_index : index_home new ≡ index_home old
  spread_index = lowest-same (has_index new) (has_index old) (λ s. ap is_some (same_index_at old new s (has.others s Cpx (λ e. cc)) (has.others s Idx (λ e. cc))))

  pub spread_coded : IsCoded old → IsCoded new
  spread_coded coded =
      let form = coded_form old coded in
      is_coded new (record {
        no_index = spread_index ∙ form.no_index;
        enough =
            subst (λ (r : Ratio). data_count r ≤ length (standing new)) (sym spread_ratio)
            (subst (λ (l : List ℕ). data_count (ratio_of old) ≤ length l) (sym (same_standing old new same_shards)) form.enough);
      })

  pub spread_same_ids : HaveSameIds new
  spread_same_ids s t a b = ap pairs (has.journals s (spread_held s a)) ∙ sym (ap pairs (has.journals t (spread_held t b)))

  module _ (fit : AreIds ids) (tested : IsTestedCoded old ids) where
    ids_are : (server : ℕ) → IsHolder old server → deleted_at new server ≡ ids
    ids_are server h = ap pairs (has.journals server h) ∙ pairs_of_journal ids fit

    same_index : (server : ℕ) → bytes_at new server Ecx ≡ bytes_at old server Ecx
    same_index server = ap (λ (o : Option (List ℕ)). unwrap_or o []) (has.others server Ecx (λ e. cc))

    abbrev passes : PassesCoded old
    passes = tested.passes

    spread_known : (server : ℕ) → IsHolder new server → AllByRecursion (λ id. Contains (map (λ e. e.id) (entries (bytes_at new server Ecx))) id) ids
    spread_known server h =
        subst (λ (l : List ℕ). AllByRecursion (λ id. Contains (map (λ e. e.id) (entries l)) id) ids) (sym (same_index server))
        (subst (λ (xs : List ℕ). AllByRecursion (λ id. Contains (map (λ e. e.id) (entries (bytes_at old server Ecx))) id) xs) tested.longest (passes.journal.known server (spread_held server h)))

    spread_rest : (server : ℕ) → IsHolder new server → length (bytes_at new server Ecj) ≤ 16 * length (deleted_at new server) + 16
    spread_rest server h =
        let all : length (bytes_at new server Ecj) ≡ length (journal_bytes ids) = ap length (has.journals server (spread_held server h)) in
        let count : length (deleted_at new server) ≡ length ids = ap length (ids_are server (spread_held server h)) in
        omega (arith, all, count, length-journal_bytes ids)

    pub spread_tested : IsTestedCoded new ids
    spread_tested = record {
      coded = spread_coded tested.coded;
      passes = record {
        info = passes.info;
        texts = record {
          first = spread_info ∙ passes.texts.first;
          each = λ server h. same_text server ∙ passes.texts.each server (spread_held server h);
        };
        index = record {
          there = λ server h. (h.0, ap is_some (has.others server Ecx (λ e. cc)) ∙ (passes.index.there server (spread_held server h)).1);
          same = λ s t a b. same_index s ∙ passes.index.same s t (spread_held s a) (spread_held t b) ∙ sym (same_index t);
          sorted = λ server h. subst IsSortedIndex (sym (same_index server)) (passes.index.sorted server (spread_held server h));
          ends = λ server h. subst (λ (l : List ℕ). AllByRecursion (λ e. entry_end e ≤ passes.info.dat_size) (entries l)) (sym (same_index server)) (passes.index.ends server (spread_held server h));
        };
        lengths = record {
          numbers = λ server i h st. passes.lengths.numbers server i h (st.0, ap is_some (sym (same_shards server i)) ∙ st.1);
          each = λ server i h st.
              ap (λ (o : Option (List ℕ)). length (unwrap_or o [])) (same_shards server i)
              ∙ passes.lengths.each server i h (st.0, ap is_some (sym (same_shards server i)) ∙ st.1);
        };
        journal = record {
          longest = ids;
          some_holder = (passes.journal.some_holder.0, spread_holds passes.journal.some_holder.0 passes.journal.some_holder.1, ids_are passes.journal.some_holder.0 passes.journal.some_holder.1);
          each = λ server h. inl (ids_are server (spread_held server h));
          distinct = subst (IsDistinct nat_eq) tested.longest passes.journal.distinct;
          known = spread_known;
          room = subst (λ (l : List ℕ). passes.info.dat_size + deletion_length * length l ≤ max_dat) tested.longest passes.journal.room;
          rest = spread_rest;
        };
      };
      longest = refl;
    }

-- ---- copies taken away

module _ (files left : VolumeFiles) (thinned : IsCodedThinned files left) where
  stood : (server : ℕ) (kind : Kind) → stands left server kind ≡ true → left server kind ≡ files server kind
  stood server kind e = ⊎_elim (λ same. same) (λ gone. absurd (true≢false (sym e ∙ ap is_some gone))) (thinned.each server kind)

  pub was_there : (server : ℕ) (kind : Kind) → stands left server kind ≡ true → stands files server kind ≡ true
  was_there server kind e = ap is_some (sym (stood server kind e)) ∙ e

  pub thinned_held : (server : ℕ) → IsHolder left server → IsHolder files server
  thinned_held = gone_held files left thinned.each

  pub thinned_home : (i server : ℕ) → shard_home files i ≡ Some server → shard_home left i ≡ Some server
  thinned_home i server home =
      let is = lowest-some (λ s. stands files s (Shard i)) server home in
      lowest_is (λ s. stands left s (Shard i)) server is.1 (ap is_some (thinned.homes i server home) ∙ is.0.passes)
      (λ t less st. true≢false (sym (was_there t (Shard i) st) ∙ is.0.first t (omega arith) less))

  -- the lowest holder is the home of each of its shards
  first_home : (server : ℕ) → first_holder files ≡ Some server → (i : ℕ) × (i < max_shards) × (shard_home files i ≡ Some server)
  first_home server first =
      let is = lowest-some (is_holder files) server first in
      let shard = stands_holder files server (is.1, is.0.passes) in (
        shard.0,
        shard.1,
        lowest_is (λ s. stands files s (Shard shard.0)) server is.1 shard.2.1
            (λ t less st. true≢false (sym (holder_stands files t shard.0 shard.1 (omega (arith, is.1), st)).1 ∙ is.0.first t (omega arith) less)),
      )

  thinned_first : (server : ℕ) → first_holder files ≡ Some server → first_holder left ≡ Some server
  thinned_first server first =
      let is = lowest-some (is_holder files) server first in
      let home = first_home server first in
      let here : IsHolder left server = holder_stands left server home.0 home.1 (home_stands left home.0 server (thinned_home home.0 server home.2)) in
      lowest_is (is_holder left) server here.0 here.1
      (λ t less holds. true≢false (sym (thinned_held t (omega (arith, here.0), holds)).1 ∙ is.0.first t (omega arith) less))

  thinned_info : volume_info left ≡ volume_info files
  unfolding volume_info
  thinned_info = by_first (first_holder files) refl (first_holder left) refl
    where
      by_first : (o : Option ℕ) → first_holder files ≡ o → (p : Option ℕ) → first_holder left ≡ p → option_and_then (info_at left) (first_holder left) ≡ option_and_then (info_at files) (first_holder files)
      by_first (Some s) e p f =
          let first = thinned_first s e in
          let is = lowest-some (is_holder left) s first in
          ap (option_and_then (info_at left)) first ∙ ap (option_and_then info_of) (thinned.texts s (is.1, is.0.passes)) ∙ sym (ap (option_and_then (info_at files)) e)
      by_first None e None f = ap (option_and_then (info_at left)) f ∙ sym (ap (option_and_then (info_at files)) e)
      by_first None e (Some s) f =
          let is = lowest-some (is_holder left) s f in
          absurd (true≢false (sym (thinned_held s (is.1, is.0.passes)).1 ∙ lowest-none (is_holder files) e s is.1))

  thinned_ratio : ratio_of left ≡ ratio_of files
  unfolding ratio_of
  thinned_ratio = ap told_ratio thinned_info

  still_home : (i : ℕ) → is_some (shard_home files i) ≡ true → is_some (shard_home left i) ≡ true
  still_home i e = by_home (shard_home files i) refl e
    where
      by_home : (o : Option ℕ) → shard_home files i ≡ o → is_some o ≡ true → is_some (shard_home left i) ≡ true
      by_home None p q = absurd (true≢false (sym q))
      by_home (Some s) p q = ap is_some (thinned_home i s p)

  no_index : index_home files ≡ None → index_home left ≡ None
  no_index none = by_home (index_home left) refl
    where
      by_home : (o : Option ℕ) → index_home left ≡ o → index_home left ≡ None
      by_home None e = e
      by_home (Some s) e =
          let found = lowest-some (has_index left) s e in
          let had : IsTrue (has_index files s) = ⊎_elim (λ h. made_has files s (was_there s Cpx h)) (λ h. named_has files s (was_there s Idx h)) (has_either left s found.0.passes) in
          absurd (true≢false (sym had ∙ lowest-none (has_index files) none s found.1))

  pub thinned_coded : IsCoded files → IsCoded left
  unfolding standing
  thinned_coded coded =
      let form = coded_form files coded in
      is_coded left (record {
        no_index = no_index form.no_index;
        enough =
            subst (λ (r : Ratio). data_count r ≤ length (standing left)) (sym thinned_ratio)
            (omega (arith, form.enough, fewer (λ i. is_some (shard_home files i)) (λ i. is_some (shard_home left i)) all_shards still_home));
      })

  same_ids : (server : ℕ) → IsHolder left server → deleted_at left server ≡ deleted_at files server
  same_ids server h = ap (λ (o : Option (List ℕ)). pairs (unwrap_or o [])) (thinned.journals server h)

  pub thinned_same_ids : HaveSameIds files → HaveSameIds left
  thinned_same_ids same s t a b = same_ids s a ∙ same s t (thinned_held s a) (thinned_held t b) ∙ sym (same_ids t b)

  module _ (ids : List ℕ) (same : HaveSameIds files) (tested : IsTestedCoded files ids) where
    abbrev tests : PassesCoded files
    tests = tested.passes

    left_index : (server : ℕ) → IsHolder left server → bytes_at left server Ecx ≡ bytes_at files server Ecx
    left_index server h = ap (λ (o : Option (List ℕ)). unwrap_or o []) (thinned.indexes server h)

    has_all : (server : ℕ) → IsHolder files server → deleted_at files server ≡ tests.journal.longest
    has_all server h = same server tests.journal.some_holder.0 h tests.journal.some_holder.1 ∙ tests.journal.some_holder.2

    some_left : (server : ℕ) × IsHolder left server
    some_left = by_first (first_holder files) refl
      where
        by_first : (o : Option ℕ) → first_holder files ≡ o → (server : ℕ) × IsHolder left server
        by_first (Some s) e = let is = lowest-some (is_holder left) s (thinned_first s e) in (s, (is.1, is.0.passes))
        by_first None e =
            let holds = tests.journal.some_holder.1 in
            absurd (true≢false (sym holds.1 ∙ lowest-none (is_holder files) e tests.journal.some_holder.0 holds.0))

    pub thinned_tested : IsTestedCoded left ids
    thinned_tested = record {
      coded = thinned_coded tested.coded;
      passes = record {
        info = tests.info;
        texts = record {
          first = thinned_info ∙ tests.texts.first;
          each = λ server h. ap (option_and_then info_of) (thinned.texts server h) ∙ tests.texts.each server (thinned_held server h);
        };
        index = record {
          there = λ server h. (h.0, ap is_some (thinned.indexes server h) ∙ (tests.index.there server (thinned_held server h)).1);
          same = λ s t a b. left_index s a ∙ tests.index.same s t (thinned_held s a) (thinned_held t b) ∙ sym (left_index t b);
          sorted = λ server h. subst IsSortedIndex (sym (left_index server h)) (tests.index.sorted server (thinned_held server h));
          ends = λ server h. subst (λ (l : List ℕ). AllByRecursion (λ e. entry_end e ≤ tests.info.dat_size) (entries l)) (sym (left_index server h)) (tests.index.ends server (thinned_held server h));
        };
        lengths = record {
          numbers = λ server i h st. tests.lengths.numbers server i h (st.0, was_there server (Shard i) st.1);
          each = λ server i h st.
              ap (λ (o : Option (List ℕ)). length (unwrap_or o [])) (stood server (Shard i) st.1)
              ∙ tests.lengths.each server i h (st.0, was_there server (Shard i) st.1);
        };
        journal = record {
          longest = tests.journal.longest;
          some_holder = (some_left.0, some_left.1, same_ids some_left.0 some_left.1 ∙ has_all some_left.0 (thinned_held some_left.0 some_left.1));
          each = λ server h. inl (same_ids server h ∙ has_all server (thinned_held server h));
          distinct = tests.journal.distinct;
          known = λ server h.
              subst (λ (l : List ℕ). AllByRecursion (λ id. Contains (map (λ e. e.id) (entries l)) id) tests.journal.longest) (sym (left_index server h)) (tests.journal.known server (thinned_held server h));
          room = tests.journal.room;
          rest = λ server h.
              subst (λ (o : Option (List ℕ)). length (unwrap_or o []) ≤ 16 * length (pairs (unwrap_or o [])) + 16) (sym (thinned.journals server h)) (tests.journal.rest server (thinned_held server h));
        };
      };
      longest = tested.longest;
    }
