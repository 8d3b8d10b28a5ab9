-- What is known of a volume's homes, as far as servers were asked.
use Rattle.std.proofs.Common.{◌≡◌, inl, inr, ⊎_elim, ℕ, zero, suc, ◌+◌, ◌*◌, ◌<◌, ◌≤◌, true, false, cond, Option, Some, None, is_some, IsTrue, Ok, List, [], ◌∷◌, ◌++◌, length, take, filter, refl, sym, ◌∙◌, ap, subst, arith}
use Rattle.std.proofs.lemmas.List.{length-take-le}
use Rattle.std.specs.Prelude.{nat_lt, nat_le, ◌||◌, unwrap_or, if◌then◌else◌, slice_get, option_map, Contains}
use Rattle.std.specs.List.{range_with_len}
use mathlib.Core.Bool.{true≢false}
use Rattle.std.proofs.lemmas.Bool.{cases_eq, cases_lt, lt-ltb, le-ltb, lt-leb}
use Rattle.std.proofs.lemmas.List.Elements.{Contains-append_left, Contains-push, Contains-push_cases}
use Rattle.site_model.specs.Disk.{File, Files, IsPossible, bytes_of}
use Rattle.site_model.specs.Disk as disk
use Rattle.world_model.specs.declared.types.Mode.TheVariants as mode
use Rattle.wire_num.specs.Laws.Number.{AreBytes}
use Rattle.volume_forms.specs.Forms.{has_super}
use Rattle.file_names.specs.declared.Kind.TheVariants.{Dat, Idx, Shard, Cpx}
use Rattle.file_names.specs.Names.{max_shards, place_of}
use Rattle.image_meaning.specs.Files.{VolumeFiles, contents, files_of, stands, bytes_at, shard_home, standing, has_index, index_bytes, dat_bytes}
use Rattle.file_names.specs.declared.Kind.{Kind}
use Rattle.image_meaning.specs.Plain.{index_home}
use Rattle.image_meaning.specs.Coded.{ratio_of}
use Rattle.world_model.specs.Ratios.{data_count, data_count-some}
use Rattle.image_meaning.specs.Meaning.{mode_of, has_long_dat, max_volumes}
use Rattle.image_meaning.specs.Sound.{HasIndex, HasEntries, HasOneHome, HasSuper, IsPlain}
use Rattle.image_meaning.specs.Laws.Plain.{lowest-all_fail}
use Rattle.image_meaning.specs.Laws.Servers.{lowest-some, lowest-exists}
use Rattle.image_meaning.specs.Laws.PlainLoss.{is_plain}
use Rattle.image_meaning.specs.Laws.Views.{index_named}
use Rattle.dat_volume.specs.Opening.{counted}
use Rattle.dat_volume.specs.Laws.Opening.{counted-idx}
use Rattle.site_recovery.specs.Recovering.{HasNoCoded}
use Rattle.site_recovery.specs.Tests.{count_at, entries_in, kept_index, PassesRecords, PassesHomes, PassesTests, FailsFirst}
use Rattle.site_recovery.specs.Laws.Test.{same_counts, same_fronts, fails_broken}
use Rattle.site_recovery.specs.declared.forms.Home.{Home}
use Rattle.site_recovery.specs.Homes.{IsHome, HasNoneBefore, AreHomes, IsBroken}
use Rattle.site_recovery.proofs.Places.{no_coded_at}

-- ---- the bytes of files

pub bytes_same : (o : Option File) → unwrap_or (disk.standing o) [] ≡ bytes_of o
bytes_same None = refl
bytes_same (Some file) = refl

-- no more entries are counted than the index has
pub counted_within : (dat idx : List ℕ) (n : ℕ) → counted dat idx ≡ Ok n → 16 * n ≤ length idx
counted_within dat idx n e = counted-idx dat idx n e

-- an index of this size stands, or none does
pub sized : (o : Option (List ℕ)) (size : ℕ) → Some size ≡ option_map length o → (size ≡ length (unwrap_or o [])) × (is_some o ≡ true)
sized None size e = absurd cc
sized (Some bytes) size e = (cc, refl)

pub unsized : (o : Option (List ℕ)) → None ≡ option_map length o → is_some o ≡ false
unsized None e = refl
unsized (Some bytes) e = absurd cc

-- ---- the homes of the first servers

first_push : (files : VolumeFiles) (n : ℕ) (homes : List Home) (home : Home) → home.server ≡ n → HasNoneBefore files n (slice_get homes 0) → HasNoneBefore files (n + 1) (slice_get (homes ++ home ∷ []) 0)
first_push files n [] home is none = λ server low. none server (omega (arith, is))
first_push files n (first ∷ homes) home is none = none

first_skip : (files : VolumeFiles) (n : ℕ) (homes : List Home) → has_index files n ≡ false → HasNoneBefore files n (slice_get homes 0) → HasNoneBefore files (n + 1) (slice_get homes 0)
first_skip files n [] out none = λ server low. elim (cases_eq server n) [
  | inl same ↦ ap (has_index files) same ∙ out
  | inr other ↦ none server (omega arith)
]
first_skip files n (first ∷ homes) out none = none

pub homes_push : (files : VolumeFiles) (n : ℕ) (homes : List Home) (home : Home) → home.server ≡ n → IsHome files home → AreHomes files n homes → AreHomes files (n + 1) (homes ++ home ∷ [])
homes_push files n homes home is at_home are = record {
  each = λ other has. ⊎_elim (λ was. are.each other was) (λ same. subst (IsHome files) same at_home) (Contains-push_cases homes home other has);
  all = λ server low index. elim (cases_eq server n) [
    | inl same ↦ (home, Contains-push homes home, is ∙ sym same)
    | inr other ↦ let was = are.all server (omega arith) index in (was.0, Contains-append_left homes (home ∷ []) was.0 was.1, was.2)
  ];
  first = first_push files n homes home is are.first;
}

pub homes_skip : (files : VolumeFiles) (n : ℕ) (homes : List Home) → has_index files n ≡ false → AreHomes files n homes → AreHomes files (n + 1) homes
homes_skip files n homes out are = record {
  each = are.each;
  all = λ server low index. elim (cases_eq server n) [
    | inl same ↦ absurd (true≢false (sym index.1 ∙ ap (has_index files) same ∙ out))
    | inr other ↦ are.all server (omega arith) index
  ];
  first = first_skip files n homes out are.first;
}

-- at servers that there aren't no index stands
pub none_above : (files : Files) (v servers : ℕ) → IsPossible servers files → (server : ℕ) → servers ≤ server → has_index (files_of (contents files) v) server ≡ false
none_above files v servers possible server high = ap is_some (index_named (files_of (contents files) v) server (ap is_some (gone Cpx)) ∙ gone Idx)
  where
    gone : (kind : Kind) → files_of (contents files) v server kind ≡ None
    gone kind = ap disk.standing (possible.nowhere_else (place_of v server kind false) high)

first_all : (files : VolumeFiles) (n : ℕ) (homes : List Home) → ((server : ℕ) → n ≤ server → has_index files server ≡ false) → HasNoneBefore files n (slice_get homes 0) → HasNoneBefore files 64 (slice_get homes 0)
first_all files n [] above none = λ server low. elim (cases_lt server n) [
  | inl below ↦ none server below
  | inr high ↦ above server high
]
first_all files n (first ∷ homes) above none = none

pub homes_all : (files : VolumeFiles) (n : ℕ) (homes : List Home) → ((server : ℕ) → n ≤ server → has_index files server ≡ false) → AreHomes files n homes → AreHomes files 64 homes
homes_all files n homes above are = record {
  each = are.each;
  all = λ server low index. elim (cases_lt server n) [
    | inl below ↦ are.all server below index
    | inr high ↦ absurd (true≢false (sym index.1 ∙ above server high))
  ];
  first = first_all files n homes above are.first;
}

-- ---- the lowest of them

first_is : (homes : List Home) (first : Home) → slice_get homes 0 ≡ Some first → Contains homes first
first_is [] first e = absurd cc
first_is (home ∷ homes) first e = (0, omega arith, some_is home first e)
  where
    some_is : (a b : Home) → Some a ≡ Some b → a ≡ b
    some_is a b f = cc

module _ (files : VolumeFiles) (homes : List Home) (are : AreHomes files 64 homes) where
  pub first_home : (first : Home) → slice_get homes 0 ≡ Some first → IsHome files first
  first_home first e = are.each first (first_is homes first e)

  pub home_is_first : (first : Home) → slice_get homes 0 ≡ Some first → index_home files ≡ Some first.server
  home_is_first first e =
      let home = first_home first e in
      let found = lowest-exists (has_index files) first.server home.has.0 home.has.1 in
      let low = lowest-some (has_index files) found.0 found.1 in
      let below = subst (HasNoneBefore files 64) e are.first in
      found.1 ∙ ap Some (neither found.0 (λ less. true≢false (sym low.0.passes ∙ below found.0 less)) (λ more. true≢false (sym home.has.1 ∙ low.0.first first.server (omega arith) more)))
    where
      neither : (found : ℕ) → (found < first.server → ⊥) → (first.server < found → ⊥) → found ≡ first.server
      neither found less more = elim (cases_eq found first.server) [
        | inl same ↦ same
        | inr other ↦ elim (cases_lt found first.server) [ inl low ↦ absurd (less low) | inr high ↦ absurd (more (omega arith)) ]
      ]

  pub records_pass : PassesRecords files
  records_pass server index =
      let found = are.all server index.0 index in
      let home = are.each found.0 found.1 in
      (home.count, subst (λ s. count_at files s ≡ Ok home.count) found.2 home.counts)

  pub homes_pass : (first : Home) → ((home : Home) → Contains homes home → kept_index files first.server ≡ kept_index files home.server) → PassesHomes files
  homes_pass first agree s t h k =
      let one = are.all s h.0 h in
      let other = are.all t k.0 k in
      subst (λ u. kept_index files u ≡ kept_index files t) one.2 (subst (λ u. kept_index files one.0.server ≡ kept_index files u) other.2 (sym (agree one.0 one.1) ∙ agree other.0 other.1))

  pub supers_pass : ((home : Home) → Contains homes home → IsTrue (has_super (dat_bytes files home.server))) → HasSuper files
  supers_pass each = record {
    there = λ server index. let found = are.all server index.0 index in subst (λ s. IsTrue (has_super (dat_bytes files s))) found.2 (each found.0 found.1);
  }

  pub no_home : slice_get homes 0 ≡ None → (server : ℕ) → server < 64 → has_index files server ≡ false
  no_home e = subst (HasNoneBefore files 64) e are.first

-- ---- where two homes keep the same

-- what is kept is a front of the index
pub kept_front : (files : VolumeFiles) (home : Home) → IsHome files home → kept_index files home.server ≡ take home.kept (index_bytes files home.server)
kept_front files home at_home = ap (entries_in (index_bytes files home.server)) at_home.counts ∙ ap (λ n. take n (index_bytes files home.server)) (sym at_home.kept)

pub kept_within : (files : VolumeFiles) (home : Home) → IsHome files home → home.kept ≤ length (index_bytes files home.server)
kept_within files home at_home = omega (arith, at_home.kept, counted_within (dat_bytes files home.server) (index_bytes files home.server) at_home.count at_home.counts)

-- other lengths can't be kept of a sound volume, nor the same
pub lengths_differ : (files : VolumeFiles) (home other : Home) → IsHome files home → IsHome files other → (home.kept ≡ other.kept → ⊥) → HasEntries files → HasOneHome files → ⊥
lengths_differ files home other h k differ follow one =
    differ (h.kept ∙ ap (λ n. 16 * n) (same_counts files home.server other.server h.count k.count h.has k.has follow one h.counts k.counts) ∙ sym k.kept)

pub fronts_differ : (files : VolumeFiles) (home other : Home) → IsHome files home → IsHome files other → AreBytes (kept_index files home.server) → AreBytes (kept_index files other.server)
    → (kept_index files home.server ≡ kept_index files other.server → ⊥) → HasEntries files → HasOneHome files → ⊥
fronts_differ files home other h k all more differ follow one = differ (same_fronts files home.server other.server h.has k.has all more follow one)

kept_long : (files : VolumeFiles) (home : Home) → IsHome files home → length (kept_index files home.server) ≡ home.kept
kept_long files home at_home = ap length (kept_front files home at_home) ∙ length-take-le home.kept (index_bytes files home.server) (kept_within files home at_home)

-- homes that keep other lengths keep other bytes
pub lengths_kept : (files : VolumeFiles) (home other : Home) → IsHome files home → IsHome files other → kept_index files home.server ≡ kept_index files other.server → home.kept ≡ other.kept
lengths_kept files home other h k same = sym (kept_long files home h) ∙ ap length same ∙ kept_long files other k

-- ---- which rule is broken

pub index_plain : (files : VolumeFiles) (server : ℕ) → HasIndex files server → IsPlain files
index_plain files server has = let found = lowest-exists (has_index files) server has.0 has.1 in is_plain files found.0 found.1

pub plain_by : (files : VolumeFiles) (home : Home) → IsHome files home → IsPlain files
plain_by files home at_home = index_plain files home.server at_home.has

-- the first or the third
pub broken_alone : (files : VolumeFiles) (rule : ℕ) → IsPlain files → (rule ≡ 2 → ⊥) → FailsFirst files rule → IsBroken files rule
broken_alone files rule plain other fails = fails_broken files rule plain (λ e. absurd (other e)) fails

-- or the second, at two homes
pub broken_homes : (files : VolumeFiles) → IsPlain files → (HasEntries files → HasOneHome files → ⊥) → IsBroken files 2
broken_homes files plain differ keeps follow = differ ((follow refl).plain plain) (keeps.1 refl plain)

-- ---- a volume without index

none_standing : (files : VolumeFiles) (a n : ℕ) → ((i : ℕ) → i < a + n → shard_home files i ≡ None) → filter (λ i. is_some (shard_home files i)) (range_with_len a n) ≡ []
none_standing files a zero none = refl
none_standing files a (suc n) none =
    ap (λ b. cond b (a ∷ filter (λ i. is_some (shard_home files i)) (range_with_len (a + 1) n)) (filter (λ i. is_some (shard_home files i)) (range_with_len (a + 1) n))) (ap is_some (none a (omega arith)))
    ∙ none_standing files (a + 1) n (λ i h. none i (omega arith))

pub mode_by_data : (files : Files) (v : ℕ) → v < max_volumes → HasNoCoded files → ((server : ℕ) → server < 64 → has_index (files_of (contents files) v) server ≡ false)
    → mode_of (files_of (contents files) v) ≡ (if has_long_dat (files_of (contents files) v) then Some mode.Lost else None)
unfolding mode_of standing
mode_by_data files v h none no_index =
    let home : index_home (files_of (contents files) v) ≡ None = lowest-all_fail (has_index (files_of (contents files) v)) no_index in
    let shards = none_standing (files_of (contents files) v) 0 max_shards (λ i low. lowest-all_fail (λ s. stands (files_of (contents files) v) s (Shard i)) (λ s k. no_shard i low s)) in
    let few : nat_le (data_count (ratio_of (files_of (contents files) v))) 0 ≡ false = lt-leb _ _ (data_count-some (ratio_of (files_of (contents files) v))) in
    (λ i. if is_some (home i) then Some mode.Plain else if nat_le (data_count (ratio_of (files_of (contents files) v))) (length (shards i)) then Some mode.Coded else if nat_lt 0 (length (shards i)) || has_long_dat (files_of (contents files) v) then Some mode.Lost else None)
    ∙ ap (λ b. if b then Some mode.Coded else if has_long_dat (files_of (contents files) v) then Some mode.Lost else None) few
  where
    no_shard : (i : ℕ) → i < max_shards → (s : ℕ) → stands (files_of (contents files) v) s (Shard i) ≡ false
    no_shard i low s = ap (λ (o : Option File). is_some (disk.standing o)) (no_coded_at files v s (Shard i) false h none low)

pub none_passes : (files : VolumeFiles) → ((server : ℕ) → server < 64 → has_index files server ≡ false) → PassesTests files
none_passes files none = record {
  entries_follow = λ server index. absurd (out server index);
  one_home = λ s t h k. absurd (out s h);
  super = record { there = λ server index. absurd (out server index) };
}
  where
    out : (server : ℕ) → HasIndex files server → ⊥
    out server index = true≢false (sym index.1 ∙ none server index.0)

-- ---- long data files

pub long_here : (files : VolumeFiles) (server : ℕ) → server < 64 → 8 < length (bytes_at files server Dat) → true ≡ has_long_dat files
long_here files server low long =
    let found = lowest-exists (λ s. nat_lt 8 (length (bytes_at files s Dat))) server low (lt-ltb 8 (length (bytes_at files server Dat)) long) in
    sym (ap is_some found.1)

pub long_nowhere : (files : VolumeFiles) → ((server : ℕ) → server < 64 → length (bytes_at files server Dat) ≤ 8) → false ≡ has_long_dat files
long_nowhere files short = sym (ap is_some (lowest-all_fail (λ s. nat_lt 8 (length (bytes_at files s Dat))) (λ s low. le-ltb 8 (length (bytes_at files s Dat)) (short s low))))
