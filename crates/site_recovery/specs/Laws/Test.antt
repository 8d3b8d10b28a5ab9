-- Sound plain volumes pass the tests, a test that fails shows a rule that is false, and what a recovery leaves of a sound
-- image is tidy and means what it meant.
use Rattle.std.proofs.Common.{◌≡◌, inl, inr, ℕ, zero, suc, ◌+◌, ◌*◌, ◌/◌, ◌<◌, ◌≤◌, Bool, true, false, List, [], ◌∷◌, ◌++◌, length, take, drop, map, Option, Some, None, is_some, IsTrue, Result, Ok, refl, sym, ◌∙◌, ap, subst, arith}
use Rattle.std.specs.Prelude.{◌||◌, nat_le, nat_lt, if◌then◌else◌, unwrap_or, IsSome}
use Rattle.std.specs.List.{list_any, range_with_len}
use mathlib.Core.Bool.{true≢false}
use Rattle.std.proofs.lemmas.Bool.{ltb-true}
use Rattle.std.proofs.lemmas.List.{length-drop, length-map, length-take-le, take-append-drop, take-map}
use Rattle.site_model.specs.Disk.{File, Files, IsSettled}
use Rattle.site_model.specs.Disk as disk
use Rattle.world_model.specs.declared.types.Mode.{Mode}
use Rattle.world_model.specs.declared.types.Mode.TheVariants as mode
use Rattle.wire_num.specs.Laws.Number.{AreBytes, bytes_take, bytes_drop}
use Rattle.file_names.specs.declared.Kind.TheVariants.{Shard}
use Rattle.file_names.specs.Names.{max_shards, place_of}
use Rattle.volume_forms.specs.Forms.{entries, entries_within, entry_at, entry_bytes}
use Rattle.volume_forms.specs.Laws.Entry.{length-entries, entry_at-spelled}
use Rattle.volume_forms.specs.Laws.Kept.{kept_count-le_index, kept_count-le_wanted}
use Rattle.needle_record.specs.Records.{records, end_of, entry_of, fold_records}
use Rattle.image_meaning.specs.Files.{VolumeFiles, contents, files_of, temps_of, stands, has_index, index_at, dat_at, index_bytes, dat_bytes, is_holder, standing}
use Rattle.image_meaning.specs.Plain.{kept, kept_records, kept_at, index_home, FollowsRecords}
use Rattle.image_meaning.specs.Coded.{ratio_of}
use Rattle.world_model.specs.Ratios.{data_count}
use Rattle.image_meaning.specs.Meaning.{mode_of, volume_of, max_volumes, has_long_dat}
use Rattle.image_meaning.specs.Sound.{IsPlain, IsCoded, HasIndex, HasEntries, HasOneHome, KeepsRule, KeepsRecords, KeepsHomes, IsSoundVolume, IsSound}
use Rattle.image_meaning.specs.Ends.{HasNoFiles, IsTidyVolume}
use Rattle.image_meaning.specs.Laws.Servers.{lowest-some, lowest-exists}
use Rattle.image_meaning.specs.Laws.PlainLoss.{is_plain, plain_home, plain_means, home_has}
use Rattle.image_meaning.specs.Laws.CodedLoss.{some_standing, some_holder}
use Rattle.image_meaning.specs.Laws.LossLaw.{coded_form}
use Rattle.image_meaning.specs.Laws.Survivable.{plain_rules}
use Rattle.image_meaning.specs.Laws.Plain.{IsAlone, alone_means, alone_sound, alone_tidy, absent_means, absent_sound, no_files_absent, no_files_tidy, has_super-long, kept_count-front, entries-take, cut_exact, cut_super, exact_kept_records, exact_follows}
use Rattle.dat_volume.specs.Opening.{counted}
use Rattle.dat_volume.specs.Laws.Opening.{follows-counted}
use Rattle.site_recovery.specs.Tests.{count_at, entries_in, kept_index, PassesRecords, PassesTests, FailsFirst}
use Rattle.site_recovery.specs.Recovering.{HasCodedFile, IsLeftPlain, IsSettledVolume, IsRecovered, IsTidied}
use Rattle.site_recovery.specs.Laws.Step.{absent_by}

-- ---- rule 1

-- where the index follows the records, as many are counted as are kept
counts_kept : (dat idx : List ℕ) → FollowsRecords dat idx → counted dat idx ≡ Ok (kept dat idx)
counts_kept dat idx follows = follows-counted dat idx follows

pub entries_pass : (files : VolumeFiles) → HasEntries files → PassesRecords files
entries_pass files follow server has =
    (kept (dat_bytes files server) (index_bytes files server), counts_kept (dat_bytes files server) (index_bytes files server) (follow.all_but_one server has))

-- ---- rule 2

-- the indexes are spelled by bytes
abbrev pub HasByteIndexes : VolumeFiles → Type 0
HasByteIndexes files = (server : ℕ) → HasIndex files server → AreBytes (index_bytes files server)

-- bytes that spell the same entries are the same
same_spelling : (n : ℕ) (a b : List ℕ) → AreBytes a → AreBytes b → length a ≡ 16 * n → length b ≡ 16 * n → entries_within n a ≡ entries_within n b → a ≡ b
unfolding entries_within
same_spelling zero [] [] all_a all_b long_a long_b same = refl
same_spelling zero (x ∷ a) b all_a all_b long_a long_b same = absurd (omega arith)
same_spelling zero [] (y ∷ b) all_a all_b long_a long_b same = absurd (omega arith)
same_spelling (suc n) a b all_a all_b long_a long_b same =
    let heads : entry_at a ≡ entry_at b = cc in
    let tails : entries_within n (drop 16 a) ≡ entries_within n (drop 16 b) = cc in
    let fronts : take 16 a ≡ take 16 b = sym (entry_at-spelled a all_a (omega arith)) ∙ ap entry_bytes heads ∙ entry_at-spelled b all_b (omega arith) in
    let rests : drop 16 a ≡ drop 16 b =
    same_spelling n (drop 16 a) (drop 16 b) (bytes_drop 16 a all_a) (bytes_drop 16 b all_b) (omega (arith, length-drop 16 a)) (omega (arith, length-drop 16 b)) tails in
    sym (take-append-drop 16 a) ∙ (λ i. fronts i ++ rests i) ∙ take-append-drop 16 b

same_whole : (n : ℕ) (a b : List ℕ) → AreBytes a → AreBytes b → length a ≡ 16 * n → length b ≡ 16 * n → entries a ≡ entries b → a ≡ b
unfolding entries
same_whole n a b all_a all_b long_a long_b same =
    same_spelling n a b all_a all_b long_a long_b (ap (λ m. entries_within m a) (sixteenth (length a) long_a) ∙ same ∙ ap (λ m. entries_within m b) (sym (sixteenth (length b) long_b)))
  where
    sixteenth : (m : ℕ) → m ≡ 16 * n → n ≡ m / 16
    sixteenth m e = omega (arith, e)

module _ (dat idx : List ℕ) where
  length_kept : length (kept_records dat idx) ≡ kept dat idx
  unfolding kept kept_records
  length_kept = length-take-le _ (records dat) (omega (arith, kept_count-le_wanted (map entry_of (records dat)) (entries idx), length-map (records dat) entry_of))

  kept_within : 16 * kept dat idx ≤ length idx
  unfolding kept
  kept_within = omega (arith, kept_count-le_index (map entry_of (records dat)) (entries idx), length-entries idx)

  -- the kept part of an index has the entries of the kept records
  kept_entries : entries (take (16 * kept dat idx) idx) ≡ map entry_of (kept_records dat idx)
  unfolding kept kept_records
  kept_entries = entries-take (kept dat idx) idx kept_within ∙ kept_count-front (map entry_of (records dat)) (entries idx) ∙ take-map entry_of (kept dat idx) (records dat)

-- and the same records as many bytes
same_kept_length : (dat idx other_dat other_idx : List ℕ) → kept_records dat idx ≡ kept_records other_dat other_idx → kept dat idx ≡ kept other_dat other_idx
same_kept_length dat idx other_dat other_idx same = sym (length_kept dat idx) ∙ ap length same ∙ length_kept other_dat other_idx

-- so the same records are kept by the same bytes
same_kept_bytes : (dat idx other_dat other_idx : List ℕ) → AreBytes (take (16 * kept dat idx) idx) → AreBytes (take (16 * kept other_dat other_idx) other_idx)
    → kept_records dat idx ≡ kept_records other_dat other_idx
    → take (16 * kept dat idx) idx ≡ take (16 * kept other_dat other_idx) other_idx
same_kept_bytes dat idx other_dat other_idx all other_all same =
    let counts = same_kept_length dat idx other_dat other_idx same in
    same_whole (kept dat idx) (take (16 * kept dat idx) idx) (take (16 * kept other_dat other_idx) other_idx) all other_all
    (length-take-le (16 * kept dat idx) idx (kept_within dat idx))
    (length-take-le (16 * kept other_dat other_idx) other_idx (kept_within other_dat other_idx) ∙ ap (λ n. 16 * n) (sym counts))
    (kept_entries dat idx ∙ ap (map entry_of) same ∙ sym (kept_entries other_dat other_idx))

kept_index-follows : (files : VolumeFiles) (server : ℕ) → HasEntries files → HasIndex files server
    → kept_index files server ≡ take (16 * kept (dat_bytes files server) (index_bytes files server)) (index_bytes files server)
kept_index-follows files server follow has =
    ap (entries_in (index_bytes files server)) (counts_kept (dat_bytes files server) (index_bytes files server) (follow.all_but_one server has))

-- as many entries are kept of two indexes
pub same_counts : (files : VolumeFiles) (s t m n : ℕ) → HasIndex files s → HasIndex files t → HasEntries files → HasOneHome files → count_at files s ≡ Ok m → count_at files t ≡ Ok n → m ≡ n
same_counts files s t m n h k follow one count other =
    is_ok _ _ (sym count ∙ counts_kept (dat_bytes files s) (index_bytes files s) (follow.all_but_one s h))
    ∙ same_kept_length (dat_bytes files s) (index_bytes files s) (dat_bytes files t) (index_bytes files t) (one.same s t h k)
    ∙ is_ok _ _ (sym (counts_kept (dat_bytes files t) (index_bytes files t) (follow.all_but_one t k)) ∙ other)
  where
    is_ok : (m n : ℕ) → ◌≡◌ {A = Result ℕ ℕ} (Ok m) (Ok n) → m ≡ n
    is_ok m n e = cc

-- the same is kept of two indexes, where that is bytes
pub same_fronts : (files : VolumeFiles) (s t : ℕ) → HasIndex files s → HasIndex files t → AreBytes (kept_index files s) → AreBytes (kept_index files t) → HasEntries files → HasOneHome files
    → kept_index files s ≡ kept_index files t
same_fronts files s t h k all_s all_t follow one =
    kept_index-follows files s follow h
    ∙ same_kept_bytes (dat_bytes files s) (index_bytes files s) (dat_bytes files t) (index_bytes files t)
    (subst AreBytes (kept_index-follows files s follow h) all_s) (subst AreBytes (kept_index-follows files t follow k) all_t) (one.same s t h k)
    ∙ sym (kept_index-follows files t follow k)

front_bytes : (files : VolumeFiles) (server : ℕ) → HasIndex files server → HasEntries files → AreBytes (index_bytes files server) → AreBytes (kept_index files server)
front_bytes files server has follow all =
    subst AreBytes (sym (kept_index-follows files server follow has)) (bytes_take (16 * kept (dat_bytes files server) (index_bytes files server)) (index_bytes files server) all)

pub same_index : (files : VolumeFiles) (s t : ℕ) → HasIndex files s → HasIndex files t → AreBytes (index_bytes files s) → AreBytes (index_bytes files t) → HasEntries files → HasOneHome files
    → kept_index files s ≡ kept_index files t
same_index files s t h k all_s all_t follow one = same_fronts files s t h k (front_bytes files s h follow all_s) (front_bytes files t k follow all_t) follow one

-- Two indexes of which other bytes are kept show that rule 2 is false, or rule 1.
pub breaks_homes : (files : VolumeFiles) (s t : ℕ) → IsPlain files → HasIndex files s → HasIndex files t → AreBytes (index_bytes files s) → AreBytes (index_bytes files t)
    → (kept_index files s ≡ kept_index files t → ⊥) → KeepsHomes files → KeepsRecords files → ⊥
breaks_homes files s t plain h k all_s all_t differ homes follow = differ (same_index files s t h k all_s all_t (follow.plain plain) (homes plain))

-- ---- all three

plain_by : (files : VolumeFiles) (server : ℕ) → HasIndex files server → IsPlain files
plain_by files server has = let found = lowest-exists (has_index files) server has.0 has.1 in is_plain files found.0 found.1

-- a sound volume passes
pub sound_passes : (files : VolumeFiles) → HasByteIndexes files → IsSoundVolume files → PassesTests files
sound_passes files bytes sound = record {
  entries_follow = λ server has. entries_pass files (sound.records_rule.plain (plain_by files server has)) server has;
  one_home = λ s t h k. let plain = plain_by files s h in same_index files s t h k (bytes s h) (bytes t k) (sound.records_rule.plain plain) (sound.homes_rule plain);
  super = record { there = λ server has. (sound.super_rule (plain_by files server has)).there server has };
}

-- The first test that fails shows that its rule is false, or where it is the second, this or the first.
pub fails_broken : (files : VolumeFiles) (rule : ℕ) → IsPlain files → (rule ≡ 2 → HasByteIndexes files) → FailsFirst files rule → KeepsRule rule files → (rule ≡ 2 → KeepsRecords files) → ⊥
fails_broken files rule plain bytes (inl (first, fails)) keeps follow = fails (entries_pass files ((keeps.0 first).plain plain))
fails_broken files rule plain bytes (inr (inl (second, passes, fails))) keeps follow =
    fails (λ s t h k. same_index files s t h k (bytes second s h) (bytes second t k) ((follow second).plain plain) (keeps.1 second plain))
fails_broken files rule plain bytes (inr (inr (third, passes, homes, fails))) keeps follow = fails (keeps.2 third plain)

-- ---- what is left of a sound volume

there : (o : Option (List ℕ)) → is_some o ≡ true → o ≡ Some (unwrap_or o [])
there None e = absurd (true≢false (sym e))
there (Some bytes) e = refl

-- It is tidy, means what it meant, and is sound.
abbrev pub IsTidiedVolume : VolumeFiles → VolumeFiles → VolumeFiles → Type 0
IsTidiedVolume old new temps = IsTidyVolume new temps × (volume_of new ≡ volume_of old) × IsSoundVolume new

module _ (old new temps : VolumeFiles) (home : ℕ) (at : index_home old ≡ Some home) (sound : IsSoundVolume old) (none : HasNoFiles temps) (left : IsLeftPlain old new home) where
  abbrev new_dat : List ℕ
  new_dat = take (end_of (kept_records (dat_bytes old home) (index_bytes old home))) (dat_bytes old home)

  abbrev new_idx : List ℕ
  new_idx = take (16 * kept (dat_bytes old home) (index_bytes old home)) (index_bytes old home)

  follows : FollowsRecords (dat_bytes old home) (index_bytes old home)
  follows = (plain_rules old (is_plain old home at) sound).entries_follow.all_but_one home (home_has old home at)

  -- there was a super block
  pub left_long : 8 ≤ length (dat_bytes old home)
  left_long = has_super-long (dat_bytes old home) left.keeps.super

  dat_end : left.lengths.0 ≡ end_of (kept_records (dat_bytes old home) (index_bytes old home))
  dat_end = left.keeps.dat_length ∙ (left.keeps.follows follows).1

  idx_end : left.lengths.1 ≡ 16 * kept (dat_bytes old home) (index_bytes old home)
  idx_end = left.keeps.idx_length ∙ ap (λ n. 16 * n) (left.keeps.follows follows).0

  dat_there : dat_at old home ≡ Some (dat_bytes old home)
  dat_there = by_file (dat_at old home) left_long
    where
      by_file : (o : Option (List ℕ)) → 8 ≤ length (unwrap_or o []) → o ≡ Some (unwrap_or o [])
      by_file None h = absurd (omega arith)
      by_file (Some bytes) h = refl

  -- both files are left, cut to what is kept, and no other
  pub left_only : IsAlone new home new_dat new_idx
  left_only = record {
    below = (home_has old home at).0;
    has_dat = left.dat_cut (dat_bytes old home) dat_there ∙ ap (λ n. Some (take n (dat_bytes old home))) dat_end;
    has_index = left.idx_cut (index_bytes old home) (there (index_at old home) (home_has old home at).1) ∙ ap (λ n. Some (take n (index_bytes old home))) idx_end;
    alone = left.alone;
  }

  pub left_plain : IsTidiedVolume old new temps
  left_plain =
      let exact = cut_exact (dat_bytes old home) (index_bytes old home) left_long in (
        alone_tidy new temps home new_dat new_idx left_only (kept_at old home) exact none,
        alone_means new temps home new_dat new_idx left_only ∙ ap (λ ps. Some (fold_records ps)) (exact_kept_records new_dat new_idx (kept_at old home) exact) ∙ sym (plain_means old home at),
        alone_sound new temps home new_dat new_idx left_only (exact_follows new_dat new_idx (kept_at old home) exact) (cut_super (dat_bytes old home) (index_bytes old home) left_long left.keeps.super),
      )

-- a lost volume's files are as they were
pub left_lost : (old new temps : VolumeFiles) → mode_of old ≡ Some mode.Lost → new ≡ old → IsSoundVolume old → HasNoFiles temps → IsTidiedVolume old new temps
left_lost old new temps lost same sound none =
    (record { no_temps = none; plain = λ p. absurd (other (sym p ∙ is_lost)); coded = λ c. absurd (another (sym c ∙ is_lost)); absent = λ a. absurd (none_some (sym a ∙ is_lost)) }, ap volume_of same, subst IsSoundVolume (sym same) sound)
  where
    is_lost : mode_of new ≡ Some mode.Lost
    is_lost = ap mode_of same ∙ lost

    other : Some mode.Plain ≡ Some mode.Lost → ⊥
    other e = cc

    another : Some mode.Coded ≡ Some mode.Lost → ⊥
    another e = cc

    none_some : None ≡ Some mode.Lost → ⊥
    none_some e = cc

-- an absent one has none
pub left_absent : (old new temps : VolumeFiles) → mode_of old ≡ None → HasNoFiles new → HasNoFiles temps → IsTidiedVolume old new temps
left_absent old new temps absent no_files none =
    (no_files_tidy new temps no_files none, absent_means new (no_files_absent new no_files) ∙ sym (absent_means old (absent_by old absent)), absent_sound new (no_files_absent new no_files))

-- no mark is in the files
pub never_sealed : (files : VolumeFiles) → mode_of files ≡ Some mode.Sealed → ⊥
unfolding mode_of
never_sealed files e = by_parts (is_some (index_home files)) (nat_le (data_count (ratio_of files)) (length (standing files))) (nat_lt 0 (length (standing files)) || has_long_dat files) e
  where
    by_parts : (a b c : Bool) → (if a then Some mode.Plain else if b then Some mode.Coded else if c then Some mode.Lost else None) ≡ Some mode.Sealed → ⊥
    by_parts true b c e = cc
    by_parts false true c e = cc
    by_parts false false true e = cc
    by_parts false false false e = cc

-- ---- no coded volume

any_in : (test : ℕ → Bool) (a n : ℕ) → list_any test (range_with_len a n) ≡ true → (i : ℕ) × (i < a + n) × (test i ≡ true)
any_in test a zero e = absurd (true≢false (sym e))
any_in test a (suc n) e = by_first (test a) refl e (any_in test (a + 1) n)
  where
    by_first : (b : Bool) → test a ≡ b → (b || list_any test (range_with_len (a + 1) n)) ≡ true → (list_any test (range_with_len (a + 1) n) ≡ true → (i : ℕ) × (i < a + 1 + n) × (test i ≡ true)) → (i : ℕ) × (i < a + suc n) × (test i ≡ true)
    by_first true p e more = (a, omega arith, p)
    by_first false p e more = let found = more e in (found.0, omega (arith, found.1), found.2)

-- of a coded volume some shard stands
shard_there : (files : VolumeFiles) → IsCoded files → (server : ℕ) × (i : ℕ) × (i < max_shards) × IsTrue (stands files server (Shard i))
unfolding is_holder
shard_there files coded =
    let holder = some_holder files (some_standing files files (coded_form files coded).enough) in
    let low = lowest-some (is_holder files) holder.0 holder.1 in
    let shard = any_in (λ i. stands files holder.0 (Shard i)) 0 max_shards low.0.passes in
    (holder.0, shard.0, omega (arith, shard.1), shard.2)

file_stands : (o : Option File) → is_some (disk.standing o) ≡ true → IsSome o
file_stands None e = e
file_stands (Some file) e = refl

-- a volume without a file of the coded form
pub not_coded : (files : Files) (v : ℕ) → (HasCodedFile files v → ⊥) → IsCoded (files_of (contents files) v) → ⊥
not_coded files v none coded =
    let shard = shard_there (files_of (contents files) v) coded in
    none (shard.0, Shard shard.1, false, shard.2, file_stands (files (place_of v shard.0 (Shard shard.1) false)) shard.3)

-- ---- what a recovery leaves

settled_volume : (old new temps : VolumeFiles) → (IsCoded old → ⊥) → IsSoundVolume old → IsSettledVolume old new temps → IsTidiedVolume old new temps
settled_volume old new temps none_coded sound settled = by_mode (mode_of old) refl
  where
    by_mode : (m : Option Mode) → mode_of old ≡ m → IsTidiedVolume old new temps
    by_mode None e = left_absent old new temps e (settled.absent e) settled.no_temps
    by_mode (Some mode.Plain) e = let home = plain_home old e in left_plain old new temps home.0 home.1 sound settled.no_temps (settled.plain home.0 home.1)
    by_mode (Some mode.Sealed) e = absurd (never_sealed old e)
    by_mode (Some mode.Coded) e = absurd (none_coded e)
    by_mode (Some mode.Lost) e = left_lost old new temps e (settled.lost e) sound settled.no_temps

-- From a sound image: tidy, with the meaning that it had.
pub tidied : (old new : Files) → IsRecovered old new → IsSound (contents old) → (IsSettled old → IsSettled new) → IsTidied old new
tidied old new recovered sound settled = record {
  tidy = λ v h. (each v h).0;
  means = λ v. by_number v (nat_lt v max_volumes) refl;
  sound = λ v h. (each v h).2;
  settled = settled;
}
  where
    each : (v : ℕ) → v < max_volumes → IsTidiedVolume (files_of (contents old) v) (files_of (contents new) v) (temps_of (contents new) v)
    each v h =
        settled_volume (files_of (contents old) v) (files_of (contents new) v) (temps_of (contents new) v)
        (not_coded old v (recovered.0 v h)) (sound v h) (recovered.1 v h)

    by_number : (v : ℕ) (b : Bool) → nat_lt v max_volumes ≡ b → (if b then volume_of (files_of (contents new) v) else None) ≡ (if b then volume_of (files_of (contents old) v) else None)
    by_number v true e = (each v (ltb-true v max_volumes e)).1
    by_number v false e = refl
