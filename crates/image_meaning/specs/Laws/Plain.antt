-- What the crates above need of plain volumes: a put, a cut, and a volume at one server.
use Rattle.std.proofs.Common.{◌≡◌, ◌⊎◌, inl, inr, ℕ, zero, suc, ◌+◌, ◌*◌, ◌/◌, ◌^◌, ◌<◌, ◌≤◌, List, [], ◌∷◌, ◌++◌, length, map, take, drop, Bool, true, false, cond, Option, Some, None, is_some, IsTrue, pos, negsuc, FitsSigned, refl, sym, ◌∙◌, ap, subst, arith}
use Rattle.std.specs.Prelude.{◌==◌, ◌&&◌, ◌||◌, nat_le, nat_lt, if◌then◌else◌, filter, slice_index, unwrap_or, IfSome, option_map}
use Rattle.std.specs.Int.{w32, cast_unsigned}
use Rattle.std.specs.List.{range_with_len}
use mathlib.Core.Bool.{true≢false}
use Rattle.std.proofs.Math.ListN.{length-append}
use Rattle.std.proofs.lemmas.List.{append-nil, map-append, length-map, take-map, length-take, length-take-le, take-append-drop, drop-append-le, take_at}
use Rattle.std.proofs.lemmas.Bool.{le-leb, leb-true, le-ltb, lt-leb}
use Rattle.wire_num.specs.Numbers.{number_of, bytes_of}
use Rattle.wire_num.specs.Laws.Number.{number_of-append, length-bytes_of}
use Rattle.world_model.specs.Sizes.{FitsRecord, max_dat}
use Rattle.world_model.specs.declared.types.Mode.{Mode}
use Rattle.world_model.specs.declared.types.Mode.TheVariants as mode
use Rattle.file_names.specs.declared.Kind.{Kind}
use Rattle.file_names.specs.declared.Kind.TheVariants.{Dat, Idx, Shard, Cpx}
use Rattle.file_names.specs.Names.{IsKind, max_shards}
use Rattle.volume_forms.specs.declared.Entry.{Entry}
use Rattle.volume_forms.specs.Forms.{entries, entries_within, entry_at, entry_bytes, has_super}
use Rattle.volume_forms.specs.Kept.{kept_count, entry_eq}
use Rattle.volume_forms.specs.Laws.Entry.{entries-append, length-entries, entry_at-entry_bytes}
use Rattle.volume_forms.specs.Laws.Kept.{kept_count-le_index, kept_count-le_wanted, same_entry}
use Rattle.needle_record.specs.declared.Record.{Record}
use Rattle.needle_record.specs.Spelling.{HasRoom, canonical, length_of_record, record_size}
use Rattle.needle_record.specs.Laws.Spelling.{length_of_record-least, record_size-fits}
use Rattle.needle_record.specs.Records.{Placed, records, end_of, entry_of, fold_records}
use Rattle.needle_record.specs.Laws.Records.{records_from-nothing, records-write, whole_dat-write, records-cut, whole_dat-cut, fold_records-used}
use Rattle.image_meaning.specs.Files.{VolumeFiles, stands, bytes_at, has_index, index_at, dat_at, index_bytes, dat_bytes, lowest, shard_home, standing}
use Rattle.site_model.specs.Counts.{max_servers}
use Rattle.image_meaning.specs.Plain.{kept, kept_records, kept_at, index_home, FollowsRecords, IsExact}
use Rattle.image_meaning.specs.Coded.{ratio_of}
use Rattle.world_model.specs.Ratios.{data_count, data_count-some}
use Rattle.image_meaning.specs.Meaning.{mode_of, volume_of, volume_by}
use Rattle.image_meaning.specs.Sound.{Stands, IsPlain, HasIndex, IsSoundVolume}
use Rattle.image_meaning.specs.Ends.{HasNoFiles, IsTidyVolume}
use Rattle.image_meaning.specs.Laws.Servers.{lowest-some, lowest-exists}
use Rattle.image_meaning.specs.Laws.Torn.{kept-more, kept_records-more, kept_records-before}
use Rattle.image_meaning.specs.Laws.PlainLoss.{plain_means, is_plain}
use Rattle.image_meaning.specs.Laws.Views.{index_named, dat_named}
use Rattle.image_meaning.specs.Laws.Survivable.{sound_plain, sound_neither, not_both}

-- ---- super blocks

-- the first eight bytes alone tell
pub has_super-front : (front more : List ℕ) → 8 ≤ length front → has_super (front ++ more) ≡ has_super front
unfolding has_super
has_super-front front more long =
    let a : nat_le 8 (length (front ++ more)) ≡ nat_le 8 (length front) = le-leb 8 (length (front ++ more)) (omega (arith, length-append front more)) ∙ sym (le-leb 8 (length front) long) in
    let b = first front long in
    let c : number_of 2 (drop 6 (front ++ more)) ≡ number_of 2 (drop 6 front) = ap (number_of 2) (drop-append-le 6 front more (omega arith)) ∙ number_of-append 2 (drop 6 front) more (omega (arith, behind front long)) in
    λ i. a i && (b i == 3) && (c i == 0)
  where
    first : (front : List ℕ) → 8 ≤ length front → slice_index (front ++ more) 0 ≡ slice_index front 0
    first [] h = absurd (omega arith)
    first (x ∷ xs) h = refl

    behind : (front : List ℕ) → 8 ≤ length front → 2 ≤ length (drop 6 front)
    behind (a ∷ b ∷ c ∷ d ∷ e ∷ f ∷ rest) h = omega arith
    behind _ h = absurd (omega arith)

pub has_super-long : (dat : List ℕ) → IsTrue (has_super dat) → 8 ≤ length dat
unfolding has_super
has_super-long dat e = leb-true 8 (length dat) (both _ _ (both _ _ e).0).0
  where
    both : (a b : Bool) → (a && b) ≡ true → (a ≡ true) × (b ≡ true)
    both true b e = (refl, e)
    both false b e = absurd cc

-- it stays while bytes are appended
pub has_super-append : (dat more : List ℕ) → IsTrue (has_super dat) → IsTrue (has_super (dat ++ more))
has_super-append dat more e = has_super-front dat more (has_super-long dat e) ∙ e

-- and while some behind it are cut off
pub has_super-take : (dat : List ℕ) (n : ℕ) → IsTrue (has_super dat) → 8 ≤ n → IsTrue (has_super (take n dat))
has_super-take dat n e h =
    let long = has_super-long dat e in
    sym (has_super-front (take n dat) (drop n dat) (omega (arith, length-take n dat, long, h))) ∙ ap has_super (take-append-drop n dat) ∙ e

-- ---- a put

entry_size_fits : (n : ℕ) → n < 2 ^ 31 → FitsSigned w32 (if n == 0 then negsuc 0 else pos n)
entry_size_fits n h = by_test (n == 0)
  where
    by_test : (b : Bool) → FitsSigned w32 (cond b (negsuc 0) (pos n))
    by_test true = omega arith
    by_test false = omega arith

length-entry_bytes : (e : Entry) → length (entry_bytes e) ≡ 16
length-entry_bytes e =
    length-append (bytes_of 8 e.id ++ bytes_of 4 e.offset) (bytes_of 4 (cast_unsigned w32 e.size))
    ∙ ap (λ n. n + length (bytes_of 4 (cast_unsigned w32 e.size))) (length-append (bytes_of 8 e.id) (bytes_of 4 e.offset))
    ∙ λ i. length-bytes_of 8 e.id i + length-bytes_of 4 e.offset i + length-bytes_of 4 (cast_unsigned w32 e.size) i

-- the entry of one record
pub entries-one : (p : Placed) → HasRoom p.1 → IfSome p.1.content FitsRecord → p.0 < max_dat → entries (entry_bytes (entry_of p)) ≡ entry_of p ∷ []
unfolding entries entries_within
entries-one p room fits place =
    let e : Entry = entry_of p in
    ap (λ n. entries_within (n / 16) (entry_bytes e)) (length-entry_bytes e)
    ∙ ap (λ x. x ∷ []) (ap entry_at (sym (append-nil (entry_bytes e))) ∙ entry_at-entry_bytes e [] room.id (omega (arith, place)) (entry_size_fits (record_size p.1) (record_size-fits p.1 fits)))

module _ (dat idx : List ℕ) (ps : List Placed) (exact : IsExact dat idx ps) where
  -- after a put there is one record more
  pub exact_push : (r : Record) → HasRoom r → IfSome r.content FitsRecord → length dat + length_of_record r ≤ max_dat
      → IsExact (dat ++ canonical r) (idx ++ entry_bytes (entry_of (length dat, r))) (ps ++ (length dat, r) ∷ [])
  exact_push r room fits ends = record {
    whole = whole_dat-write dat r exact.whole room fits ends;
    has = records-write dat r exact.whole room fits ends ∙ ap (λ qs. qs ++ (length dat, r) ∷ []) exact.has;
    index =
        entries-append (length ps) idx (entry_bytes (entry_of (length dat, r))) exact.index_length
        ∙ ap (λ es. es ++ entries (entry_bytes (entry_of (length dat, r)))) exact.index
        ∙ ap (λ es. map entry_of ps ++ es) (entries-one (length dat, r) room fits (omega (arith, ends, length_of_record-least r)))
        ∙ sym (map-append entry_of ps ((length dat, r) ∷ []));
    index_length = omega (arith, length-append idx (entry_bytes (entry_of (length dat, r))), length-append ps ((length dat, r) ∷ []), length-entry_bytes (entry_of (length dat, r)), exact.index_length);
  }

  -- what it keeps
  pub exact_kept_records : kept_records dat idx ≡ ps
  exact_kept_records = ap (λ d. kept_records d idx) (sym (append-nil dat)) ∙ ap (kept_records (dat ++ [])) (sym (append-nil idx)) ∙ kept_records-before dat idx ps exact [] [] (omega arith)

  -- with less than two entries behind the index, whatever stands behind the records, the index still follows the records
  pub torn_follows : (dat_more idx_more : List ℕ) → length idx_more < 32 → FollowsRecords (dat ++ dat_more) (idx ++ idx_more)
  torn_follows dat_more idx_more short =
      omega (arith, kept-more dat idx ps exact dat_more idx_more, length-entries (idx ++ idx_more), length-append idx idx_more, exact.index_length, short)

  pub torn_dat_follows : (dat_more : List ℕ) → FollowsRecords (dat ++ dat_more) idx
  torn_dat_follows dat_more = subst (FollowsRecords (dat ++ dat_more)) (append-nil idx) (torn_follows dat_more [] (omega arith))

  pub exact_follows : FollowsRecords dat idx
  exact_follows = subst (λ d. FollowsRecords d idx) (append-nil dat) (torn_dat_follows [])

  -- with no record behind, whatever stands behind the index, the records are kept
  pub kept_records-index : (idx_more : List ℕ) → kept_records dat (idx ++ idx_more) ≡ ps
  unfolding kept_count
  kept_records-index idx_more =
      ap (λ d. kept_records d (idx ++ idx_more)) (sym (append-nil dat)) ∙ kept_records-more dat idx ps exact [] idx_more
      ∙ ap (λ rs. ps ++ take (kept_count (map entry_of rs) (entries idx_more)) rs) (records_from-nothing (length dat)) ∙ append-nil ps

  pub kept-index : (idx_more : List ℕ) → kept dat (idx ++ idx_more) ≡ length ps
  kept-index idx_more =
      ap (λ d. kept d (idx ++ idx_more)) (sym (append-nil dat)) ∙ kept-more dat idx ps exact [] idx_more
      ∙ ap (λ rs. length ps + kept_count (map entry_of rs) (entries idx_more)) (records_from-nothing (length dat)) ∙ omega (arith, kept_count-le_wanted [] (entries idx_more))

-- ---- a cut

-- the kept entries are the records'
pub kept_count-front : (wanted index : List Entry) → take (kept_count wanted index) index ≡ take (kept_count wanted index) wanted
unfolding kept_count
kept_count-front [] [] = refl
kept_count-front [] (f ∷ index) = refl
kept_count-front (e ∷ wanted) [] = refl
kept_count-front (e ∷ wanted) (f ∷ index) = by_same (entry_eq e f) refl (kept_count-front wanted index)
  where
    by_same : (b : Bool) → entry_eq e f ≡ b → take (kept_count wanted index) index ≡ take (kept_count wanted index) wanted
        → take (cond b (suc (kept_count wanted index)) 0) (f ∷ index) ≡ take (cond b (suc (kept_count wanted index)) 0) (e ∷ wanted)
    by_same false p more = refl
    by_same true p more = ap (λ x. x ∷ take (kept_count wanted index) index) (sym (same_entry e f p)) ∙ ap (λ xs. e ∷ xs) more

-- the first entries of an index
pub entries-take : (n : ℕ) (idx : List ℕ) → 16 * n ≤ length idx → entries (take (16 * n) idx) ≡ take n (entries idx)
entries-take n idx h =
    let long = length-take-le (16 * n) idx h in
    sym (ap (λ i. take n (entries i)) (sym (take-append-drop (16 * n) idx)) ∙ ap (take n) (entries-append n (take (16 * n) idx) (drop (16 * n) idx) long)
    ∙ take_at (entries (take (16 * n) idx)) (entries (drop (16 * n) idx)) n (omega (arith, length-entries (take (16 * n) idx), long)))

module _ (dat idx : List ℕ) (super : 8 ≤ length dat) where
  abbrev cut_dat : List ℕ
  cut_dat = take (end_of (kept_records dat idx)) dat

  abbrev cut_index : List ℕ
  cut_index = take (16 * kept dat idx) idx

  pub length-kept_records : length (kept_records dat idx) ≡ kept dat idx
  unfolding kept kept_records
  length-kept_records = length-take-le _ (records dat) (omega (arith, kept_count-le_wanted (map entry_of (records dat)) (entries idx), length-map (records dat) entry_of))

  index_long : 16 * kept dat idx ≤ length idx
  unfolding kept
  index_long = omega (arith, kept_count-le_index (map entry_of (records dat)) (entries idx), length-entries idx)

  -- both cut to what is kept, the files are exact
  pub cut_exact : IsExact (take (end_of (kept_records dat idx)) dat) (take (16 * kept dat idx) idx) (kept_records dat idx)
  unfolding kept kept_records
  cut_exact = record {
    whole = whole_dat-cut dat (kept dat idx) super;
    has = records-cut dat (kept dat idx) super;
    index =
        entries-take (kept dat idx) idx index_long ∙ kept_count-front (map entry_of (records dat)) (entries idx) ∙ take-map entry_of (kept dat idx) (records dat);
    index_length = omega (arith, length-take-le (16 * kept dat idx) idx index_long, length-kept_records);
  }

  -- with the data file alone cut, or the index alone, the same records are kept
  pub cut_dat-kept_records : kept_records (take (end_of (kept_records dat idx)) dat) idx ≡ kept_records dat idx
  cut_dat-kept_records =
      ap (kept_records cut_dat) (sym (take-append-drop (16 * kept dat idx) idx)) ∙ kept_records-index cut_dat cut_index (kept_records dat idx) cut_exact (drop (16 * kept dat idx) idx)

  pub cut_index-kept_records : kept_records dat (take (16 * kept dat idx) idx) ≡ kept_records dat idx
  cut_index-kept_records =
      ap (λ d. kept_records d cut_index) (sym (take-append-drop (end_of (kept_records dat idx)) dat)) ∙ ap (kept_records (cut_dat ++ drop (end_of (kept_records dat idx)) dat)) (sym (append-nil cut_index))
      ∙ kept_records-before cut_dat cut_index (kept_records dat idx) cut_exact (drop (end_of (kept_records dat idx)) dat) [] (omega arith)

  -- and the index goes on to follow the records
  pub cut_dat-follows : FollowsRecords dat idx → FollowsRecords (take (end_of (kept_records dat idx)) dat) idx
  cut_dat-follows follows =
      let same : kept (take (end_of (kept_records dat idx)) dat) idx ≡ kept dat idx =
      ap (kept cut_dat) (sym (take-append-drop (16 * kept dat idx) idx)) ∙ kept-index cut_dat cut_index (kept_records dat idx) cut_exact (drop (16 * kept dat idx) idx) ∙ length-kept_records in
      omega (arith, same, follows)

  pub cut_index-follows : FollowsRecords dat (take (16 * kept dat idx) idx)
  cut_index-follows = subst (λ d. FollowsRecords d cut_index) (take-append-drop (end_of (kept_records dat idx)) dat) (torn_dat_follows cut_dat cut_index (kept_records dat idx) cut_exact (drop (end_of (kept_records dat idx)) dat))

  -- the super block stays
  pub cut_super : IsTrue (has_super dat) → IsTrue (has_super (take (end_of (kept_records dat idx)) dat))
  cut_super e = has_super-take dat (end_of (kept_records dat idx)) e (omega (arith, cut_exact.whole.super, length-take (end_of (kept_records dat idx)) dat))

  -- and their length is what is used
  pub kept_used : (fold_records (kept_records dat idx)).used ≡ end_of (kept_records dat idx)
  unfolding kept_records
  kept_used = fold_records-used dat (kept dat idx) super

-- ---- a volume at one server

-- the volume has these two files at this server, and no other
pub record IsAlone (files : VolumeFiles) (home : ℕ) (dat idx : List ℕ) : Type 0 where
  pub below : home < max_servers
  pub has_dat : files home Dat ≡ Some dat
  pub has_index : files home Idx ≡ Some idx
  pub alone : (server : ℕ) (kind : Kind) → IsKind kind → Stands files server kind → (server ≡ home) × ((kind ≡ Idx) ⊎ (kind ≡ Dat))

module _ (files temps : VolumeFiles) (home : ℕ) (dat idx : List ℕ) (only : IsAlone files home dat idx) where
  -- nothing that a vacuum made stands
  none_made : (server : ℕ) → server < max_servers → stands files server Cpx ≡ false
  none_made server below = by_test (stands files server Cpx) refl
    where
      no_kind : (Cpx ≡ Idx) ⊎ (Cpx ≡ Dat) → ⊥
      no_kind (inl e) = cc
      no_kind (inr e) = cc

      by_test : (b : Bool) → stands files server Cpx ≡ b → stands files server Cpx ≡ false
      by_test false e = e
      by_test true e = absurd (no_kind (only.alone server Cpx tt (below, e)).1)

  pub alone_index_at : index_at files home ≡ Some idx
  alone_index_at = index_named files home (none_made home only.below) ∙ only.has_index

  pub alone_dat_at : dat_at files home ≡ Some dat
  alone_dat_at = dat_named files home (none_made home only.below) ∙ only.has_dat

  pub alone_at : (server : ℕ) → HasIndex files server → server ≡ home
  alone_at server has = (only.alone server Idx tt (has.0, ap is_some (sym (index_named files server (none_made server has.0))) ∙ has.1)).0

  alone_home : index_home files ≡ Some home
  alone_home =
      let found = lowest-exists (has_index files) home only.below (ap is_some alone_index_at) in
      let low = lowest-some (has_index files) found.0 found.1 in
      found.1 ∙ ap Some (alone_at found.0 (low.1, low.0.passes))

  dat_is : dat_bytes files home ≡ dat
  dat_is = ap (λ (o : Option (List ℕ)). unwrap_or o []) alone_dat_at

  idx_is : index_bytes files home ≡ idx
  idx_is = ap (λ (o : Option (List ℕ)). unwrap_or o []) alone_index_at

  pub alone_plain : IsPlain files
  alone_plain = is_plain files home alone_home

  -- it means what is kept
  pub alone_means : volume_of files ≡ Some (fold_records (kept_records dat idx))
  alone_means = plain_means files home alone_home ∙ λ i. Some (fold_records (kept_records (dat_is i) (idx_is i)))

  -- it is sound where its index follows its records
  pub alone_sound : FollowsRecords dat idx → IsTrue (has_super dat) → IsSoundVolume files
  alone_sound follows super =
      let at_home : (P : ℕ → Type 0) (server : ℕ) → HasIndex files server → P home → P server = λ P server has holds. subst P (sym (alone_at server has)) holds in
      sound_plain files alone_plain (record {
        entries_follow = record {
          all_but_one = λ server has. at_home (λ s. FollowsRecords (dat_bytes files s) (index_bytes files s)) server has (subst (λ d. FollowsRecords d (index_bytes files home)) (sym dat_is) (subst (FollowsRecords dat) (sym idx_is) follows));
        };
        one_home = record { same = λ s t h k. ap (kept_at files) (alone_at s h ∙ sym (alone_at t k)) };
        super = record { there = λ server has. at_home (λ s. IsTrue (has_super (dat_bytes files s))) server has (ap has_super dat_is ∙ super) };
      })

  -- it is tidy where both are exact
  pub alone_tidy : (ps : List Placed) → IsExact dat idx ps → HasNoFiles temps → IsTidyVolume files temps
  alone_tidy ps exact none =
      let kept_is : kept_at files home ≡ ps = (λ i. kept_records (dat_is i) (idx_is i)) ∙ exact_kept_records dat idx ps exact in
      record {
        no_temps = none;
        plain = λ p. record {
          home = home;
          has_index = (only.below, ap is_some only.has_index);
          has_dat = (only.below, ap is_some only.has_dat);
          index_length = ap (λ (o : Option (List ℕ)). length (unwrap_or o [])) only.has_index ∙ exact.index_length ∙ ap (λ qs. 16 * length qs) (sym kept_is);
          dat_length = ap (λ (o : Option (List ℕ)). length (unwrap_or o [])) only.has_dat ∙ sym exact.whole.to_end ∙ ap end_of (exact.has ∙ sym kept_is);
          alone = only.alone;
        };
        coded = λ c. absurd (not_both files alone_plain c);
        absent = λ a. absurd (some_none (sym alone_plain ∙ a));
      }
    where
      some_none : Some mode.Plain ≡ None → ⊥
      some_none e = cc

-- ---- an absent volume

-- no index holder, no shard, and no data file with more than a super block
pub record IsAbsent (files : VolumeFiles) : Type 0 where
  pub no_index : (server : ℕ) → server < max_servers → has_index files server ≡ false
  pub no_shard : (server i : ℕ) → server < max_servers → i < max_shards → stands files server (Shard i) ≡ false
  pub short_dat : (server : ℕ) → server < max_servers → length (bytes_at files server Dat) ≤ 8

pub lowest-all_fail : (test : ℕ → Bool) → ((s : ℕ) → s < 64 → test s ≡ false) → lowest test ≡ None
lowest-all_fail test fails = by_found (lowest test) refl
  where
    by_found : (o : Option ℕ) → lowest test ≡ o → lowest test ≡ None
    by_found None e = e
    by_found (Some s) e = let found = lowest-some test s e in absurd (true≢false (sym found.0.passes ∙ fails s found.1))

none_standing : (files : VolumeFiles) (a n : ℕ) → ((i : ℕ) → i < a + n → shard_home files i ≡ None) → filter (λ i. is_some (shard_home files i)) (range_with_len a n) ≡ []
none_standing files a zero none = refl
none_standing files a (suc n) none =
    ap (λ b. cond b (a ∷ filter (λ i. is_some (shard_home files i)) (range_with_len (a + 1) n)) (filter (λ i. is_some (shard_home files i)) (range_with_len (a + 1) n))) (ap is_some (none a (omega arith)))
    ∙ none_standing files (a + 1) n (λ i h. none i (omega arith))

module _ (files : VolumeFiles) (absent : IsAbsent files) where
  pub absent_mode : mode_of files ≡ None
  unfolding mode_of standing
  absent_mode =
      let home : index_home files ≡ None = lowest-all_fail (has_index files) absent.no_index in
      let shards = none_standing files 0 max_shards (λ i h. lowest-all_fail (λ s. stands files s (Shard i)) (λ s k. absent.no_shard s i k h)) in
      let dats : lowest (λ s. nat_lt 8 (length (bytes_at files s Dat))) ≡ None = lowest-all_fail (λ s. nat_lt 8 (length (bytes_at files s Dat))) (λ s k. short s (absent.short_dat s k)) in
      (λ i. if is_some (home i) then Some mode.Plain else if nat_le (data_count (ratio_of files)) (length (shards i)) then Some mode.Coded else if nat_lt 0 (length (shards i)) || is_some (dats i) then Some mode.Lost else None)
      ∙ ap (λ b. if b then Some mode.Coded else None) (lt-leb (data_count (ratio_of files)) 0 (data_count-some (ratio_of files)))
    where
      short : (s : ℕ) → length (bytes_at files s Dat) ≤ 8 → nat_lt 8 (length (bytes_at files s Dat)) ≡ false
      short s h = le-ltb 8 (length (bytes_at files s Dat)) h

  pub absent_means : volume_of files ≡ None
  unfolding volume_of
  absent_means = ap (option_map (volume_by files)) absent_mode

  pub absent_sound : IsSoundVolume files
  absent_sound = sound_neither files (λ p. none_some (sym absent_mode ∙ p)) (λ c. none_some (sym absent_mode ∙ c)) (λ l. absurd (none_some (sym absent_mode ∙ l)))
    where
      none_some : {m : Mode} → None ≡ Some m → ⊥
      none_some e = cc

-- a volume with no files
pub no_files_absent : (files : VolumeFiles) → HasNoFiles files → IsAbsent files
no_files_absent files none = record {
  no_index = λ server h. ap is_some (index_named files server (ap is_some (none server Cpx h tt)) ∙ none server Idx h tt);
  no_shard = λ server i h k. ap is_some (none server (Shard i) h k);
  short_dat = λ server h. subst (λ (o : Option (List ℕ)). length (unwrap_or o []) ≤ 8) (sym (none server Dat h tt)) (omega arith);
}

-- a volume with short data files alone
pub short_dats_absent : (files : VolumeFiles) → ((server : ℕ) (kind : Kind) → IsKind kind → Stands files server kind → (kind ≡ Dat) × (length (bytes_at files server kind) ≤ 8)) → IsAbsent files
short_dats_absent files short = record {
  no_index = λ server h. ap is_some (index_named files server (fails Cpx server h tt (λ e. absurd cc))) ∙ fails Idx server h tt (λ e. absurd cc);
  no_shard = λ server i h k. fails (Shard i) server h k (λ e. absurd cc);
  short_dat = λ server h. dats server h (files server Dat) refl;
}
  where
    fails : (kind : Kind) (server : ℕ) → server < max_servers → IsKind kind → (kind ≡ Dat → ⊥) → stands files server kind ≡ false
    fails kind server h is other = by_test (stands files server kind) refl
      where
        by_test : (b : Bool) → stands files server kind ≡ b → stands files server kind ≡ false
        by_test false e = e
        by_test true e = absurd (other (short server kind is (h, e)).0)

    dats : (server : ℕ) → server < max_servers → (o : Option (List ℕ)) → files server Dat ≡ o → length (bytes_at files server Dat) ≤ 8
    dats server h None e = subst (λ (o : Option (List ℕ)). length (unwrap_or o []) ≤ 8) (sym e) (omega arith)
    dats server h (Some bytes) e = (short server Dat tt (h, ap is_some e)).1

-- a volume with no files is tidy
pub no_files_tidy : (files temps : VolumeFiles) → HasNoFiles files → HasNoFiles temps → IsTidyVolume files temps
no_files_tidy files temps none no_temps =
    let absent = absent_mode files (no_files_absent files none) in
    record {
      no_temps = no_temps;
      plain = λ p. absurd (none_some (sym absent ∙ p));
      coded = λ c. absurd (none_some (sym absent ∙ c));
      absent = λ a. none;
    }
  where
    none_some : {m : Mode} → None ≡ Some m → ⊥
    none_some e = cc
