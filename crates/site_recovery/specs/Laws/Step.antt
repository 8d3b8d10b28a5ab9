-- Which steps of a recovery keep sound volumes sound, and what they mean after any loss that they survive.
use Rattle.std.proofs.Common.{◌≡◌, ◌≢◌, ◌⊎◌, inl, inr, ⊎_elim, ℕ, zero, suc, ◌+◌, ◌*◌, ◌<◌, ◌≤◌, Bool, true, false, cond, List, [], ◌∷◌, length, take, Option, Some, None, is_some, IsTrue, refl, sym, ◌∙◌, ap, subst, arith}
use Rattle.std.specs.Prelude.{◌||◌, nat_le, nat_lt, if◌then◌else◌, filter, unwrap_or, option_map, IsSome}
use Rattle.std.specs.List.{range_with_len}
use mathlib.Core.Bool.{true≢false}
use Rattle.std.proofs.lemmas.Bool.{cases_eq, cases_lt, ltb-false, lt-ltb}
use Rattle.std.proofs.lemmas.List.{length-take}
use Rattle.site_model.specs.Disk.{File, Place, Image, IsFirm, cut_to}
use Rattle.site_model.specs.Disk as disk
use Rattle.site_model.specs.Touches.{firm_left}
use Rattle.world_model.specs.declared.types.Mode.{Mode}
use Rattle.world_model.specs.declared.types.Mode.TheVariants as mode
use Rattle.file_names.specs.declared.Kind.{Kind}
use Rattle.file_names.specs.declared.Kind.TheVariants.{Dat, Idx, Cpd, Cpx, Shard}
use Rattle.file_names.specs.declared.FileName.{FileName}
use Rattle.file_names.specs.Names.{IsKind, max_shards, place_of}
use Rattle.file_names.specs.Laws.Name.{same_name}
use Rattle.volume_forms.specs.Forms.{has_super}
use Rattle.needle_record.specs.Records.{end_of, fold_records}
use Rattle.image_meaning.specs.Files.{VolumeFiles, files_of, lose_files, stands, bytes_at, has_index, index_at, dat_at, index_bytes, dat_bytes, shard_home, standing, SameVolume, lowest}
use Rattle.site_model.specs.Counts.{max_servers}
use Rattle.image_meaning.specs.Plain.{kept, kept_records, index_home, FollowsRecords}
use Rattle.image_meaning.specs.Coded.{ratio_of}
use Rattle.world_model.specs.Ratios.{data_count}
use Rattle.image_meaning.specs.Meaning.{mode_of, volume_of, max_volumes, has_long_dat}
use Rattle.image_meaning.specs.Sound.{IsPlain, HasIndex, HasOneHome, IsSoundVolume, IsSoundPlain, IsSound}
use Rattle.image_meaning.specs.Ends.{SurvivesIn}
use Rattle.image_meaning.specs.Laws.Servers.{lowest-some, lowest-none, lowest-exists}
use Rattle.image_meaning.specs.Laws.Local.{same_files}
use Rattle.image_meaning.specs.Laws.Views.{index_named, dat_named, made_has, same_index_at, same_dat_at, index_at-lost}
use Rattle.image_meaning.specs.Laws.PlainLoss.{is_plain, plain_means, plain_loss, home_has}
use Rattle.image_meaning.specs.Laws.Survivable.{sound_plain, plain_rules, not_both}
use Rattle.image_meaning.specs.Laws.Plain.{IsAbsent, absent_mode, absent_means, absent_sound, has_super-long, cut_exact, cut_dat-kept_records, cut_dat-follows, cut_index-kept_records, cut_index-follows, cut_super, exact_kept_records, exact_follows}
use Rattle.image_meaning.specs.Laws.Copy.{HasFewerCopies, IsThinned, thinned_same, thinned_stood, same_copies, fewer_and_fewer, fewer_may_have, volumes_apart, temp_apart, others_left}
use Rattle.dat_volume.specs.Opening.{KeepsLengths, IsCutOrNot}
use Rattle.site_recovery.specs.Recovering.{IsLeftSound}
use Rattle.site_recovery.specs.Steps.{KeepsMeaning, KeepsBeside, IsReduced, IsSameOrCut, IsSameOrGone}

-- ---- firm files

-- cut, they are firm
pub cut_firm : (n : ℕ) (file : Option File) → IsFirm file → IsFirm (cut_to n file)
cut_firm n None firm = tt
cut_firm n (Some file) firm = (omega (arith, length-take n file.bytes, firm.0), firm.1)

pub cut_standing : (n : ℕ) (file : Option File) → disk.standing (cut_to n file) ≡ option_map (take n) (disk.standing file)
cut_standing n None = refl
cut_standing n (Some file) = refl

-- ---- steps put together

pub keeps_none : (i : Image) → KeepsMeaning i i
keeps_none i v h sound = (sound, same_copies (files_of i v) (files_of i v) refl)

pub keeps_on : (a b c : Image) → KeepsMeaning a b → KeepsMeaning b c → KeepsMeaning a c
keeps_on a b c first second v h sound =
    let one = first v h sound in
    let two = second v h one.0 in
    (two.0, fewer_and_fewer (files_of a v) (files_of b v) (files_of c v) one.1 two.1)

-- what a stop leaves of a sound opening
pub left_sound : (opening image : Image) → IsSound opening → KeepsMeaning opening image → IsLeftSound opening image
left_sound opening image sound keeps = record {
  sound = λ v h. (keeps v h (sound v h)).0;
  may_have = fewer_may_have opening image (λ v h. (keeps v h (sound v h)).1);
}

-- a volume of which no file changes
pub same_volume : (old new : Image) (v : ℕ) → SameVolume v new old → IsSoundVolume (files_of old v) → IsSoundVolume (files_of new v) × HasFewerCopies (files_of old v) (files_of new v)
same_volume old new v same sound =
    let files = same_files v new old same in
    (subst IsSoundVolume (sym files) sound, same_copies (files_of old v) (files_of new v) files)

-- only files of one volume change
pub one_volume : (old new : Image) (v : ℕ) → v < max_volumes → ((k : Place) → ((server : ℕ) (kind : Kind) → k ≢ place_of v server kind false) → new k ≡ old k)
    → (IsSoundVolume (files_of old v) → IsSoundVolume (files_of new v) × HasFewerCopies (files_of old v) (files_of new v)) → KeepsMeaning old new
one_volume old new v h others here w k = elim (cases_eq w v) [
  | inl same ↦ subst (λ u. IsSoundVolume (files_of old u) → IsSoundVolume (files_of new u) × HasFewerCopies (files_of old u) (files_of new u)) (sym same) here
  | inr other ↦ same_volume old new w (others_left w v new old k h other (λ p none. others p (λ server kind. none server kind false)))
]

-- ---- temporary files

-- they are no volume's
pub keeps_temps : (old new : Image) → ((k : Place) → ((v server : ℕ) (kind : Kind) → v < max_volumes → k ≢ place_of v server kind true) → new k ≡ old k) → KeepsMeaning old new
keeps_temps old new same v h = same_volume old new v (λ server kind. same (place_of v server kind false) (λ w t c k. apart server kind w t c k (cases_eq v w)))
  where
    apart : (server : ℕ) (kind : Kind) (w t : ℕ) (c : Kind) → w < max_volumes → (v ≡ w) ⊎ (v ≢ w) → place_of v server kind false ≢ place_of w t c true
    apart server kind w t c k (inl one) = subst (λ u. place_of v server kind false ≢ place_of u t c true) one (temp_apart v server t kind c h)
    apart server kind w t c k (inr other) = volumes_apart v w server t kind c false true h k other

-- ---- a reduced plain volume

module _ (files left : VolumeFiles) (home : ℕ) (at : index_home files ≡ Some home) (reduced : IsReduced files left home) where
  -- it stays at its home
  pub reduced_home : index_home left ≡ Some home
  reduced_home =
      let found = lowest-exists (has_index left) home reduced.has_index.0 reduced.has_index.1 in
      let low = lowest-some (has_index left) found.0 found.1 in
      let was = lowest-some (has_index files) home at in
      found.1 ∙ ap Some (neither found.0 (λ less. true≢false (sym (reduced.had_index found.0 (low.1, low.0.passes)).1 ∙ was.0.first found.0 (omega arith) less))
      (λ more. true≢false (sym reduced.has_index.1 ∙ low.0.first home (omega arith) more)))
    where
      neither : (a : ℕ) → (a < home → ⊥) → (home < a → ⊥) → a ≡ home
      neither a less more = elim (cases_lt a home) [
        | inl h ↦ absurd (less h)
        | inr h ↦ elim (cases_lt home a) [
          | inl k ↦ absurd (more k)
          | inr k ↦ omega (arith, h, k)
        ]
      ]

  was_plain : IsPlain files
  was_plain = is_plain files home at

  module _ (sound : IsSoundVolume files) where
    rules : IsSoundPlain files
    rules = plain_rules files was_plain sound

    beside : (server : ℕ) → HasIndex left server → KeepsBeside files left server
    beside server has = let had = reduced.had_index server has in reduced.keeps server has (rules.entries_follow.all_but_one server had) (rules.super.there server had)

    left_home : HasOneHome left
    left_home = record { same = λ s t h k. (beside s h).same ∙ rules.one_home.same s t (reduced.had_index s h) (reduced.had_index t k) ∙ sym (beside t k).same }

    -- means what it meant
    pub reduced_means : volume_of left ≡ volume_of files
    reduced_means = plain_means left home reduced_home ∙ ap (λ ps. Some (fold_records ps)) (beside home reduced.has_index).same ∙ sym (plain_means files home at)

    -- stays sound
    pub reduced_sound : IsSoundVolume left
    reduced_sound = sound_plain left (is_plain left home reduced_home) (record {
      entries_follow = record { all_but_one = λ server has. (beside server has).follows };
      one_home = left_home;
      super = record { there = λ server has. (beside server has).super };
    })

    -- and has fewer copies
    pub reduced_copies : HasFewerCopies files left
    reduced_copies = record {
      survives = survives;
      leaves = λ lost h.
          let now = some_index (lose_files left lost) (h.index (is_plain left home reduced_home)) in
          inr (plain_loss left lost (is_plain left home reduced_home) left_home now.0 now.1 ∙ reduced_means);
    }
      where
        some_index : (f : VolumeFiles) → IsSome (index_home f) → (s : ℕ) × (index_home f ≡ Some s)
        some_index f some = by_home (index_home f) refl some
          where
            by_home : (o : Option ℕ) → index_home f ≡ o → IsSome o → (s : ℕ) × (index_home f ≡ Some s)
            by_home None p q = absurd (true≢false (sym q))
            by_home (Some s) p q = (s, p)

        had_server : (server : ℕ) (b : Bool) → server < max_servers → is_some (if b then None else index_at left server) ≡ true → is_some (if b then None else index_at files server) ≡ true
        had_server server true h e = e
        had_server server false h e = (reduced.had_index server (h, e)).1

        survives : (lost : ℕ → Bool) → SurvivesIn left (lose_files left lost) → SurvivesIn files (lose_files files lost)
        survives lost h = record {
          index = λ p.
              let now = some_index (lose_files left lost) (h.index (is_plain left home reduced_home)) in
              let low = lowest-some (has_index (lose_files left lost)) now.0 now.1 in
              ap is_some (lowest-exists (has_index (lose_files files lost)) now.0 low.1 (ap is_some (index_at-lost files lost now.0) ∙ had_server now.0 (lost now.0) low.1 (ap is_some (sym (index_at-lost left lost now.0)) ∙ low.0.passes))).1;
          shards = λ c. absurd (not_both files was_plain c);
        }

pub keeps_plain : (old new : Image) (v home : ℕ) → v < max_volumes → index_home (files_of old v) ≡ Some home
    → ((k : Place) → ((server : ℕ) (kind : Kind) → k ≢ place_of v server kind false) → new k ≡ old k) → IsReduced (files_of old v) (files_of new v) home → KeepsMeaning old new
keeps_plain old new v home h at others reduced =
    one_volume old new v h others (λ sound. (reduced_sound (files_of old v) (files_of new v) home at reduced sound, reduced_copies (files_of old v) (files_of new v) home at reduced sound))

-- ---- the files at the home, cut to what is kept

-- a server whose index and data file are as they were
pub same_beside : (files left : VolumeFiles) (server : ℕ) → dat_at left server ≡ dat_at files server → index_at left server ≡ index_at files server
    → FollowsRecords (dat_bytes files server) (index_bytes files server) → IsTrue (has_super (dat_bytes files server)) → KeepsBeside files left server
same_beside files left server dat idx follows super =
    let dats : dat_bytes left server ≡ dat_bytes files server = ap (λ (o : Option (List ℕ)). unwrap_or o []) dat in
    let idxs : index_bytes left server ≡ index_bytes files server = ap (λ (o : Option (List ℕ)). unwrap_or o []) idx in
    record {
      same = λ i. kept_records (dats i) (idxs i);
      follows = subst (λ d. FollowsRecords d (index_bytes left server)) (sym dats) (subst (FollowsRecords (dat_bytes files server)) (sym idxs) follows);
      super = ap has_super dats ∙ super;
    }

-- the bytes of a file that is as it was, or cut
bytes_cut : (n : ℕ) (old new : Option (List ℕ)) → IsSameOrCut n old new → (unwrap_or new [] ≡ unwrap_or old []) ⊎ (unwrap_or new [] ≡ take n (unwrap_or old []))
bytes_cut n old new (inl same) = inl (ap (λ (o : Option (List ℕ)). unwrap_or o []) same)
bytes_cut n old new (inr cut) = inr (ap (λ (o : Option (List ℕ)). unwrap_or o []) cut ∙ by_file old)
  where
    by_number : (m : ℕ) → ◌≡◌ {A = List ℕ} [] (take m [])
    by_number zero = refl
    by_number (suc m) = refl

    by_file : (o : Option (List ℕ)) → unwrap_or (option_map (take n) o) [] ≡ take n (unwrap_or o [])
    by_file None = by_number n
    by_file (Some bytes) = refl

stands_cut : (n : ℕ) (old new : Option (List ℕ)) → IsSameOrCut n old new → is_some new ≡ is_some old
stands_cut n old new (inl same) = ap is_some same
stands_cut n old new (inr cut) = ap is_some cut ∙ by_file old
  where
    by_file : (o : Option (List ℕ)) → is_some (option_map (take n) o) ≡ is_some o
    by_file None = refl
    by_file (Some bytes) = refl

-- What is kept of the first two files is kept of the others, and these meet the rules.
record KeepsBoth (dat idx new_dat new_idx : List ℕ) : Type 0 where
  pub same : kept_records new_dat new_idx ≡ kept_records dat idx
  pub follows : FollowsRecords new_dat new_idx
  pub super : IsTrue (has_super new_dat)

module _ (dat idx : List ℕ) (follows : FollowsRecords dat idx) (super : IsTrue (has_super dat)) where
  long : 8 ≤ length dat
  long = has_super-long dat super

  both_cut : (new_dat new_idx : List ℕ) → (new_dat ≡ dat) ⊎ (new_dat ≡ take (end_of (kept_records dat idx)) dat) → (new_idx ≡ idx) ⊎ (new_idx ≡ take (16 * kept dat idx) idx) → KeepsBoth dat idx new_dat new_idx
  both_cut new_dat new_idx a b = ⊎_elim
      (λ d. ⊎_elim
      (λ i. by_files d i (record { same = refl; follows = follows; super = super }))
      (λ i. by_files d i (record { same = cut_index-kept_records dat idx long; follows = cut_index-follows dat idx long; super = super }))
      b)
      (λ d. ⊎_elim
      (λ i. by_files d i (record { same = cut_dat-kept_records dat idx long; follows = cut_dat-follows dat idx long follows; super = cut_super dat idx long super }))
      (λ i. by_files d i (record {
        same = exact_kept_records (take (end_of (kept_records dat idx)) dat) (take (16 * kept dat idx) idx) (kept_records dat idx) (cut_exact dat idx long);
        follows = exact_follows (take (end_of (kept_records dat idx)) dat) (take (16 * kept dat idx) idx) (kept_records dat idx) (cut_exact dat idx long);
        super = cut_super dat idx long super;
      }))
      b)
      a
    where
      by_files : {d i : List ℕ} → new_dat ≡ d → new_idx ≡ i → KeepsBoth dat idx d i → KeepsBoth dat idx new_dat new_idx
      by_files {d} {i} p q keeps = subst (λ x. KeepsBoth dat idx x new_idx) (sym p) (subst (λ y. KeepsBoth dat idx d y) (sym q) keeps)

-- Each of the two files at the home is as it was or cut to the lengths to keep, and the other servers have what they had.
record IsCutAtHome (files left : VolumeFiles) (home : ℕ) : Type 0 where
  pub lengths : ℕ × ℕ
  pub keeps : KeepsLengths (dat_bytes files home) (index_bytes files home) lengths
  pub dat_file : IsSameOrCut lengths.0 (dat_at files home) (dat_at left home)
  pub idx_file : IsSameOrCut lengths.1 (index_at files home) (index_at left home)
  pub others : (server : ℕ) → server ≢ home → (dat_at left server ≡ dat_at files server) × (index_at left server ≡ index_at files server)

module _ (files left : VolumeFiles) (home : ℕ) (at : index_home files ≡ Some home) (cut : IsCutAtHome files left home) where
  cut_at_home : FollowsRecords (dat_bytes files home) (index_bytes files home) → IsTrue (has_super (dat_bytes files home)) → KeepsBeside files left home
  cut_at_home follows super =
      let dat = dat_bytes files home in
      let idx = index_bytes files home in
      let counts = cut.keeps.follows follows in
      let dat_end : cut.lengths.0 ≡ end_of (kept_records (dat_bytes files home) (index_bytes files home)) = cut.keeps.dat_length ∙ counts.1 in
      let idx_end : cut.lengths.1 ≡ 16 * kept (dat_bytes files home) (index_bytes files home) = cut.keeps.idx_length ∙ ap (λ n. 16 * n) counts.0 in
      let dats = ⊎_elim (λ e. inl e) (λ e. inr (e ∙ ap (λ n. take n (dat_bytes files home)) dat_end)) (bytes_cut cut.lengths.0 (dat_at files home) (dat_at left home) cut.dat_file) in
      let idxs = ⊎_elim (λ e. inl e) (λ e. inr (e ∙ ap (λ n. take n (index_bytes files home)) idx_end)) (bytes_cut cut.lengths.1 (index_at files home) (index_at left home) cut.idx_file) in
      let both = both_cut (dat_bytes files home) (index_bytes files home) follows super (dat_bytes left home) (index_bytes left home) dats idxs in
      record { same = both.same; follows = both.follows; super = both.super }

  cut_reduced : IsReduced files left home
  cut_reduced =
      let has = home_has files home at in
      record {
        has_index = (has.0, stands_cut cut.lengths.1 (index_at files home) (index_at left home) cut.idx_file ∙ has.1);
        had_index = λ server left_has. elim (cases_eq server home) [
          | inl same ↦ subst (HasIndex files) (sym same) has
          | inr other ↦ (left_has.0, ap is_some (sym (cut.others server other).1) ∙ left_has.1)
        ];
        keeps = λ server left_has. elim (cases_eq server home) [
          | inl same ↦ subst (λ s. FollowsRecords (dat_bytes files s) (index_bytes files s) → IsTrue (has_super (dat_bytes files s)) → KeepsBeside files left s) (sym same) cut_at_home
          | inr other ↦ (λ follows super. same_beside files left server (cut.others server other).0 (cut.others server other).1 follows super)
        ];
      }

-- files of one volume of different kinds stand elsewhere
pub kinds_apart : (v s t : ℕ) (a b : Kind) → v < max_volumes → IsKind a → IsKind b → a ≢ b → place_of v s a false ≢ place_of v t b false
kinds_apart v s t a b h is fits other e =
    let f : FileName = record { volume = v; kind = a; temp = false } in
    let g : FileName = record { volume = v; kind = b; temp = false } in
    let names : f ≡ g = same_name f g (record { volume = h; kind = is }) (record { volume = h; kind = fits }) (ap (λ (q : Place). q.1) e) in
    other (ap (λ (n : FileName). n.kind) names)

cpx_no_dat : Cpx ≢ Dat
cpx_no_dat e = cc

cpx_no_idx : Cpx ≢ Idx
cpx_no_idx e = cc

module _ (old new : Image) (v home : ℕ) (lengths : ℕ × ℕ) (h : v < max_volumes) (at : index_home (files_of old v) ≡ Some home)
    (unmade : stands (files_of old v) home Cpx ≡ false) (keeps : KeepsLengths (dat_bytes (files_of old v) home) (index_bytes (files_of old v) home) lengths)
    (others : (k : Place) → k ≢ place_of v home Dat false → k ≢ place_of v home Idx false → new k ≡ old k)
    (dat_file : IsSameOrCut lengths.0 (old (place_of v home Dat false)) (new (place_of v home Dat false))) (idx_file : IsSameOrCut lengths.1 (old (place_of v home Idx false)) (new (place_of v home Idx false))) where
  pub still_unmade : stands (files_of new v) home Cpx ≡ false
  still_unmade = ap is_some (others (place_of v home Cpx false) (kinds_apart v home home Cpx Dat h tt tt cpx_no_dat) (kinds_apart v home home Cpx Idx h tt tt cpx_no_idx)) ∙ unmade

  named_cut : (n : ℕ) (a b c d : Option (List ℕ)) → a ≡ b → c ≡ d → IsSameOrCut n b d → IsSameOrCut n a c
  named_cut n a b c d p q (inl same) = inl (q ∙ same ∙ sym p)
  named_cut n a b c d p q (inr cut) = inr (q ∙ cut ∙ ap (option_map (take n)) (sym p))

  pub reduced_cut : IsReduced (files_of old v) (files_of new v) home
  reduced_cut = cut_reduced (files_of old v) (files_of new v) home at (record {
    lengths = lengths;
    keeps = keeps;
    dat_file = named_cut lengths.0 _ _ _ _ (dat_named (files_of old v) home unmade) (dat_named (files_of new v) home still_unmade) dat_file;
    idx_file = named_cut lengths.1 _ _ _ _ (index_named (files_of old v) home unmade) (index_named (files_of new v) home still_unmade) idx_file;
    others = λ server other. (
      same_dat_at (files_of old v) (files_of new v) server (elsewhere server Cpx other) (elsewhere server Cpd other) (elsewhere server Dat other),
      same_index_at (files_of old v) (files_of new v) server (elsewhere server Cpx other) (elsewhere server Idx other),
    );
  })
    where
      elsewhere : (server : ℕ) (kind : Kind) → server ≢ home → new (place_of v server kind false) ≡ old (place_of v server kind false)
      elsewhere server kind other = others (place_of v server kind false) (λ e. other (ap (λ (q : Place). q.0) e)) (λ e. other (ap (λ (q : Place). q.0) e))

  pub keeps_cut : KeepsMeaning old new
  keeps_cut = keeps_plain old new v home h at (λ k none. others k (none home Dat) (none home Idx)) reduced_cut

-- what a stop leaves of a firm file while it is cut
pub cut_left : (n : ℕ) (file : Option File) (found : Option (List ℕ)) → IsFirm file → IsCutOrNot n file found → IsSameOrCut n (disk.standing file) found
cut_left n file found firm (inl left) = inl (firm_left file found firm left)
cut_left n file found firm (inr left) = inr (firm_left (cut_to n file) found (cut_firm n file firm) left ∙ cut_standing n file)

-- ---- copies taken away, and what a vacuum made renamed

-- where the home keeps its index, fewer copies are a reduced volume
pub reduced_thinned : (files left : VolumeFiles) (home : ℕ) → IsThinned files left → HasIndex left home → IsReduced files left home
reduced_thinned files left home thinned has = record {
  has_index = has;
  had_index = thinned_stood files left thinned;
  keeps = λ s left_has. same_beside files left s (thinned.beside s left_has) (thinned_same files left thinned s left_has.1);
}

-- ---- a volume with no mode

none_by : (a : Option ℕ) (b c d : Bool) → (if is_some a then Some mode.Plain else if b then Some mode.Coded else if c || d then Some mode.Lost else None) ≡ None → (a ≡ None) × (c ≡ false) × (d ≡ false)
none_by (Some s) b c d e = absurd cc
none_by None true c d e = absurd cc
none_by None false true d e = absurd cc
none_by None false false true e = absurd cc
none_by None false false false e = (refl, refl, refl)

-- what passes is in the list of those that pass
some_passes : (test : ℕ → Bool) (a n i : ℕ) → a ≤ i → i < a + n → test i ≡ true → 0 < length (filter test (range_with_len a n))
some_passes test a zero i h k e = absurd (omega arith)
some_passes test a (suc n) i h k e = elim (cases_eq a i) [
  | inl same ↦ by_first (test a) (ap test same ∙ e)
  | inr other ↦ by_rest (test a) (some_passes test (a + 1) n i (omega arith) (omega arith) e)
]
  where
    by_first : (b : Bool) → b ≡ true → 0 < length (cond b (a ∷ filter test (range_with_len (a + 1) n)) (filter test (range_with_len (a + 1) n)))
    by_first true e = omega arith
    by_first false e = absurd (true≢false (sym e))

    by_rest : (b : Bool) → 0 < length (filter test (range_with_len (a + 1) n)) → 0 < length (cond b (a ∷ filter test (range_with_len (a + 1) n)) (filter test (range_with_len (a + 1) n)))
    by_rest true more = omega arith
    by_rest false more = more

-- it has no index, no shard and no long data file
pub absent_by : (files : VolumeFiles) → mode_of files ≡ None → IsAbsent files
unfolding mode_of standing
absent_by files none =
    let parts = none_by (index_home files) (nat_le (data_count (ratio_of files)) (length (standing files))) (nat_lt 0 (length (standing files))) (has_long_dat files) none in
    record {
      no_index = lowest-none (has_index files) parts.0;
      no_shard = λ server i h k. not_passing (stands files server (Shard i)) (λ e. true≢false (sym (shard_stands server i h k e) ∙ parts.1));
      short_dat = λ server h. ltb-false 8 (length (bytes_at files server Dat)) (lowest-none (λ s. nat_lt 8 (length (bytes_at files s Dat))) (no_lowest (lowest (λ s. nat_lt 8 (length (bytes_at files s Dat)))) parts.2) server h);
    }
  where
    not_passing : (b : Bool) → (b ≡ true → ⊥) → b ≡ false
    not_passing true fails = absurd (fails refl)
    not_passing false fails = refl

    no_lowest : (o : Option ℕ) → is_some o ≡ false → o ≡ None
    no_lowest None e = refl
    no_lowest (Some s) e = absurd (true≢false e)

    shard_stands : (server i : ℕ) → server < max_servers → i < max_shards → stands files server (Shard i) ≡ true → nat_lt 0 (length (standing files)) ≡ true
    shard_stands server i h k e =
        let found = lowest-exists (λ s. stands files s (Shard i)) server h e in
        lt-ltb 0 (length (standing files)) (some_passes (λ i. is_some (shard_home files i)) 0 max_shards i (omega arith) (omega (arith, k)) (ap is_some found.1))

-- nor has what is left of it
absent_left : (files left : VolumeFiles) → ((server : ℕ) (kind : Kind) → IsSameOrGone (files server kind) (left server kind)) → IsAbsent files → IsAbsent left
absent_left files left each absent = record {
  no_index = λ server h. no_index server h (stands files server Cpx) refl;
  no_shard = λ server i h k. gone server (Shard i) (absent.no_shard server i h k);
  short_dat = λ server h. short server (absent.short_dat server h) (each server Dat);
}
  where
    gone : (server : ℕ) (kind : Kind) → stands files server kind ≡ false → stands left server kind ≡ false
    gone server kind e = ⊎_elim (λ same. ap is_some same ∙ e) (λ none. ap is_some none) (each server kind)

    no_index : (server : ℕ) → server < max_servers → (b : Bool) → stands files server Cpx ≡ b → has_index left server ≡ false
    no_index server h true e = absurd (true≢false (sym (made_has files server e) ∙ absent.no_index server h))
    no_index server h false e =
        ap is_some (index_named left server (gone server Cpx e)) ∙ gone server Idx (ap is_some (sym (index_named files server e)) ∙ absent.no_index server h)

    short : (server : ℕ) → length (bytes_at files server Dat) ≤ 8 → IsSameOrGone (files server Dat) (left server Dat) → length (bytes_at left server Dat) ≤ 8
    short server h (inl same) = subst (λ (o : Option (List ℕ)). length (unwrap_or o []) ≤ 8) (sym same) h
    short server h (inr none) = subst (λ (o : Option (List ℕ)). length (unwrap_or o []) ≤ 8) (sym none) (omega arith)

lost_or_same : (files : VolumeFiles) (lost : ℕ → Bool) (server : ℕ) (kind : Kind) → IsSameOrGone (files server kind) (lose_files files lost server kind)
lost_or_same files lost server kind = by_lost (lost server)
  where
    by_lost : (b : Bool) → IsSameOrGone (files server kind) (if b then None else files server kind)
    by_lost true = inr refl
    by_lost false = inl refl

module _ (files left : VolumeFiles) (each : (server : ℕ) (kind : Kind) → IsSameOrGone (files server kind) (left server kind)) (none : mode_of files ≡ None) where
  was_absent : IsAbsent files
  was_absent = absent_by files none

  stays_absent : IsAbsent left
  stays_absent = absent_left files left each was_absent

  pub absent_stays : mode_of left ≡ None
  absent_stays = absent_mode left stays_absent

  pub absent_stays_sound : IsSoundVolume left
  absent_stays_sound = absent_sound left stays_absent

  -- after each loss both are absent
  pub absent_copies : HasFewerCopies files left
  absent_copies = record {
    survives = λ lost h. record { index = λ p. absurd (none_some (sym none ∙ p)); shards = λ c. absurd (none_some (sym none ∙ c)) };
    leaves = λ lost h.
        inr (absent_means (lose_files left lost) (absent_left left (lose_files left lost) (lost_or_same left lost) stays_absent) ∙ sym (absent_means files was_absent));
  }
    where
      none_some : {m : Mode} → None ≡ Some m → ⊥
      none_some e = cc

pub keeps_absent : (old new : Image) (v : ℕ) → v < max_volumes → mode_of (files_of old v) ≡ None
    → ((k : Place) → ((server : ℕ) (kind : Kind) → k ≢ place_of v server kind false) → new k ≡ old k)
    → ((server : ℕ) (kind : Kind) → (files_of new v server kind ≡ files_of old v server kind) ⊎ (files_of new v server kind ≡ None)) → KeepsMeaning old new
keeps_absent old new v h none others each =
    one_volume old new v h others (λ sound. (absent_stays_sound (files_of old v) (files_of new v) each none, absent_copies (files_of old v) (files_of new v) each none))
