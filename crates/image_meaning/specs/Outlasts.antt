-- What a volume's files hold, whichever servers are lost. Its last laws are for the store with coded volumes, to come.
use Rattle.std.proofs.Common.{◌≡◌, ◌⊎◌, inl, inr, ⊎_elim, ℕ, ◌+◌, ◌*◌, ◌<◌, ◌≤◌, Bool, true, false, cond, List, [], ◌∷◌, ◌++◌, length, Option, Some, None, IsTrue, refl, sym, ◌∙◌, ap, subst, arith}
use Rattle.std.specs.Prelude.{◌||◌, ◌&&◌, nat_eq, flat_map, unwrap_or, option_map}
use Rattle.std.specs.Option.{option_map_or}
use Rattle.std.specs.List.{list_any}
use Rattle.std.specs.Cmp.{nat_cmp_total}
use Rattle.std.specs.FinMap.{nat_cmp-IsAntisymmetric}
use Rattle.std.specs.FinSet as set
use Rattle.std.specs.List.{AllByRecursion}
use Rattle.world_model.specs.declared.types.Mode.TheVariants as mode
use Rattle.world_model.specs.World.{Volume}
use Rattle.world_model.specs.Ratios.{data_count}
use Rattle.file_names.specs.declared.Kind.{Kind}
use Rattle.file_names.specs.declared.Kind.TheVariants.{Ecj}
use Rattle.wire_num.specs.Pairs.{pairs}
use Rattle.volume_forms.specs.Forms.{has_super}
use Rattle.needle_record.specs.Records.{Placed, records, fold_records}
use Rattle.stripe_layout.specs.declared.Info.{Info}
use Rattle.image_meaning.specs.Files.{VolumeFiles, lose_files, is_holder, all_servers, standing}
use Rattle.image_meaning.specs.Coded.{ratio_of, volume_info, dat_of, deleted_at, deleted, coded_volume, coded_with, without_ids}
use Rattle.image_meaning.specs.Plain.{kept_records, FollowsRecords}
use Rattle.image_meaning.specs.Laws.Plain.{IsAlone, IsAbsent, alone_plain, alone_means, alone_sound, absent_mode, absent_sound}
use Rattle.image_meaning.specs.Meaning.{mode_of, volume_of, volume_by, lost_volume}
use Rattle.image_meaning.specs.Sound.{IsPlain, IsCoded, IsHolder, IsSoundVolume, IsSoundCoded}
use Rattle.image_meaning.specs.Ends.{SurvivesIn, IsStage}
use Rattle.image_meaning.specs.Laws.Servers.{lowest-some}
use Rattle.image_meaning.specs.Laws.Points.{range_below}
use Rattle.image_meaning.specs.Laws.CodedLoss.{holder_left, holder_stood, some_holder, some_standing, any_range, info_left, dat_left}
use Rattle.image_meaning.specs.Laws.LossLaw.{coded_form, enough_by, left_is_coded, coded_loss}
use Rattle.image_meaning.specs.Laws.Journals.{snoc_same}
use Rattle.image_meaning.specs.Laws.Losses.{after_loss}
use Rattle.image_meaning.specs.Laws.Survivable.{sound_coded}

-- The files are sound, and what a survivable loss leaves of them has P.
pub record Outlasts (P : Option Volume → Type 0) (files : VolumeFiles) : Type 0 where
  pub sound : IsSoundVolume files
  pub left : (lost : ℕ → Bool) → SurvivesIn files (lose_files files lost) → P (volume_of (lose_files files lost))

pub outlasts_more : {P Q : Option Volume → Type 0} (files : VolumeFiles) → ((it : Option Volume) → P it → Q it) → Outlasts P files → Outlasts Q files
outlasts_more files more outlasts = record { sound = outlasts.sound; left = λ lost survives. more (volume_of (lose_files files lost)) (outlasts.left lost survives) }

-- after a loss it is there, but a lost volume may be gone
abbrev pub IsLeftAs : Option Volume → Option Volume → Type 0
IsLeftAs it left = (left ≡ it) ⊎ ((it ≡ Some lost_volume) × (left ≡ None))

-- The files mean this, and so does what a survivable loss leaves of them.
pub record IsHeld (files : VolumeFiles) (it : Option Volume) : Type 0 where
  pub means : volume_of files ≡ it
  pub outlasts : Outlasts (IsLeftAs it) files

-- ---- a sound volume that isn't coded

pub held_plain : (files : VolumeFiles) → IsPlain files → IsSoundVolume files → IsHeld files (volume_of files)
held_plain files plain sound = record {
  means = refl;
  outlasts = record { sound = sound; left = λ lost survives. inl ((after_loss files lost sound survives).plain plain) };
}

pub held_absent : (files : VolumeFiles) → mode_of files ≡ None → IsSoundVolume files → IsHeld files None
unfolding volume_of
held_absent files absent sound = record {
  means = ap (option_map (volume_by files)) absent;
  outlasts = record { sound = sound; left = λ lost survives. inl ((after_loss files lost sound survives).absent absent) };
}

pub held_lost : (files : VolumeFiles) → mode_of files ≡ Some mode.Lost → IsSoundVolume files → IsHeld files (Some lost_volume)
unfolding volume_of
held_lost files lost_now sound = record {
  means = ap (option_map (volume_by files)) lost_now;
  outlasts = record { sound = sound; left = λ lost survives. ⊎_elim (λ e. inl e) (λ e. inr (refl, e)) ((after_loss files lost sound survives).lost lost_now) };
}

-- An index and its data file alone, of which these records are kept: what a put, a cut and a stop within them leave.
pub held_records : (files temps : VolumeFiles) (home : ℕ) (dat idx : List ℕ) (ps : List Placed) → IsAlone files home dat idx → FollowsRecords dat idx → IsTrue (has_super dat) → kept_records dat idx ≡ ps
    → IsHeld files (Some (fold_records ps))
held_records files temps home dat idx ps alone follows super kept =
    subst (IsHeld files) (alone_means files temps home dat idx alone ∙ ap (λ qs. Some (fold_records qs)) kept)
    (held_plain files (alone_plain files temps home dat idx alone) (alone_sound files temps home dat idx alone follows super))

-- No index and no shard, and data files of a super block at most: what a stop within the making of a volume leaves.
pub held_unmade : (files : VolumeFiles) → IsAbsent files → IsHeld files None
held_unmade files absent = held_absent files (absent_mode files absent) (absent_sound files absent)

-- ---- a coded volume whose journals are equal

has : ℕ → List ℕ → Bool
has q ids = list_any (λ y. nat_eq y q) ids

or_assoc : (a b c : Bool) → ((a || b) || c) ≡ (a || (b || c))
or_assoc true b c = refl
or_assoc false b c = refl

has-append : (q : ℕ) (a b : List ℕ) → has q (a ++ b) ≡ (has q a || has q b)
unfolding has
has-append q [] b = refl
has-append q (x ∷ a) b = ap (λ r. nat_eq x q || r) (has-append q a b) ∙ sym (or_assoc (nat_eq x q) (has q a) (has q b))

or_and : (a b : Bool) → (a || (b && a)) ≡ a
or_and true b = refl
or_and false true = refl
or_and false false = refl

module _ (holds : ℕ → Bool) (ids_at : ℕ → List ℕ) (ids : List ℕ) (same : (s : ℕ) → s < 64 → holds s ≡ true → ids_at s ≡ ids) where
  -- equal lists joined have the elements of one
  joined : (q : ℕ) (xs : List ℕ) → AllByRecursion (λ s. s < 64) xs → has q (flat_map (λ s. cond (holds s) (ids_at s) []) xs) ≡ (list_any holds xs && has q ids)
  unfolding has
  joined q [] h = refl
  joined q (s ∷ xs) h = by_holds (joined q xs h.1) (holds s) refl
    where
      by_holds : has q (flat_map (λ s. cond (holds s) (ids_at s) []) xs) ≡ (list_any holds xs && has q ids)
          → (b : Bool) → holds s ≡ b → has q (cond b (ids_at s) [] ++ flat_map (λ s. cond (holds s) (ids_at s) []) xs) ≡ ((b || list_any holds xs) && has q ids)
      by_holds more false e = more
      by_holds more true e =
          has-append q (ids_at s) (flat_map (λ s. cond (holds s) (ids_at s) []) xs)
          ∙ ap (λ l. has q l || has q (flat_map (λ s. cond (holds s) (ids_at s) []) xs)) (same s h.0 e)
          ∙ ap (λ b. has q ids || b) more
          ∙ or_and (has q ids) (list_any holds xs)

-- each holder's journal deletes these ids
abbrev pub HasDeleted : VolumeFiles → List ℕ → Type 0
HasDeleted files ids = (server : ℕ) → IsHolder files server → deleted_at files server ≡ ids

module _ (files : VolumeFiles) (coded : IsCoded files) where
  any_holder : list_any (is_holder files) all_servers ≡ true
  any_holder =
      let form = coded_form files coded in
      let home = some_holder files (some_standing files files form.enough) in
      let low = lowest-some (is_holder files) home.0 home.1 in
      any_range (is_holder files) 0 64 home.0 (omega arith) (omega (arith, low.1)) low.0.passes

  -- it means the records of its data file, without those ids
  pub coded_is : (info : Info) (ids : List ℕ) → volume_info files ≡ Some info → HasDeleted files ids → volume_of files ≡ Some (coded_with (dat_of files) info ids)
  unfolding volume_of coded_volume deleted has
  coded_is info ids has_info same =
      ap (option_map (volume_by files)) coded
      ∙ ap (λ o. Some (record { mode = mode.Coded; used = option_map_or (λ info. info.dat_size) o 0 + 32 * set.len (deleted files); needles = without_ids (fold_records (records (dat_of files))).needles (deleted files) })) has_info
      ∙ ap (λ s. Some (record { mode = mode.Coded; used = info.dat_size + 32 * set.len s; needles = without_ids (fold_records (records (dat_of files))).needles s })) all_deleted
    where
      all_deleted : deleted files ≡ set.from_list ids
      all_deleted = set.same_set nat_cmp_total nat_cmp-IsAntisymmetric _ _ (λ q.
          set.contains-from_list_nat (flat_map (λ s. cond (is_holder files s) (deleted_at files s) []) all_servers) q
          ∙ joined (is_holder files) (deleted_at files) ids (λ s h e. same s (h, e)) q all_servers (range_below 0 64)
          ∙ ap (λ b. b && list_any (λ y. nat_eq y q) ids) any_holder
          ∙ sym (set.contains-from_list_nat ids q))

-- So it outlasts every survivable loss: no disk has a deletion that another lacks.
pub held_coded : (files : VolumeFiles) → IsCoded files → (rules : IsSoundCoded files) (ids : List ℕ) → HasDeleted files ids → IsHeld files (Some (coded_with (dat_of files) rules.info ids))
held_coded files coded rules ids same = record {
  means = coded_is files coded rules.info ids rules.texts.first same;
  outlasts = record { sound = sound_coded files coded rules; left = λ lost survives. inl (means_left lost (survives.shards coded)) };
}
  where
    means_left : (lost : ℕ → Bool) → data_count (ratio_of files) ≤ length (standing (lose_files files lost)) → volume_of (lose_files files lost) ≡ Some (coded_with (dat_of files) rules.info ids)
    means_left lost enough =
        let form = coded_form files coded in
        let left_coded : IsCoded (lose_files files lost) = left_is_coded files lost rules.info rules.texts form.no_index enough in
        coded_is (lose_files files lost) left_coded rules.info ids (info_left files lost rules.info rules.texts (some_standing files (lose_files files lost) enough))
        (λ s holder. ap (λ (f : Kind → Option (List ℕ)). pairs (unwrap_or (f Ecj) [])) (holder_left files lost s holder.1) ∙ same s (holder_stood files lost s holder))
        ∙ ap (λ d. Some (coded_with d rules.info ids)) (dat_left files lost rules.info rules.texts rules.stripes (enough_by files files rules.info rules.texts.first form.enough) (enough_by files (lose_files files lost) rules.info rules.texts.first enough))

-- While a deletion is written, holder by holder, a loss leaves the ids with the new one or without.
pub held_deleting : (files : VolumeFiles) → IsCoded files → (rules : IsSoundCoded files) (ids : List ℕ) (id : ℕ) → rules.journal.longest ≡ ids ++ id ∷ []
    → Outlasts (λ it. (it ≡ Some (coded_with (dat_of files) rules.info ids)) ⊎ (it ≡ Some (coded_with (dat_of files) rules.info (ids ++ id ∷ [])))) files
held_deleting files coded rules ids id longest = record {
  sound = sound_coded files coded rules;
  left = λ lost survives. let found = coded_loss files lost rules.info coded rules.texts rules.stripes rules.journal (survives.shards coded) in by_stage lost (found.0, found.1, found.2);
}
  where
    by_stage : (lost : ℕ → Bool) → (found : List ℕ) × IsStage rules.journal.longest found × (volume_of (lose_files files lost) ≡ Some (coded_with (dat_of files) rules.info found))
        → (volume_of (lose_files files lost) ≡ Some (coded_with (dat_of files) rules.info ids)) ⊎ (volume_of (lose_files files lost) ≡ Some (coded_with (dat_of files) rules.info (ids ++ id ∷ [])))
    by_stage lost (found, inl all, means) = inr (means ∙ ap (λ l. Some (coded_with (dat_of files) rules.info l)) (all ∙ longest))
    by_stage lost (found, inr (last, but_last), means) = inl (means ∙ ap (λ l. Some (coded_with (dat_of files) rules.info l)) (snoc_same found ids last id (sym but_last ∙ longest)))
