-- The law of loss, for each mode of a volume.
use Rattle.std.proofs.Common.{◌≡◌, ◌⊎◌, inl, inr, ⊎_elim, ℕ, ◌<◌, ◌≤◌, Bool, true, false, cond, [], length, Option, Some, None, is_some, refl, sym, ◌∙◌, ap, arith}
use Rattle.std.specs.Prelude.{◌||◌, nat_lt, nat_le, if◌then◌else◌, unwrap_or, IsSome, option_map}
use mathlib.Core.Bool.{true≢false}
use Rattle.std.proofs.lemmas.Bool.{cases_lt, leb-false, lt-leb, ltb-true, lt-ltb}
use Rattle.file_names.specs.declared.Kind.TheVariants.{Dat}
use Rattle.world_model.specs.declared.types.Mode.TheVariants as mode
use Rattle.image_meaning.specs.Files.{VolumeFiles, lose_files, bytes_at, lowest, standing}
use Rattle.image_meaning.specs.Plain.{index_home}
use Rattle.image_meaning.specs.Coded.{ratio_of}
use Rattle.world_model.specs.Ratios.{data_count}
use Rattle.image_meaning.specs.Meaning.{mode_of, volume_of, volume_by, lost_volume, has_long_dat}
use Rattle.image_meaning.specs.Sound.{IsPlain, IsCoded, HasOneRatio, IsSoundVolume}
use Rattle.image_meaning.specs.Ends.{SurvivesIn, IsCodedAfterLoss, IsAfterLoss, LawOfLoss, LossesKeepSoundness}
use Rattle.image_meaning.specs.Files.{files_of}
use Rattle.image_meaning.specs.Laws.Servers.{lowest-some, lowest-exists}
use Rattle.image_meaning.specs.Laws.PlainLoss.{plain_loss}
use Rattle.image_meaning.specs.Laws.CodedLoss.{dat_left, some_standing}
use Rattle.image_meaning.specs.Laws.LossLaw.{coded_form, coded_loss, no_index_left, enough_by}
use Rattle.image_meaning.specs.Laws.Survivable.{standing_left, few_left, coded_rules, survivable_sound}

-- neither plain nor coded
lost_by : (a : Option ℕ) (b c : Bool) → (if is_some a then Some mode.Plain else if b then Some mode.Coded else if c then Some mode.Lost else None) ≡ Some mode.Lost → (a ≡ None) × (b ≡ false)
lost_by (Some s) b c e = absurd cc
lost_by None true c e = absurd cc
lost_by None false c e = (refl, refl)

absent_by : (a : Option ℕ) (b c : Bool) → (if is_some a then Some mode.Plain else if b then Some mode.Coded else if c then Some mode.Lost else None) ≡ None → (a ≡ None) × (b ≡ false) × (c ≡ false)
absent_by (Some s) b c e = absurd cc
absent_by None true c e = absurd cc
absent_by None false true e = absurd cc
absent_by None false false e = (refl, refl, refl)

module _ (files : VolumeFiles) (lost : ℕ → Bool) where
  abbrev has_data : VolumeFiles → Bool
  has_data f = nat_lt 0 (length (standing f)) || has_long_dat f

  -- shards that are left and don't suffice
  not_enough : (n m : ℕ) → (n ≤ m → ⊥) → nat_le n m ≡ false
  not_enough n m h = ⊎_elim (λ few. lt-leb _ _ few) (λ enough. absurd (h enough)) (cases_lt m n)

  mode_left : index_home files ≡ None → (data_count (ratio_of (lose_files files lost)) ≤ length (standing (lose_files files lost)) → ⊥) → (c : Bool) → has_data (lose_files files lost) ≡ c
      → mode_of (lose_files files lost) ≡ (if c then Some mode.Lost else None)
  unfolding mode_of
  mode_left none few c e =
      let home = no_index_left files lost none in
      let fewer = not_enough (data_count (ratio_of (lose_files files lost))) (length (standing (lose_files files lost))) few in
      λ i. if is_some (home i) then Some mode.Plain else if fewer i then Some mode.Coded else if e i then Some mode.Lost else None

  pub lost_left : HasOneRatio files → mode_of files ≡ Some mode.Lost → (volume_of (lose_files files lost) ≡ Some lost_volume) ⊎ (volume_of (lose_files files lost) ≡ None)
  unfolding volume_of mode_of
  lost_left one is =
      let form = lost_by (index_home files) (nat_le (data_count (ratio_of files)) (length (standing files))) (has_data files) is in
      let few : length (standing files) < data_count (ratio_of files) = leb-false (data_count (ratio_of files)) (length (standing files)) form.1 in
      by_data (has_data (lose_files files lost)) (mode_left form.0 (few_left files lost one few) (has_data (lose_files files lost)) refl)
    where
      by_data : (c : Bool) → mode_of (lose_files files lost) ≡ (if c then Some mode.Lost else None) → (volume_of (lose_files files lost) ≡ Some lost_volume) ⊎ (volume_of (lose_files files lost) ≡ None)
      by_data true e = inl (ap (option_map (volume_by (lose_files files lost))) e)
      by_data false e = inr (ap (option_map (volume_by (lose_files files lost))) e)

  -- a long data file that is left stood before
  long_stood : has_long_dat (lose_files files lost) ≡ true → has_long_dat files ≡ true
  long_stood e = by_home (lowest (λ s. nat_lt 8 (length (bytes_at (lose_files files lost) s Dat)))) refl e
    where
      was_long : (s : ℕ) (b : Bool) → lost s ≡ b → nat_lt 8 (length (unwrap_or (cond b None (files s Dat)) [])) ≡ true → nat_lt 8 (length (bytes_at files s Dat)) ≡ true
      was_long s true p q = absurd cc
      was_long s false p q = q

      by_home : (o : Option ℕ) → lowest (λ s. nat_lt 8 (length (bytes_at (lose_files files lost) s Dat))) ≡ o → is_some o ≡ true → has_long_dat files ≡ true
      by_home None p q = absurd cc
      by_home (Some s) p q =
          let found = lowest-some (λ s. nat_lt 8 (length (bytes_at (lose_files files lost) s Dat))) s p in
          ap is_some (lowest-exists (λ s. nat_lt 8 (length (bytes_at files s Dat))) s found.1 (was_long s (lost s) refl found.0.passes)).1

  data_stood : has_data files ≡ false → has_data (lose_files files lost) ≡ false
  data_stood none = by_parts (nat_lt 0 (length (standing (lose_files files lost)))) (has_long_dat (lose_files files lost)) refl refl
    where
      or_true : (a b : Bool) → a ≡ true → (a || b) ≡ true
      or_true true b e = refl
      or_true false b e = absurd cc

      or_right : (a b : Bool) → b ≡ true → (a || b) ≡ true
      or_right true b e = refl
      or_right false b e = e

      by_parts : (a b : Bool) → nat_lt 0 (length (standing (lose_files files lost))) ≡ a → has_long_dat (lose_files files lost) ≡ b → (a || b) ≡ false
      by_parts true b p q =
          absurd (true≢false (sym (or_true (nat_lt 0 (length (standing files))) (has_long_dat files) (lt-ltb _ _ (omega (arith, standing_left files lost, ltb-true 0 (length (standing (lose_files files lost))) p)))) ∙ none))
      by_parts false true p q = absurd (true≢false (sym (or_right (nat_lt 0 (length (standing files))) (has_long_dat files) (long_stood q)) ∙ none))
      by_parts false false p q = refl

  pub absent_left : mode_of files ≡ None → volume_of (lose_files files lost) ≡ None
  unfolding volume_of mode_of
  absent_left is =
      let form = absent_by (index_home files) (nat_le (data_count (ratio_of files)) (length (standing files))) (has_data files) is in
      ap (option_map (volume_by (lose_files files lost))) (mode_left form.0 (λ enough. none_left form.2 (some_standing (lose_files files lost) (lose_files files lost) enough)) false (data_stood form.2))
    where
      or_true : (a b : Bool) → a ≡ true → (a || b) ≡ true
      or_true true b e = refl
      or_true false b e = absurd cc

      none_left : has_data files ≡ false → 0 < length (standing (lose_files files lost)) → ⊥
      none_left none some = true≢false (sym (or_true (nat_lt 0 (length (standing files))) (has_long_dat files) (lt-ltb _ _ (omega (arith, some, standing_left files lost)))) ∙ none)

  home_left : SurvivesIn files (lose_files files lost) → IsPlain files → (s : ℕ) × (index_home (lose_files files lost) ≡ Some s)
  home_left survives plain = by_home (index_home (lose_files files lost)) refl (survives.index plain)
    where
      by_home : (o : Option ℕ) → index_home (lose_files files lost) ≡ o → IsSome o → (s : ℕ) × (index_home (lose_files files lost) ≡ Some s)
      by_home None e some = absurd (true≢false (sym some))
      by_home (Some s) e some = (s, e)

  -- what a survivable loss leaves of one sound volume
  pub after_loss : IsSoundVolume files → SurvivesIn files (lose_files files lost) → IsAfterLoss files (lose_files files lost)
  after_loss sound survives = record {
    plain = λ p. let home = home_left survives p in plain_loss files lost p (sound.homes_rule p) home.0 home.1;
    coded = λ c. coded_after c;
    lost = λ l. lost_left (sound.info_rule.lost l) l;
    absent = absent_left;
  }
    where
      coded_after : IsCoded files → IsCodedAfterLoss files (lose_files files lost)
      coded_after c =
          let rules = coded_rules files c sound in
          let enough = survives.shards c in
          let found = coded_loss files lost rules.info c rules.texts rules.stripes rules.journal enough in
          record {
            info = rules.info;
            has_info = rules.texts.first;
            longest = rules.journal.longest;
            some_holder = rules.journal.some_holder;
            none_longer = rules.journal.each;
            ids = found.0;
            stage = found.1;
            same_dat = dat_left files lost rules.info rules.texts rules.stripes (enough_by files files rules.info rules.texts.first (coded_form files c).enough) (enough_by files (lose_files files lost) rules.info rules.texts.first enough);
            means = found.2;
            of_holder = found.3;
          }

pub law_of_loss : LawOfLoss
law_of_loss image lost sound survivable v h = after_loss (files_of image v) lost (sound v h) (survivable v h)

pub losses_keep_soundness : LossesKeepSoundness
losses_keep_soundness = survivable_sound
