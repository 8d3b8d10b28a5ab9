-- Which images mean the same needles after every survivable loss.
use Rattle.std.proofs.Common.{◌≡◌, ⊎_elim, ℕ, Bool, true, false, List, [], Option, Some, None, refl, sym, ◌∙◌, ap}
use Rattle.std.specs.Prelude.{◌||◌, nat_lt, nat_le, is_some, length, if◌then◌else◌, option_map, unwrap_or}
use Rattle.std.proofs.lemmas.Bool.{ltb-true}
use Rattle.site_model.specs.Standing.{lose}
use Rattle.world_model.specs.declared.types.Mode.{Mode}
use Rattle.world_model.specs.declared.types.Mode.TheVariants as mode
use Rattle.file_names.specs.declared.Kind.{Kind}
use Rattle.file_names.specs.declared.Kind.TheVariants.{Ecj}
use Rattle.stripe_layout.specs.declared.Info.{Info}
use Rattle.image_meaning.specs.Files.{VolumeFiles, files_of, lose_files, standing}
use Rattle.image_meaning.specs.Plain.{index_home}
use Rattle.image_meaning.specs.Coded.{ratio_of, dat_of, deleted_at, coded_with}
use Rattle.wire_num.specs.Pairs.{pairs}
use Rattle.world_model.specs.Ratios.{data_count}
use Rattle.image_meaning.specs.Meaning.{has_long_dat, mode_of, volume_of, volume_by, max_volumes}
use Rattle.image_meaning.specs.Sound.{IsCoded, IsHolder}
use Rattle.image_meaning.specs.Ends.{IsCodedAfterLoss, IsAfterLoss}
use Rattle.image_meaning.specs.Laws.CodedLoss.{holder_left, holder_stood}
use Rattle.image_meaning.specs.Laws.Losses.{law_of_loss}
use Rattle.promise_uses.specs.Maps.{needles_of}
use Rattle.promise_uses.specs.Lives.{EqualJournalsAreDecided, PlainIsDecided}
use Rattle.promise_uses.proofs.Losing.{none_lost, none_lost_survives}

means_by : (files : VolumeFiles) (o : Option Mode) → mode_of files ≡ o → volume_of files ≡ option_map (volume_by files) o
unfolding volume_of
means_by files o e = ap (option_map (volume_by files)) e

-- no file of a volume has the mode that is kept in memory alone
never_sealed : (files : VolumeFiles) → mode_of files ≡ Some mode.Sealed → ⊥
unfolding mode_of
never_sealed files e = by_tests (is_some (index_home files)) (nat_le (data_count (ratio_of files)) (length (standing files))) (nat_lt 0 (length (standing files)) || has_long_dat files) e
  where
    by_tests : (a b c : Bool) → (if a then Some mode.Plain else if b then Some mode.Coded else if c then Some mode.Lost else None) ≡ Some mode.Sealed → ⊥
    by_tests true b c e = absurd (cc e)
    by_tests false true c e = absurd (cc e)
    by_tests false false true e = absurd (cc e)
    by_tests false false false e = absurd (cc e)

-- the deleted ids after a loss are those of a holder that stood
stood_ids : (files : VolumeFiles) (lost : ℕ → Bool) (ids : List ℕ) → (server : ℕ) × IsHolder (lose_files files lost) server × (deleted_at (lose_files files lost) server ≡ ids)
    → (server : ℕ) × IsHolder files server × (deleted_at files server ≡ ids)
stood_ids files lost ids (server, holds, is) =
    (server, holder_stood files lost server holds, sym (ap (λ (f : Kind → Option (List ℕ)). pairs (unwrap_or (f Ecj) [])) (holder_left files lost server holds.1)) ∙ is)

info_is : (x y : Info) → Some x ≡ Some y → x ≡ y
info_is x y e = cc

-- so that two losses that leave it coded leave the same, where all journals are equal
same_coded : (files : VolumeFiles) (lost other : ℕ → Bool) → IsCodedAfterLoss files (lose_files files lost) → IsCodedAfterLoss files (lose_files files other)
    → ((s t : ℕ) → IsHolder files s → IsHolder files t → deleted_at files s ≡ deleted_at files t) → volume_of (lose_files files lost) ≡ volume_of (lose_files files other)
same_coded files lost other one two equal =
    let a = stood_ids files lost one.ids one.of_holder in
    let b = stood_ids files other two.ids two.of_holder in
    let ids : one.ids ≡ two.ids = sym a.2 ∙ equal a.0 b.0 a.1 b.1 ∙ b.2 in
    let info : one.info ≡ two.info = info_is one.info two.info (sym one.has_info ∙ two.has_info) in
    one.means ∙ (λ i. Some (coded_with (dat_of files) (info i) (ids i))) ∙ sym two.means

volume_decided : (files : VolumeFiles) (lost : ℕ → Bool) → IsAfterLoss files (lose_files files lost) → IsAfterLoss files (lose_files files none_lost)
    → (IsCoded files → (s t : ℕ) → IsHolder files s → IsHolder files t → deleted_at files s ≡ deleted_at files t)
    → needles_of (volume_of (lose_files files lost)) ≡ needles_of (volume_of files)
volume_decided files lost after itself equal = by_mode (mode_of files) refl
  where
    by_mode : (o : Option Mode) → mode_of files ≡ o → needles_of (volume_of (lose_files files lost)) ≡ needles_of (volume_of files)
    by_mode None e = ap needles_of (after.absent e ∙ sym (means_by files None e))
    by_mode (Some mode.Plain) e = ap needles_of (after.plain e)
    by_mode (Some mode.Coded) e = ap needles_of (same_coded files lost none_lost (after.coded e) (itself.coded e) (equal e))
    by_mode (Some mode.Lost) e = ⊎_elim (λ is. ap needles_of (is ∙ sym (means_by files (Some mode.Lost) e))) (λ is. ap needles_of is ∙ ap needles_of (sym (means_by files (Some mode.Lost) e))) (after.lost e)
    by_mode (Some mode.Sealed) e = absurd (never_sealed files e)

pub equal_is_decided : EqualJournalsAreDecided
equal_is_decided image sound equal v it may = ap needles_of may.means ∙ by_test (nat_lt v max_volumes) refl
  where
    by_test : (b : Bool) → nat_lt v max_volumes ≡ b
        → needles_of (if b then volume_of (files_of (lose may.lost image) v) else None) ≡ needles_of (if b then volume_of (files_of image v) else None)
    by_test true e =
        let below = ltb-true v max_volumes e in
        volume_decided (files_of image v) may.lost (law_of_loss image may.lost sound may.survivable v below) (law_of_loss image none_lost sound (none_lost_survives image) v below) (equal v below)
    by_test false e = refl

pub plain_is_decided : PlainIsDecided
plain_is_decided image sound uncoded = equal_is_decided image sound (λ v below coded. absurd (uncoded v below coded))
