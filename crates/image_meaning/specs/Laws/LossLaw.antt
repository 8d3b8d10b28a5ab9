-- The law of loss of a coded volume, whole.
use Rattle.std.proofs.Common.{◌≡◌, ℕ, ◌+◌, ◌*◌, ◌≤◌, Bool, true, false, List, length, Option, Some, None, is_some, refl, sym, ◌∙◌, ap, subst, arith}
use Rattle.std.specs.Prelude.{◌||◌, nat_lt, nat_le, if◌then◌else◌, option_map}
use Rattle.std.specs.Option.{option_map_or}
use Rattle.std.specs.FinSet as set
use mathlib.Core.Bool.{true≢false}
use Rattle.std.proofs.lemmas.Bool.{leb-true, le-leb}
use Rattle.world_model.specs.declared.types.Mode.TheVariants as mode
use Rattle.needle_record.specs.Records.{records, fold_records}
use Rattle.stripe_layout.specs.declared.Info.{Info}
use Rattle.image_meaning.specs.Files.{VolumeFiles, lose_files, has_index, standing, is_holder}
use Rattle.image_meaning.specs.Plain.{index_home}
use Rattle.image_meaning.specs.Coded.{ratio_of, volume_info, dat_of, deleted, deleted_at, coded_volume, coded_with, without_ids}
use Rattle.world_model.specs.Ratios.{data_count}
use Rattle.image_meaning.specs.Meaning.{mode_of, volume_of, volume_by, has_long_dat}
use Rattle.image_meaning.specs.Sound.{IsCoded, IsHolder, HasInfo, HasStripes, HasJournal}
use Rattle.image_meaning.specs.Laws.Servers.{lowest-some, lowest-none}
use Rattle.image_meaning.specs.Laws.PlainLoss.{index_stood}
use Rattle.image_meaning.specs.Laws.CodedLoss.{info_left, dat_left, some_holder, any_range, ratio_is, ratio_left, some_standing}
use Rattle.image_meaning.specs.Laws.Journals.{deleted_left}
use Rattle.image_meaning.specs.Ends.{IsStage}

-- a coded volume has no index, and shards that suffice
pub record HasCodedForm (files : VolumeFiles) : Type 0 where
  pub no_index : index_home files ≡ None
  pub enough : data_count (ratio_of files) ≤ length (standing files)

coded_by : (a : Option ℕ) (b c : Bool) → (if is_some a then Some mode.Plain else if b then Some mode.Coded else if c then Some mode.Lost else None) ≡ Some mode.Coded → (a ≡ None) × (b ≡ true)
coded_by (Some s) b c e = absurd cc
coded_by None true c e = (refl, refl)
coded_by None false true e = absurd cc
coded_by None false false e = absurd cc

pub coded_form : (files : VolumeFiles) → IsCoded files → HasCodedForm files
unfolding mode_of
coded_form files coded =
    let found = coded_by (index_home files) (nat_le (data_count (ratio_of files)) (length (standing files))) _ coded in
    record { no_index = found.0; enough = leb-true _ _ found.1 }

pub is_coded : (files : VolumeFiles) → HasCodedForm files → IsCoded files
unfolding mode_of
is_coded files form =
    ap (λ o. if is_some o then Some mode.Plain else if nat_le (data_count (ratio_of files)) (length (standing files)) then Some mode.Coded else if nat_lt 0 (length (standing files)) || has_long_dat files then Some mode.Lost else None) form.no_index
    ∙ ap (λ b. if b then Some mode.Coded else if nat_lt 0 (length (standing files)) || has_long_dat files then Some mode.Lost else None) (le-leb _ _ form.enough)

-- so many shards suffice by what its text says
pub enough_by : (files left : VolumeFiles) (info : Info) → volume_info files ≡ Some info → data_count (ratio_of files) ≤ length (standing left) → data_count info.geometry.ratio ≤ length (standing left)
enough_by files left info e enough = subst (λ r. data_count r ≤ length (standing left)) (ratio_is files info e) enough

pub no_index_left : (files : VolumeFiles) (lost : ℕ → Bool) → index_home files ≡ None → index_home (lose_files files lost) ≡ None
no_index_left files lost none = by_home (index_home (lose_files files lost)) refl
  where
    by_home : (o : Option ℕ) → index_home (lose_files files lost) ≡ o → index_home (lose_files files lost) ≡ None
    by_home None e = e
    by_home (Some s) e =
        let found = lowest-some (has_index (lose_files files lost)) s e in
        absurd (true≢false (sym (index_stood files lost s (found.1, found.0.passes)).1 ∙ lowest-none (has_index files) none s found.1))

-- what is left of a coded volume is coded
pub left_is_coded : (files : VolumeFiles) (lost : ℕ → Bool) (info : Info) → HasInfo files info → index_home files ≡ None → data_count (ratio_of files) ≤ length (standing (lose_files files lost)) → IsCoded (lose_files files lost)
left_is_coded files lost info has none enough = is_coded (lose_files files lost) (record {
  no_index = no_index_left files lost none;
  enough = subst (λ r. data_count r ≤ length (standing (lose_files files lost))) (sym (ratio_left files lost info has (some_standing files (lose_files files lost) enough))) enough;
})

-- After a survivable loss a coded volume is coded, of the same data file; the deleted ids are those of the longest journal, or all but its last.
pub coded_loss : (files : VolumeFiles) (lost : ℕ → Bool) (info : Info) → IsCoded files → HasInfo files info → HasStripes files info → (journal : HasJournal files info)
    → data_count (ratio_of files) ≤ length (standing (lose_files files lost))
    → (ids : List ℕ) × IsStage journal.longest ids × (volume_of (lose_files files lost) ≡ Some (coded_with (dat_of files) info ids)) × ((server : ℕ) × IsHolder (lose_files files lost) server × (deleted_at (lose_files files lost) server ≡ ids))
unfolding volume_of coded_volume
coded_loss files lost info coded has stripes journal enough =
    let form = coded_form files coded in
    let left : VolumeFiles = lose_files files lost in
    let some = some_standing files (lose_files files lost) enough in
    let left_coded : IsCoded (lose_files files lost) = left_is_coded files lost info has form.no_index enough in
    let home = some_holder (lose_files files lost) some in
    let low = lowest-some (is_holder (lose_files files lost)) home.0 home.1 in
    let ids = deleted_left files lost info journal (any_range (is_holder (lose_files files lost)) 0 64 home.0 (omega arith) (omega (arith, low.1)) low.0.passes) in (
      ids.0,
      ids.1,
      ap (option_map (volume_by (lose_files files lost))) left_coded
          ∙ ap (λ o. Some (record { mode = mode.Coded; used = option_map_or (λ info. info.dat_size) o 0 + 32 * set.len (deleted (lose_files files lost)); needles = without_ids (fold_records (records (dat_of (lose_files files lost)))).needles (deleted (lose_files files lost)) }))
          (info_left files lost info has some)
          ∙ ap (λ d. Some (record { mode = mode.Coded; used = info.dat_size + 32 * set.len (deleted (lose_files files lost)); needles = without_ids (fold_records (records d)).needles (deleted (lose_files files lost)) }))
          (dat_left files lost info has stripes (enough_by files files info has.first form.enough) (enough_by files (lose_files files lost) info has.first enough))
          ∙ ap (λ s. Some (record { mode = mode.Coded; used = info.dat_size + 32 * set.len s; needles = without_ids (fold_records (records (dat_of files))).needles s })) ids.2,
      (ids.3.0, (ids.3.1, ids.3.2), ids.3.3),
    )
