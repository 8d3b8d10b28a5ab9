-- The form of a volume without index, by its shards.
use Rattle.std.proofs.Common.{◌≡◌, ◌⊎◌, inl, inr, ℕ, suc, ◌<◌, ◌≤◌, Bool, true, false, cond, List, [], ◌∷◌, length, map, Option, None, is_some, refl, sym, ◌∙◌, ap, subst}
use Rattle.std.specs.Prelude.{count_by, filter, option_and_then}
use Rattle.std.proofs.lemmas.List.FromFn.{fill_by_all}
use Rattle.std.proofs.lemmas.List.Sums.{length-filter}
use Rattle.std.proofs.lemmas.Bool.{cases_lt}
use Rattle.world_model.specs.declared.types.Ratio.{Ratio}
use Rattle.world_model.specs.Ratios.{data_count}
use Rattle.site_model.specs.declared.error.OpenFault.{OpenFault}
use Rattle.site_model.specs.declared.error.OpenFault.TheVariants as open_fault
use Rattle.file_names.specs.Names.{max_shards}
use Rattle.image_meaning.specs.Files.{VolumeFiles, all_shards, shard_home, standing}
use Rattle.image_meaning.specs.Plain.{index_home}
use Rattle.image_meaning.specs.Coded.{info_at, told_ratio, ratio_at, volume_info, ratio_of}
use Rattle.image_meaning.specs.Sound.{IsCoded, IsLost, HasOneRatio}
use Rattle.image_meaning.specs.Laws.LossLaw.{is_coded}
use Rattle.image_meaning.specs.Laws.Survivable.{no_holder, is_lost}
use Rattle.coded_volume.specs.declared.checking.holders.Holders.{Holders}
use Rattle.coded_volume.specs.declared.checking.Checked.{Checked}
use Rattle.coded_volume.specs.Checking.{AreHolders, Breaks, IsChecked, TellsFirst, TellsRule}
use Rattle.coded_volume.specs.Checking.{IsSiteFault}
use Rattle.site_recovery.specs.CodedGone.{HasShardHomes}
use Rattle.site_recovery.specs.CodedSettling.{IsFoundCoded, FailsShards}

-- the shards with a home are those that stand
homes_counted : (files : VolumeFiles) (homes : List (Option ℕ)) → length homes ≡ max_shards → HasShardHomes files homes → count_by is_some homes ≡ length (standing files)
unfolding standing
homes_counted files homes all each =
    sym (length-filter is_some homes)
    ∙ ap (λ (os : List (Option ℕ)). length (filter is_some os)) (fill_by_all (shard_home files) homes max_shards None all each)
    ∙ filtered all_shards
  where
    filtered : (xs : List ℕ) → length (filter is_some (map (shard_home files) xs)) ≡ length (filter (λ i. is_some (shard_home files i)) xs)
    filtered [] = refl
    filtered (x ∷ xs) = by_test (is_some (shard_home files x)) (filtered xs)
      where
        by_test : (b : Bool) → length (filter is_some (map (shard_home files) xs)) ≡ length (filter (λ i. is_some (shard_home files i)) xs)
            → length (cond b (shard_home files x ∷ filter is_some (map (shard_home files) xs)) (filter is_some (map (shard_home files) xs))) ≡ length (cond b (x ∷ filter (λ i. is_some (shard_home files i)) xs) (filter (λ i. is_some (shard_home files i)) xs))
        by_test true rest = ap suc rest
        by_test false rest = rest

module _ (files : VolumeFiles) (holders : Holders) (are : AreHolders files holders) (none : index_home files ≡ None) (ratio : Ratio) (is : ratio ≡ ratio_at files holders.first)
    (homes : List (Option ℕ)) (all : length homes ≡ max_shards) (each : HasShardHomes files homes) (count : ℕ) (counted : count ≡ count_by is_some homes) where
  told : ratio_of files ≡ ratio
  unfolding ratio_of volume_info
  told = ap (λ (o : Option ℕ). told_ratio (option_and_then (info_at files) o)) are.lowest ∙ sym is

  count_is : count ≡ length (standing files)
  count_is = counted ∙ homes_counted files homes all each

  pub few_lost : count < data_count ratio → IsLost files
  few_lost few = is_lost files none
      (subst (λ (r : Ratio). length (standing files) < data_count r) (sym told) (subst (λ n. n < data_count ratio) count_is few))
      (some (cases_lt 0 (length (standing files))))
    where
      some : (0 < length (standing files)) ⊎ (length (standing files) ≤ 0) → 0 < length (standing files)
      some (inl more) = more
      some (inr none_stands) = absurd (no_holder files holders.first are.first none_stands)

  pub enough_coded : data_count ratio ≤ count → IsCoded files
  enough_coded enough = is_coded files (record {
    no_index = none;
    enough = subst (λ (r : Ratio). data_count r ≤ length (standing files)) (sym told) (subst (λ n. data_count ratio ≤ n) count_is enough);
  })

pub found_by : (files : VolumeFiles) (checked : Checked) → IsCoded files → IsChecked files checked.info checked.deleted.items → IsFoundCoded files checked
found_by files checked coded is = record { tested = record { coded = coded; passes = is.passes; longest = is.longest }; told = is.told }

-- ---- why a test fails

module _ (v : ℕ) (files : VolumeFiles) where
  pub site_fails : (fault : OpenFault) → IsSiteFault fault → FailsShards v files fault
  site_fails (open_fault.Unsound volume rule) why = absurd why
  site_fails (open_fault.Fault server) why = tt
  site_fails open_fault.Memory why = tt

  pub ratios_fail : IsLost files → (fault : OpenFault) → Breaks v 4 (HasOneRatio files → ⊥) fault → FailsShards v files fault
  ratios_fail lost (open_fault.Unsound volume rule) broken = (broken.0, inr (lost, broken.1, broken.2))
  ratios_fail lost (open_fault.Fault server) broken = tt
  ratios_fail lost open_fault.Memory broken = tt

  pub coded_fails : IsCoded files → (fault : OpenFault) → TellsRule v fault → TellsFirst files fault → FailsShards v files fault
  coded_fails coded (open_fault.Unsound volume rule) of first = (of.0, inl (coded, first))
  coded_fails coded (open_fault.Fault server) of first = tt
  coded_fails coded open_fault.Memory of first = tt

  -- what the test of the ratios says where the site tells its contents
  pub told_breaks : (tells : Type 0) (fault : OpenFault) → tells → Breaks v 4 (tells → HasOneRatio files → ⊥) fault → Breaks v 4 (HasOneRatio files → ⊥) fault
  told_breaks tells (open_fault.Unsound volume rule) is broken = (broken.0, broken.1, broken.2 is)
  told_breaks tells (open_fault.Fault server) is broken = tt
  told_breaks tells open_fault.Memory is broken = tt
