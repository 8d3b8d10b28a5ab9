-- A recovery of volumes of any form, from what its parts do. For the recovery of coded volumes, to come.
use Rattle.std.proofs.Common.{◌≡◌, ℕ, ◌<◌, List, map, Option, Some, None, sym, ◌∙◌, ap, subst}
use Rattle.std.specs.Prelude.{slice_index_or, Contains}
use Rattle.std.specs.List.{All}
use Rattle.std.specs.List.Sorted.{IsStrictlyIncreasing}
use Rattle.std.proofs.lemmas.List.Elements.{All-contains, Contains-get_or}
use Rattle.site_model.specs.Disk.{Disk}
use Rattle.image_meaning.specs.Files.{contents}
use Rattle.image_meaning.specs.Sound.{IsSound}
use Rattle.site_recovery.specs.declared.forms.Group.{Group}
use Rattle.site_recovery.specs.declared.forms.Listed.{Listed}
use Rattle.site_recovery.specs.declared.forms.ListedForm.{ListedForm}
use Rattle.site_recovery.specs.declared.forms.ListedForm.TheVariants as form
use Rattle.site_recovery.specs.declared.forms.TestedGroup.{TestedGroup}
use Rattle.site_recovery.specs.declared.recovered.Recovered.{Recovered}
use Rattle.site_recovery.specs.Homes.{home_row}
use Rattle.site_recovery.specs.Recovering.{IsNamed, IsTidied, Recovers}
use Rattle.site_recovery.specs.Changes.{Settles}
use Rattle.site_recovery.specs.Listing.{AreFilesIn, AreInOrder, AreGroups}
use Rattle.site_recovery.specs.Removing.{AreTempsGone}
use Rattle.site_recovery.specs.Opening.{AreTestedGroups, IsWithin}
use Rattle.site_recovery.specs.Answering.{IsAnswerOf, home_in, plain_home}
use Rattle.site_recovery.specs.FormSettling.{AreDue, HasSettled, every}
use Rattle.site_recovery.specs.FormRecovering.{AreRecovered, FindsForms}
use Rattle.site_recovery.proofs.FormsFound.{finds_forms}
use Rattle.site_recovery.proofs.FormsRecovered.{tested_due, forms_recovered, forms_keep, tidied_forms}
use Rattle.site_recovery.proofs.Members.{filter_map_has}
use Rattle.site_recovery.proofs.Rounds.{volumes_rise}
use Rattle.site_recovery.proofs.Taking.{settles_on}
use Rattle.site_recovery.proofs.Whole.{recovers_by}

-- ---- the lists, whatever a site tells

module _ (found listed : List Listed) (same : listed ≡ found) (groups passed : List Group) (alike : passed ≡ groups) (tested : List TestedGroup) (are : AreGroups listed groups) (of : map (λ (t : TestedGroup). t.group) tested ≡ passed) where
  pub groups_at : AreGroups found (map (λ (t : TestedGroup). t.group) tested)
  groups_at = subst (AreGroups found) (sym (of ∙ alike)) (subst (λ (ls : List Listed). AreGroups ls groups) same are)

  pub tested_rise : (given : List TestedGroup) → given ≡ tested → IsStrictlyIncreasing (map (λ (t : TestedGroup). t.group.volume) given)
  tested_rise given is = subst (λ (ts : List TestedGroup). IsStrictlyIncreasing (map (λ (t : TestedGroup). t.group.volume) ts)) (sym is) (volumes_rise tested found groups_at)

-- ---- the homes

home_within : (servers : ℕ) (f : ListedForm) (home : ℕ) → IsWithin servers f → home_in f ≡ Some home → home < servers
home_within servers (form.Plain at dat idx) home within e = subst (λ h. h < servers) some_is within
  where
    some_is : at ≡ home
    some_is = cc
home_within servers (form.Coded copies checked) home within e = absurd cc
home_within servers form.Lost home within e = absurd cc
home_within servers form.Absent home within e = absurd cc

row_home : (v : ℕ) (o : Option ℕ) (row : ℕ × ℕ) → home_row v o ≡ Some row → o ≡ Some row.1
row_home v None row e = absurd cc
row_home v (Some home) row e = let pair : (v, home) ≡ row = cc in ap (λ (p : ℕ × ℕ). Some p.1) pair

pub plain_below : (servers : ℕ) (tested : List TestedGroup) (answer : Recovered) → IsAnswerOf servers tested answer → (now : ℕ) → All (λ (t : TestedGroup). IsWithin now t.form) tested → now ≡ servers
    → All (λ (row : ℕ × ℕ). row.1 < servers) answer.plain.items
plain_below servers tested answer is now within same k d short =
    let row : ℕ × ℕ = slice_index_or answer.plain.items k d in
    let one = filter_map_has plain_home tested row (subst (λ (l : List (ℕ × ℕ)). Contains l row) is.plain (Contains-get_or answer.plain.items k d short)) in
    subst (λ n. row.1 < n) same
    (home_within now one.0.form row.1 (All-contains (λ (t : TestedGroup). IsWithin now t.form) tested one.0 within one.1) (row_home one.0.group.volume (home_in one.0.form) row one.2))

-- ---- where the site tells its contents

module _ (servers : ℕ) (start : Disk) (found : List Listed) (order : AreInOrder servers found) (are : AreFilesIn start.files found) (tested : List TestedGroup) (groups : AreGroups found (map (λ (t : TestedGroup). t.group) tested))
    (passed : List Group) (of : map (λ (t : TestedGroup). t.group) tested ≡ passed) (mid : Disk) (look : mid ≡ start) (seen : AreTestedGroups mid.files passed tested) where
  were : AreTestedGroups start.files (map (λ (t : TestedGroup). t.group) tested) tested
  were = subst (λ (gs : List Group). AreTestedGroups start.files gs tested) (sym of) (subst (λ (d : Disk). AreTestedGroups d.files passed tested) look seen)

  pub run_finds : (answer : Recovered) → IsAnswerOf servers tested answer → All (λ (t : TestedGroup). IsWithin servers t.form) tested → FindsForms answer start.files
  run_finds answer is within = finds_forms start.files servers found order are tested groups were answer is within

  module _ (bare : Disk) (cleared : Settles IsNamed mid bare) where
    from_start : Settles IsNamed start bare
    from_start = subst (λ (d : Disk). Settles IsNamed d bare) look cleared

    pub run_clears : Recovers start bare
    run_clears = recovers_by from_start

    module _ (gone : AreTempsGone mid.files bare.files) where
      gone_start : AreTempsGone start.files bare.files
      gone_start = subst (λ (d : Disk). AreTempsGone d.files bare.files) look gone

      pub run_due : (listed : List Listed) (given : List TestedGroup) → listed ≡ found → given ≡ tested → AreDue bare.files listed every given
      run_due listed given same alike =
          subst (λ (ls : List Listed). AreDue bare.files ls every given) (sym same)
          (subst (λ (ts : List TestedGroup). AreDue bare.files found every ts) (sym alike) (tested_due start.files servers found order are tested groups were bare.files gone_start))

      module _ (end : Disk) (settled : Settles IsNamed bare end) where
        pub run_settles : Recovers start end
        run_settles = recovers_by (settles_on gone_start.settled from_start settled)

        module _ (given : List TestedGroup) (alike : given ≡ tested) (did : HasSettled every given bare.files end.files) where
          all : HasSettled every tested bare.files end.files
          all = subst (λ (ts : List TestedGroup). HasSettled every ts bare.files end.files) alike did

          pub run_recovers : AreRecovered start.files end.files
          run_recovers = forms_recovered start.files servers found order are tested groups were bare.files gone_start end.files all

          pub run_tidies : IsSound (contents start.files) → IsTidied start.files end.files
          run_tidies sound =
              tidied_forms start.files end.files run_recovers (forms_keep start.files servers found order are tested groups were bare.files gone_start end.files all) sound (λ s. all.settled (gone_start.settled s))
