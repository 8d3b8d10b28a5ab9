-- All tests together.
use Rattle.std.proofs.Common.{◌≡◌, ◌⊎◌, ℕ, List, Some, inl, inr, refl, sym, ◌∙◌, subst}
use Rattle.stripe_layout.specs.declared.Info.{Info}
use Rattle.site_model.specs.declared.error.OpenFault.{OpenFault}
use Rattle.site_model.specs.declared.error.OpenFault.TheVariants as open_fault
use Rattle.image_meaning.specs.Files.{VolumeFiles}
use Rattle.image_meaning.specs.Coded.{volume_info}
use Rattle.image_meaning.specs.Sound.{IsCoded, HasInfo, HasOneIndex, HasLengths, HasJournal, KeepsInfo, KeepsIndex}
use Rattle.image_meaning.specs.CodedTests.{FailsCodedFirst}
use Rattle.image_meaning.specs.Laws.Survivable.{not_coded_lost}
use Rattle.coded_volume.specs.Checking.{Breaks, TellsRule, TellsFirst, IsChecked, HasLongest}

pub all_pass : (files : VolumeFiles) (info : Info) (ids : List ℕ) → HasInfo files info → HasOneIndex files info → HasLengths files info → HasLongest files info ids → IsChecked files info ids
all_pass files info ids texts index lengths longest = record {
  passes = record { info = info; texts = texts; index = index; lengths = lengths; journal = longest.journal };
  told = texts.first;
  longest = longest.longest;
}

-- ---- the first that fails

module _ (files : VolumeFiles) (coded : IsCoded files) where
  pub texts_fail : ((info : Info) → ¬ HasInfo files info) → FailsCodedFirst files 4
  texts_fail none = inl (refl, λ keeps. let (info, has) = keeps.coded coded in none info has)

  module _ (info : Info) (texts : HasInfo files info) where
    keeps_info : KeepsInfo files
    keeps_info = record { coded = λ c. (info, texts); lost = λ l. absurd (not_coded_lost files coded l) }

    same : (other : Info) → volume_info files ≡ Some other → info ≡ other
    same other e = some_is info other (sym texts.first ∙ e)
      where
        some_is : (x y : Info) → Some x ≡ Some y → x ≡ y
        some_is x y e = cc

    pub index_fails : ¬ HasOneIndex files info → FailsCodedFirst files 5
    index_fails none = inr (inl (refl, keeps_info, λ keeps. none (keeps coded info texts.first)))

    module _ (index : HasOneIndex files info) where
      keeps_index : KeepsIndex files
      keeps_index c other e = subst (HasOneIndex files) (same other e) index

      pub lengths_fail : ¬ HasLengths files info → FailsCodedFirst files 6
      lengths_fail none = inr (inr (inl (refl, keeps_info, keeps_index, λ keeps. none (keeps coded info texts.first))))

      pub journal_fails : HasLengths files info → ¬ HasJournal files info → FailsCodedFirst files 8
      journal_fails lengths none = inr (inr (inr (refl, keeps_info, keeps_index, (λ c other e. subst (HasLengths files) (same other e) lengths), λ keeps. none (keeps coded info texts.first))))

-- ---- what a test tells

-- its rule is one of those that are tested
pub tells_rule : (v rule : ℕ) (Broken : Type 0) → (rule ≡ 4) ⊎ (rule ≡ 5) ⊎ (rule ≡ 6) ⊎ (rule ≡ 8) → (fault : OpenFault) → Breaks v rule Broken fault → TellsRule v fault
tells_rule v rule Broken is (open_fault.Unsound volume told) (same, at, broken) = (same, subst (λ r. (r ≡ 4) ⊎ (r ≡ 5) ⊎ (r ≡ 6) ⊎ (r ≡ 8)) (sym at) is)
tells_rule v rule Broken is (open_fault.Fault server) h = tt
tells_rule v rule Broken is open_fault.Memory h = tt

-- and the first of them that fails, where what it found makes it so
pub tells_first : (files : VolumeFiles) (v rule : ℕ) (Broken : Type 0) → (Broken → FailsCodedFirst files rule) → (fault : OpenFault) → Breaks v rule Broken fault → TellsFirst files fault
tells_first files v rule Broken fails (open_fault.Unsound volume told) (same, at, broken) = subst (FailsCodedFirst files) (sym at) (fails broken)
tells_first files v rule Broken fails (open_fault.Fault server) h = tt
tells_first files v rule Broken fails open_fault.Memory h = tt
