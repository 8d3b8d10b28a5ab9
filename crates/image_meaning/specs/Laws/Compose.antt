-- Losses one after another are one loss.
use Rattle.std.proofs.Common.{◌≡◌, ℕ, ◌≤◌, Bool, true, false, List, length, Option, Some, None, refl, ◌∙◌, subst}
use Rattle.std.specs.Prelude.{◌||◌, if◌then◌else◌, nat_lt, IsSome}
use Rattle.std.proofs.lemmas.Bool.{false≢true}
use Rattle.world_model.specs.Ratios.{data_count}
use Rattle.image_meaning.specs.Files.{VolumeFiles, files_of, lose_files, standing}
use Rattle.image_meaning.specs.Plain.{index_home}
use Rattle.image_meaning.specs.Meaning.{volume_of, max_volumes}
use Rattle.image_meaning.specs.Sound.{IsPlain, IsSoundVolume}
use Rattle.image_meaning.specs.Ends.{SurvivesIn, LossesCompose}
use Rattle.image_meaning.specs.Laws.PlainLoss.{is_plain}
use Rattle.image_meaning.specs.Laws.CodedLoss.{some_standing, ratio_left}
use Rattle.image_meaning.specs.Laws.LossLaw.{coded_form, left_is_coded}
use Rattle.image_meaning.specs.Laws.Survivable.{coded_rules}

-- lost by the one or by the other
abbrev pub either_lost : (ℕ → Bool) → (ℕ → Bool) → ℕ → Bool
either_lost a b server = a server || b server

pub lose_twice : (files : VolumeFiles) (a b : ℕ → Bool) → lose_files (lose_files files a) b ≡ lose_files files (either_lost a b)
lose_twice files a b = λ i server kind. one (a server) (b server) (files server kind) i
  where
    one : (x y : Bool) (o : Option (List ℕ)) → (if y then None else if x then None else o) ≡ (if x || y then None else o)
    one true true o = refl
    one true false o = refl
    one false y o = refl

still_plain : (left : VolumeFiles) (o : Option ℕ) → index_home left ≡ o → IsSome o → IsPlain left
still_plain left None e some = absurd (false≢true some)
still_plain left (Some s) e some = is_plain left s e

-- A sound volume that survives two losses survives them at once.
pub survives_twice : (files : VolumeFiles) (a b : ℕ → Bool) → IsSoundVolume files → SurvivesIn files (lose_files files a) → SurvivesIn (lose_files files a) (lose_files (lose_files files a) b)
    → SurvivesIn files (lose_files files (either_lost a b))
survives_twice files a b sound first second = subst (λ (left : VolumeFiles). SurvivesIn files left) (lose_twice files a b) (record {
  index = λ plain. second.index (still_plain (lose_files files a) (index_home (lose_files files a)) refl (first.index plain));
  shards = λ coded.
      let rules = coded_rules files coded sound in
      let same = ratio_left files a rules.info rules.texts (some_standing files (lose_files files a) (first.shards coded)) in
      let left_coded = left_is_coded files a rules.info rules.texts (coded_form files coded).no_index (first.shards coded) in
      subst (λ r. data_count r ≤ length (standing (lose_files (lose_files files a) b))) same (second.shards left_coded);
})

pub losses_compose : LossesCompose
losses_compose image lost v it sound survivable may = record {
  lost = either_lost lost may.lost;
  survivable = λ q below. survives_twice (files_of image q) lost may.lost (sound q below) (survivable q below) (may.survivable q below);
  means = may.means ∙ (λ i. if nat_lt v max_volumes then volume_of (lose_twice (files_of image v) lost may.lost i) else None);
}
