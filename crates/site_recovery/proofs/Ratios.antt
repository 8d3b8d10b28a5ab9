-- Whether the texts of a lost volume tell one ratio.
use Rattle.std.proofs.Common.{◌≡◌, ◌≢◌, inl, inr, ℕ, ◌<◌, length, sym, ◌∙◌, ap}
use Rattle.std.specs.Prelude.{◌⊎◌, Contains, slice_index_or}
use Rattle.std.specs.List.{All}
use Rattle.std.proofs.lemmas.List.Elements.{All-contains}
use Rattle.world_model.specs.declared.types.Ratio.{Ratio}
use Rattle.image_meaning.specs.Files.{VolumeFiles}
use Rattle.image_meaning.specs.Coded.{ratio_at}
use Rattle.image_meaning.specs.Sound.{HasOneRatio}
use Rattle.coded_volume.specs.declared.checking.holders.Holders.{Holders}
use Rattle.coded_volume.specs.Checking.{AreHolders}

module _ (files : VolumeFiles) (holders : Holders) (are : AreHolders files holders) (ratio : Ratio) (first : ratio_at files holders.first ≡ ratio) where
  pub ratios_pass : All (λ server. ratio_at files server ≡ ratio) holders.others.items → HasOneRatio files
  ratios_pass others = record { same = λ s t a b. tells s (are.all s a) ∙ sym (tells t (are.all t b)) }
    where
      tells : (server : ℕ) → (server ≡ holders.first) ⊎ Contains holders.others.items server → ratio_at files server ≡ ratio
      tells server (inl same) = ap (ratio_at files) same ∙ first
      tells server (inr one) = All-contains (λ s. ratio_at files s ≡ ratio) holders.others.items server others one

  pub ratios_differ : (k d : ℕ) → k < length holders.others.items → ratio_at files (slice_index_or holders.others.items k d) ≢ ratio → HasOneRatio files → ⊥
  ratios_differ k d within other one = other (one.same (slice_index_or holders.others.items k d) holders.first (are.others k d within) are.first ∙ first)
