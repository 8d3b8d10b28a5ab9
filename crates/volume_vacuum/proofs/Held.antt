-- By which two files a volume is held.
use Rattle.std.proofs.Common.{◌≡◌, ◌≢◌, inl, inr, ℕ, ◌<◌, List, Option, Some, None, is_some, refl, sym, ◌∙◌, ap, subst}
use Rattle.std.proofs.lemmas.Bool.{cases_eq}
use mathlib.Core.Bool.{true≢false}
use Rattle.site_model.specs.Counts.{max_servers}
use Rattle.site_model.specs.Disk.{File, LeftOf, firm_file}
use Rattle.site_model.specs.Leaves.{left_none}
use Rattle.site_model.specs.Touches.{firm_left}
use Rattle.file_names.specs.declared.Kind.TheVariants.{Dat, Idx, Cpd, Cpx}
use Rattle.image_meaning.specs.Files.{VolumeFiles, index_at, dat_at, has_index}
use Rattle.image_meaning.specs.Sound.{HasIndex}
use Rattle.image_meaning.specs.Laws.Views.{index_named, dat_named, dat_renamed, index_made, dat_made}
use Rattle.image_meaning.specs.Laws.Vacuum.{IsHeldAlone}

-- what a stop leaves of an absent file, and of a firm one
pub none_left : (file : Option File) (image : Option (List ℕ)) → file ≡ None → LeftOf file image → image ≡ None
none_left file image is left = left_none image (subst (λ f. LeftOf f image) is left)

pub whole_left : (bytes : List ℕ) (file : Option File) (image : Option (List ℕ)) → file ≡ Some (firm_file bytes) → LeftOf file image → image ≡ Some bytes
whole_left bytes file image is left = firm_left (Some (firm_file bytes)) image (refl, refl) (subst (λ f. LeftOf f image) is left)

-- no index of the volume stands at another server
pub record HasNoOther (files : VolumeFiles) (home : ℕ) : Type 0 where
  pub idx : (s : ℕ) → s < max_servers → s ≢ home → files s Idx ≡ None
  pub cpx : (s : ℕ) → s < max_servers → s ≢ home → files s Cpx ≡ None

module _ (files : VolumeFiles) (home : ℕ) (dat idx : List ℕ) (below : home < max_servers) (none : HasNoOther files home) where
  alone : (server : ℕ) → HasIndex files server → server ≡ home
  alone server has = elim (cases_eq server home) [
    | inl same ↦ same
    | inr other ↦
        let no_index : index_at files server ≡ None = index_named files server (ap is_some (none.cpx server has.0 other)) ∙ none.idx server has.0 other in
        absurd (true≢false (sym has.1 ∙ ap is_some no_index))
  ]

  by_views : dat_at files home ≡ Some dat → index_at files home ≡ Some idx → IsHeldAlone files home dat idx
  by_views has_dat has_index = record { below = below; has_dat = has_dat; has_index = has_index; alone = alone }

  -- by the two files of the last names
  pub held_named : files home Dat ≡ Some dat → files home Idx ≡ Some idx → files home Cpx ≡ None → IsHeldAlone files home dat idx
  held_named d i x = by_views (dat_named files home (ap is_some x) ∙ d) (index_named files home (ap is_some x) ∙ i)

  -- by those that a vacuum made
  pub held_beside : files home Cpd ≡ Some dat → files home Cpx ≡ Some idx → IsHeldAlone files home dat idx
  held_beside d x = by_views (dat_made files home (ap is_some x) (ap is_some d) ∙ d) (index_made files home (ap is_some x) ∙ x)

  -- once the data file alone has its last name
  pub held_between : files home Dat ≡ Some dat → files home Cpd ≡ None → files home Cpx ≡ Some idx → IsHeldAlone files home dat idx
  held_between d none_beside x = by_views (dat_renamed files home (ap is_some none_beside) ∙ d) (index_made files home (ap is_some x) ∙ x)
