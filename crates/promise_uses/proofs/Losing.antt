-- What no loss leaves, and what is meant of lost volumes.
use Rattle.std.proofs.Common.{◌≡◌, ℕ, Bool, true, false, Option, Some, None, refl, sym, ◌∙◌, ap, subst}
use Rattle.std.specs.Prelude.{if◌then◌else◌, nat_lt, IsSome, option_map}
use mathlib.Core.Bool.{true≢false}
use Rattle.site_model.specs.Disk.{Image}
use Rattle.world_model.specs.declared.types.Mode.{Mode}
use Rattle.world_model.specs.declared.types.Mode.TheVariants as mode
use Rattle.world_model.specs.World.{empty_volume}
use Rattle.world_model.specs.Moves.{is_lost}
use Rattle.image_meaning.specs.Files.{VolumeFiles, files_of}
use Rattle.std.specs.Option.{option_map_or}
use Rattle.needle_record.specs.Records.{fold_records}
use Rattle.store_core.specs.Laws.Store.{fold_records-mode}
use Rattle.image_meaning.specs.Plain.{index_home, kept_at, plain_volume}
use Rattle.image_meaning.specs.Coded.{coded_volume}
use Rattle.image_meaning.specs.Meaning.{mode_of, volume_of, volume_by, max_volumes, meaning}
use Rattle.image_meaning.specs.Ends.{IsSurvivable}
use Rattle.image_meaning.specs.Laws.PlainLoss.{plain_home}
use Rattle.image_meaning.specs.Laws.LossLaw.{coded_form}
use Rattle.promise_uses.proofs.Steps.{IsEmptyIfLost, LostAreEmpty}

-- ---- no loss

abbrev pub none_lost : ℕ → Bool
none_lost server = false

pub none_lost_survives : (image : Image) → IsSurvivable image none_lost
none_lost_survives image v below = record {
  index = λ plain. let home = plain_home (files_of image v) plain in subst (λ (o : Option ℕ). IsSome o) (sym home.1) refl;
  shards = λ coded. (coded_form (files_of image v) coded).enough;
}

-- ---- lost volumes

plain_mode : (files : VolumeFiles) → is_lost (plain_volume files).mode ≡ false
unfolding plain_volume
plain_mode files = by_home (index_home files)
  where
    by_home : (o : Option ℕ) → is_lost (option_map_or (λ server. fold_records (kept_at files server)) o empty_volume).mode ≡ false
    by_home None = refl
    by_home (Some server) = ap is_lost (fold_records-mode (kept_at files server))

coded_mode : (files : VolumeFiles) → is_lost (coded_volume files).mode ≡ false
unfolding coded_volume
coded_mode files = refl

by_mode_empty : (files : VolumeFiles) (o : Option Mode) → IsEmptyIfLost (option_map (volume_by files) o)
by_mode_empty files None = tt
by_mode_empty files (Some mode.Lost) = λ lost. refl
by_mode_empty files (Some mode.Coded) = λ lost. absurd (true≢false (sym lost ∙ coded_mode files))
by_mode_empty files (Some mode.Plain) = λ lost. absurd (true≢false (sym lost ∙ plain_mode files))
by_mode_empty files (Some mode.Sealed) = λ lost. absurd (true≢false (sym lost ∙ plain_mode files))

-- What an image means of a lost volume has no needles.
pub meaning_empty : (servers limit : ℕ) (image : Image) → LostAreEmpty (meaning servers limit image)
unfolding volume_of
meaning_empty servers limit image v = by_test (nat_lt v max_volumes)
  where
    by_test : (b : Bool) → IsEmptyIfLost (if b then volume_of (files_of image v) else None)
    by_test true = by_mode_empty (files_of image v) (mode_of (files_of image v))
    by_test false = tt
