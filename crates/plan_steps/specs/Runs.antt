-- What a plan's step does to a site's files, and what a stop within it leaves.
use Rattle.std.specs.Prelude.{◌≡◌, ◌⊎◌, ℕ, true, false, List, Option}
use Rattle.site_model.specs.Disk.{Place, LeftOf, Disk}
use Rattle.site_model.specs.Disk as disk
use Rattle.site_model.specs.Leaves.{Leaves}
use Rattle.site_model.specs.Touches.{Touches}
use Rattle.world_model.specs.declared.types.Command.TheVariants.{Decode}
use Rattle.file_names.specs.declared.Kind.{Kind}
use Rattle.image_meaning.specs.Files.{VolumeFiles, files_of}
use Rattle.file_names.specs.Names.{place_of}
use Rattle.image_meaning.specs.Share.{Share, share_of, finals, IsFirmShare, IsOfVolume}
use Rattle.image_meaning.specs.Shards.{KeepsCopies}
use Rattle.plan_steps.specs.declared.plan.Plan.{Plan}
use Rattle.plan_steps.specs.Kept.{Forms, HasAForm}
use Rattle.plan_steps.specs.Changes.{IsChanged}

abbrev pub IsTempOf : ℕ → Place → Type 0
IsTempOf v k = (server : ℕ) × (kind : Kind) × (k ≡ place_of v server kind true)

-- A run changes one file with its final name to this, at one moment, and else temporary files of the volume alone.
pub record ChangesOne (v server : ℕ) (kind : Kind) (now : Option (List ℕ)) (old new : Disk) : Type 0 where
  pub touches : Touches (λ k. IsTempOf v k ⊎ (k ≡ place_of v server kind false)) old new
  pub leaves : Leaves old new (λ image said. LeftOf (old.files (place_of v server kind false)) (image (place_of v server kind false)) ⊎ (image (place_of v server kind false) ≡ now))
  pub either : (new.files (place_of v server kind false) ≡ old.files (place_of v server kind false)) ⊎ (disk.standing (new.files (place_of v server kind false)) ≡ now)

-- A run of a plan that began with these files touches files of its volume alone. A stop within it leaves files in one of
-- the plan's forms, where those of the start were firm. And only a decode takes the last copy of a shard.
pub record StepKeeps (plan : Plan) (f : Forms) (start : Share) (old new : Disk) : Type 0 where
  pub touches : Touches (IsOfVolume plan.volume) old new
  pub leaves : IsFirmShare start → Leaves old new (λ image said. HasAForm f (files_of image plan.volume))
  pub copies : (plan.command ≡ Decode → ⊥) → KeepsCopies (finals (share_of old.files plan.volume)) (finals (share_of new.files plan.volume))

-- the file may be changed to this: the files keep one of the two forms
abbrev pub MayChange : Forms → VolumeFiles → ℕ → Kind → Option (List ℕ) → Type 0
MayChange f files server kind now = (left : VolumeFiles) → IsChanged files left server kind now → HasAForm f left
