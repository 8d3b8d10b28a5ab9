-- Which records of a volume count, and when they were appended.
use Rattle.std.specs.Prelude.{◌≡◌, ℕ, ◌<◌, ◌==◌, not, is_some, if◌then◌else◌, Bool, true, false, List, [], ◌∷◌, filter, Option, Some, None}
use Rattle.std.specs.FinMap.{get}
use Rattle.std.specs.Option.{option_map_or}
use Rattle.std.specs.FinSet as set
use Rattle.site_model.specs.Disk.{Image}
use Rattle.site_model.specs.Standing.{lose}
use Rattle.world_model.specs.declared.types.Content.{Content}
use Rattle.world_model.specs.declared.types.Mode.{Mode}
use Rattle.world_model.specs.declared.types.Mode.TheVariants as mode
use Rattle.world_model.specs.World.{Volume}
use Rattle.needle_record.specs.Records.{Placed, records}
use Rattle.image_meaning.specs.Files.{VolumeFiles, files_of}
use Rattle.image_meaning.specs.Plain.{kept_at, index_home}
use Rattle.image_meaning.specs.Coded.{dat_of, deleted}
use Rattle.image_meaning.specs.Meaning.{mode_of, volume_of, max_volumes}
use Rattle.image_meaning.specs.Sound.{IsPlain, IsSound}
use Rattle.image_meaning.specs.Ends.{IsSurvivable}

-- Of a plain volume the records that are kept at its home count, of a coded one those whose ids no journal deletes.
abbrev pub records_by : VolumeFiles → Mode → List Placed
records_by files mode.Plain = option_map_or (kept_at files) (index_home files) []
records_by files mode.Sealed = option_map_or (kept_at files) (index_home files) []
records_by files mode.Coded = filter (λ p. not (set.contains (deleted files) p.1.id)) (records (dat_of files))
records_by files mode.Lost = []

unfoldable pub records_of : VolumeFiles → List Placed
records_of files = option_map_or (records_by files) (mode_of files) []

abbrev pub records_in : Image → ℕ → List Placed
records_in image v = records_of (files_of image v)

-- ---- append times, of needles (`live`) and of deletions

-- the time of a record with this content, where it is of the kind
abbrev pub time_by : Bool → ℕ → Option Content → Option ℕ
time_by true time (Some content) = Some time
time_by true time None = None
time_by false time (Some content) = None
time_by false time None = Some time

-- the time of the last record of the id, where that is of the kind
abbrev pub time_from : Bool → ℕ → Option ℕ → List Placed → Option ℕ
time_from live id found [] = found
time_from live id found (p ∷ more) = time_from live id (if p.1.id == id then time_by live p.1.appended p.1.content else found) more

-- when the id's needle in the volume was appended, or its deletion
abbrev pub time_in : Bool → Image → ℕ → ℕ → Option ℕ
time_in live image v id = time_from live id None (records_in image v)

-- A plain volume has the time of each needle that it has, and of no other.
abbrev pub NeedlesHaveTimes : Type 0
NeedlesHaveTimes = (image : Image) (v id : ℕ) (vol : Volume) → IsPlain (files_of image v) → volume_of (files_of image v) ≡ Some vol
    → is_some (time_in true image v id) ≡ is_some (get vol.needles id)

-- A survivable loss leaves a sound plain volume its times.
abbrev pub LossesKeepTimes : Type 0
LossesKeepTimes = (image : Image) (lost : ℕ → Bool) → IsSound image → IsSurvivable image lost → (v : ℕ) → v < max_volumes → IsPlain (files_of image v)
    → (live : Bool) (id : ℕ) → time_in live (lose lost image) v id ≡ time_in live image v id
