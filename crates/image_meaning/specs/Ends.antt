-- Tidy, whole and even volumes, losses, and which worlds are near.
use Rattle.std.specs.Prelude.{◌≡◌, ◌⊎◌, ℕ, ◌+◌, ◌*◌, ◌<◌, ◌≤◌, ◌==◌, ◌&&◌, Bool, true, false, IsSome, List, [], ◌∷◌, ◌++◌, length, Option, Some, None, count_by}
use Rattle.std.specs.List.{list_any}
use Rattle.site_model.specs.Disk.{Image}
use Rattle.wire_num.specs.Pairs.{journal_bytes}
use Rattle.world_model.specs.World.{Volume, Job, World}
use Rattle.world_model.specs.declared.types.Mode.{Mode}
use Rattle.world_model.specs.declared.types.Mode.TheVariants as mode
use Rattle.world_model.specs.declared.types.Command.{Command}
use Rattle.world_model.specs.declared.types.Command.TheVariants.{Encode, Rebuild, Balance, Decode}
use Rattle.file_names.specs.declared.Kind.{Kind}
use Rattle.file_names.specs.declared.Kind.TheVariants.{Dat, Idx, Shard, Ecj, Cpd}
use Rattle.file_names.specs.Names.{IsKind, max_shards}
use Rattle.stripe_layout.specs.declared.Info.{Info}
use Rattle.needle_record.specs.Records.{end_of}
use Rattle.site_model.specs.Standing.{lose}
use Rattle.image_meaning.specs.Files.{VolumeFiles, files_of, temps_of, lose_files, stands, bytes_at, all_shards, standing}
use Rattle.site_model.specs.Counts.{max_servers}
use Rattle.image_meaning.specs.Plain.{kept_at, index_home}
use Rattle.image_meaning.specs.Coded.{ratio_of, volume_info, dat_of, deleted_at, coded_with}
use Rattle.world_model.specs.Ratios.{data_count, parity_count}
use Rattle.image_meaning.specs.Meaning.{mode_of, volume_of, volume_in, lost_volume, meaning, max_volumes}
use Rattle.image_meaning.specs.Sound.{Stands, IsHolder, IsPlain, IsCoded, IsSound}

-- ---- tidy

abbrev pub HasNoFiles : VolumeFiles → Type 0
HasNoFiles files = (server : ℕ) (kind : Kind) → server < max_servers → IsKind kind → files server kind ≡ None

-- one index with the data file beside it, both of exactly the kept length, and no other file
pub record IsTidyPlain (files : VolumeFiles) : Type 0 where
  pub home : ℕ
  pub has_index : Stands files home Idx
  pub has_dat : Stands files home Dat
  pub index_length : length (bytes_at files home Idx) ≡ 16 * length (kept_at files home)
  pub dat_length : length (bytes_at files home Dat) ≡ end_of (kept_at files home)
  pub alone : (server : ℕ) (kind : Kind) → IsKind kind → Stands files server kind → (server ≡ home) × ((kind ≡ Idx) ⊎ (kind ≡ Dat))

-- each shard at most once, equal journals of whole pairs, no data file nor one that a vacuum made, and files at holders alone
pub record IsTidyCoded (files : VolumeFiles) : Type 0 where
  pub once : (s t i : ℕ) → i < max_shards → Stands files s (Shard i) → Stands files t (Shard i) → s ≡ t
  pub same_journal : (s t : ℕ) → IsHolder files s → IsHolder files t → deleted_at files s ≡ deleted_at files t
  pub whole_journal : (server : ℕ) → IsHolder files server → bytes_at files server Ecj ≡ journal_bytes (deleted_at files server)
  pub no_dat : (server : ℕ) → server < max_servers → files server Dat ≡ None
  pub no_cpd : (server : ℕ) → server < max_servers → files server Cpd ≡ None
  pub at_holders : (server : ℕ) (kind : Kind) → IsKind kind → Stands files server kind → IsHolder files server

-- the volume is tidy; a lost one has no temporary file
pub record IsTidyVolume (files temps : VolumeFiles) : Type 0 where
  pub no_temps : HasNoFiles temps
  pub plain : IsPlain files → IsTidyPlain files
  pub coded : IsCoded files → IsTidyCoded files
  pub absent : mode_of files ≡ None → HasNoFiles files

abbrev pub IsTidy : Image → Type 0
IsTidy image = (v : ℕ) → v < max_volumes → IsTidyVolume (files_of image v) (temps_of image v)

-- ---- whole and even

-- coded, each of all shards stands exactly once, and all journals are equal
pub record IsWhole (files : VolumeFiles) : Type 0 where
  pub coded : IsCoded files
  pub there : (i : ℕ) → i < data_count (ratio_of files) + parity_count (ratio_of files) → (server : ℕ) × Stands files server (Shard i)
  pub once : (s t i : ℕ) → i < max_shards → Stands files s (Shard i) → Stands files t (Shard i) → s ≡ t
  pub same_journal : (s t : ℕ) → IsHolder files s → IsHolder files t → deleted_at files s ≡ deleted_at files t

-- how many shards a server has
abbrev pub shards_at : VolumeFiles → ℕ → ℕ
shards_at files server = count_by (λ i. stands files server (Shard i)) all_shards

-- two servers' numbers of shards differ by one at most
abbrev pub IsEven : VolumeFiles → ℕ → Type 0
IsEven files servers = (s t : ℕ) → s < servers → t < servers → shards_at files s ≤ shards_at files t + 1

-- ---- losses

-- a plain volume keeps an index, and a coded one enough shards
pub record SurvivesIn (files left : VolumeFiles) : Type 0 where
  pub index : IsPlain files → IsSome (index_home left)
  pub shards : IsCoded files → data_count (ratio_of files) ≤ length (standing left)

abbrev pub IsSurvivable : Image → (ℕ → Bool) → Type 0
IsSurvivable image lost = (v : ℕ) → v < max_volumes → SurvivesIn (files_of image v) (lose_files (files_of image v) lost)

-- the longest list of deleted ids, or it without its last
abbrev pub IsStage : List ℕ → List ℕ → Type 0
IsStage longest ids = (ids ≡ longest) ⊎ ((id : ℕ) × (longest ≡ ids ++ id ∷ []))

-- What a loss leaves of a coded volume: it is coded, of the same data file, and the ids of the longest journal are deleted, or all but its last.
pub record IsCodedAfterLoss (files left : VolumeFiles) : Type 0 where
  pub info : Info
  pub has_info : volume_info files ≡ Some info
  pub longest : List ℕ
  pub some_holder : (server : ℕ) × IsHolder files server × (deleted_at files server ≡ longest)
  pub none_longer : (server : ℕ) → IsHolder files server → IsStage longest (deleted_at files server)
  pub ids : List ℕ
  pub stage : IsStage longest ids
  pub same_dat : dat_of left ≡ dat_of files
  pub means : volume_of left ≡ Some (coded_with (dat_of files) info ids)
  pub of_holder : (server : ℕ) × IsHolder left server × (deleted_at left server ≡ ids)

-- what a survivable loss leaves of a volume
pub record IsAfterLoss (files left : VolumeFiles) : Type 0 where
  pub plain : IsPlain files → volume_of left ≡ volume_of files
  pub coded : IsCoded files → IsCodedAfterLoss files left
  pub lost : mode_of files ≡ Some mode.Lost → (volume_of left ≡ Some lost_volume) ⊎ (volume_of left ≡ None)
  pub absent : mode_of files ≡ None → volume_of left ≡ None

-- After a survivable loss a sound image means of each volume what it meant, but for the last deletion of a coded one and for volumes that are lost.
abbrev pub LawOfLoss : Type 0
LawOfLoss = (image : Image) (lost : ℕ → Bool) → IsSound image → IsSurvivable image lost → (v : ℕ) → v < max_volumes → IsAfterLoss (files_of image v) (files_of (lose lost image) v)

-- A survivable loss leaves a sound image sound.
abbrev pub LossesKeepSoundness : Type 0
LossesKeepSoundness = (image : Image) (lost : ℕ → Bool) → IsSound image → IsSurvivable image lost → IsSound (lose lost image)

-- the worlds that the image may mean after a loss
pub record MayMean (image : Image) (w : World) : Type 0 where
  pub lost : ℕ → Bool
  pub survivable : IsSurvivable image lost
  pub means : w ≡ meaning w.servers w.limit (lose lost image)

-- what a survivable loss may leave of one volume
pub record MayHave (image : Image) (v : ℕ) (it : Option Volume) : Type 0 where
  pub lost : ℕ → Bool
  pub survivable : IsSurvivable image lost
  pub means : it ≡ volume_in (lose lost image) v

-- What a second loss may leave, one loss may leave.
abbrev pub LossesCompose : Type 0
LossesCompose = (image : Image) (lost : ℕ → Bool) (v : ℕ) (it : Option Volume) → IsSound image → IsSurvivable image lost → MayHave (lose lost image) v it → MayHave image v it

-- ---- near

-- the mark is held in memory
abbrev pub unmarked : Mode → Mode
unmarked mode.Plain = mode.Plain
unmarked mode.Sealed = mode.Plain
unmarked mode.Coded = mode.Coded
unmarked mode.Lost = mode.Lost

abbrev pub changes_form : Command → Bool
changes_form (Encode ratio) = true
changes_form Rebuild = false
changes_form Balance = false
changes_form Decode = true

-- an unfinished encode or decode has the volume
abbrev pub is_changing : List Job → ℕ → Bool
is_changing jobs v = list_any (λ j. (j.volume == v) && changes_form j.command) jobs

abbrev pub NearMode : Bool → Mode → Mode → Type 0
NearMode true m n = (n ≡ mode.Plain) ⊎ (n ≡ mode.Coded)
NearMode false m n = n ≡ unmarked m

-- the same used and needles, and a near mode; a lost volume may be absent
abbrev pub NearVolume : Bool → Option Volume → Option Volume → Type 0
NearVolume changing None None = Unit {0}
NearVolume changing None (Some u) = ⊥
NearVolume changing (Some w) None = w.mode ≡ mode.Lost
NearVolume changing (Some w) (Some u) = (u.used ≡ w.used) × (u.needles ≡ w.needles) × NearMode changing w.mode u.mode

abbrev pub IsNear : World → World → Type 0
IsNear w u = (v : ℕ) → NearVolume (is_changing w.jobs v) (w.volumes v) (u.volumes v)
