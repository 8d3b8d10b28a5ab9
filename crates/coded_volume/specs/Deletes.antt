-- What a deletion does to a coded volume.
use Rattle.std.specs.Prelude.{◌≡◌, ◌⊎◌, ℕ, ◌+◌, ◌*◌, ◌<◌, ◌≤◌, Bool, false, nat_eq, List, [], ◌∷◌, ◌++◌, length, map, Some, Contains, Result, IfErr, IsErrOf}
use Rattle.std.specs.List.{AllByRecursion}
use Rattle.world_model.specs.Sizes.{deletion_length, max_dat}
use Rattle.site_model.specs.Disk.{Place, Files, IsFirm, bytes_of, Disk}
use Rattle.site_model.specs.Counts.{Counts, Calls}
use Rattle.site_model.specs.Leaves.{Leaves}
use Rattle.site_model.specs.Touches.{Touches}
use Rattle.file_names.specs.declared.Kind.TheVariants.{Ecx, Ecj}
use Rattle.wire_num.specs.Pairs.{journal_bytes}
use Rattle.volume_forms.specs.Forms.{entries}
use Rattle.stripe_layout.specs.declared.Info.{Info}
use Rattle.image_meaning.specs.Files.{VolumeFiles, contents, files_of, lose_files, bytes_at}
use Rattle.file_names.specs.Names.{place_of}
use Rattle.image_meaning.specs.Coded.{volume_info, dat_of, coded_with}
use Rattle.image_meaning.specs.Meaning.{volume_of}
use Rattle.image_meaning.specs.Sound.{IsHolder, IsCoded, IsSoundVolume}
use Rattle.image_meaning.specs.Ends.{SurvivesIn}
use Rattle.image_meaning.specs.Share.{share_of, IsFirmShare}
use Rattle.shard_table.specs.Table.{Row}
use Rattle.dat_volume.specs.declared.fault.VolumeFault.{VolumeFault}
use Rattle.dat_volume.specs.declared.fault.VolumeFault.TheVariants as volume_fault
use Rattle.coded_volume.specs.declared.volume.CodedVolume.{CodedVolume}
use Rattle.coded_volume.specs.Deleting.{HasShard, WritesRose}

-- the journal of the volume at a server
abbrev pub journal_place : ℕ → ℕ → Place
journal_place v server = place_of v server Ecj false

-- The table has the volume's holders, and the journal of each is that of these ids.
pub record HasDeletedIds (v servers : ℕ) (row : Row) (ids : List ℕ) (files : Files) : Type 0 where
  pub holders : (server : ℕ) → IsHolder (files_of (contents files) v) server → (server < servers) × HasShard row server
  pub no_others : (server : ℕ) → server < servers → HasShard row server → IsHolder (files_of (contents files) v) server
  pub journals : (server : ℕ) → IsHolder (files_of (contents files) v) server → bytes_of (files (journal_place v server)) ≡ journal_bytes ids

-- The index has the id, it isn't deleted yet, and there is room for its deletion.
pub record MayDelete (files : VolumeFiles) (ids : List ℕ) (id : ℕ) : Type 0 where
  pub fresh : AllByRecursion (λ other. nat_eq other id ≡ false) ids
  pub known : (server : ℕ) → IsHolder files server → Contains (map (λ e. e.id) (entries (bytes_at files server Ecx))) id
  pub room : (info : Info) → volume_info files ≡ Some info → info.dat_size + deletion_length * (length ids + 1) ≤ max_dat

-- The volume is sound, and means after each loss that it survives what it meant, with this id deleted or without.
pub record IsWithOrWithout (files : VolumeFiles) (ids : List ℕ) (id : ℕ) (left : VolumeFiles) : Type 0 where
  pub coded : IsCoded left
  pub sound : IsSoundVolume left
  pub means : (info : Info) → volume_info files ≡ Some info → (lost : ℕ → Bool) → SurvivesIn left (lose_files left lost)
      → (volume_of (lose_files left lost) ≡ Some (coded_with (dat_of files) info ids)) ⊎ (volume_of (lose_files left lost) ≡ Some (coded_with (dat_of files) info (ids ++ id ∷ [])))

-- the same, and it means that with this id deleted
pub record IsWithout (files : VolumeFiles) (ids : List ℕ) (id : ℕ) (left : VolumeFiles) : Type 0 where
  pub coded : IsCoded left
  pub sound : IsSoundVolume left
  pub means : (info : Info) → volume_info files ≡ Some info → (lost : ℕ → Bool) → SurvivesIn left (lose_files left lost)
      → volume_of (lose_files left lost) ≡ Some (coded_with (dat_of files) info (ids ++ id ∷ []))

-- what a deletion starts from
pub record CanStart (v servers : ℕ) (row : Row) (ids : List ℕ) (id : ℕ) (files : Files) : Type 0 where
  pub coded : IsCoded (files_of (contents files) v)
  pub sound : IsSoundVolume (files_of (contents files) v)
  pub has : HasDeletedIds v servers row ids files
  pub may : MayDelete (files_of (contents files) v) ids id

-- Only journals of the volume change. A stop leaves it with the id or without, whichever servers are lost then.
pub record Deletes (v servers : ℕ) (row : Row) (ids : List ℕ) (id : ℕ) (old new : Disk) : Type 0 where
  pub touches : Touches (λ k. (server : ℕ) × (server < servers) × HasShard row server × (k ≡ journal_place v server)) old new
  pub leaves : CanStart v servers row ids id old.files → IsFirmShare (share_of old.files v)
      → Leaves old new (λ image said. IsWithOrWithout (files_of (contents old.files) v) ids id (files_of image v))

-- the id is deleted at every holder
pub record IsDeleted (v servers : ℕ) (row : Row) (ids : List ℕ) (id : ℕ) (old new : Files) : Type 0 where
  pub without : IsWithout (files_of (contents old) v) ids id (files_of (contents new) v)
  pub has : HasDeletedIds v servers row (ids ++ id ∷ []) new
  pub firm : (server : ℕ) → IsHolder (files_of (contents new) v) server → IsFirm (new (journal_place v server))

-- ---- the value in memory

-- the same volume, with these ids deleted
pub record KeepsVolume (old new : CodedVolume) (ids : List ℕ) : Type 0 where
  pub volume : new.volume ≡ old.volume
  pub info : new.info ≡ old.info
  pub deleted : new.deleted.items ≡ ids

-- a fault of a server is one of a call that writes
abbrev pub TellsWrites : Counts → Counts → VolumeFault → Type 0
TellsWrites old new (volume_fault.Fault fault) = WritesRose fault.server old new
TellsWrites old new volume_fault.Memory = Unit {0}

-- Calls at any server. A fault is told of one whose counts rose, also that of the calls that write.
pub record WritesAnywhere {A S : Type 0} (counts : S → Counts) (count : S → ℕ) (result : Result A VolumeFault) (old new : S) : Type 0 where
  pub runs : Calls counts count old new (λ s. IsErrOf result (volume_fault.Fault (record { server = s })))
  pub write_cause : IfErr result (TellsWrites (counts old) (counts new))
