-- What the store has of a volume, and which files fit it.
use Rattle.std.specs.Prelude.{◌≡◌, ℕ, Bool, IsTrue, if◌then◌else◌, List, length, Option, Some, None}
use Rattle.world_model.specs.World.{Volume}
use Rattle.world_model.specs.declared.types.Mode.{Mode}
use Rattle.world_model.specs.declared.types.Mode.TheVariants as mode
use Rattle.volume_forms.specs.Forms.{has_super}
use Rattle.shard_table.specs.Table.{Row}
use Rattle.needle_record.specs.Records.{Placed, Index, index_of}
use Rattle.stripe_layout.specs.declared.Info.{Info}
use Rattle.image_meaning.specs.Files.{VolumeFiles}
use Rattle.image_meaning.specs.Plain.{IsExact}
use Rattle.image_meaning.specs.Laws.Plain.{IsAlone}
use Rattle.image_meaning.specs.Meaning.{mode_of}
use Rattle.image_meaning.specs.Sound.{HasOneRatio, IsCoded, IsSoundCoded}
use Rattle.image_meaning.specs.Ends.{HasNoFiles, IsTidyCoded}
use Rattle.image_meaning.specs.Share.{Share, finals, temps}
use Rattle.image_meaning.specs.Outlasts.{HasDeleted}
use Rattle.plan_steps.specs.Ending.{HasPlaces, HasNoPlaces}

-- a plain volume in memory
pub record DatVolume : Type 0 where
  pub server : ℕ
  pub volume : ℕ
  pub index : Index
  pub used : ℕ

-- a coded volume in memory
pub record CodedVolume : Type 0 where
  pub volume : ℕ
  pub info : Info
  pub deleted : List ℕ

-- While a job has the volume its slot is the one from before the job.
pub data Slot : Type 0 where
  Plain : DatVolume → Bool → Slot
  Coded : CodedVolume → Slot
  Lost : Slot

-- the mode that the volume has in the world
abbrev pub mode_in : Slot → Mode
mode_in (Plain volume sealed) = if sealed then mode.Sealed else mode.Plain
mode_in (Coded volume) = mode.Coded
mode_in Lost = mode.Lost

-- what the files mean, in the mode that memory has
abbrev pub marked_by : Option Slot → Volume → Volume
marked_by None vol = vol
marked_by (Some slot) vol = record vol { mode = mode_in slot }

-- Its two files stand at its server and no other file of it, they are records and their entries to the end, and its index
-- and length are theirs.
pub record HoldsPlain (d : DatVolume) (v : ℕ) (files temps : VolumeFiles) : Type 0 where
  pub dat : List ℕ
  pub idx : List ℕ
  pub ps : List Placed
  pub number : d.volume ≡ v
  pub alone : IsAlone files d.server dat idx
  pub exact : IsExact dat idx ps
  pub super : IsTrue (has_super dat)
  pub live : d.index ≡ index_of ps
  pub used : d.used ≡ length dat
  pub no_temps : HasNoFiles temps

-- Its files are those of a tidy, sound coded volume with this text, whose journals are equal.
pub record HoldsCoded (c : CodedVolume) (v : ℕ) (files temps : VolumeFiles) : Type 0 where
  pub number : c.volume ≡ v
  pub coded : IsCoded files
  pub rules : IsSoundCoded files
  pub info : rules.info ≡ c.info
  pub deleted : HasDeleted files c.deleted
  pub tidy : IsTidyCoded files
  pub no_temps : HasNoFiles temps

-- the files fit the slot
abbrev pub FitsSlot : Option Slot → ℕ → Share → Type 0
FitsSlot None v share = HasNoFiles (finals share) × HasNoFiles (temps share)
FitsSlot (Some (Plain d sealed)) v share = HoldsPlain d v (finals share) (temps share)
FitsSlot (Some (Coded c)) v share = HoldsCoded c v (finals share) (temps share)
FitsSlot (Some Lost) v share = (mode_of (finals share) ≡ Some mode.Lost) × HasOneRatio (finals share) × HasNoFiles (temps share)

-- The table has the shards of a coded volume, and none of a plain one.
abbrev pub IsRowOf : Option Slot → Row → Share → Type 0
IsRowOf None row share = HasNoPlaces row
IsRowOf (Some (Plain d sealed)) row share = HasNoPlaces row
IsRowOf (Some (Coded c)) row share = HasPlaces row (finals share)
IsRowOf (Some Lost) row share = Unit {0}
