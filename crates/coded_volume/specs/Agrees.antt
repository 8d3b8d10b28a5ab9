-- What a coded volume in memory and its files have to do with each other.
use Rattle.std.specs.Prelude.{◌≡◌, ℕ, List, Option, Some}
use Rattle.std.specs.FinMap.{get}
use Rattle.world_model.specs.World.{Needle}
use Rattle.site_model.specs.Disk.{Files}
use Rattle.image_meaning.specs.Files.{VolumeFiles, contents, files_of}
use Rattle.image_meaning.specs.Coded.{coded_with, dat_of, volume_info}
use Rattle.image_meaning.specs.Sound.{IsSoundCoded}
use Rattle.coded_volume.specs.declared.volume.CodedVolume.{CodedVolume}

-- The files are sound, also while an index stands, as in a decode, and their text is the volume's.
pub record Agrees (volume : CodedVolume) (files : VolumeFiles) : Type 0 where
  pub sound : IsSoundCoded files
  pub text : volume_info files ≡ Some volume.info

-- the volume's own files
abbrev pub own_files : CodedVolume → Files → VolumeFiles
own_files volume files = files_of (contents files) volume.volume

-- where they are told and agree with the volume
abbrev pub IfAgrees : Type 0 → CodedVolume → Files → Type 0 → Type 0
IfAgrees tells volume files P = tells → Agrees volume (own_files volume files) → P

-- the data file that they give
abbrev pub own_dat : CodedVolume → Files → List ℕ
own_dat volume files = dat_of (own_files volume files)

-- the needle of the id in it, where the id isn't deleted
abbrev pub own_needle : CodedVolume → Files → ℕ → Option Needle
own_needle volume files id =
    get (let v = coded_with (own_dat volume files) volume.info volume.deleted.items in v.needles) id
