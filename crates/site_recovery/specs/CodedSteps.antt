-- What a recovery does with the files of a coded volume.
use Rattle.std.specs.Prelude.{◌≡◌, ℕ, ◌<◌, List, Some, None}
use Rattle.file_names.specs.declared.Kind.{Kind}
use Rattle.file_names.specs.declared.Kind.TheVariants.{Dat, Cpd, Shard, Ecx, Ecj, Vif}
use Rattle.file_names.specs.Names.{IsKind, max_shards}
use Rattle.wire_num.specs.Pairs.{journal_bytes}
use Rattle.image_meaning.specs.Files.{VolumeFiles, bytes_at, shard_home}
use Rattle.site_model.specs.Counts.{max_servers}
use Rattle.image_meaning.specs.Coded.{deleted_at}
use Rattle.image_meaning.specs.Sound.{IsHolder, Stands}
use Rattle.image_meaning.specs.Ends.{IsStage}

-- some holder's journal has these ids, and every holder's has them, or all but the last
pub record IsLongest (files : VolumeFiles) (ids : List ℕ) : Type 0 where
  pub server : ℕ
  pub holds : IsHolder files server
  pub has : deleted_at files server ≡ ids
  pub stages : (s : ℕ) → IsHolder files s → IsStage ids (deleted_at files s)

-- all holders have the same deleted ids
abbrev pub HaveSameIds : VolumeFiles → Type 0
HaveSameIds files = (s t : ℕ) → IsHolder files s → IsHolder files t → deleted_at files s ≡ deleted_at files t

-- What is left of a coded volume: each shard at the lowest server that had it, and at these servers the index, the text and
-- the journal of the deleted ids.
pub record IsLeftCoded (old new : VolumeFiles) (ids : List ℕ) : Type 0 where
  pub shards : (server i : ℕ) → i < max_shards → Stands new server (Shard i) → shard_home old i ≡ Some server
  pub kept : (server i : ℕ) → i < max_shards → shard_home old i ≡ Some server → new server (Shard i) ≡ old server (Shard i)
  pub texts : (server : ℕ) → IsHolder new server → new server Vif ≡ old server Vif
  pub indexes : (server : ℕ) → IsHolder new server → new server Ecx ≡ old server Ecx
  pub journals : (server : ℕ) → IsHolder new server → bytes_at new server Ecj ≡ journal_bytes ids
  pub no_dat : (server : ℕ) → server < max_servers → new server Dat ≡ None
  pub no_cpd : (server : ℕ) → server < max_servers → new server Cpd ≡ None
  pub at_holders : (server : ℕ) (kind : Kind) → IsKind kind → Stands new server kind → IsHolder new server
