-- The numbers and the lengths of all copies.
use Rattle.std.proofs.Common.{◌≡◌, ◌<◌, length}
use Rattle.file_names.specs.declared.Kind.TheVariants.{Shard}
use Rattle.stripe_layout.specs.declared.Info.{Info}
use Rattle.stripe_layout.specs.Stripes.{shards_in_all, shard_length}
use Rattle.image_meaning.specs.Files.{VolumeFiles, bytes_at}
use Rattle.coded_volume.specs.declared.checking.ShardCopy.{ShardCopy}

-- the copy is of a shard of the ratio, and has the length
pub record IsSized (files : VolumeFiles) (info : Info) (copy : ShardCopy) : Type 0 where
  pub number : copy.shard < shards_in_all info.geometry
  pub size : length (bytes_at files copy.server (Shard copy.shard)) ≡ shard_length info.geometry info.dat_size
