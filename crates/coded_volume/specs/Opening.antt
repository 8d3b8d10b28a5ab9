-- What an opening of a coded volume answers.
use Rattle.std.specs.Prelude.{◌≡◌, ◌⊎◌, ℕ, ◌<◌, ◌≤◌, List, Some, Contains, AllPairs}
use Rattle.std.specs.List.{All}
use Rattle.file_names.specs.Names.{max_shards}
use Rattle.file_names.specs.declared.Kind.TheVariants.{Shard}
use Rattle.shard_table.specs.Table.{Row, place_in}
use Rattle.image_meaning.specs.Files.{VolumeFiles}
use Rattle.image_meaning.specs.Sound.{Stands}
use Rattle.coded_volume.specs.declared.volume.CodedVolume.{CodedVolume}
use Rattle.coded_volume.specs.declared.checking.ShardCopy.{ShardCopy}
use Rattle.coded_volume.specs.Checking.{IsChecked}

-- the table has some shard of the volume
pub record HasSomeShard (row : Row) : Type 0 where
  pub shard : ℕ
  pub server : ℕ
  pub number : shard < max_shards
  pub place : place_in row shard ≡ Some server

-- The table's shards are those that stand, each at the only server that has it.
pub record IsTableOf (row : Row) (files : VolumeFiles) : Type 0 where
  pub stands : (server i : ℕ) → i < max_shards → place_in row i ≡ Some server → Stands files server (Shard i)
  pub only : (server i : ℕ) → i < max_shards → Stands files server (Shard i) → place_in row i ≡ Some server

-- the volume passes the tests, and has what its files say
abbrev pub IsOpened : VolumeFiles → CodedVolume → Type 0
IsOpened files volume = IsChecked files volume.info volume.deleted.items

-- the copies in a row at lower servers, and at this one of lower shards
pub record HasCopiesBefore (row : Row) (server shard : ℕ) (copies : List ShardCopy) : Type 0 where
  pub rise : AllPairs (λ a b. a.server ≤ b.server) copies
  pub placed : All (λ copy. (copy.shard < max_shards) × (place_in row copy.shard ≡ Some copy.server)) copies
  pub reached : All (λ copy. copy.server ≤ server) copies
  pub all : (s i : ℕ) → i < max_shards → place_in row i ≡ Some s → (s < server) ⊎ ((s ≡ server) × (i < shard)) → Contains copies (record { server = s; shard = i })

-- the copies in a row, by rising server
pub record AreCopiesOf (row : Row) (copies : List ShardCopy) : Type 0 where
  pub rise : AllPairs (λ a b. a.server ≤ b.server) copies
  pub placed : All (λ copy. (copy.shard < max_shards) × (place_in row copy.shard ≡ Some copy.server)) copies
  pub all : (server i : ℕ) → i < max_shards → place_in row i ≡ Some server → Contains copies (record { server = server; shard = i })
