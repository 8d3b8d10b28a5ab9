-- Shards that stand as a table has them, and are enough of any ratio. For tests.
use Rattle.std.specs.Prelude.{◌≡◌, ℕ, ◌<◌, false, IsTrue, Some, IsSome}
use Rattle.file_names.specs.declared.Kind.TheVariants.{Shard}
use Rattle.shard_table.specs.Table.{Row, place_in}
use Rattle.image_meaning.specs.Files.{VolumeFiles, stands, has_index}
use Rattle.image_meaning.specs.Sound.{IsCoded}
use Rattle.coded_volume.specs.Opening.{HasSomeShard, IsTableOf}

-- so many shards have a place
abbrev pub HasTwelve : Row → Type 0
HasTwelve row = (i : ℕ) → i < 12 → IsSome (place_in row i)

-- of the first n shards those stand at the server that have their place there
pub record HasRow (row : Row) (files : VolumeFiles) (server n : ℕ) : Type 0 where
  pub stand : (i : ℕ) → i < n → place_in row i ≡ Some server → IsTrue (stands files server (Shard i))
  pub only : (i : ℕ) → i < n → IsTrue (stands files server (Shard i)) → place_in row i ≡ Some server

-- no index stands at the first n servers, and the shards as they have their places
abbrev pub HasRows : Row → VolumeFiles → ℕ → Type 0
HasRows row files n = (server : ℕ) → server < n → (has_index files server ≡ false) × HasRow row files server 16

pub record IsCodedAs (row : Row) (files : VolumeFiles) : Type 0 where
  pub coded : IsCoded files
  pub table : IsTableOf row files
  pub some : HasSomeShard row
