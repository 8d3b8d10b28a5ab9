-- The names of the file that shards are made of and of those that are made.
use Rattle.std.specs.Prelude.{◌≡◌, ℕ, ◌%◌, ◌<◌, true, false, List, [], length, slice_index_or}
use Rattle.site_model.specs.Disk.{Place}
use Rattle.file_names.specs.declared.Kind.TheVariants.{Dat, Shard}
use Rattle.file_names.specs.Names.{name_bytes, temp_place}

abbrev pub dat_name : ℕ → List ℕ
dat_name volume = name_bytes (record { volume = volume; kind = Dat; temp = false })

-- what a shard is called while it is made
abbrev pub temp_shard : ℕ → ℕ → List ℕ
temp_shard volume i = name_bytes (record { volume = volume; kind = Shard i; temp = true })

-- so many names, one for each shard
pub record AreTempNames (volume shards : ℕ) (names : List (List ℕ)) : Type 0 where
  pub count : length names ≡ shards
  pub each : (i : ℕ) → i < shards → slice_index_or names i [] ≡ temp_shard volume i

-- where it stands: the shards go to the servers in turn
abbrev pub temp_of : (volume servers i : ℕ) → Place
temp_of volume servers i = temp_place (i % servers) volume (Shard i)
