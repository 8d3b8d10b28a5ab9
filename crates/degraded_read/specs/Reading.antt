-- What a read of a coded volume's shards gives.
use Rattle.std.specs.Prelude.{◌≡◌, ◌⊎◌, ℕ, ◌+◌, ◌<◌, ◌≤◌, List, length, slice_index, Some, IsSome}
use Rattle.site_model.specs.Disk.{Files, bytes_of}
use Rattle.site_model.specs.Counts.{Counts, Rose, max_servers}
use Rattle.file_names.specs.Names.{max_shards}
use Rattle.world_model.specs.declared.types.Ratio.{Ratio}
use Rattle.world_model.specs.Ratios.{data_count, parity_count}
use Rattle.rs_code.specs.Codeword.{IsCodeword, value_through}
use Rattle.stripe_layout.specs.declared.Info.{Info}
use Rattle.stripe_layout.specs.Stripes.{column, shard_length, shards_in_all}
use Rattle.shard_table.specs.Table.{Row, place_in}
use Rattle.image_meaning.specs.Files.{VolumeFiles, contents, files_of, shard_home}
use Rattle.image_meaning.specs.Coded.{known_at}
use Rattle.image_meaning.specs.Laws.Points.{StandAs}
use Rattle.degraded_read.specs.Gathering.{shard_name, standing_in}

-- a shard stands at a server that a site may have, and has n bytes
pub record IsShardFile (files : Files) (volume n i s : ℕ) : Type 0 where
  pub server : s < max_servers
  pub stands : IsSome (files (s, shard_name volume i))
  pub long : length (bytes_of (files (s, shard_name volume i))) ≡ n

-- each shard of the row stands at its place
abbrev pub ArePlaced : Files → ℕ → ℕ → Row → Type 0
ArePlaced files volume n row = (i s : ℕ) → place_in row i ≡ Some s → IsShardFile files volume n i s

-- The shards that stand are of one list whose columns, n of them, are codewords.
pub record AreOneCode (r : Ratio) (files : VolumeFiles) (n : ℕ) : Type 0 where
  pub shards : List (List ℕ)
  pub stand : StandAs files shards
  pub columns : (p : ℕ) → p < n → IsCodeword (data_count r) (parity_count r) (column shards p)

-- the row has each shard that stands at the lowest server that has it, and no other
abbrev pub IsRowOfLowest : Row → VolumeFiles → Type 0
IsRowOfLowest row files = (i : ℕ) → i < max_shards → place_in row i ≡ shard_home files i

-- no server's count of faults rose
abbrev pub NoneRose : Counts → Counts → Type 0
NoneRose old new = (server : ℕ) → ¬ Rose (old.faults server) (new.faults server)

-- the shard holds data, and stands at this server
pub record IsOwnPlace (row : Row) (r : Ratio) (shard server : ℕ) : Type 0 where
  pub low : shard < data_count r
  pub there : place_in row shard ≡ Some server

-- The bytes are those of a shard from a place on, by the codewords of the lowest standing shards.
abbrev pub IsPart : Ratio → VolumeFiles → ℕ → ℕ → List ℕ → Type 0
IsPart r files shard at out = (i : ℕ) → i < length out
    → slice_index out i ≡ value_through (known_at r files (at + i)) shard

-- ---- a read by the text of the volume

-- each shard of the row stands at its place, with the length that the text tells
abbrev pub HasPlaces : Files → ℕ → Info → Row → Type 0
HasPlaces files volume info row = ArePlaced files volume (shard_length info.geometry info.dat_size) row

-- how many of the volume's shards stand in the row
abbrev pub shards_standing : Info → Row → ℕ
shards_standing info row = length (standing_in row (shards_in_all info.geometry))

-- so many that they give all others
abbrev pub HasEnoughShards : Info → Row → Type 0
HasEnoughShards info row = data_count info.geometry.ratio ≤ shards_standing info row

-- the shards that stand are of one code
abbrev pub HasOneCode : Files → ℕ → Info → Type 0
HasOneCode files volume info =
    AreOneCode info.geometry.ratio (files_of (contents files) volume) (shard_length info.geometry info.dat_size)

-- What is to be answered is certain: any shards give it, or each is read where it stands lowest and none fails.
abbrev pub IsCertain : Files → ℕ → Info → Row → Type 0 → Type 0
IsCertain files volume info row none_failed =
    HasOneCode files volume info ⊎ (IsRowOfLowest row (files_of (contents files) volume) × none_failed)

-- Where it is, the bytes are those of the shard from a place on.
abbrev pub GivesPart : Files → ℕ → Info → Row → Type 0 → ℕ → ℕ → List ℕ → Type 0
GivesPart files volume info row none_failed shard at out = IsCertain files volume info row none_failed
    → IsPart info.geometry.ratio (files_of (contents files) volume) shard at out
