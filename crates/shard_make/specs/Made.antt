-- What a step makes of the files of a site.
use Rattle.std.specs.Prelude.{◌≡◌, ◌⊎◌, ℕ, ◌+◌, ◌*◌, ◌-◌, ◌<◌, min, List, [], length, map, take, drop, slice_index_or, Option, Some}
use Rattle.std.specs.String.{string_bytes}
use Rattle.site_model.specs.Disk.{File, Place, Files, LeftOf, bytes_of, grown, IsPartlyGrown, Disk}
use Rattle.site_model.specs.Leaves.{Leaves}
use Rattle.site_model.specs.Touches.{Touches}
use Rattle.site_model.specs.Counts.{Counts, Rose, CallsAt, TakesCalls, widest_piece}
use Rattle.world_model.specs.declared.types.Ratio.{Ratio}
use Rattle.world_model.specs.Ratios.{data_count, parity_count}
use Rattle.file_names.specs.declared.Kind.TheVariants.{Dat}
use Rattle.file_names.specs.Names.{final_place}
use Rattle.stripe_layout.specs.declared.Geometry.{Geometry}
use Rattle.stripe_layout.specs.Stripes.{row_width}
use Rattle.stripe_layout.specs.Rows.{row_block, row_start}
use Rattle.image_meaning.specs.Striped.{shards_of}
use Rattle.shard_make.specs.declared.names.ShardNames.{ShardNames}
use Rattle.shard_make.specs.declared.reading.RowPieces.{RowPieces}
use Rattle.shard_make.specs.Rooms.{HoldPieces, AreColumns, piece_in}
use Rattle.shard_make.specs.Names.{dat_name, AreTempNames, temp_of}

-- the names for an encode to this ratio
pub record IsFor (of : ℕ) (by : Ratio) (at count : ℕ) (names : ShardNames) : Type 0 where
  pub volume : names.volume ≡ of
  pub ratio : names.ratio ≡ by
  pub home : names.home ≡ at
  pub servers : names.servers ≡ count
  pub dat : string_bytes names.dat ≡ dat_name of
  pub shards : AreTempNames of (data_count by + parity_count by) (map string_bytes names.shards.items)

-- all shards
abbrev pub count_of : ShardNames → ℕ
count_of names = data_count names.ratio + parity_count names.ratio

-- the data file
abbrev pub dat_in : ShardNames → Files → List ℕ
dat_in names files = bytes_of (files (final_place names.home names.volume Dat))

-- where a shard's temporary file stands
abbrev pub shard_place : ShardNames → ℕ → Place
shard_place names i = temp_of names.volume names.servers i

-- the place is that of one of these files
abbrev pub AtShards : ShardNames → Place → Type 0
AtShards names place = (i : ℕ) × (i < count_of names) × (place ≡ shard_place names i)

-- ---- a piece

-- how long it is: it ends with the row's blocks
abbrev pub piece_width : Geometry → ℕ → ℕ → ℕ → ℕ
piece_width g n row at = min widest_piece (row_block g n row - at)

-- the data file's pieces from a place of a row's blocks on
pub record ArePiecesFrom (g : Geometry) (n row at : ℕ) (pieces : RowPieces) : Type 0 where
  pub from : pieces.from ≡ row_width g * row_start g n row + at
  pub apart : pieces.apart ≡ row_block g n row
  pub size : pieces.size ≡ piece_width g n row at

-- that of shard i, of the shards of a data file
abbrev pub piece_of : Geometry → List ℕ → ℕ → ℕ → ℕ → List ℕ
piece_of g dat row at i =
    take (piece_width g (length dat) row at) (drop (row_start g (length dat) row + at) (slice_index_or (shards_of g dat) i []))

-- each temporary file has its piece behind what it had
abbrev pub HavePieces : ShardNames → (ℕ → List ℕ) → Disk → Disk → Type 0
HavePieces names piece old new =
    (i : ℕ) → i < count_of names → new.files (shard_place names i) ≡ Some (grown (old.files (shard_place names i)) (piece i))

-- What the room holds was read from the data file and made of that, and is what the files have.
pub record Makes (names : ShardNames) (from apart size : ℕ) (room : List ℕ) (old new : Disk) : Type 0 where
  pub data_pieces : HoldPieces (dat_in names old.files) room from apart size (data_count names.ratio)
  pub columns : AreColumns (data_count names.ratio) (parity_count names.ratio) size room
  pub files : HavePieces names (piece_in room size) old new

-- what a stop within an append of n bytes may leave of a file
abbrev pub LeftGrowing : ℕ → Option File → Option (List ℕ) → Type 0
LeftGrowing n old image = (file : Option File) × IsPartlyGrown n old file × LeftOf file image

-- The temporary files alone change. Each is as it was or grew by at most n bytes, in what a stop leaves too.
pub record Grows (names : ShardNames) (n : ℕ) (old new : Disk) : Type 0 where
  pub touches : Touches (AtShards names) old new
  pub partly : (i : ℕ) → i < count_of names → IsPartlyGrown n (old.files (shard_place names i)) (new.files (shard_place names i))
  pub leaves : Leaves old new (λ image said. (i : ℕ) → i < count_of names → LeftGrowing n (old.files (shard_place names i)) (image (shard_place names i)))

-- ---- faults

-- reads at this server, of which the last may have failed: nothing changes, and so many calls are made
pub record ReadsAt {A : Type 0} (tells : Type 0) (disk : A → Disk) (counts : A → Counts) (count : A → ℕ) (server reads : ℕ) (old new : A) (is_failed : Type 0) : Type 0 where
  pub same : tells → disk new ≡ disk old
  pub takes : TakesCalls reads widest_piece (counts old) (counts new)
  pub calls : CallsAt counts count server old new is_failed
  pub writes : (counts new).write_faults ≡ (counts old).write_faults

-- an append to a shard at this server failed
pub record IsAppendFault (names : ShardNames) (server : ℕ) (old new : Counts) : Type 0 where
  pub shard : ℕ
  pub there : shard < count_of names
  pub server_is : server ≡ (shard_place names shard).0
  pub rose : Rose (old.write_faults server) (new.write_faults server)

-- a read of the data file failed, before anything was written
pub record IsReadFault (names : ShardNames) (unchanged : Type 0) (server : ℕ) (old new : Counts) : Type 0 where
  pub server_is : server ≡ names.home
  pub rose : Rose (old.faults server) (new.faults server)
  pub writes : new.write_faults ≡ old.write_faults
  pub same : unchanged

abbrev pub IsFault : ShardNames → Type 0 → ℕ → Counts → Counts → Type 0
IsFault names unchanged server old new = IsReadFault names unchanged server old new ⊎ IsAppendFault names server old new

-- a read of each data block, and an append for each shard
abbrev pub calls_of : Ratio → ℕ
calls_of ratio = data_count ratio + (data_count ratio + parity_count ratio)
