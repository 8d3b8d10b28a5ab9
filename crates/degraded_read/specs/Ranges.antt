-- What a read of a range of a coded volume's data file gives, and in how many parts it is read.
use Rattle.std.specs.Prelude.{◌≡◌, ℕ, ◌+◌, ◌-◌, ◌*◌, ◌/◌, ◌<◌, List, length, take, drop, slice_index}
use Rattle.std.specs.List.{sum_by}
use Rattle.site_model.specs.Disk.{Files}
use Rattle.site_model.specs.Counts.{Counts, TakesCalls, widest_piece}
use Rattle.rs_code.specs.Codeword.{value_through}
use Rattle.stripe_layout.specs.declared.Info.{Info}
use Rattle.stripe_layout.specs.declared.Piece.{Piece}
use Rattle.stripe_layout.specs.Pieces.{AreLocated, pieces_of}
use Rattle.stripe_layout.specs.Stripes.{shard_length}
use Rattle.shard_table.specs.Table.{Row}
use Rattle.image_meaning.specs.Files.{contents, files_of}
use Rattle.image_meaning.specs.Coded.{known_at, data_shards, dat_by}
use Rattle.degraded_read.specs.Reading.{IsCertain, shards_standing}

-- Where it is certain what is to be answered, the bytes are those of the data file that the shards give, from an
-- offset on.
abbrev pub GivesRange : Files → ℕ → Info → Row → Type 0 → ℕ → List ℕ → Type 0
GivesRange files volume info row none_failed offset out = IsCertain files volume info row none_failed
    → out ≡ take (length out) (drop offset (dat_by (files_of (contents files) volume) info))

-- Where it is, a piece of a shard stands in the room, from a place of it on.
abbrev pub FillsPiece : Files → ℕ → Info → Row → Type 0 → Piece → ℕ → List ℕ → Type 0
FillsPiece files volume info row none_failed piece from out = IsCertain files volume info row none_failed
    → (i : ℕ) → i < piece.length → slice_index out (from + i)
    ≡ value_through (known_at info.geometry.ratio (files_of (contents files) volume) (piece.at + i)) piece.shard

-- the data shards by the codewords of those that stand
abbrev pub shards_by : Files → ℕ → Info → List (List ℕ)
shards_by files volume info =
    data_shards info.geometry.ratio (files_of (contents files) volume) (shard_length info.geometry info.dat_size)

-- Where it is, the bytes are those of these pieces, one after the other.
abbrev pub FillsPieces : Files → ℕ → Info → Row → Type 0 → List Piece → List ℕ → Type 0
FillsPieces files volume info row none_failed pieces out = IsCertain files volume info row none_failed
    → out ≡ pieces_of (shards_by files volume info) pieces

-- what stands before a place is as it was
abbrev pub IsKeptBefore : ℕ → List ℕ → List ℕ → Type 0
IsKeptBefore from old new = (i : ℕ) → i < from → slice_index new i ≡ slice_index old i

-- ---- parts

-- the parts of at most 65,536 bytes in which so many are read
abbrev pub parts_in : ℕ → ℕ
parts_in length = (length + (widest_piece - 1)) / widest_piece

abbrev pub parts_of : List Piece → ℕ
parts_of pieces = sum_by (λ p. parts_in p.length) pieces

-- at most one read of each standing shard for each of so many parts
abbrev pub TakesReads : ℕ → Info → Row → Counts → Counts → Type 0
TakesReads parts info row old new = TakesCalls (parts * shards_standing info row) widest_piece old new

-- the same for each part of the range's pieces
pub record TakesParts (info : Info) (row : Row) (offset count : ℕ) (old new : Counts) : Type 0 where
  pub pieces : List Piece
  pub located : AreLocated info.geometry info.dat_size offset count pieces
  pub takes : TakesReads (parts_of pieces) info row old new
