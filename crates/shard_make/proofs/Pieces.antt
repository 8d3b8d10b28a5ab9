-- The pieces in a room are those of the shards of the data file.
use Rattle.std.proofs.Common.{◌≡◌, ℕ, ◌+◌, ◌-◌, ◌*◌, ◌<◌, ◌≤◌, List, [], length, take, drop, Some, sym, ◌∙◌, ap, subst, length-take, length-drop, arith}
use Rattle.std.specs.Prelude.{slice_index, slice_index_or}
use Rattle.std.proofs.Math.Nat.{mul-le-mul_right}
use Rattle.std.proofs.lemmas.List.{get_or-take, get_or-drop}
use Rattle.std.proofs.lemmas.List.FromFn.{get_or-map-range_with_len}
use Rattle.std.proofs.lemmas.Grind.{same_number_lists}
use Rattle.world_model.specs.declared.types.Ratio.{Ratio}
use Rattle.world_model.specs.Ratios.{data_count, parity_count}
use Rattle.site_model.specs.Disk.{Disk, grown}
use Rattle.rs_kernel.specs.Pieces.{column}
use Rattle.stripe_layout.specs.declared.Geometry.{Geometry}
use Rattle.stripe_layout.specs.Stripes.{GeometryInRange, row_width, shards_in_all}
use Rattle.stripe_layout.specs.Rows.{all_rows, row_block, row_start}
use Rattle.stripe_layout.specs.Laws.Rows.{row_within}
use Rattle.image_meaning.specs.Striped.{shards_of}
use Rattle.image_meaning.specs.Laws.Striped.{length-shard_of, data_byte_of, coded_byte_of}
use Rattle.shard_make.specs.declared.names.ShardNames.{ShardNames}
use Rattle.shard_make.specs.Rooms.{HoldPieces, AreColumns, piece_in}
use Rattle.shard_make.specs.Made.{count_of, shard_place, piece_width, piece_of, HavePieces, Makes, dat_in}

-- a byte of a part of a list
byte_in : (xs : List ℕ) (size from j : ℕ) → j < size → slice_index (take size (drop from xs)) j ≡ slice_index xs (from + j)
byte_in xs size from j h = get_or-take size (drop from xs) j 0 h ∙ get_or-drop from xs j 0

-- how long a part is that lies within it
part_long : (xs : List ℕ) (size from : ℕ) → from + size ≤ length xs → length (take size (drop from xs)) ≡ size
part_long xs size from h = omega (arith, h, length-take size (drop from xs), length-drop from xs)

module _ (g : Geometry) (dat room : List ℕ) (row at size : ℕ) (range : GeometryInRange g) (row_there : row < all_rows g (length dat)) (within : at < row_block g (length dat) row)
    (size_is : size ≡ piece_width g (length dat) row at) (long : length room ≡ shards_in_all g * size)
    (read : HoldPieces dat room (row_width g * row_start g (length dat) row + at) (row_block g (length dat) row) size (row_width g))
    (code : AreColumns (data_count g.ratio) (parity_count g.ratio) size room) where
  -- the pieces end with the blocks
  ends : at + size ≤ row_block g (length dat) row
  ends = omega (arith, size_is, within)

  byte_place : (k start block i at j : ℕ) → k * start + at + i * block + j ≡ k * start + i * block + (at + j)
  byte_place k start block i at j = omega arith

  in_shard : (start at j : ℕ) → start + (at + j) ≡ start + at + j
  in_shard start at j = omega arith

  data_byte : (r j : ℕ) → r < row_width g → j < size → slice_index room (r * size + j) ≡ slice_index (slice_index_or (shards_of g dat) r []) (row_start g (length dat) row + at + j)
  data_byte r j h below =
      read r h j below
      ∙ ap (slice_index dat) (byte_place (row_width g) (row_start g (length dat) row) (row_block g (length dat) row) r at j)
      ∙ sym (data_byte_of g dat range row r (at + j) row_there h (omega (arith, below, ends)))
      ∙ ap (slice_index (slice_index_or (shards_of g dat) r [])) (in_shard (row_start g (length dat) row) at j)

  column_byte : (j r : ℕ) → r < shards_in_all g → slice_index (column (shards_in_all g) size j room) r ≡ slice_index room (r * size + j)
  column_byte j r h = get_or-map-range_with_len (λ q. slice_index room (q * size + j)) 0 (shards_in_all g) r r 0 h (omega arith)

  coded_byte : (i j : ℕ) → i < shards_in_all g → j < size → slice_index (slice_index_or (shards_of g dat) i []) (row_start g (length dat) row + at + j) ≡ slice_index room (i * size + j)
  coded_byte i j h below =
      coded_byte_of g dat range (column (shards_in_all g) size j room) i (row_start g (length dat) row + at + j) (code j below)
      (λ r first. column_byte j r (omega (arith, first)) ∙ data_byte r j first below) h
      (omega (arith, below, ends, row_within g (length dat) row row_there))
      ∙ column_byte j i h

  in_room : (i : ℕ) → i < shards_in_all g → i * size + size ≤ length room
  in_room i h = let next : i + 1 ≤ shards_in_all g = omega (arith, h) in omega (arith, long, mul-le-mul_right size next)

  in_shards : (i : ℕ) → i < shards_in_all g → row_start g (length dat) row + at + size ≤ length (slice_index_or (shards_of g dat) i [])
  in_shards i h =
      omega (arith, ends, row_within g (length dat) row row_there, length-shard_of g dat range i h)

  pub made_piece : (i : ℕ) → i < shards_in_all g → piece_in room size i ≡ piece_of g dat row at i
  made_piece i h =
      same_number_lists (piece_in room size i) (take size (drop (row_start g (length dat) row + at) (slice_index_or (shards_of g dat) i [])))
      (part_long room size (i * size) (in_room i h) ∙ sym (part_long (slice_index_or (shards_of g dat) i []) size (row_start g (length dat) row + at) (in_shards i h)))
      (λ j below.
      let inside : j < size = omega (arith, below, part_long room size (i * size) (in_room i h)) in
      byte_in room size (i * size) j inside ∙ sym (coded_byte i j h inside) ∙ sym (byte_in (slice_index_or (shards_of g dat) i []) size (row_start g (length dat) row + at) j inside))
      ∙ ap (λ w. take w (drop (row_start g (length dat) row + at) (slice_index_or (shards_of g dat) i []))) size_is

  pub have_pieces : (names : ShardNames) (old new : Disk) → g.ratio ≡ names.ratio → HavePieces names (piece_in room size) old new → HavePieces names (piece_of g dat row at) old new
  have_pieces names old new same have i h =
      have i h ∙ ap (λ piece. Some (grown (old.files (shard_place names i)) piece)) (made_piece i (omega (arith, h, ap data_count same, ap parity_count same)))

-- What was made in a room of these pieces is that.
pub made_is : (names : ShardNames) (g : Geometry) (n row at from apart size : ℕ) (room : List ℕ) (old new : Disk) → GeometryInRange g → g.ratio ≡ names.ratio
    → length (dat_in names old.files) ≡ n → row < all_rows g n → at < row_block g n row
    → from ≡ row_width g * row_start g n row + at → apart ≡ row_block g n row → size ≡ piece_width g n row at → length room ≡ count_of names * size → Makes names from apart size room old new
    → HavePieces names (piece_of g (dat_in names old.files) row at) old new
made_is names g n row at from apart size room old new range same long = subst Made long by_length
  where
    Made : ℕ → Type 0
    Made n = row < all_rows g n → at < row_block g n row
        → from ≡ row_width g * row_start g n row + at → apart ≡ row_block g n row → size ≡ piece_width g n row at → length room ≡ count_of names * size → Makes names from apart size room old new
        → HavePieces names (piece_of g (dat_in names old.files) row at) old new

    by_length : Made (length (dat_in names old.files))
    by_length row_there within from_is apart_is size_is long_room made =
        have_pieces g (dat_in names old.files) room row at size range row_there within size_is (long_room ∙ ap (λ (r : Ratio). (data_count r + parity_count r) * size) (sym same))
        (λ i h j below. made.data_pieces i (omega (arith, h, ap data_count same)) j below ∙ (λ t. slice_index (dat_in names old.files) (from_is t + i * apart_is t + j)))
        (subst (λ (r : Ratio). AreColumns (data_count r) (parity_count r) size room) (sym same) made.columns)
        names old new same made.files
