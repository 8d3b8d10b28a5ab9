-- The order in which the pieces of all shards are made.
use Rattle.std.specs.Prelude.{ℕ, ◌*◌, List, [], ◌∷◌, length, map, flat_map, Option, Some, None}
use Rattle.std.specs.List.{range_with_len}
use Rattle.site_model.specs.Disk.{File, bytes_of, grown}
use Rattle.site_model.specs.Counts.{widest_piece}
use Rattle.stripe_layout.specs.declared.Geometry.{Geometry}
use Rattle.stripe_layout.specs.Stripes.{rounded_up, shards_in_all}
use Rattle.stripe_layout.specs.Rows.{all_rows, row_block}
use Rattle.shard_make.specs.Made.{piece_of}

-- a row, and where in its blocks the pieces begin
abbrev pub Spot : Type 0
Spot = ℕ × ℕ

-- those of a row, one after the other
abbrev pub row_spots : Geometry → ℕ → ℕ → List Spot
row_spots g n row = map (λ j. (row, j * widest_piece)) (range_with_len 0 (rounded_up (row_block g n row) widest_piece))

-- those of all rows
abbrev pub all_spots : Geometry → ℕ → List Spot
all_spots g n = flat_map (row_spots g n) (range_with_len 0 (all_rows g n))

-- the temporary file of shard i after these pieces
abbrev pub after_pieces : Geometry → List ℕ → ℕ → List Spot → Option File → Option File
after_pieces g dat i [] file = file
after_pieces g dat i (spot ∷ spots) file = after_pieces g dat i spots (Some (grown file (piece_of g dat spot.0 spot.1 i)))

-- what all pieces make of temporary files that weren't there
abbrev pub made_shards : Geometry → List ℕ → List (List ℕ)
made_shards g dat = map (λ i. bytes_of (after_pieces g dat i (all_spots g (length dat)) None)) (range_with_len 0 (shards_in_all g))
