-- The shards of a data file.
use Rattle.std.specs.Prelude.{ℕ, List, ◌++◌, length, map, slice_index, slice_index_or, []}
use Rattle.std.specs.List.{range_with_len}
use Rattle.world_model.specs.Ratios.{parity_count}
use Rattle.rs_code.specs.Codeword.{Known, value_through}
use Rattle.stripe_layout.specs.declared.Geometry.{Geometry}
use Rattle.stripe_layout.specs.Stripes.{row_width, shard_length}
use Rattle.stripe_layout.specs.Striping.{data_shards_of}

-- the bytes of the data shards at a place
abbrev pub data_known : Geometry → List ℕ → ℕ → Known
data_known g dat p = map (λ i. (i, slice_index (slice_index_or (data_shards_of g dat) i []) p)) (range_with_len 0 (row_width g))

-- a shard by the codewords through them
abbrev pub coded_shard : Geometry → List ℕ → ℕ → List ℕ
coded_shard g dat i = map (λ p. value_through (data_known g dat p) i) (range_with_len 0 (shard_length g (length dat)))

-- The data shards, which are the stripes of the file, and behind them the parity shards.
unfoldable pub shards_of : Geometry → List ℕ → List (List ℕ)
shards_of g dat = data_shards_of g dat ++ map (coded_shard g dat) (range_with_len (row_width g) (parity_count g.ratio))
