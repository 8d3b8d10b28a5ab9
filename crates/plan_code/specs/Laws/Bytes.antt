-- Shards whose columns are codewords are bytes, and so is the data file that they are made of.
use Rattle.std.proofs.Common.{◌≡◌, ℕ, zero, suc, ◌*◌, ◌<◌, List, [], ◌∷◌, ◌++◌, length, map, take, drop, slice_index, flat_map, replicate, sym, subst, arith}
use Rattle.std.specs.List.{AllByRecursion}
use Rattle.world_model.specs.Ratios.{counts-sixteen}
use Rattle.rs_code.specs.Codeword.{AreBytes}
use Rattle.rs_code.specs.Combination.{each_append, bytes-drop, bytes-take}
use Rattle.rs_code.specs.Polynomials.{value_fits}
use Rattle.stripe_layout.specs.declared.Geometry.{Geometry}
use Rattle.stripe_layout.specs.Stripes.{row_width, shards_in_all, large_rows, small_rows, shard_length, rows_of, unstriped, column, IsStriped}

abbrev AllBytes : List (List ℕ) → Type 0
AllBytes shards = AllByRecursion AreBytes shards

bytes_by : (xs : List ℕ) → ((p : ℕ) → p < length xs → slice_index xs p < 256) → AreBytes xs
bytes_by [] each = tt
bytes_by (x ∷ xs) each = (each 0 (omega arith), bytes_by xs (λ p h. each (suc p) (omega (arith, h))))

bytes_in_columns : (len : ℕ) (shards : List (List ℕ)) → AllByRecursion (λ s. length s ≡ len) shards → ((i p : ℕ) → i < length shards → p < len → slice_index (column shards p) i < 256) → AllBytes shards
bytes_in_columns len [] lengths each = tt
bytes_in_columns len (s ∷ shards) lengths each = (
  bytes_by s (λ p h. each 0 p (omega arith) (omega (arith, h, lengths.0))),
  bytes_in_columns len shards lengths.1 (λ i p h k. each (suc i) p (omega (arith, h)) k),
)

-- ---- what is made of bytes

bytes_front : (xs ys : List ℕ) → AreBytes (xs ++ ys) → AreBytes xs
bytes_front [] ys h = tt
bytes_front (x ∷ xs) ys h = (h.0, bytes_front xs ys h.1)

take_shards : (n : ℕ) (shards : List (List ℕ)) → AllBytes shards → AllBytes (take n shards)
take_shards zero [] h = tt
take_shards zero (s ∷ shards) h = tt
take_shards (suc n) [] h = tt
take_shards (suc n) (s ∷ shards) h = (h.0, take_shards n shards h.1)

drop_each : (n : ℕ) (shards : List (List ℕ)) → AllBytes shards → AllBytes (map (drop n) shards)
drop_each n [] h = tt
drop_each n (s ∷ shards) h = (bytes-drop s n h.0, drop_each n shards h.1)

row_of : (n : ℕ) (shards : List (List ℕ)) → AllBytes shards → AreBytes (flat_map (take n) shards)
row_of n [] h = tt
row_of n (s ∷ shards) h = each_append (λ b. b < 256) (take n s) (flat_map (take n) shards) (bytes-take s n h.0) (row_of n shards h.1)

rows_bytes : (count size : ℕ) (shards : List (List ℕ)) → AllBytes shards → AreBytes (rows_of count size shards)
unfolding rows_of
rows_bytes zero size shards h = tt
rows_bytes (suc count) size shards h =
    each_append (λ b. b < 256) (flat_map (take size) shards) (rows_of count size (map (drop size) shards)) (row_of size shards h) (rows_bytes count size (map (drop size) shards) (drop_each size shards h))

unstriped_bytes : (g : Geometry) (n : ℕ) (shards : List (List ℕ)) → AllBytes shards → AreBytes (unstriped g n shards)
unfolding unstriped
unstriped_bytes g n shards h =
    each_append (λ b. b < 256) (rows_of (large_rows g n) g.large shards) (rows_of (small_rows g n) g.small (map (drop (large_rows g n * g.large)) shards))
    (rows_bytes (large_rows g n) g.large shards h)
    (rows_bytes (small_rows g n) g.small (map (drop (large_rows g n * g.large)) shards) (drop_each (large_rows g n * g.large) shards h))

pub striped_bytes : (g : Geometry) (dat : List ℕ) (shards : List (List ℕ)) → IsStriped g dat shards → AreBytes dat
striped_bytes g dat shards is = bytes_front dat (replicate is.zeros 0) (subst AreBytes is.rows (unstriped_bytes g (length dat) (take (row_width g) shards) (take_shards (row_width g) shards each)))
  where
    in_column : (i p : ℕ) → i < length shards → p < shard_length g (length dat) → slice_index (column shards p) i < 256
    in_column i p h k =
        let word = is.columns p k in
        let below : i < shards_in_all g = omega (arith, h, is.count) in
        subst (λ b. b < 256) (sym (word.values i below)) (value_fits word.coefficients i word.bytes (omega (arith, below, counts-sixteen g.ratio)))

    each : AllBytes shards
    each = bytes_in_columns (shard_length g (length dat)) shards is.lengths in_column
