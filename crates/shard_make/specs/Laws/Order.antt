-- The pieces in their order make the shards.
use Rattle.std.proofs.Common.{◌≡◌, ℕ, zero, suc, ◌+◌, ◌-◌, ◌*◌, ◌<◌, ◌≤◌, min, List, [], ◌∷◌, ◌++◌, length, map, take, Option, Some, None, refl, sym, ◌∙◌, ap, subst, arith}
use Rattle.std.specs.Prelude.{flat_map, slice_index_or}
use Rattle.std.specs.List.{AllByRecursion, range_with_len}
use Rattle.std.proofs.lemmas.List.{take_all}
use Rattle.std.proofs.Math.Nat.{div-mul-le_self, mul-le-mul_right}
use Rattle.std.proofs.Math.Seq.{take-add}
use Rattle.site_model.specs.Disk.{File, AreBytes, bytes_of, grown}
use Rattle.site_model.specs.Counts.{widest_piece}
use Rattle.stripe_layout.specs.declared.Geometry.{Geometry}
use Rattle.stripe_layout.specs.Stripes.{GeometryInRange, rounded_up, shard_length, IsStriped}
use Rattle.stripe_layout.specs.Rows.{all_rows, row_block, row_start}
use Rattle.stripe_layout.specs.Laws.Row.{rounded_up-enough}
use Rattle.stripe_layout.specs.Laws.Rows.{row_start-first, row_start-next, row_start-all}
use Rattle.image_meaning.specs.Striped.{shards_of}
use Rattle.image_meaning.specs.Laws.Striped.{length-shards_of, length-shard_of, each_shard_of, shards_of-striped}
use Rattle.shard_make.specs.Made.{piece_width, piece_of}
use Rattle.shard_make.specs.Order.{Spot, row_spots, all_spots, after_pieces, made_shards}

grown_bytes : (file : Option File) (more : List ℕ) → bytes_of (Some (grown file more)) ≡ bytes_of file ++ more
grown_bytes None more = refl
grown_bytes (Some file) more = refl

module _ (g : Geometry) (dat : List ℕ) (i : ℕ) where
  abbrev n : ℕ
  n = length dat

  abbrev shard : List ℕ
  shard = slice_index_or (shards_of g dat) i []

  -- some pieces after others
  pub after_both : (first second : List Spot) (file : Option File) → after_pieces g dat i (first ++ second) file ≡ after_pieces g dat i second (after_pieces g dat i first file)
  after_both [] second file = refl
  after_both (spot ∷ first) second file = after_both first second (Some (grown file (piece_of g dat spot.0 spot.1 i)))

  -- A piece is what follows in the shard.
  pub piece_follows : (row at : ℕ) (file : Option File) → bytes_of file ≡ take (row_start g (length dat) row + at) (slice_index_or (shards_of g dat) i [])
      → bytes_of (Some (grown file (piece_of g dat row at i))) ≡ take (row_start g (length dat) row + at + piece_width g (length dat) row at) (slice_index_or (shards_of g dat) i [])
  piece_follows row at file so_far =
      grown_bytes file (piece_of g dat row at i) ∙ ap (λ bytes. bytes ++ piece_of g dat row at i) so_far
      ∙ sym (take-add (row_start g (length dat) row + at) (piece_width g (length dat) row at) (slice_index_or (shards_of g dat) i []))

  -- the pieces of a row from one of them on
  row_from : (row a m : ℕ) (file : Option File) → a + m ≡ rounded_up (row_block g (length dat) row) widest_piece
      → bytes_of file ≡ take (row_start g (length dat) row + min (a * widest_piece) (row_block g (length dat) row)) (slice_index_or (shards_of g dat) i [])
      → bytes_of (after_pieces g dat i (map (λ j. (row, j * widest_piece)) (range_with_len a m)) file) ≡ take (row_start g (length dat) row + row_block g (length dat) row) (slice_index_or (shards_of g dat) i [])
  row_from row a zero file all so_far =
      let block : ℕ = row_block g (length dat) row in
      let enough = rounded_up-enough (row_block g (length dat) row) widest_piece (omega arith) in
      let last : a ≡ rounded_up (row_block g (length dat) row) widest_piece = omega (arith, all) in
      let whole : min (a * widest_piece) (row_block g (length dat) row) ≡ row_block g (length dat) row = omega (arith, ap (λ m. m * widest_piece) last, enough) in
      so_far ∙ ap (λ w. take (row_start g (length dat) row + w) (slice_index_or (shards_of g dat) i [])) whole
  row_from row a (suc m) file all so_far =
      let block : ℕ = row_block g (length dat) row in
      let more : a + 1 ≤ rounded_up (row_block g (length dat) row) widest_piece = omega (arith, all) in
      let before : a * widest_piece < row_block g (length dat) row =
      omega (arith, mul-le-mul_right widest_piece more, div-mul-le_self (row_block g (length dat) row + widest_piece - 1) widest_piece) in
      let here : min (a * widest_piece) (row_block g (length dat) row) ≡ a * widest_piece = omega (arith, before) in
      let next : row_start g (length dat) row + a * widest_piece + piece_width g (length dat) row (a * widest_piece) ≡ row_start g (length dat) row + min ((a + 1) * widest_piece) (row_block g (length dat) row) = omega (arith, before) in
      row_from row (a + 1) m (Some (grown file (piece_of g dat row (a * widest_piece) i))) (omega (arith, all))
      (piece_follows row (a * widest_piece) file (so_far ∙ ap (λ w. take (row_start g (length dat) row + w) (slice_index_or (shards_of g dat) i [])) here)
      ∙ ap (λ w. take w (slice_index_or (shards_of g dat) i [])) next)

  row_makes : (row : ℕ) (file : Option File) → bytes_of file ≡ take (row_start g (length dat) row) (slice_index_or (shards_of g dat) i [])
      → bytes_of (after_pieces g dat i (row_spots g (length dat) row) file) ≡ take (row_start g (length dat) (suc row)) (slice_index_or (shards_of g dat) i [])
  row_makes row file so_far =
      let none : row_start g (length dat) row ≡ row_start g (length dat) row + min (0 * widest_piece) (row_block g (length dat) row) = omega arith in
      row_from row 0 (rounded_up (row_block g (length dat) row) widest_piece) file (omega arith) (so_far ∙ ap (λ w. take w (slice_index_or (shards_of g dat) i [])) none)
      ∙ ap (λ w. take w (slice_index_or (shards_of g dat) i [])) (sym (row_start-next g (length dat) row))

  -- the rows from one of them on
  rows_make : (a m : ℕ) (file : Option File) → bytes_of file ≡ take (row_start g (length dat) a) (slice_index_or (shards_of g dat) i [])
      → bytes_of (after_pieces g dat i (flat_map (row_spots g (length dat)) (range_with_len a m)) file) ≡ take (row_start g (length dat) (a + m)) (slice_index_or (shards_of g dat) i [])
  rows_make a zero file so_far = let same : a ≡ a + 0 = omega arith in so_far ∙ ap (λ r. take (row_start g (length dat) r) (slice_index_or (shards_of g dat) i [])) same
  rows_make a (suc m) file so_far =
      let one : suc a ≡ a + 1 = omega arith in
      let all : a + 1 + m ≡ a + suc m = omega arith in
      ap bytes_of (after_both (row_spots g (length dat) a) (flat_map (row_spots g (length dat)) (range_with_len (a + 1) m)) file)
      ∙ rows_make (a + 1) m (after_pieces g dat i (row_spots g (length dat) a) file) (row_makes a file so_far ∙ ap (λ r. take (row_start g (length dat) r) (slice_index_or (shards_of g dat) i [])) one)
      ∙ ap (λ r. take (row_start g (length dat) r) (slice_index_or (shards_of g dat) i [])) all

  -- All pieces make the whole shard.
  pub all_make : length (slice_index_or (shards_of g dat) i []) ≡ shard_length g (length dat) → bytes_of (after_pieces g dat i (all_spots g (length dat)) None) ≡ slice_index_or (shards_of g dat) i []
  all_make long =
      let none : 0 + all_rows g (length dat) ≡ all_rows g (length dat) = omega arith in
      rows_make 0 (all_rows g (length dat)) None (ap (λ w. take w (slice_index_or (shards_of g dat) i [])) (sym (row_start-first g (length dat))))
      ∙ ap (λ r. take (row_start g (length dat) r) (slice_index_or (shards_of g dat) i [])) none
      ∙ ap (λ w. take w (slice_index_or (shards_of g dat) i [])) (row_start-all g (length dat))
      ∙ take_all (shard_length g (length dat)) (slice_index_or (shards_of g dat) i []) (omega (arith, long))

-- lists one after the other by their numbers
lists_by : (f : ℕ → List ℕ) (a : ℕ) (rest : List (List ℕ)) → ((i : ℕ) → i < length rest → f (a + i) ≡ slice_index_or rest i []) → map f (range_with_len a (length rest)) ≡ rest
lists_by f a [] same = refl
lists_by f a (x ∷ rest) same = λ j. (ap f a_is ∙ same 0 (omega arith)) j ∷ lists_by f (a + 1) rest (λ i h. ap f (plus i) ∙ same (suc i) (omega (arith, h))) j
  where
    a_is : a ≡ a + 0
    a_is = omega arith

    plus : (i : ℕ) → a + 1 + i ≡ a + suc i
    plus i = omega arith

-- What all pieces make are the shards of the data file, whole.
pub made_are : (g : Geometry) (dat : List ℕ) → GeometryInRange g → made_shards g dat ≡ shards_of g dat
made_are g dat range =
    ap (λ m. map (λ i. bytes_of (after_pieces g dat i (all_spots g (length dat)) None)) (range_with_len 0 m)) (sym (length-shards_of g dat range))
    ∙ lists_by (λ i. bytes_of (after_pieces g dat i (all_spots g (length dat)) None)) 0 (shards_of g dat) (λ i h.
    let here : 0 + i ≡ i = omega arith in
    ap (λ j. bytes_of (after_pieces g dat j (all_spots g (length dat)) None)) here
    ∙ all_make g dat i (length-shard_of g dat range i (omega (arith, h, length-shards_of g dat range))))

pub made_whole : (g : Geometry) (dat : List ℕ) → GeometryInRange g → AllByRecursion (λ s. length s ≡ shard_length g (length dat)) (made_shards g dat)
made_whole g dat range = subst (AllByRecursion (λ s. length s ≡ shard_length g (length dat))) (sym (made_are g dat range)) (each_shard_of g dat range)

-- They are its stripes.
pub pieces_make_shards : (g : Geometry) (dat : List ℕ) → GeometryInRange g → AreBytes dat → IsStriped g dat (made_shards g dat)
pieces_make_shards g dat range are = subst (IsStriped g dat) (sym (made_are g dat range)) (shards_of-striped g dat range are)
