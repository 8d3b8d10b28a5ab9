-- How parts of shards come together to pieces, and pieces to a range of the data file.
use Rattle.std.proofs.Common.{◌≡◌, ◌⊎◌, inl, inr, ℕ, zero, suc, ◌+◌, ◌-◌, ◌*◌, ◌%◌, ◌<◌, ◌≤◌, min, List, [], ◌∷◌, ◌++◌, length, map, take, drop, refl, sym, ◌∙◌, ap, subst, length-take, length-drop, append_assoc, arith}
use Rattle.std.specs.Prelude.{slice_index, slice_index_or}
use Rattle.std.specs.List.{AllByRecursion, range_with_len}
use Rattle.std.proofs.lemmas.Bool.{cases_lt}
use Rattle.std.proofs.lemmas.Grind.{same_number_lists}
use Rattle.std.proofs.lemmas.List.{append-nil, drop-take, get_or-take, get_or-drop, take_all}
use Rattle.std.proofs.lemmas.List.FromFn.{get_or-map-range_with_len, length-map-range_with_len}
use Rattle.std.proofs.Math.Seq.{take-add}
use Rattle.std.proofs.Math.Nat.{mul-le-mul_right, add-mul}
use Rattle.std.proofs.lemmas.List.Sums.{sum_by-cons}
use Rattle.site_model.specs.Disk.{Disk, Files}
use Rattle.site_model.specs.Counts.{Counts, TakesCalls}
use Rattle.site_model.specs.Laws.Count.{takes_none, takes_on, takes_within}
use Rattle.world_model.specs.declared.types.Ratio.{Ratio}
use Rattle.world_model.specs.Ratios.{data_count}
use Rattle.rs_code.specs.Codeword.{value_through}
use Rattle.stripe_layout.specs.declared.Info.{Info}
use Rattle.stripe_layout.specs.declared.Piece.{Piece}
use Rattle.stripe_layout.specs.Stripes.{shard_length, unstriped}
use Rattle.stripe_layout.specs.Pieces.{IsPiece, AreLocated, piece_of, pieces_of}
use Rattle.image_meaning.specs.Files.{VolumeFiles, contents, files_of}
use Rattle.image_meaning.specs.Coded.{known_at, shard_by, data_shards, dat_by}
use Rattle.shard_table.specs.Table.{Row, Table, row_of}
use Rattle.degraded_read.specs.Reading.{HasPlaces, IsCertain}
use Rattle.degraded_read.specs.Ranges.{FillsPiece, FillsPieces, GivesRange, IsKeptBefore, parts_in, parts_of, shards_by}

-- ---- parts of one piece

-- so much of a shard stands in the room, from a place of it on
abbrev pub FillsPart : Files → ℕ → Info → Row → Type 0 → ℕ → ℕ → ℕ → ℕ → List ℕ → Type 0
FillsPart files volume info row none_failed shard at from size out =
    FillsPiece files volume info row none_failed (record { shard = shard; at = at; length = size }) from out

-- where nothing failed now, nothing had before
pub certain_before : {code lowest before now : Type 0} → (now → before) → code ⊎ (lowest × now) → code ⊎ (lowest × before)
certain_before kept (inl one) = inl one
certain_before kept (inr least) = inr (least.0, kept least.1)

module _ (files : Files) (volume : ℕ) (info : Info) (row : Row) where
  pub fills_whole : {none_failed : Type 0} (piece : Piece) (from size : ℕ) (out : List ℕ) → piece.length ≤ size → FillsPart files volume info row none_failed piece.shard piece.at from size out → FillsPiece files volume info row none_failed piece from out
  fills_whole piece from size out h fills certain i k = fills certain i (omega arith)

  -- a part behind others
  pub fills_next : {before now : Type 0} (shard at from done size : ℕ) (old new : List ℕ) → (now → before)
      → IsKeptBefore (from + done) old new
      → FillsPart files volume info row before shard at from done old → FillsPart files volume info row now shard (at + done) (from + done) size new
      → FillsPart files volume info row now shard at from (done + size) new
  fills_next shard at from done size old new earlier kept so_far more certain i h = elim (cases_lt i done) [
    | inl before ↦ kept (from + i) (omega arith) ∙ so_far (certain_before earlier certain) i before
    | inr behind ↦
        let place : from + done + (i - done) ≡ from + i = omega arith in
        let byte : at + done + (i - done) ≡ at + i = omega arith in
        ap (slice_index new) (sym place)
        ∙ more certain (i - done) (omega arith)
        ∙ ap (λ p. value_through (known_at info.geometry.ratio (files_of (contents files) volume) p) shard) byte
  ]

-- ---- shards by their codewords

module _ (r : Ratio) (files : VolumeFiles) (n : ℕ) where
  shard_byte : (i p : ℕ) → p < n → slice_index (shard_by r files n i) p ≡ value_through (known_at r files p) i
  unfolding shard_by
  shard_byte i p h = get_or-map-range_with_len (λ q. value_through (known_at r files q) i) 0 n p p 0 h (omega arith)

  length-shard_by : (i : ℕ) → length (shard_by r files n i) ≡ n
  unfolding shard_by
  length-shard_by i = length-map-range_with_len (λ q. value_through (known_at r files q) i) 0 n

  shard_is : (i : ℕ) → i < data_count r → slice_index_or (data_shards r files n) i [] ≡ shard_by r files n i
  shard_is i h = get_or-map-range_with_len (shard_by r files n) 0 (data_count r) i i [] h (omega arith)

  lengths_are : (a m : ℕ) → AllByRecursion (λ s. length s ≡ n) (map (shard_by r files n) (range_with_len a m))
  lengths_are a zero = tt
  lengths_are a (suc m) = (length-shard_by a, lengths_are (a + 1) m)

  -- what stands in the room is a piece
  pub piece_is : (p : Piece) (from : ℕ) (out : List ℕ) → p.shard < data_count r → p.at + p.length ≤ n → from + p.length ≤ length out
      → ((i : ℕ) → i < p.length → slice_index out (from + i) ≡ value_through (known_at r files (p.at + i)) p.shard)
      → take p.length (drop from out) ≡ piece_of (data_shards r files n) p
  piece_is p from out low within room fills =
      let here : slice_index_or (data_shards r files n) p.shard [] ≡ shard_by r files n p.shard = shard_is p.shard low in
      let long : length (take p.length (drop from out)) ≡ p.length = omega (arith, length-take p.length (drop from out), length-drop from out, room) in
      let wide : length (take p.length (drop p.at (shard_by r files n p.shard))) ≡ p.length =
      omega (arith, length-take p.length (drop p.at (shard_by r files n p.shard)), length-drop p.at (shard_by r files n p.shard), length-shard_by p.shard, within) in
      same_number_lists (take p.length (drop from out)) (take p.length (drop p.at (shard_by r files n p.shard))) (long ∙ sym wide) (λ i h.
      let inside : i < p.length = omega (arith, h, long) in
      get_or-take p.length (drop from out) i 0 inside
      ∙ get_or-drop from out i 0
      ∙ fills i inside
      ∙ sym (shard_byte p.shard (p.at + i) (omega arith))
      ∙ sym (get_or-drop p.at (shard_by r files n p.shard) i 0)
      ∙ sym (get_or-take p.length (drop p.at (shard_by r files n p.shard)) i 0 inside))
      ∙ ap (λ s. take p.length (drop p.at s)) (sym here)

-- what stands before a place
front_kept : (done : ℕ) (old new : List ℕ) → length new ≡ length old → done ≤ length old → IsKeptBefore done old new → take done new ≡ take done old
front_kept done old new same within kept =
    let long : length (take done new) ≡ done = omega (arith, length-take done new, same, within) in
    let wide : length (take done old) ≡ done = omega (arith, length-take done old, within) in
    same_number_lists (take done new) (take done old) (long ∙ sym wide) (λ i h.
    let inside : i < done = omega (arith, h, long) in
    get_or-take done new i 0 inside ∙ kept i inside ∙ sym (get_or-take done old i 0 inside))

take_within : (m n : ℕ) (xs : List ℕ) → m ≤ n → take m (take n xs) ≡ take m xs
take_within zero n xs h = refl
take_within (suc m) zero xs h = absurd (omega arith)
take_within (suc m) (suc n) [] h = refl
take_within (suc m) (suc n) (x ∷ xs) h = ap (λ l. x ∷ l) (take_within m n xs (omega arith))

-- ---- pieces one after the other

module _ (files : Files) (volume : ℕ) (info : Info) (row : Row) where
  abbrev shards : List (List ℕ)
  shards = shards_by files volume info

  -- The first bytes of the room are the first of these pieces, and the others are to come.
  pub record HasJoined (none_failed : Type 0) (pieces : List Piece) (done : ℕ) (rest : List Piece) (out : List ℕ) : Type 0 where
    pub joined : IsCertain files volume info row none_failed → take done out ++ pieces_of shards rest ≡ pieces_of shards pieces

  pub none_joined : {none_failed : Type 0} (pieces : List Piece) (out : List ℕ) → HasJoined none_failed pieces 0 pieces out
  none_joined pieces out = record { joined = λ certain. refl }

  pub piece_joins : {before now : Type 0} (pieces : List Piece) (done : ℕ) (p : Piece) (rest : List Piece) (old new : List ℕ) → (now → before)
      → IsPiece info.geometry info.dat_size p → length new ≡ length old → done + p.length ≤ length old
      → IsKeptBefore done old new → FillsPiece files volume info row now p done new
      → HasJoined before pieces done (p ∷ rest) old → HasJoined now pieces (done + p.length) rest new
  piece_joins pieces done p rest old new earlier is same within kept fills so_far = record {
    joined = λ certain.
        ap (λ l. l ++ pieces_of shards rest) (take-add done p.length new)
        ∙ (λ i. (front_kept done old new same (omega arith) kept i ++ piece_is info.geometry.ratio (files_of (contents files) volume) (shard_length info.geometry info.dat_size) p done new is.shard is.within_shard (omega (arith, same)) (fills certain) i) ++ pieces_of shards rest)
        ∙ append_assoc (take done old) (piece_of shards p) (pieces_of shards rest)
        ∙ so_far.joined (certain_before earlier certain);
  }

  pub all_joined : {before now : Type 0} (pieces : List Piece) (done : ℕ) (out : List ℕ) → (now → before) → length out ≤ done → HasJoined before pieces done [] out → FillsPieces files volume info row now pieces out
  all_joined pieces done out earlier all so_far certain = sym (take_all done out all) ∙ sym (append-nil (take done out)) ∙ so_far.joined (certain_before earlier certain)

  -- all pieces of a range are the range
  pub range_is : {none_failed : Type 0} (pieces : List Piece) (offset count : ℕ) (out : List ℕ) → AreLocated info.geometry info.dat_size offset count pieces → length out ≡ count → offset + count ≤ info.dat_size
      → FillsPieces files volume info row none_failed pieces out → GivesRange files volume info row none_failed offset out
  unfolding dat_by
  range_is pieces offset count out located long within fills certain =
      let r : Ratio = info.geometry.ratio in
      let of_volume : VolumeFiles = files_of (contents files) volume in
      let n : ℕ = shard_length info.geometry info.dat_size in
      let rows : List ℕ = unstriped info.geometry info.dat_size shards in
      fills certain
      ∙ located.rows shards (length-map-range_with_len (shard_by r of_volume n) 0 (data_count r)) (lengths_are r of_volume n 0 (data_count r))
      ∙ ap (λ m. take m (drop offset rows)) (sym long)
      ∙ sym (front rows)
    where
      front : (rows : List ℕ) → take (length out) (drop offset (take info.dat_size rows)) ≡ take (length out) (drop offset rows)
      front rows =
          let size : offset + (info.dat_size - offset) ≡ info.dat_size = omega arith in
          ap (λ m. take (length out) (drop offset (take m rows))) (sym size)
          ∙ ap (take (length out)) (drop-take offset (info.dat_size - offset) rows)
          ∙ take_within (length out) (info.dat_size - offset) (drop offset rows) (omega (arith, long))

-- ---- how many parts

-- So many bytes of a piece are read, in whole parts, where there are more to read.
pub record HasRead (standing done size : ℕ) (old now : Counts) : Type 0 where
  pub whole : done < size → done % 65536 ≡ 0
  pub takes : TakesCalls (parts_in done * standing) 65536 old now

pub none_read : (standing size : ℕ) (counts : Counts) → HasRead standing 0 size counts counts
none_read standing size counts = record { whole = λ more. omega arith; takes = takes_within {m = 0} {width = 0} (omega arith) (omega arith) (takes_none counts) }

pub part_read : {old mid new : Counts} (standing done part size : ℕ) → done < size → part ≡ min (size - done) 65536
    → HasRead standing done size old mid → TakesCalls standing part mid new → HasRead standing (done + part) size old new
part_read {old} {mid} {new} standing done part size more is so_far did =
    let next : parts_in (done + part) ≡ suc (parts_in done) = omega (arith, more, is, so_far.whole more) in
    let wide : TakesCalls standing 65536 mid new = takes_within (omega arith) (omega (arith, is)) did in
    let both : TakesCalls (parts_in done * standing + standing) 65536 old new = takes_on so_far.takes wide in
    record {
      whole = λ yet. omega (arith, more, is, yet, so_far.whole more);
      takes = subst (λ m. TakesCalls (m * standing) 65536 old new) (sym next) (takes_within (omega arith) (omega arith) both);
    }

pub read_within : {old now : Counts} (standing done size : ℕ) → done ≤ size → HasRead standing done size old now → TakesCalls (parts_in size * standing) 65536 old now
read_within standing done size within read = takes_within (mul-le-mul_right standing (fewer done size within)) (omega arith) read.takes
  where
    fewer : (a b : ℕ) → a ≤ b → parts_in a ≤ parts_in b
    fewer a b h = omega arith

-- The parts of all pieces but the rest are read.
pub record HasTaken (standing : ℕ) (all rest : List Piece) (old now : Counts) : Type 0 where
  pub parts : ℕ
  pub sum : parts + parts_of rest ≡ parts_of all
  pub takes : TakesCalls (parts * standing) 65536 old now

pub none_taken : (standing : ℕ) (all : List Piece) (counts : Counts) → HasTaken standing all all counts counts
none_taken standing all counts = record { parts = 0; sum = omega arith; takes = takes_within {m = 0} {width = 0} (omega arith) (omega arith) (takes_none counts) }

pub piece_taken : {old mid new : Counts} (standing : ℕ) (all : List Piece) (p : Piece) (rest : List Piece) → HasTaken standing all (p ∷ rest) old mid → TakesCalls (parts_in p.length * standing) 65536 mid new → HasTaken standing all rest old new
piece_taken {old} {mid} {new} standing all p rest so_far did = record {
  parts = so_far.parts + parts_in p.length;
  sum = omega (arith, so_far.sum, sum_by-cons (λ (q : Piece). parts_in q.length) p rest);
  takes = subst (λ m. TakesCalls m 65536 old new) (sym (add-mul so_far.parts (parts_in p.length) standing)) (takes_on so_far.takes did);
}

pub taken_within : {old now : Counts} (standing : ℕ) (all rest : List Piece) → HasTaken standing all rest old now → TakesCalls (parts_of all * standing) 65536 old now
taken_within standing all rest taken = takes_within (mul-le-mul_right standing (omega (arith, taken.sum))) (omega arith) taken.takes

-- ---- what a call left as it was

pub placed_still : (old new : Disk) (v w : ℕ) (info : Info) (table : Table) → new ≡ old → w ≡ v → HasPlaces old.files v info (row_of table v) → HasPlaces new.files w info (row_of table w)
placed_still old new v w info table same volume placed =
    subst (λ u. HasPlaces new.files u info (row_of table u)) (sym volume)
    (subst (λ (d : Disk). HasPlaces d.files v info (row_of table v)) (sym same) placed)

pub filled_still : (old new : Disk) (v w : ℕ) (info : Info) (table : Table) (none_failed : Type 0) (p : Piece) (from : ℕ) (out : List ℕ) → new ≡ old → w ≡ v → FillsPiece new.files w info (row_of table w) none_failed p from out
    → FillsPiece old.files v info (row_of table v) none_failed p from out
filled_still old new v w info table none_failed p from out same volume fills =
    subst (λ (d : Disk). FillsPiece d.files v info (row_of table v) none_failed p from out) same
    (subst (λ u. FillsPiece new.files u info (row_of table u) none_failed p from out) volume fills)
