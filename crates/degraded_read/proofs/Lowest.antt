-- Where the row has each shard that stands at its lowest server, the lowest ones are a codeword's, whatever they hold.
use Rattle.std.proofs.Common.{◌≡◌, ℕ, zero, suc, ◌+◌, ◌<◌, ◌≤◌, Bool, true, cond, List, [], ◌∷◌, length, map, take, Option, Some, None, is_some, refl, sym, ◌∙◌, ap, arith, length-take}
use Rattle.std.specs.Prelude.{filter, slice_index}
use Rattle.std.specs.Option.{option_map_or}
use Rattle.std.specs.List.{AllByRecursion, range_with_len}
use Rattle.std.proofs.lemmas.List.{length-map, take-take}
use Rattle.site_model.specs.Disk.{Files, IsPossible, bytes_of}
use Rattle.file_names.specs.declared.Kind.TheVariants.{Shard}
use Rattle.file_names.specs.Names.{max_shards}
use Rattle.world_model.specs.declared.types.Ratio.{Ratio}
use Rattle.world_model.specs.Ratios.{data_count, parity_count, counts-sixteen}
use Rattle.rs_code.specs.Codeword.{AreBytes, value_through}
use Rattle.rs_code.specs.Shards.{AreShards}
use Rattle.rs_code.specs.Laws.Codeword.{codeword_exists}
use Rattle.shard_table.specs.Table.{Row, place_in}
use Rattle.image_meaning.specs.Files.{contents, files_of, bytes_at, shard_home, standing}
use Rattle.image_meaning.specs.Coded.{shard_bytes, known_at}
use Rattle.degraded_read.specs.Gathering.{shard_at, shard_name, stands_in, standing_in}
use Rattle.degraded_read.specs.Reading.{IsRowOfLowest}
use Rattle.degraded_read.proofs.Steps.{front_passes}
use Rattle.degraded_read.proofs.Restored.{same_bytes}
use Rattle.degraded_read.proofs.Words.{HasWord, each_same, lowest_below, lowest_distinct, lowest_has, points_at, value_of_word}

byte_at : (xs : List ℕ) (p : ℕ) → AreBytes xs → slice_index xs p < 256
byte_at [] p h = omega arith
byte_at (x ∷ xs) zero h = h.0
byte_at (x ∷ xs) (suc p) h = byte_at xs p h.1

filter_same : (test other : ℕ → Bool) (a n : ℕ) → ((i : ℕ) → i < a + n → test i ≡ other i) → filter test (range_with_len a n) ≡ filter other (range_with_len a n)
filter_same test other a zero same = refl
filter_same test other a (suc n) same =
    let rest = filter_same test other (a + 1) n (λ i h. same i (omega arith)) in
    λ i. cond (same a (omega arith) i) (a ∷ rest i) (rest i)

front_of : (k : ℕ) (xs ys : List ℕ) → k ≤ length xs → xs ≡ take (length xs) ys → take k ys ≡ take k xs
front_of k xs ys h e = sym (ap (take k) e ∙ take-take k (length xs) ys h)

module _ (r : Ratio) (servers : ℕ) (files : Files) (volume : ℕ) (row : Row) (possible : IsPossible servers files) (lowest : IsRowOfLowest row (files_of (contents files) volume)) where
  abbrev all_in : ℕ
  all_in = data_count r + parity_count r

  -- as many of them as give the others
  abbrev lowest_in : List ℕ
  lowest_in = take (data_count r) (standing_in row (data_count r + parity_count r))

  bytes_are : (i : ℕ) → AreBytes (shard_at files volume row i)
  bytes_are i = by_place (place_in row i)
    where
      by_place : (o : Option ℕ) → AreBytes (option_map_or (λ s. bytes_of (files (s, shard_name volume i))) o [])
      by_place None = tt
      by_place (Some s) = possible.bytes (s, shard_name volume i)

  home_bytes : (i : ℕ) → i < max_shards → shard_bytes (files_of (contents files) volume) i ≡ shard_at files volume row i
  home_bytes i h =
      ap (λ o. option_map_or (λ s. bytes_at (files_of (contents files) volume) s (Shard i)) o []) (sym (lowest i h)) ∙ by_place (place_in row i)
    where
      by_place : (o : Option ℕ) → option_map_or (λ s. bytes_at (files_of (contents files) volume) s (Shard i)) o [] ≡ option_map_or (λ s. bytes_of (files (s, shard_name volume i))) o []
      by_place None = refl
      by_place (Some s) = same_bytes (files (s, shard_name volume i))

  same_standing : standing_in row max_shards ≡ standing (files_of (contents files) volume)
  unfolding standing
  same_standing = filter_same (stands_in row) (λ i. is_some (shard_home (files_of (contents files) volume) i)) 0 max_shards (λ i h. ap is_some (lowest i h))

  lowest_are : data_count r ≤ length (standing_in row (data_count r + parity_count r)) → take (data_count r) (standing (files_of (contents files) volume)) ≡ lowest_in
  lowest_are enough =
      let few : data_count r + parity_count r ≤ max_shards = omega (arith, counts-sixteen r) in
      ap (take (data_count r)) (sym same_standing) ∙ front_of (data_count r) (standing_in row (data_count r + parity_count r)) (standing_in row max_shards) enough (front_passes (stands_in row) (data_count r + parity_count r) max_shards (standing_in row (data_count r + parity_count r)) few refl)

  -- they are a codeword's, whatever stands
  pub word_of_lowest : data_count r ≤ length (standing_in row (data_count r + parity_count r)) → (p : ℕ)
      → HasWord r (files_of (contents files) volume) (shard_at files volume row) p (take (data_count r) (standing_in row (data_count r + parity_count r)))
  word_of_lowest enough p =
      let k = data_count r in
      let m = parity_count r in
      let have = take k (standing_in row (k + m)) in
      let f : ℕ → ℕ = λ j. slice_index (shard_at files volume row j) p in
      let few : data_count r + parity_count r ≤ 256 = omega (arith, counts-sixteen r) in
      let found = codeword_exists k m have (map f have) few lowest_count (length-map have f ∙ lowest_count) are_shards (value_bytes have) in
      record {
        word = found.0;
        code = found.1;
        read = found.2;
        value = λ i h.
            ap (λ known. value_through known i) known ∙ value_of_word k m found.0 f have i few found.1 (record { count = lowest_count; shards = are_shards }) found.2 h;
      }
    where
      lowest_count : length (take (data_count r) (standing_in row (data_count r + parity_count r))) ≡ data_count r
      lowest_count = omega (arith, length-take (data_count r) (standing_in row (data_count r + parity_count r)), enough)

      are_shards : AreShards (data_count r + parity_count r) (take (data_count r) (standing_in row (data_count r + parity_count r)))
      are_shards = record {
        below = lowest_below (stands_in row) (data_count r) 0 (data_count r + parity_count r) (data_count r + parity_count r) (omega arith);
        distinct = lowest_distinct (stands_in row) (data_count r) 0 (data_count r + parity_count r);
      }

      value_bytes : (xs : List ℕ) → AreBytes (map (λ j. slice_index (shard_at files volume row j) p) xs)
      value_bytes [] = tt
      value_bytes (x ∷ xs) = (byte_at (shard_at files volume row x) p (bytes_are x), value_bytes xs)

      known : known_at r (files_of (contents files) volume) p ≡ points_at (λ j. slice_index (shard_at files volume row j) p) (take (data_count r) (standing_in row (data_count r + parity_count r)))
      known = ap (points_at (λ j. slice_index (shard_bytes (files_of (contents files) volume) j) p)) (lowest_are enough) ∙ points_same (take (data_count r) (standing_in row (data_count r + parity_count r))) are_shards.below
        where
          points_same : (xs : List ℕ) → AllByRecursion (λ j. j < data_count r + parity_count r) xs
              → points_at (λ j. slice_index (shard_bytes (files_of (contents files) volume) j) p) xs ≡ points_at (λ j. slice_index (shard_at files volume row j) p) xs
          points_same [] all = refl
          points_same (x ∷ xs) all = λ i. (x, slice_index (home_bytes x (omega (arith, all.0, counts-sixteen r)) i) p) ∷ points_same xs all.1 i

  -- a data shard that stands is one of them
  pub word_of_data : data_count r ≤ length (standing_in row (data_count r + parity_count r)) → (p want : ℕ) → want < data_count r → stands_in row want ≡ true
      → HasWord r (files_of (contents files) volume) (shard_at files volume row) p (want ∷ [])
  word_of_data enough p want low there =
      let w = word_of_lowest enough p in
      let own : slice_index w.word want ≡ slice_index (shard_at files volume row want) p =
      lowest_has (stands_in row) (λ j. slice_index w.word j ≡ slice_index (shard_at files volume row j) p) (data_count r) 0 (data_count r + parity_count r) want (omega arith) (omega arith) (omega arith) there
      (each_same (slice_index w.word) (λ j. slice_index (shard_at files volume row j) p) (take (data_count r) (standing_in row (data_count r + parity_count r))) w.read) in
      record { word = w.word; code = w.code; read = λ i. own i ∷ []; value = w.value }
