-- Shards that were read one after the other, the lowest first, past those that failed.
use Rattle.std.specs.Prelude.{◌≡◌, ℕ, ◌+◌, ◌-◌, ◌*◌, ◌^◌, ◌<◌, ◌≤◌, min, nat_le, Bool, true, false, not, if◌then◌else◌, is_some, IsSome, List, [], length, filter, map, take, slice_index, slice_index_or, Option, Some, None}
use Rattle.std.specs.Option.{option_map_or}
use Rattle.std.specs.List.{AllByRecursion, range_with_len}
use Rattle.site_model.specs.Disk.{Files, bytes_of}
use Rattle.site_model.specs.Counts.{Counts}
use Rattle.file_names.specs.declared.Kind.TheVariants.{Shard}
use Rattle.file_names.specs.Names.{max_shards, name_bytes}
use Rattle.world_model.specs.declared.types.Ratio.{Ratio}
use Rattle.world_model.specs.Ratios.{data_count, parity_count}
use Rattle.rs_code.specs.Codeword.{IsCodeword}
use Rattle.rs_code.specs.Combination.{AreDistinct}
use Rattle.rs_kernel.specs.Pieces.{AreEnough}
use Rattle.shard_table.specs.Table.{Row, place_in}

abbrev pub shard_name : ℕ → ℕ → List ℕ
shard_name volume i = name_bytes (record { volume = volume; kind = Shard i; temp = false })

-- the names of the volume's shards
pub record AreNames (volume : ℕ) (names : List (List ℕ)) : Type 0 where
  pub count : length names ≡ max_shards
  pub each : (i : ℕ) → i < max_shards → slice_index_or names i [] ≡ shard_name volume i

-- the bytes of a shard at its place
abbrev pub shard_at : Files → ℕ → Row → ℕ → List ℕ
shard_at files volume row i = option_map_or (λ s. bytes_of (files (s, shard_name volume i))) (place_in row i) []

abbrev pub OnServers : ℕ → Row → Type 0
OnServers servers row = (i s : ℕ) → place_in row i ≡ Some s → s < servers

-- each shard in the row reaches so far
abbrev pub HoldRange : Files → ℕ → Row → ℕ → Type 0
HoldRange files volume row end = (i s : ℕ) → place_in row i ≡ Some s
    → end ≤ length (bytes_of (files (s, shard_name volume i)))

-- ---- counts of faults

abbrev pub rose : ℕ → ℕ → Bool
rose before now = nat_le (min (before + 1) (2 ^ 64 - 1)) now

abbrev pub stands_in : Row → ℕ → Bool
stands_in row i = is_some (place_in row i)

-- it stands on a server whose count of faults didn't rise
abbrev pub is_reliable : Row → Counts → Counts → ℕ → Bool
is_reliable row old now i = option_map_or (λ s. not (rose (old.faults s) (now.faults s))) (place_in row i) false

-- so many of the first n shards stand on such servers
abbrev pub reliable : Row → Counts → Counts → ℕ → ℕ
reliable row old now n = length (filter (is_reliable row old now) (range_with_len 0 n))

-- those of the first n shards that stand
abbrev pub standing_in : Row → ℕ → List ℕ
standing_in row n = filter (stands_in row) (range_with_len 0 n)

-- the reads that a shard takes
abbrev pub reads_of : Row → ℕ → ℕ
reads_of row i = if stands_in row i then 1 else 0

-- ---- what was read

-- These shards' bytes from a place on stand in the room, one piece behind the other.
abbrev pub HasPieces : Files → ℕ → Row → ℕ → ℕ → List ℕ → List ℕ → Type 0
HasPieces files volume row at size have room = (n : ℕ) → n < length have → (i : ℕ) → i < size
    → slice_index room (n * size + i) ≡ slice_index (shard_at files volume row (slice_index have n)) (at + i)

-- Of the first shards of a row these were read, since the counts were `old`.
pub record HasGathered (tells : Type 0) (files : Files) (volume : ℕ) (row : Row) (at size : ℕ) (old now : Counts) (shard : ℕ) (have : List ℕ) (failed : Option ℕ) (room : List ℕ) : Type 0 where
  pub below : AllByRecursion (λ j. j < shard) have
  pub distinct : AreDistinct have
  pub placed : AllByRecursion (λ j. stands_in row j ≡ true) have
  pub pieces : tells → HasPieces files volume row at size have room
  pub no_more : reliable row old now shard ≤ length have
  pub all_read : failed ≡ None → have ≡ filter (stands_in row) (range_with_len 0 shard)

-- Of n shards k were read, the lowest ones where none failed, or all were tried that stand and fewer than k of them
-- stand on servers whose count didn't rise.
pub record HasEnough (k n : ℕ) (tells : Type 0) (files : Files) (volume : ℕ) (row : Row) (at size : ℕ) (old now : Counts) (have : List ℕ) (failed : Option ℕ) (room : List ℕ) : Type 0 where
  pub below : AllByRecursion (λ j. j < n) have
  pub distinct : AreDistinct have
  pub placed : AllByRecursion (λ j. stands_in row j ≡ true) have
  pub pieces : tells → HasPieces files volume row at size have room
  pub lowest : failed ≡ None → have ≡ take (length have) (standing_in row n)
  pub few : length have < k → reliable row old now n < k
  pub some_failed : length have < k → k ≤ length (standing_in row n) → IsSome failed

-- At most so many numbers, in a list of one length.
pub record AreNumbers (most count : ℕ) (have : List ℕ) : Type 0 where
  pub few : count ≤ most
  pub room : length have ≡ 16

-- Each byte is that of every codeword that has the bytes of some shards of the row there, as many as give the others,
-- the lowest ones where none failed.
pub record IsRestoredPart (r : Ratio) (files : Files) (volume : ℕ) (row : Row) (shard at : ℕ) (failed : Option ℕ) (out : List ℕ) : Type 0 where
  pub have : List ℕ
  pub shards : AreEnough (data_count r) (parity_count r) have
  pub placed : AllByRecursion (λ j. stands_in row j ≡ true) have
  pub lowest : failed ≡ None → have ≡ take (data_count r) (standing_in row (data_count r + parity_count r))
  pub bytes : (i : ℕ) → i < length out → (c : List ℕ) → IsCodeword (data_count r) (parity_count r) c
      → map (slice_index c) have ≡ map (λ j. slice_index (shard_at files volume row j) (at + i)) have → slice_index out i ≡ slice_index c shard
