-- How many pieces the files of a plan have at its start.
use Rattle.std.proofs.Common.{◌≡◌, ℕ, ◌+◌, ◌-◌, ◌*◌, ◌<◌, ◌≤◌, Bool, true, false, length, ap, arith}
use Rattle.std.specs.Prelude.{max, nat_lt, if◌then◌else◌}
use Rattle.std.proofs.Math.Nat.{mul-le-mul_left, mul-le-mul_right}
use Rattle.world_model.specs.Sizes.{deletion_length}
use Rattle.world_model.specs.Ratios.{data_count-some, data_count-twelve}
use Rattle.world_model.specs.declared.types.Command.{Command}
use Rattle.world_model.specs.declared.types.Command.TheVariants.{Encode, Rebuild, Balance, Decode}
use Rattle.site_model.specs.Counts.{widest_piece}
use Rattle.stripe_layout.specs.declared.Info.{Info}
use Rattle.stripe_layout.specs.Stripes.{GeometryInRange, row_width, rounded_up, large_rows, small_rows, shard_length}
use Rattle.stripe_layout.specs.Pieces.{large_part}
use Rattle.plan_steps.specs.declared.plan.Plan.{Plan}
use Rattle.plan_steps.specs.PieceCounts.{block_pieces, pieces}
use Rattle.plan_steps.specs.Next.{joined_length, large_end}
use Rattle.plan_steps.specs.Left.{list_piece, least_read, in_blocks, make_left, join_end, join_left, data_left, shard_left}
use Rattle.plan_steps.specs.ListParts.{parts_of}
use Rattle.plan_steps.specs.Laws.Blocks.{round_reaches, round_least, in_blocks_whole}

module _ (info : Info) (range : GeometryInRange info.geometry) where
  abbrev large : ℕ
  large = info.geometry.large

  abbrev small : ℕ
  small = info.geometry.small

  abbrev rows : ℕ
  rows = large_rows info.geometry info.dat_size

  abbrev last_rows : ℕ
  last_rows = small_rows info.geometry info.dat_size

  abbrev width : ℕ
  width = row_width info.geometry

  abbrev all : ℕ
  all = pieces info.geometry info.dat_size

  some_large : 0 < large
  some_large = omega (arith, range.some_small, range.small)

  some_row : 0 < width * small
  some_row = omega (arith, mul-le-mul_right small (data_count-some info.geometry.ratio), range.some_small)

  -- of a shard that is made
  made_all : make_left info 0 ≡ all
  made_all =
      let first : large_part info.geometry info.dat_size - 0 ≡ rows * large = omega arith in
      let second : shard_length info.geometry info.dat_size - max (large_part info.geometry info.dat_size) 0 ≡ last_rows * small = omega arith in
      omega (arith, ap (in_blocks large) first, in_blocks_whole large rows some_large, ap (in_blocks small) second, in_blocks_whole small last_rows range.some_small)

  shard_within : shard_length info.geometry info.dat_size ≤ all * widest_piece
  shard_within = omega (arith, mul-le-mul_left rows (round_reaches large widest_piece (omega arith)), mul-le-mul_left last_rows (round_reaches small widest_piece (omega arith)))

  -- of one that isn't
  plain_all : rounded_up (shard_length info.geometry info.dat_size - 0) widest_piece ≤ all
  plain_all = round_least (shard_length info.geometry info.dat_size - 0) widest_piece all (omega arith) (omega (arith, shard_within))

  rows_reach : info.dat_size - rows * (width * large) ≤ last_rows * (width * small)
  rows_reach = round_reaches (info.dat_size - rows * (width * large)) (width * small) some_row

  data_within : info.dat_size ≤ width * shard_length info.geometry info.dat_size
  data_within = omega (arith, rows_reach)

  pub data_few : info.dat_size ≤ 12 * (all * widest_piece)
  data_few = omega (arith, data_within, mul-le-mul_left width shard_within, mul-le-mul_right (all * widest_piece) (data_count-twelve info.geometry.ratio))

  -- of the data file, as far as the shards hold it
  joined_all : join_left info 0 ≤ width * all
  joined_all = by_size (nat_lt 0 info.dat_size)
    where
      blocks_few : rounded_up (info.dat_size - large_end info) small ≤ last_rows * width
      blocks_few = round_least (info.dat_size - large_end info) small (last_rows * width) range.some_small (omega (arith, rows_reach))

      joins : in_blocks large (large_end info - 0) + in_blocks small (join_end info - max (large_end info) 0) ≤ width * all
      joins =
          let first : large_end info - 0 ≡ rows * width * large = omega arith in
          let second : join_end info - max (large_end info) 0 ≡ rounded_up (info.dat_size - large_end info) small * small = omega arith in
          omega (
            arith,
            ap (in_blocks large) first,
            in_blocks_whole large (rows * width) some_large,
            ap (in_blocks small) second,
            in_blocks_whole small (rounded_up (info.dat_size - large_end info) small) range.some_small,
            mul-le-mul_right (block_pieces small) blocks_few,
          )

      by_size : (b : Bool) → (if b then in_blocks large (large_end info - 0) + in_blocks small (join_end info - max (large_end info) 0) else 0) ≤ width * all
      by_size true = joins
      by_size false = omega arith

  pub joined_few : join_left info 0 ≤ 12 * all
  joined_few = omega (arith, joined_all, mul-le-mul_right all (data_count-twelve info.geometry.ratio))

-- ---- lists

parts_reach : (n : ℕ) → n ≤ parts_of n * list_piece
parts_reach n = omega (arith, round_reaches n list_piece (omega arith), mul-le-mul_right list_piece (more (rounded_up n list_piece)))
  where
    more : (k : ℕ) → k ≤ max 1 k
    more k = omega arith

pub listed_few : (n : ℕ) → rounded_up (16 * n - 0) (16 * list_piece) ≤ parts_of n
listed_few n = round_least (16 * n - 0) (16 * list_piece) (parts_of n) (omega arith) (omega (arith, parts_reach n))

pub copied_few : (n : ℕ) → rounded_up (16 * n - 0) widest_piece ≤ parts_of n
copied_few n = round_least (16 * n - 0) widest_piece (parts_of n) (omega arith) (omega (arith, parts_reach n))

deleted_few : (size n : ℕ) → rounded_up (size + deletion_length * n - max size 0) (deletion_length * list_piece) ≤ parts_of n
deleted_few size n = round_least (size + deletion_length * n - max size 0) (deletion_length * list_piece) (parts_of n) (omega arith) (omega (arith, parts_reach n))

reads_few : (size n all e : ℕ) → size ≤ 12 * (all * widest_piece) → n ≤ e * list_piece → rounded_up (size + deletion_length * n - 0) least_read ≤ 13 * all + 2 * e
reads_few size n all e short listed = round_least (size + deletion_length * n - 0) least_read (13 * all + 2 * e) (omega arith) (omega (arith, short, listed))

module _ (plan : Plan) (range : GeometryInRange plan.info.geometry) where
  abbrev whole : ℕ
  whole = pieces plan.info.geometry plan.info.dat_size

  pub shards_few : (c : Command) → shard_left plan c 0 ≤ whole
  shards_few (Encode ratio) = omega (arith, made_all plan.info range)
  shards_few Rebuild = plain_all plan.info range
  shards_few Balance = plain_all plan.info range
  shards_few Decode = plain_all plan.info range

  -- of the data file that a decode joins
  pub data_left_few : data_left plan 0 ≤ 12 * whole + parts_of (length plan.deleted.items)
  data_left_few = omega (arith, joined_few plan.info range, deleted_few plan.info.dat_size (length plan.deleted.items))

  -- and of its index
  pub reading_few : rounded_up (joined_length plan - 0) least_read ≤ 13 * whole + 2 * parts_of (length plan.deleted.items)
  reading_few = reads_few plan.info.dat_size (length plan.deleted.items) whole (parts_of (length plan.deleted.items)) (data_few plan.info range) (parts_reach (length plan.deleted.items))
