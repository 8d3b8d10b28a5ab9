-- How a piece of shards, or of a data file, lowers the count of those that are left.
use Rattle.std.proofs.Common.{◌≡◌, ◌⊎◌, inl, inr, ℕ, ◌+◌, ◌-◌, ◌*◌, ◌/◌, ◌%◌, ◌<◌, ◌≤◌, Bool, true, false, length, refl, sym, ap, subst, arith}
use Rattle.std.specs.Prelude.{max, min, nat_lt, ◌==◌, ◌&&◌, if◌then◌else◌}
use Rattle.std.proofs.lemmas.Bool.{cases_lt, and_parts, eqb-true, lt-ltb, le-ltb, ltb-true, ltb-false, false≢true}
use Rattle.world_model.specs.Sizes.{deletion_length}
use Rattle.world_model.specs.Ratios.{data_count-some}
use Rattle.site_model.specs.Counts.{widest_piece}
use Rattle.stripe_layout.specs.declared.Info.{Info}
use Rattle.stripe_layout.specs.Stripes.{GeometryInRange, row_width, rounded_up, large_rows, small_rows, shard_length}
use Rattle.stripe_layout.specs.Pieces.{large_part}
use Rattle.plan_steps.specs.declared.plan.Plan.{Plan}
use Rattle.plan_steps.specs.Next.{joined_length, large_end, make_in_rows, make_step, join_in_rows, join_step}
use Rattle.plan_steps.specs.Legality.{is_make, is_join, is_behind_data}
use Rattle.plan_steps.specs.Left.{list_piece, in_blocks, make_left, join_end, join_left, data_left}
use Rattle.plan_steps.specs.After.{block_of}
use Rattle.plan_steps.specs.Laws.Blocks.{quotient_less, round_reaches, Falls, plain_falls, in_blocks_none, Lowers, block_lowers}

module _ (info : Info) (range : GeometryInRange info.geometry) where
  abbrev large : ℕ
  large = info.geometry.large

  abbrev small : ℕ
  small = info.geometry.small

  abbrev rows : ℕ
  rows = large_rows info.geometry info.dat_size

  abbrev part : ℕ
  part = large_part info.geometry info.dat_size

  some_large : 0 < large
  some_large = omega (arith, range.some_small, range.small)

  blocks_large : (row : ℕ) → row < rows → block_of info row ≡ large
  blocks_large row h = ap (λ b. if b then large else small) (lt-ltb row rows h)

  blocks_small : (row : ℕ) → rows ≤ row → block_of info row ≡ small
  blocks_small row h = ap (λ b. if b then large else small) (le-ltb row rows h)

  -- ---- all shards

  -- where a piece of shards stands that goes on at this place of each
  abbrev IsMadeAt : (n row at : ℕ) → Type 0
  IsMadeAt n row at = ((n < part) × (block_of info row ≡ large) × (at ≡ n % large)) ⊎ ((part ≤ n) × (block_of info row ≡ small) × (at ≡ (n - part) % small))

  made_at : (n row at : ℕ) → is_make row at (make_step info n) ≡ true → IsMadeAt n row at
  made_at n row at is = by_part (nat_lt n part) refl is
    where
      by_part : (b : Bool) → nat_lt n part ≡ b → is_make row at (if b then make_in_rows large 0 n else make_in_rows small rows (n - part)) ≡ true → IsMadeAt n row at
      by_part true less is =
          let both = and_parts (0 + n / large == row) (n % large == at) is in
          let inside = ltb-true n part less in
          inl (inside, blocks_large row (omega (arith, eqb-true (0 + n / large) row both.0, quotient_less n large rows some_large inside)), sym (eqb-true (n % large) at both.1))
      by_part false less is =
          let both = and_parts (rows + (n - part) / small == row) ((n - part) % small == at) is in
          inr (ltb-false n part less, blocks_small row (omega (arith, eqb-true (rows + (n - part) / small) row both.0)), sym (eqb-true ((n - part) % small) at both.1))

  -- of a shard that isn't whole a piece lowers the count, and ends within it
  pub record Makes (n c : ℕ) : Type 0 where
    pub fewer : make_left info (n + c) < make_left info n
    pub within : n + c ≤ shard_length info.geometry info.dat_size

  pub make_piece : (n row at : ℕ) → is_make row at (make_step info n) ≡ true → n < shard_length info.geometry info.dat_size → Makes n (min widest_piece (block_of info row - at))
  make_piece n row at is less = by_part (made_at n row at is)
    where
      in_large : (c : ℕ) → n < part → c ≡ min widest_piece (large - n % large) → Makes n c
      in_large c inside is =
          let low = block_lowers large rows n c some_large inside is in
          let same : max part (n + c) ≡ max part n = omega (arith, low.within, inside) in
          record {
            fewer = omega (arith, low.fewer, ap (λ k. in_blocks small (shard_length info.geometry info.dat_size - k)) same);
            within = omega (arith, low.within);
          }

      in_small : (c : ℕ) → part ≤ n → c ≡ min widest_piece (small - (n - part) % small) → Makes n c
      in_small c behind is =
          let low = block_lowers small (small_rows info.geometry info.dat_size) (n - part) c range.some_small (omega (arith, less, behind)) is in
          let was = in_blocks_none large (part - n) some_large (omega (arith, behind)) in
          let now = in_blocks_none large (part - (n + c)) some_large (omega (arith, behind)) in
          let left : shard_length info.geometry info.dat_size - max part n ≡ small_rows info.geometry info.dat_size * small - (n - part) = omega (arith, behind) in
          let after : shard_length info.geometry info.dat_size - max part (n + c) ≡ small_rows info.geometry info.dat_size * small - (n - part + c) = omega (arith, behind) in
          record {
            fewer = omega (arith, low.fewer, was, now, ap (in_blocks small) left, ap (in_blocks small) after);
            within = omega (arith, low.within, behind);
          }

      by_part : IsMadeAt n row at → Makes n (min widest_piece (block_of info row - at))
      by_part (inl (inside, size, place)) = in_large (min widest_piece (block_of info row - at)) inside (λ i. min widest_piece (size i - place i))
      by_part (inr (behind, size, place)) = in_small (min widest_piece (block_of info row - at)) behind (λ i. min widest_piece (size i - place i))

  -- so what is left of a shard never cuts one short
  pub make_falls : (n row at : ℕ) → is_make row at (make_step info n) ≡ true
      → Falls (shard_length info.geometry info.dat_size) n (make_left info n) (make_left info (n + min (min widest_piece (block_of info row - at)) (shard_length info.geometry info.dat_size - n)))
  make_falls n row at is = record {
    fewer = λ less. cut (min widest_piece (block_of info row - at)) (make_piece n row at is less);
    none = λ more. over (min (min widest_piece (block_of info row - at)) (shard_length info.geometry info.dat_size - n)) more;
  }
    where
      over : (c : ℕ) → shard_length info.geometry info.dat_size ≤ n → make_left info (n + c) ≡ 0
      over c more =
          let first = in_blocks_none large (part - (n + c)) some_large (omega (arith, more)) in
          let second = in_blocks_none small (shard_length info.geometry info.dat_size - max part (n + c)) range.some_small (omega (arith, more)) in
          omega (arith, first, second)

      cut : (c : ℕ) → Makes n c → make_left info (n + min c (shard_length info.geometry info.dat_size - n)) < make_left info n
      cut c makes =
          let same : n + min c (shard_length info.geometry info.dat_size - n) ≡ n + c = omega (arith, makes.within) in
          omega (arith, ap (make_left info) same, makes.fewer)

  -- ---- the data file

  abbrev end : ℕ
  end = large_end info

  abbrev width : ℕ
  width = row_width info.geometry

  -- where a piece of a data file stands that goes on at this place
  abbrev IsJoinedAt : (n row at : ℕ) → Type 0
  IsJoinedAt n row at = ((n < end) × (block_of info row ≡ large) × (at ≡ n % large)) ⊎ ((end ≤ n) × (block_of info row ≡ small) × (at ≡ (n - end) % small))

  end_is : rows * width * large ≡ end
  end_is = omega arith

  joined_at : (n row block at : ℕ) → is_join row block at (join_step info n) ≡ true → IsJoinedAt n row at
  joined_at n row block at is = by_part (nat_lt n end) refl is
    where
      by_part : (b : Bool) → nat_lt n end ≡ b → is_join row block at (if b then join_in_rows width large 0 n else join_in_rows width small rows (n - end)) ≡ true → IsJoinedAt n row at
      by_part true less is =
          let both = and_parts ((0 + n / large / width == row) && (n / large % width == block)) (n % large == at) is in
          let first = and_parts (0 + n / large / width == row) (n / large % width == block) both.0 in
          let inside = ltb-true n end less in
          let blocks = quotient_less n large (rows * width) some_large (omega (arith, inside, end_is)) in
          let before = quotient_less (n / large) width rows (data_count-some info.geometry.ratio) blocks in
          inl (inside, blocks_large row (omega (arith, eqb-true (0 + n / large / width) row first.0, before)), sym (eqb-true (n % large) at both.1))
      by_part false less is =
          let both = and_parts ((rows + (n - end) / small / width == row) && ((n - end) / small % width == block)) ((n - end) % small == at) is in
          let first = and_parts (rows + (n - end) / small / width == row) ((n - end) / small % width == block) both.0 in
          inr (ltb-false n end less, blocks_small row (omega (arith, eqb-true (rows + (n - end) / small / width) row first.0)), sym (eqb-true ((n - end) % small) at both.1))

  -- the pieces of blocks, as long as some are left
  abbrev joins : ℕ → ℕ
  joins n = in_blocks large (end - n) + in_blocks small (join_end info - max end n)

  abbrev last_blocks : ℕ
  last_blocks = rounded_up (info.dat_size - end) small

  joins_fall : (n row block at : ℕ) → is_join row block at (join_step info n) ≡ true → n < info.dat_size → joins (n + min widest_piece (block_of info row - at)) < joins n
  joins_fall n row block at is less = by_part (joined_at n row block at is)
    where
      in_large : (c : ℕ) → n < end → c ≡ min widest_piece (large - n % large) → joins (n + c) < joins n
      in_large c inside is =
          let low : Lowers large end n c = subst (λ e. Lowers large e n c) end_is (block_lowers large (rows * width) n c some_large (omega (arith, inside, end_is)) is) in
          let same : max end (n + c) ≡ max end n = omega (arith, low.within, inside) in
          omega (arith, low.fewer, ap (λ k. in_blocks small (join_end info - k)) same)

      in_small : (c : ℕ) → end ≤ n → c ≡ min widest_piece (small - (n - end) % small) → joins (n + c) < joins n
      in_small c behind is =
          let low = block_lowers small last_blocks (n - end) c range.some_small (omega (arith, less, behind, round_reaches (info.dat_size - end) small range.some_small)) is in
          let was = in_blocks_none large (end - n) some_large (omega (arith, behind)) in
          let now = in_blocks_none large (end - (n + c)) some_large (omega (arith, behind)) in
          let left : join_end info - max end n ≡ last_blocks * small - (n - end) = omega (arith, behind) in
          let after : join_end info - max end (n + c) ≡ last_blocks * small - (n - end + c) = omega (arith, behind) in
          omega (arith, low.fewer, was, now, ap (in_blocks small) left, ap (in_blocks small) after)

      by_part : IsJoinedAt n row at → joins (n + min widest_piece (block_of info row - at)) < joins n
      by_part (inl (inside, size, place)) = in_large (min widest_piece (block_of info row - at)) inside (λ i. min widest_piece (size i - place i))
      by_part (inr (behind, size, place)) = in_small (min widest_piece (block_of info row - at)) behind (λ i. min widest_piece (size i - place i))

  join_inside : (n : ℕ) → n < info.dat_size → join_left info n ≡ joins n
  join_inside n less = ap (λ b. if b then joins n else 0) (lt-ltb n info.dat_size less)

  join_over : (n : ℕ) → info.dat_size ≤ n → join_left info n ≡ 0
  join_over n more = ap (λ b. if b then joins n else 0) (le-ltb n info.dat_size more)

  pub join_falls : (n row block at : ℕ) → is_join row block at (join_step info n) ≡ true → n < info.dat_size
      → join_left info (n + min (min widest_piece (block_of info row - at)) (info.dat_size - n)) < join_left info n
  join_falls n row block at is less = by_end (min widest_piece (block_of info row - at)) (joins_fall n row block at is less)
    where
      by_end : (c : ℕ) → joins (n + c) < joins n → join_left info (n + min c (info.dat_size - n)) < join_left info n
      by_end c fewer = by_room (cases_lt (n + c) info.dat_size)
        where
          by_room : (n + c < info.dat_size) ⊎ (info.dat_size ≤ n + c) → join_left info (n + min c (info.dat_size - n)) < join_left info n
          by_room (inl inside) =
              let same : n + min c (info.dat_size - n) ≡ n + c = omega (arith, inside) in
              omega (arith, ap (join_left info) same, join_inside (n + c) inside, join_inside n less, fewer)
          by_room (inr all) = omega (arith, join_over (n + min c (info.dat_size - n)) (omega (arith, all, less)), join_inside n less, fewer)

module _ (plan : Plan) (range : GeometryInRange plan.info.geometry) where
  -- the deletions behind so many bytes
  abbrev counted : ℕ → ℕ
  counted k = rounded_up (joined_length plan - k) (deletion_length * list_piece)

  pub piece_joins : (n row block at : ℕ) → is_join row block at (join_step plan.info n) ≡ true → n < plan.info.dat_size
      → Falls (joined_length plan) n (data_left plan n) (data_left plan (n + min (min widest_piece (block_of plan.info row - at)) (plan.info.dat_size - n)))
  piece_joins n row block at is less = record {
    fewer = λ _. behind (min (min widest_piece (block_of plan.info row - at)) (plan.info.dat_size - n)) (omega (arith, less)) (join_falls plan.info range n row block at is less);
    none = λ more. absurd (omega (arith, more, less));
  }
    where
      behind : (c : ℕ) → n + c ≤ plan.info.dat_size → join_left plan.info (n + c) < join_left plan.info n → data_left plan (n + c) < data_left plan n
      behind c within fewer =
          let same : max plan.info.dat_size (n + c) ≡ max plan.info.dat_size n = omega (arith, within, less) in
          omega (arith, fewer, ap counted same)

  pub piece_deletes : (n at : ℕ) → is_behind_data plan.info.dat_size at n ≡ true
      → Falls (joined_length plan) n (data_left plan n) (data_left plan (n + deletion_length * min list_piece (length plan.deleted.items - at)))
  piece_deletes n at is = by_part (nat_lt n plan.info.dat_size) refl is
    where
      by_part : (b : Bool) → nat_lt n plan.info.dat_size ≡ b → (if b then false else (at == (n - plan.info.dat_size) / 32)) ≡ true
          → Falls (joined_length plan) n (data_left plan n) (data_left plan (n + deletion_length * min list_piece (length plan.deleted.items - at)))
      by_part true less is = absurd (false≢true is)
      by_part false less is = deletions (deletion_length * min list_piece (length plan.deleted.items - at)) (ltb-false n plan.info.dat_size less) (by_count (ltb-false n plan.info.dat_size less) (eqb-true at ((n - plan.info.dat_size) / 32) is) (cases_lt list_piece (length plan.deleted.items - at)))
        where
          by_count : plan.info.dat_size ≤ n → at ≡ (n - plan.info.dat_size) / 32 → (list_piece < length plan.deleted.items - at) ⊎ (length plan.deleted.items - at ≤ list_piece)
              → (deletion_length * list_piece ≤ deletion_length * min list_piece (length plan.deleted.items - at)) ⊎ (joined_length plan - n ≤ deletion_length * min list_piece (length plan.deleted.items - at))
          by_count behind e (inl wide) = inl (omega (arith, wide))
          by_count behind e (inr all) = inr (omega (arith, all, e, behind))

          deletions : (c : ℕ) → plan.info.dat_size ≤ n → (deletion_length * list_piece ≤ c) ⊎ (joined_length plan - n ≤ c) → Falls (joined_length plan) n (data_left plan n) (data_left plan (n + c))
          deletions c behind long =
              let falls = plain_falls (joined_length plan) n c (deletion_length * list_piece) (omega arith) long in
              let was : max plan.info.dat_size n ≡ n = omega (arith, behind) in
              let now : max plan.info.dat_size (n + c) ≡ n + c = omega (arith, behind) in
              let gone = join_over plan.info range n behind in
              let still = join_over plan.info range (n + c) (omega (arith, behind)) in
              record {
                fewer = λ less. omega (arith, falls.fewer less, gone, still, ap counted was, ap counted now);
                none = λ more. omega (arith, falls.none more, still, ap counted now);
              }
