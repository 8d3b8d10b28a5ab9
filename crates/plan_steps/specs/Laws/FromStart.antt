-- No progress of a plan has more steps left than its start.
use Rattle.std.proofs.Common.{◌≡◌, ℕ, ◌+◌, ◌-◌, ◌*◌, ◌<◌, ◌≤◌, Bool, true, false, List, [], ◌∷◌, length, refl, ap, arith}
use Rattle.std.specs.Prelude.{max, nat_lt, if◌then◌else◌}
use Rattle.std.proofs.lemmas.Bool.{lt-ltb, ltb-true}
use Rattle.std.proofs.lemmas.List.Sums.{sum_by-cons}
use Rattle.world_model.specs.Sizes.{deletion_length}
use Rattle.world_model.specs.declared.types.Command.{Command}
use Rattle.world_model.specs.declared.types.Command.TheVariants.{Encode, Rebuild, Balance, Decode}
use Rattle.site_model.specs.Counts.{widest_piece}
use Rattle.file_names.specs.declared.Kind.{Kind}
use Rattle.file_names.specs.declared.Kind.TheVariants.{Dat, Idx, Cpd, Cpx, Shard, Ecx, Ecj, Vif}
use Rattle.stripe_layout.specs.declared.Info.{Info}
use Rattle.stripe_layout.specs.Stripes.{GeometryInRange, shard_length}
use Rattle.stripe_layout.specs.Pieces.{large_part}
use Rattle.plan_steps.specs.declared.plan.Plan.{Plan}
use Rattle.plan_steps.specs.declared.plan.Stage.{Stage}
use Rattle.plan_steps.specs.declared.plan.Stage.TheVariants.{Absent, Writing, Synced, Registered, Gone}
use Rattle.plan_steps.specs.declared.plan.FileState.{FileState}
use Rattle.plan_steps.specs.Planned.{is_found}
use Rattle.plan_steps.specs.Order.{names_of}
use Rattle.plan_steps.specs.Next.{joined_length, large_end}
use Rattle.plan_steps.specs.Beginning.{first_stage, first_state, first_states}
use Rattle.plan_steps.specs.Left.{list_piece, least_read, in_blocks, make_left, join_end, join_left, data_left, shard_left, index_left, pieces_left, written_left, text_left, going_left, coming_left, file_left, left_of}
use Rattle.plan_steps.specs.Laws.Blocks.{round_kept, in_blocks_kept}

-- ---- pieces

module _ (info : Info) (range : GeometryInRange info.geometry) where
  some_large : 0 < info.geometry.large
  some_large = omega (arith, range.some_small, range.small)

  made_kept : (n : ℕ) → make_left info n ≤ make_left info 0
  made_kept n = omega (
    arith,
    in_blocks_kept info.geometry.large (large_part info.geometry info.dat_size - n) (large_part info.geometry info.dat_size - 0) some_large (omega arith),
    in_blocks_kept info.geometry.small (shard_length info.geometry info.dat_size - max (large_part info.geometry info.dat_size) n) (shard_length info.geometry info.dat_size - max (large_part info.geometry info.dat_size) 0) range.some_small (omega arith),
  )

  -- the pieces of blocks of a data file
  abbrev joins : ℕ → ℕ
  joins n = in_blocks info.geometry.large (large_end info - n) + in_blocks info.geometry.small (join_end info - max (large_end info) n)

  joins_kept : (n : ℕ) → joins n ≤ joins 0
  joins_kept n = omega (
    arith,
    in_blocks_kept info.geometry.large (large_end info - n) (large_end info - 0) some_large (omega arith),
    in_blocks_kept info.geometry.small (join_end info - max (large_end info) n) (join_end info - max (large_end info) 0) range.some_small (omega arith),
  )

  joined_kept : (n : ℕ) → join_left info n ≤ join_left info 0
  joined_kept n = by_size (nat_lt n info.dat_size) refl
    where
      at_first : nat_lt n info.dat_size ≡ true → join_left info 0 ≡ joins 0
      at_first less = ap (λ b. if b then joins 0 else 0) (lt-ltb 0 info.dat_size (omega (arith, ltb-true n info.dat_size less)))

      by_size : (b : Bool) → nat_lt n info.dat_size ≡ b → (if b then joins n else 0) ≤ join_left info 0
      by_size true less = omega (arith, joins_kept n, at_first less)
      by_size false less = omega arith

module _ (plan : Plan) (range : GeometryInRange plan.info.geometry) where
  shard_kept : (c : Command) (n : ℕ) → shard_left plan c n ≤ shard_left plan c 0
  shard_kept (Encode ratio) n = made_kept plan.info range n
  shard_kept Rebuild n = round_kept (shard_length plan.info.geometry plan.info.dat_size - n) (shard_length plan.info.geometry plan.info.dat_size - 0) widest_piece (omega arith) (omega arith)
  shard_kept Balance n = round_kept (shard_length plan.info.geometry plan.info.dat_size - n) (shard_length plan.info.geometry plan.info.dat_size - 0) widest_piece (omega arith) (omega arith)
  shard_kept Decode n = round_kept (shard_length plan.info.geometry plan.info.dat_size - n) (shard_length plan.info.geometry plan.info.dat_size - 0) widest_piece (omega arith) (omega arith)

  index_kept : (c : Command) (n : ℕ) → index_left plan c n ≤ index_left plan c 0
  index_kept (Encode ratio) n = round_kept (16 * length plan.entries.items - n) (16 * length plan.entries.items - 0) (16 * list_piece) (omega arith) (omega arith)
  index_kept Rebuild n = round_kept (16 * plan.entry_count - n) (16 * plan.entry_count - 0) widest_piece (omega arith) (omega arith)
  index_kept Balance n = round_kept (16 * plan.entry_count - n) (16 * plan.entry_count - 0) widest_piece (omega arith) (omega arith)
  index_kept Decode n = round_kept (16 * plan.entry_count - n) (16 * plan.entry_count - 0) widest_piece (omega arith) (omega arith)

  data_kept : (n : ℕ) → data_left plan n ≤ data_left plan 0
  data_kept n = omega (
    arith,
    joined_kept plan.info range n,
    round_kept (joined_length plan - max plan.info.dat_size n) (joined_length plan - max plan.info.dat_size 0) (deletion_length * list_piece) (omega arith) (omega arith),
  )

  -- ---- files

  written_most : (p q : ℕ) (stage : Stage) → p ≤ q → written_left p stage ≤ written_left q Absent
  written_most p q Absent h = omega (arith, h)
  written_most p q Writing h = omega (arith, h)
  written_most p q Synced h = omega arith
  written_most p q Registered h = omega arith
  written_most p q Gone h = omega arith

  text_most : (stage : Stage) → text_left stage ≤ 1
  text_most Absent = omega arith
  text_most Writing = omega arith
  text_most Synced = omega arith
  text_most Registered = omega arith
  text_most Gone = omega arith

  going_most : (stage : Stage) → going_left stage ≤ 1
  going_most Absent = omega arith
  going_most Writing = omega arith
  going_most Synced = omega arith
  going_most Registered = omega arith
  going_most Gone = omega arith

  coming_most : (place n : ℕ) (stage : Stage) (kind : Kind) → coming_left plan place n stage kind ≤ coming_left plan 0 0 Absent kind
  coming_most place n stage Dat = written_most (pieces_left plan place n Dat) (pieces_left plan 0 0 Dat) stage (data_kept n)
  coming_most place n stage Idx = written_most (pieces_left plan place n Idx) (pieces_left plan 0 0 Idx) stage (round_kept (joined_length plan - place) (joined_length plan - 0) least_read (omega arith) (omega arith))
  coming_most place n stage Cpd = written_most 0 0 stage (omega arith)
  coming_most place n stage Cpx = written_most 0 0 stage (omega arith)
  coming_most place n stage (Shard i) = written_most (pieces_left plan place n (Shard i)) (pieces_left plan 0 0 (Shard i)) stage (shard_kept plan.command n)
  coming_most place n stage Ecx = written_most (pieces_left plan place n Ecx) (pieces_left plan 0 0 Ecx) stage (index_kept plan.command n)
  coming_most place n stage Ecj = written_most (pieces_left plan place n Ecj) (pieces_left plan 0 0 Ecj) stage (round_kept (16 * length plan.deleted.items - n) (16 * length plan.deleted.items - 0) (16 * list_piece) (omega arith) (omega arith))
  coming_most place n stage Vif = text_most stage

  file_most : (place : ℕ) (s : FileState) → file_left plan place s ≤ file_left plan 0 (first_state plan (s.server, s.kind))
  file_most place s = by_found (is_found plan plan.command s.server s.kind)
    where
      by_found : (b : Bool) → (if b then going_left s.stage else coming_left plan place s.length s.stage s.kind) ≤ (if b then going_left (first_stage b) else coming_left plan 0 0 (first_stage b) s.kind)
      by_found true = going_most s.stage
      by_found false = coming_most place s.length s.stage s.kind

  -- Whatever the progress is, its list has no more steps left than at the start, with all records to read.
  pub left_most : (states : List FileState) (place : ℕ) → left_of plan states place ≤ left_of plan (first_states plan (names_of states)) 0
  left_most [] place = omega arith
  left_most (s ∷ states) place = omega (arith, sum_by-cons (file_left plan place) s states, sum_by-cons (file_left plan 0) (first_state plan (s.server, s.kind)) (first_states plan (names_of states)), file_most place s, left_most states place)
