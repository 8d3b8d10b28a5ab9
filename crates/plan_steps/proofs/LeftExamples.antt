-- The bound on the steps of five plans, at their starts: it is no less than the steps that they have.
-- The volume has 56 bytes and one entry, and its shards stand, or are to stand, at four servers, counted round.
use Rattle.std.proofs.Common.{◌≡◌, ℕ, ◌%◌, List, [], ◌∷◌, map, refl, Global}
use Rattle.std.specs.Prelude.{filter, nat_lt}
use Rattle.std.specs.List.{range_with_len}
use Rattle.std.specs.declared.vec.Vec as vec
use Rattle.world_model.specs.declared.types.Command.{Command}
use Rattle.world_model.specs.declared.types.Command.TheVariants.{Encode, Rebuild, Balance, Decode}
use Rattle.world_model.specs.declared.types.Ratio.TheVariants.{TenFour}
use Rattle.volume_forms.specs.declared.Entry.{Entry}
use Rattle.stripe_layout.specs.declared.Info.{Info}
use Rattle.shard_table.specs.declared.moves.ShardMove.{ShardMove}
use Rattle.plan_steps.specs.declared.plan.Plan.{Plan}
use Rattle.plan_steps.specs.Lists.{list_of}
use Rattle.plan_steps.specs.Beginning.{first_states}
use Rattle.plan_steps.specs.Left.{left_of}

abbrev small_volume : Info
small_volume = record { dat_size = 56; geometry = record { ratio = TenFour; large = 16; small = 8 } }

abbrev all_round : List (ℕ × ℕ)
all_round = map (λ i. (i, i % 4)) (range_with_len 0 14)

-- without those of the first server
abbrev without_first : List (ℕ × ℕ)
without_first = filter (λ (p : ℕ × ℕ). nat_lt 0 p.1) all_round

-- the missing shards go to the first server
abbrev at_first : List (ℕ × ℕ)
at_first = (0, 0) ∷ (4, 0) ∷ (8, 0) ∷ (12, 0) ∷ []

-- or two of the second one
abbrev to_first : List ShardMove
to_first = record { shard = 13; from = 1; to = 0 } ∷ record { shard = 9; from = 1; to = 0 } ∷ []

-- these are a plan's lists
record Lists (plan : Plan) (entries : List Entry) (deleted : List ℕ) (places targets : List (ℕ × ℕ)) (moves : List ShardMove) : Type 0 where
  entries_ok : vec.ok-type Entry Global plan.entries.ptr plan.entries.len plan.entries.cap plan.entries.alloc entries
  deleted_ok : vec.ok-type ℕ Global plan.deleted.ptr plan.deleted.len plan.deleted.cap plan.deleted.alloc deleted
  places_ok : vec.ok-type (ℕ × ℕ) Global plan.places.ptr plan.places.len plan.places.cap plan.places.alloc places
  targets_ok : vec.ok-type (ℕ × ℕ) Global plan.targets.ptr plan.targets.len plan.targets.cap plan.targets.alloc targets
  moves_ok : vec.ok-type ShardMove Global plan.moves.ptr plan.moves.len plan.moves.cap plan.moves.alloc moves

-- the plan with these fields
abbrev planned : (plan : Plan) → Command → ℕ → (entry : Entry) (deleted : List ℕ) (places targets : List (ℕ × ℕ)) (moves : List ShardMove) → Lists plan (entry ∷ []) deleted places targets moves → Plan
planned plan command home entry deleted places targets moves are = record plan {
  command = command;
  home = home;
  info = small_volume;
  entries = record plan.entries { items = entry ∷ []; ok = are.entries_ok };
  entry_count = 1;
  deleted = record plan.deleted { items = deleted; ok = are.deleted_ok };
  places = record plan.places { items = places; ok = are.places_ok };
  targets = record plan.targets { items = targets; ok = are.targets_ok };
  moves = record plan.moves { items = moves; ok = are.moves_ok };
}

abbrev at_start : Plan → ℕ
at_start plan = left_of plan (first_states plan (list_of plan)) 8

-- ---- the volume of 56 bytes

module _ (plan : Plan) (entry : Entry) where
  -- 44 steps: all indexes and all shards are written together
  of_encode : (are : Lists plan (entry ∷ []) [] [] all_round []) → at_start (planned plan (Encode TenFour) 2 entry [] [] all_round [] are) ≡ 60
  of_encode are = refl

  -- 16 steps
  of_rebuild : (are : Lists plan (entry ∷ []) [] without_first at_first []) → at_start (planned plan Rebuild 0 entry [] without_first at_first [] are) ≡ 19
  of_rebuild are = refl

  -- 15 steps
  of_balance : (are : Lists plan (entry ∷ []) [] without_first [] to_first) → at_start (planned plan Balance 0 entry [] without_first [] to_first are) ≡ 15
  of_balance are = refl

  -- 38 steps
  of_decode : (are : Lists plan (entry ∷ []) [] all_round [] []) → at_start (planned plan Decode 0 entry [] all_round [] [] are) ≡ 38
  of_decode are = refl

  -- 39 steps, one of them for the deletion
  of_decode_less : (are : Lists plan (entry ∷ []) (5 ∷ []) all_round [] []) → at_start (planned plan Decode 0 entry (5 ∷ []) all_round [] [] are) ≡ 39
  of_decode_less are = refl
