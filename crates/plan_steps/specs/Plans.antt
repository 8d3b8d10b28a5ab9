-- Which plans there are: each is made of the places of a table on so many servers.
use Rattle.std.specs.Prelude.{◌≡◌, ℕ, ◌+◌, ◌*◌, ◌%◌, ◌^◌, ◌<◌, ◌≤◌, not, List, [], ◌∷◌, length, map, flat_map, filter, slice_set, Option, Some, None, is_some}
use Rattle.std.specs.List.{range_with_len, AllByRecursion}
use Rattle.world_model.specs.Sizes.{deletion_length, max_dat}
use Rattle.world_model.specs.declared.types.Command.{Command}
use Rattle.world_model.specs.declared.types.Command.TheVariants.{Encode, Rebuild, Balance, Decode}
use Rattle.world_model.specs.Ratios.{data_count}
use Rattle.stripe_layout.specs.declared.Geometry.{Geometry}
use Rattle.stripe_layout.specs.Stripes.{GeometryInRange, shards_in_all}
use Rattle.shard_table.specs.Table.{Row, IsRow, place_in}
use Rattle.shard_table.specs.Even.{IsFewest, AreInTurn, IsEvenRow, row_after}
use Rattle.shard_table.specs.declared.moves.ShardMove.{ShardMove}
use Rattle.image_meaning.specs.Files.{lowest}
use Rattle.site_model.specs.Counts.{max_servers}
use Rattle.plan_steps.specs.declared.plan.Plan.{Plan}
use Rattle.plan_steps.specs.Planned.{held}

-- all shards of the ratio
abbrev pub all_numbers : Geometry → List ℕ
all_numbers g = range_with_len 0 (shards_in_all g)

abbrev pub place_if : ℕ → Option ℕ → List (ℕ × ℕ)
place_if i None = []
place_if i (Some server) = (i, server) ∷ []

-- the shards of a row that stand, with their servers
abbrev pub places_of : Geometry → Row → List (ℕ × ℕ)
places_of g row = flat_map (λ i. place_if i (place_in row i)) (all_numbers g)

-- those that don't
abbrev pub missing_of : Geometry → Row → List ℕ
missing_of g row = filter (λ i. not (is_some (place_in row i))) (all_numbers g)

-- each of these shards goes to the lowest of the servers that have the fewest, those just placed among them
abbrev pub AreFilled : ℕ → Row → List ℕ → List (ℕ × ℕ) → Type 0
AreFilled servers row [] [] = Unit {0}
AreFilled servers row [] (p ∷ targets) = ⊥
AreFilled servers row (i ∷ missing) [] = ⊥
AreFilled servers row (i ∷ missing) (p ∷ targets) = (p.0 ≡ i) × IsFewest servers row p.1 × AreFilled servers (slice_set row i (Some p.1)) missing targets

-- the places with these shards
abbrev pub filled : Row → List (ℕ × ℕ) → Row
filled row [] = row
filled row (p ∷ targets) = filled (slice_set row p.0 (Some p.1)) targets

-- The moves after which the shards are even.
pub record AreMoves (servers : ℕ) (row : Row) (moves : List ShardMove) : Type 0 where
  pub in_turn : AreInTurn servers row moves
  pub even : IsEvenRow servers (row_after row moves)

-- The shards stood at these places, and enough of them.
pub record IsPlaced (servers : ℕ) (plan : Plan) (row : Row) : Type 0 where
  pub is_row : IsRow servers row
  pub beyond : (i : ℕ) → shards_in_all plan.info.geometry ≤ i → place_in row i ≡ None
  pub places : plan.places.items ≡ places_of plan.info.geometry row
  pub enough : data_count plan.info.geometry.ratio ≤ length plan.places.items

-- shard i of an encode goes to server i, counted round
pub record IsEncodePlan (servers : ℕ) (plan : Plan) : Type 0 where
  pub home : plan.home < servers
  pub deleted : plan.deleted.items ≡ []
  pub places : plan.places.items ≡ []
  pub targets : plan.targets.items ≡ map (λ i. (i, i % servers)) (all_numbers plan.info.geometry)
  pub moves : plan.moves.items ≡ []

pub record IsMendPlan (servers : ℕ) (plan : Plan) : Type 0 where
  pub row : Row
  pub placed : IsPlaced servers plan row
  pub moves : AreMoves servers (filled row plan.targets.items) plan.moves.items

-- the home of a decode is the lowest server with a shard
pub record IsDecodePlan (servers : ℕ) (plan : Plan) : Type 0 where
  pub row : Row
  pub placed : IsPlaced servers plan row
  pub home : lowest (held plan) ≡ Some plan.home
  pub targets : plan.targets.items ≡ []
  pub moves : plan.moves.items ≡ []

-- what the command makes of the places
abbrev pub IsPlanBy : ℕ → Plan → Command → Type 0
IsPlanBy servers plan (Encode ratio) = IsEncodePlan servers plan × (plan.info.geometry.ratio ≡ ratio)
IsPlanBy servers plan Rebuild = (is : IsMendPlan servers plan) × AreFilled servers is.row (missing_of plan.info.geometry is.row) plan.targets.items
IsPlanBy servers plan Balance = IsMendPlan servers plan × (plan.targets.items ≡ [])
IsPlanBy servers plan Decode = IsDecodePlan servers plan

-- The plan is one of a volume on a site of so many servers.
pub record IsPlan (plan : Plan) (servers : ℕ) : Type 0 where
  pub some_server : 0 < servers
  pub few_servers : servers ≤ max_servers
  pub geometry : GeometryInRange plan.info.geometry
  pub some_bytes : 8 ≤ plan.info.dat_size
  pub room : plan.info.dat_size + deletion_length * length plan.deleted.items ≤ max_dat
  pub entries : length plan.entries.items < 2 ^ 60
  pub count : plan.entry_count < 2 ^ 60
  pub ids : AllByRecursion (λ id. id < 2 ^ 64) plan.deleted.items
  pub made : IsPlanBy servers plan plan.command
