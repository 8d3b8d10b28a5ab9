-- The states of a plan's files when it begins.
use Rattle.std.specs.Prelude.{ℕ, ◌==◌, ◌&&◌, ◌||◌, not, Bool, if◌then◌else◌, List, [], ◌∷◌, ◌++◌, length, map, filter, flat_map, take}
use Rattle.std.specs.List.{list_any}
use Rattle.file_names.specs.declared.Kind.{Kind}
use Rattle.file_names.specs.declared.Kind.TheVariants.{Shard}
use Rattle.shard_table.specs.declared.moves.ShardMove.{ShardMove}
use Rattle.image_meaning.specs.Files.{all_servers}
use Rattle.plan_steps.specs.declared.plan.Plan.{Plan}
use Rattle.plan_steps.specs.declared.plan.Stage.{Stage}
use Rattle.plan_steps.specs.declared.plan.Stage.TheVariants.{Absent, Registered}
use Rattle.plan_steps.specs.declared.plan.FileState.{FileState}
use Rattle.plan_steps.specs.Planned.{held, is_found}
use Rattle.plan_steps.specs.Order.{Names}
use Rattle.plan_steps.specs.Lists.{is_target, shard_names, beside_names, left_names, move_names, encode_names, decode_names}

-- a file that the plan found stands, and of another nothing does
abbrev pub first_stage : Bool → Stage
first_stage found = if found then Registered else Absent

abbrev pub first_state : Plan → ℕ × Kind → FileState
first_state plan name = record { server = name.0; kind = name.1; length = 0; stage = first_stage (is_found plan plan.command name.0 name.1) }

abbrev pub first_states : Plan → Names → List FileState
first_states plan names = map (first_state plan) names

-- ---- the names in parts

-- these kinds at a server
abbrev pub names_at : List Kind → ℕ → Names
names_at kinds server = map (λ (kind : Kind). (server, kind)) kinds

-- the servers that get a shard, those of them without one, and those with one
unfoldable pub targets_of : Plan → List ℕ
targets_of plan = filter (is_target plan) all_servers

abbrev pub is_new_target : Plan → ℕ → Bool
is_new_target plan server = is_target plan server && not (held plan server)

unfoldable pub new_targets_of : Plan → List ℕ
new_targets_of plan = filter (is_new_target plan) all_servers

unfoldable pub holders_of : Plan → List ℕ
holders_of plan = filter (held plan) all_servers

-- a server has shards once so many moves are made
abbrev pub is_moved_to : Plan → ℕ → ℕ → Bool
is_moved_to plan count server = list_any (λ (m : ShardMove). m.to == server) (take count plan.moves.items)

abbrev pub has_after : Plan → ℕ → ℕ → Bool
has_after plan count server = held plan server || is_target plan server || is_moved_to plan count server

-- what one move writes and removes
abbrev pub names_of_move : Bool → ShardMove → Names
names_of_move has m = (if has then [] else beside_names m.to) ++ ((m.to, Shard m.shard) ∷ (m.from, Shard m.shard) ∷ [])

abbrev pub names_of_moves : Plan → ℕ → Names
names_of_moves plan count = move_names (λ s. held plan s || is_target plan s) (take count plan.moves.items)

-- ---- the lists of the commands

unfoldable pub encode_list : Plan → Names
encode_list plan = encode_names (targets_of plan) plan.targets.items plan.home

unfoldable pub decode_list : Plan → Names
decode_list plan = decode_names plan.home (shard_names plan.places.items ++ flat_map left_names (holders_of plan))

unfoldable pub mend_list : Plan → Names
mend_list plan = flat_map beside_names (new_targets_of plan) ++ (shard_names plan.targets.items ++ names_of_moves plan (length plan.moves.items))
