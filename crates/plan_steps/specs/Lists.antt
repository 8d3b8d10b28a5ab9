-- Which files a plan writes and removes, in the order in which they are finished.
use Rattle.std.specs.Prelude.{ℕ, ◌==◌, ◌&&◌, ◌||◌, not, Bool, if◌then◌else◌, List, [], ◌∷◌, ◌++◌, map, flat_map, filter}
use Rattle.std.specs.List.{list_any}
use Rattle.world_model.specs.declared.types.Command.{Command}
use Rattle.world_model.specs.declared.types.Command.TheVariants.{Encode, Rebuild, Balance, Decode}
use Rattle.file_names.specs.declared.Kind.TheVariants.{Dat, Idx, Shard, Ecx, Ecj, Vif}
use Rattle.shard_table.specs.declared.moves.ShardMove.{ShardMove}
use Rattle.image_meaning.specs.Files.{all_servers}
use Rattle.plan_steps.specs.declared.plan.Plan.{Plan}
use Rattle.plan_steps.specs.Planned.{held}
use Rattle.plan_steps.specs.Order.{Names}

-- the server gets a shard that the plan makes
abbrev pub is_target : Plan → ℕ → Bool
is_target plan server = list_any (λ p. p.1 == server) plan.targets.items

-- these shards at their servers
abbrev pub shard_names : List (ℕ × ℕ) → Names
shard_names shards = map (λ (p : ℕ × ℕ). (p.1, Shard p.0)) shards

-- what a server without shards gets before its first one
abbrev pub beside_names : ℕ → Names
beside_names server = (server, Vif) ∷ (server, Ecx) ∷ (server, Ecj) ∷ []

-- what goes with the last shard of a server
abbrev pub left_names : ℕ → Names
left_names server = (server, Ecx) ∷ (server, Ecj) ∷ (server, Vif) ∷ []

-- An encode: the texts and the indexes at the targets, the shards, and then the files of the plain volume.
abbrev pub encode_names : List ℕ → List (ℕ × ℕ) → ℕ → Names
encode_names servers targets home = map (λ s. (s, Vif)) servers ++ (map (λ s. (s, Ecx)) servers ++ (shard_names targets ++ ((home, Idx) ∷ (home, Dat) ∷ [])))

-- A decode: the files of the plain volume, and then all that was found.
abbrev pub decode_names : ℕ → Names → Names
decode_names home found = (home, Dat) ∷ (home, Idx) ∷ found

-- Moves, where these servers have shards: the target gets its files beside if it has no shard, then the shard, and then
-- the source's goes.
abbrev pub move_names : (ℕ → Bool) → List ShardMove → Names
move_names has [] = []
move_names has (m ∷ moves) =
    (if has m.to then [] else beside_names m.to) ++ ((m.to, Shard m.shard) ∷ (m.from, Shard m.shard) ∷ move_names (λ s. has s || (m.to == s)) moves)

-- A rebuild and a balance: the files beside the missing shards at servers without one, these shards, and the moves.
abbrev pub mend_names : Plan → Names
mend_names plan =
    flat_map beside_names (filter (λ s. is_target plan s && not (held plan s)) all_servers)
    ++ (shard_names plan.targets.items ++ move_names (λ s. held plan s || is_target plan s) plan.moves.items)

abbrev pub list_by : Plan → Command → Names
list_by plan (Encode ratio) = encode_names (filter (is_target plan) all_servers) plan.targets.items plan.home
list_by plan Rebuild = mend_names plan
list_by plan Balance = mend_names plan
list_by plan Decode = decode_names plan.home (shard_names plan.places.items ++ flat_map left_names (filter (held plan) all_servers))

-- the list of the plan's files
abbrev pub list_of : Plan → Names
list_of plan = list_by plan plan.command
