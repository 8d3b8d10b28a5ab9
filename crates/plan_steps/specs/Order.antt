-- The list of a plan's files is in the order in which they are finished, each after those that it waits for.
use Rattle.std.specs.Prelude.{◌≡◌, ◌≢◌, ◌⊎◌, ℕ, ◌<◌, ◌≤◌, true, List, [], map, slice_get, Some}
use Rattle.world_model.specs.declared.types.Command.TheVariants.{Decode}
use Rattle.file_names.specs.declared.Kind.{Kind}
use Rattle.file_names.specs.declared.Kind.TheVariants.{Dat, Idx, Cpd, Cpx, Shard, Ecx, Ecj, Vif}
use Rattle.stripe_layout.specs.Stripes.{shards_in_all}
use Rattle.site_model.specs.Counts.{max_servers}
use Rattle.plan_steps.specs.declared.plan.Plan.{Plan}
use Rattle.plan_steps.specs.declared.plan.Stage.{Stage}
use Rattle.plan_steps.specs.declared.plan.Stage.TheVariants.{Absent, Writing, Synced, Registered, Gone}
use Rattle.plan_steps.specs.declared.plan.FileState.{FileState}
use Rattle.plan_steps.specs.Planned.{is_encode}
use Rattle.plan_steps.specs.Legal.{IsFound, IsNew}

-- the list of a plan's files without their stages, which stays the same
abbrev pub Names : Type 0
Names = List (ℕ × Kind)

abbrev pub names_of : List FileState → Names
names_of states = map (λ s. (s.server, s.kind)) states

-- the file was neither registered nor removed yet
abbrev pub IsUnfinished : Stage → Type 0
IsUnfinished Absent = Unit {0}
IsUnfinished Writing = Unit {0}
IsUnfinished Synced = Unit {0}
IsUnfinished Registered = ⊥
IsUnfinished Gone = ⊥

-- The files before this place of the list are finished, and no later one is.
pub record IsReached (plan : Plan) (states : List FileState) (j : ℕ) : Type 0 where
  pub written : (k : ℕ) (s : FileState) → slice_get states k ≡ Some s → k < j → IsNew plan s.server s.kind → s.stage ≡ Registered
  pub removed : (k : ℕ) (s : FileState) → slice_get states k ≡ Some s → k < j → IsFound plan s.server s.kind → s.stage ≡ Gone
  pub waiting : (k : ℕ) (s : FileState) → slice_get states k ≡ Some s → j ≤ k → IsNew plan s.server s.kind → IsUnfinished s.stage
  pub staying : (k : ℕ) (s : FileState) → slice_get states k ≡ Some s → j ≤ k → IsFound plan s.server s.kind → s.stage ≡ Registered

-- ---- what is known of a place by the names alone

-- the file is written before this place
abbrev pub IsBefore : Plan → Names → ℕ → ℕ → Kind → Type 0
IsBefore plan names j server kind = (k : ℕ) × (k < j) × (slice_get names k ≡ Some (server, kind)) × IsNew plan server kind

-- or it was found and is no matter of the plan
abbrev pub IsThere : Plan → Names → ℕ → ℕ → Kind → Type 0
IsThere plan names j server kind = IsBefore plan names j server kind ⊎ (IsFound plan server kind × ((k : ℕ) → slice_get names k ≡ Some (server, kind) → ⊥))

-- the files beside shards are there
pub record HasBesideBefore (plan : Plan) (names : Names) (j server : ℕ) : Type 0 where
  pub text : IsThere plan names j server Vif
  pub index : IsThere plan names j server Ecx
  pub journal : (plan.deleted.items ≡ []) ⊎ IsThere plan names j server Ecj

-- no index was found, and none is written before this place
pub record HasNoIndexBefore (plan : Plan) (names : Names) (j : ℕ) : Type 0 where
  pub none_found : (server : ℕ) → IsNew plan server Idx
  pub none_before : (k server : ℕ) → k < j → slice_get names k ≡ Some (server, Idx) → ⊥

abbrev pub HasIndexBefore : Plan → Names → ℕ → Type 0
HasIndexBefore plan names j = (server : ℕ) × (server < max_servers) × IsBefore plan names j server Idx

-- what a file that is written waits for
abbrev pub WaitsToRegister : Plan → Names → ℕ → ℕ → Kind → Type 0
WaitsToRegister plan names j server Dat = HasNoIndexBefore plan names j
WaitsToRegister plan names j server Idx = HasNoIndexBefore plan names j × IsBefore plan names j server Dat × (plan.command ≡ Decode)
WaitsToRegister plan names j server Cpd = ⊥
WaitsToRegister plan names j server Cpx = ⊥
WaitsToRegister plan names j server (Shard i) = HasBesideBefore plan names j server
WaitsToRegister plan names j server Ecx = Unit {0}
WaitsToRegister plan names j server Ecj = Unit {0}
WaitsToRegister plan names j server Vif = Unit {0}

-- The only index goes after all shards and the files beside them.
pub record IsAfterShards (plan : Plan) (names : Names) (j server : ℕ) : Type 0 where
  pub encode : is_encode plan.command ≡ true
  pub shards : (i : ℕ) → i < shards_in_all plan.info.geometry → (s : ℕ) × (s < max_servers) × IsBefore plan names j s (Shard i)
  pub none_found : (s i : ℕ) → IsNew plan s (Shard i)
  pub beside : (k s i : ℕ) → slice_get names k ≡ Some (s, Shard i) → HasBesideBefore plan names j s
  pub found_here : (s : ℕ) → IsFound plan s Idx → s ≡ server
  pub listed_here : (k s : ℕ) → slice_get names k ≡ Some (s, Idx) → s ≡ server

-- another server has the shard before this place
abbrev pub IsElsewhereBefore : Plan → Names → ℕ → ℕ → ℕ → Type 0
IsElsewhereBefore plan names j server i =
    (other : ℕ) × (other ≢ server) × (other < max_servers) × (i < shards_in_all plan.info.geometry) × IsBefore plan names j other (Shard i)

-- what a file that is removed waits for
abbrev pub WaitsToGo : Plan → Names → ℕ → ℕ → Kind → Type 0
WaitsToGo plan names j server Dat = (k : ℕ) × (k < j) × (slice_get names k ≡ Some (server, Idx)) × IsFound plan server Idx
WaitsToGo plan names j server Idx = IsAfterShards plan names j server
WaitsToGo plan names j server Cpd = ⊥
WaitsToGo plan names j server Cpx = ⊥
WaitsToGo plan names j server (Shard i) = HasIndexBefore plan names j ⊎ IsElsewhereBefore plan names j server i
WaitsToGo plan names j server Ecx = HasIndexBefore plan names j
WaitsToGo plan names j server Ecj = HasIndexBefore plan names j
WaitsToGo plan names j server Vif = HasIndexBefore plan names j
