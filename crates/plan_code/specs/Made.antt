-- The plans that the makers give, with all that they say.
use Rattle.std.specs.Prelude.{◌≡◌, ℕ, ◌^◌, ◌<◌, ◌≤◌, List, [], length, Some, None}
use Rattle.std.specs.List.{AllByRecursion}
use Rattle.world_model.specs.declared.types.Command.TheVariants.{Encode, Balance, Decode}
use Rattle.world_model.specs.Ratios.{data_count}
use Rattle.volume_forms.specs.declared.Entry.{Entry}
use Rattle.stripe_layout.specs.declared.Geometry.{Geometry}
use Rattle.stripe_layout.specs.declared.Info.{Info}
use Rattle.stripe_layout.specs.Stripes.{shards_in_all}
use Rattle.shard_table.specs.Table.{Row, IsRow, place_in}
use Rattle.site_model.specs.Counts.{max_servers}
use Rattle.image_meaning.specs.Files.{lowest}
use Rattle.plan_steps.specs.declared.plan.Plan.{Plan}
use Rattle.plan_steps.specs.Planned.{held}
use Rattle.plan_steps.specs.Plans.{IsEncodePlan, places_of}

-- The encode of a volume, with a data file and blocks as the text says, that stands at this home with these entries: it
-- makes all shards, and finds none.
pub record IsEncodeOf (servers v at : ℕ) (text : Info) (listed : List Entry) (plan : Plan) : Type 0 where
  pub command : plan.command ≡ Encode text.geometry.ratio
  pub volume : plan.volume ≡ v
  pub home : plan.home ≡ at
  pub info : plan.info ≡ text
  pub entries : plan.entries.items ≡ listed
  pub entry_count : plan.entry_count ≡ 0
  pub makes : IsEncodePlan servers plan

-- ---- of coded volumes

-- no shard beyond those of the ratio
abbrev pub HasNoneBeyond : Geometry → Row → Type 0
HasNoneBeyond geometry row = (i : ℕ) → shards_in_all geometry ≤ i → place_in row i ≡ None

-- The shards that stand are of the ratio, and they suffice.
pub record StandEnough (geometry : Geometry) (row : Row) : Type 0 where
  pub beyond : HasNoneBeyond geometry row
  pub enough : data_count geometry.ratio ≤ length (places_of geometry row)

-- What is so of every table, of a row of it, and of every list of ids.
pub record FitTypes (servers : ℕ) (row : Row) (ids : List ℕ) : Type 0 where
  pub some_server : 0 < servers
  pub few_servers : servers ≤ max_servers
  pub is_row : IsRow servers row
  pub are_ids : AllByRecursion (λ id. id < 2 ^ 64) ids

-- A plan of a volume with this text, so many entries in its index, these deleted ids, and its shards at the row.
pub record IsCodedOf (v : ℕ) (text : Info) (listed : ℕ) (ids : List ℕ) (row : Row) (plan : Plan) : Type 0 where
  pub volume : plan.volume ≡ v
  pub info : plan.info ≡ text
  pub entries : plan.entries.items ≡ []
  pub entry_count : plan.entry_count ≡ listed
  pub deleted : plan.deleted.items ≡ ids
  pub places : plan.places.items ≡ places_of text.geometry row

-- It makes nothing, and leaves all shards where they are.
pub record LeavesAll (plan : Plan) : Type 0 where
  pub command : plan.command ≡ Balance
  pub home : plan.home ≡ 0
  pub targets : plan.targets.items ≡ []
  pub moves : plan.moves.items ≡ []

-- The decode of a volume goes to the lowest server with a shard.
pub record IsDecodeOf (v : ℕ) (text : Info) (listed : ℕ) (ids : List ℕ) (row : Row) (plan : Plan) : Type 0 where
  pub command : plan.command ≡ Decode
  pub coded : IsCodedOf v text listed ids row plan
  pub home : lowest (held plan) ≡ Some plan.home
  pub targets : plan.targets.items ≡ []
  pub moves : plan.moves.items ≡ []
