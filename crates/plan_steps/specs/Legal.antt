-- What a plan says of its start, and which step may be taken, by what the plan found and how far it has come.
use Rattle.std.specs.Prelude.{◌≡◌, ◌≢◌, ◌⊎◌, ℕ, ◌<◌, ◌≤◌, ◌^◌, true, false, IsTrue, List, [], length, flat_map, slice_get, Some, None}
use Rattle.std.specs.List.{AllByRecursion}
use Rattle.world_model.specs.declared.types.Command.TheVariants.{Decode}
use Rattle.file_names.specs.declared.Kind.{Kind}
use Rattle.file_names.specs.declared.Kind.TheVariants.{Dat, Idx, Cpd, Cpx, Shard, Ecx, Ecj, Vif}
use Rattle.file_names.specs.Names.{IsKind, max_shards}
use Rattle.stripe_layout.specs.Information.{info_of, info_text}
use Rattle.stripe_layout.specs.Stripes.{shards_in_all}
use Rattle.shard_table.specs.Table.{Row, place_in}
use Rattle.volume_forms.specs.Forms.{has_super, entries, entry_bytes}
use Rattle.wire_num.specs.Pairs.{journal_bytes}
use Rattle.image_meaning.specs.Files.{VolumeFiles, stands, bytes_at, lowest}
use Rattle.site_model.specs.Counts.{max_servers}
use Rattle.image_meaning.specs.Plain.{IsExact}
use Rattle.image_meaning.specs.Sound.{Stands}
use Rattle.image_meaning.specs.Ends.{changes_form}
use Rattle.image_meaning.specs.Parts.{Parts}
use Rattle.image_meaning.specs.HeldParts.{IsBeside}
use Rattle.plan_steps.specs.declared.plan.Plan.{Plan}
use Rattle.plan_steps.specs.declared.plan.Stage.{Stage}
use Rattle.plan_steps.specs.declared.plan.Stage.TheVariants.{Registered}
use Rattle.plan_steps.specs.declared.plan.FileState.{FileState}
use Rattle.plan_steps.specs.Kept.{Forms, HasAForm}
use Rattle.plan_steps.specs.Planned.{joined, joined_index, held, is_encode, is_found}
use Rattle.plan_steps.specs.Fitting.{IsOther}

-- ---- what a plan says of its start

abbrev pub IsFound : Plan → ℕ → Kind → Type 0
IsFound plan server kind = is_found plan plan.command server kind ≡ true

abbrev pub IsNew : Plan → ℕ → Kind → Type 0
IsNew plan server kind = is_found plan plan.command server kind ≡ false

-- Those fields that the command uses tell of the volume as it is.
pub record TellsParts (parts : Parts) (plan : Plan) (start : VolumeFiles) : Type 0 where
  pub info : parts.info ≡ plan.info
  pub deleted : parts.deleted ≡ plan.deleted.items
  pub dat : is_encode plan.command ≡ true → start plan.home Dat ≡ Some parts.dat
  pub index : is_encode plan.command ≡ true → parts.index ≡ flat_map entry_bytes plan.entries.items
  pub count : is_encode plan.command ≡ false → plan.entry_count ≡ length (entries parts.index)
  pub home : plan.command ≡ Decode → lowest (held plan) ≡ Some plan.home

-- Each file of the volume was found, and the shards and the files beside them are the parts', with journals of whole pairs.
-- Servers that no site has don't matter.
pub record FindsFiles (parts : Parts) (plan : Plan) (start : VolumeFiles) : Type 0 where
  pub below : (server : ℕ) (kind : Kind) → IsFound plan server kind → server < max_servers
  pub none_else : (server : ℕ) (kind : Kind) → server < max_servers → IsKind kind → IsNew plan server kind → start server kind ≡ None
  pub shards : (server i : ℕ) → i < max_shards → IsFound plan server (Shard i) → slice_get parts.shards i ≡ start server (Shard i)
  pub beside : (server : ℕ) → IsFound plan server Vif → IsBeside parts start server
  pub whole : (server : ℕ) → IsFound plan server Ecj → bytes_at start server Ecj ≡ journal_bytes parts.deleted
  pub index : (server : ℕ) → IsFound plan server Idx → IsTrue (stands start server Idx)

-- the text that a plan writes is read as what it says, and so are the ids of a journal
pub record AreReadBack (t : Parts) : Type 0 where
  pub text : info_of (info_text t.info) ≡ Some t.info
  pub ids : AllByRecursion (λ id. id < 2 ^ 64) t.deleted

-- the index that a decode writes keeps the records of the data file that it makes, to its end
pub record KeepsJoined (f : Forms) : Type 0 where
  pub exact : IsExact (joined f.parts) (joined_index f.parts) f.kept
  pub super : IsTrue (has_super (joined f.parts))

-- The plan tells of the volume as it stood, in one of the plan's forms.
pub record BeginsPlan (f : Forms) (plan : Plan) (start : VolumeFiles) : Type 0 where
  pub changes : f.changes ≡ changes_form plan.command
  pub kept : HasAForm f start
  pub tells : TellsParts f.parts plan start
  pub finds : FindsFiles f.parts plan start
  pub read_back : AreReadBack f.parts
  pub joined : plan.command ≡ Decode → KeepsJoined f

-- ---- what a plan and its progress say of what stands

-- the file of the list is at this stage
abbrev pub HasStage : List FileState → ℕ → Kind → Stage → Type 0
HasStage states server kind stage = (j : ℕ) × (s : FileState) × (slice_get states j ≡ Some s) × (s.server ≡ server) × (s.kind ≡ kind) × (s.stage ≡ stage)

-- the file stands under its final name: it was registered, or found and is no matter of the plan
abbrev pub HasFile : Plan → List FileState → ℕ → Kind → Type 0
HasFile plan states server kind = HasStage states server kind Registered ⊎ (IsFound plan server kind × IsOther states server kind)

-- some index stands
abbrev pub HasAnIndex : Plan → List FileState → Type 0
HasAnIndex plan states = (server : ℕ) × (server < max_servers) × HasFile plan states server Idx

-- the text, the index and an equal journal stand there
pub record HasBeside (plan : Plan) (states : List FileState) (server : ℕ) : Type 0 where
  pub text : HasFile plan states server Vif
  pub index : HasFile plan states server Ecx
  pub journal : (plan.deleted.items ≡ []) ⊎ HasFile plan states server Ecj

-- Of each shard the table names a server where it stands, and none where it stands nowhere.
pub record FitsPlaces (plan : Plan) (states : List FileState) (row : Row) : Type 0 where
  pub named : (i server : ℕ) → i < shards_in_all plan.info.geometry → place_in row i ≡ Some server → HasFile plan states server (Shard i)
  pub missing : (i : ℕ) → i < shards_in_all plan.info.geometry → place_in row i ≡ None → (server : ℕ) → HasFile plan states server (Shard i) → ⊥
  pub beyond : (i : ℕ) → shards_in_all plan.info.geometry ≤ i → place_in row i ≡ None

-- ---- which file may come and which may go

-- A file that is ready may be registered: a shard where the files beside it stand, an index where its data file does.
abbrev pub MayRegister : Plan → List FileState → ℕ → Kind → Type 0
MayRegister plan states server Dat = HasAnIndex plan states → ⊥
MayRegister plan states server Idx = (HasAnIndex plan states → ⊥) × HasStage states server Dat Registered × (plan.command ≡ Decode)
MayRegister plan states server Cpd = ⊥
MayRegister plan states server Cpx = ⊥
MayRegister plan states server (Shard i) = HasBeside plan states server
MayRegister plan states server Ecx = Unit {0}
MayRegister plan states server Ecj = Unit {0}
MayRegister plan states server Vif = Unit {0}

-- no shard stands there
abbrev pub HasNoShard : Plan → List FileState → ℕ → Type 0
HasNoShard plan states server = (i : ℕ) → i < max_shards → HasFile plan states server (Shard i) → ⊥

-- The index of an encode goes where it is the only one, once all shards stand with the files beside them.
pub record MayDropIndex (plan : Plan) (states : List FileState) (server : ℕ) : Type 0 where
  pub encode : is_encode plan.command ≡ true
  pub all : (i : ℕ) → i < shards_in_all plan.info.geometry → (s : ℕ) × (s < max_servers) × HasFile plan states s (Shard i)
  pub beside : (s i : ℕ) → i < max_shards → HasFile plan states s (Shard i) → HasBeside plan states s
  pub only : (s : ℕ) → s < max_servers → HasFile plan states s Idx → s ≡ server

-- another server has the shard: the table names it, or it stands there by the list
abbrev pub HasElsewhere : Plan → List FileState → Row → ℕ → ℕ → Type 0
HasElsewhere plan states row server i =
    (other : ℕ) × (other ≢ server) × ((place_in row i ≡ Some other) ⊎ ((other < max_servers) × (i < shards_in_all plan.info.geometry) × HasFile plan states other (Shard i)))

-- A file may be removed: a shard that another server has, the files beside where no shard stands, each of them while an
-- index stands, the index as above, and the data file without it.
abbrev pub MayRemove : Plan → List FileState → Row → ℕ → Kind → Type 0
MayRemove plan states row server Dat = HasFile plan states server Idx → ⊥
MayRemove plan states row server Idx = MayDropIndex plan states server
MayRemove plan states row server Cpd = ⊥
MayRemove plan states row server Cpx = ⊥
MayRemove plan states row server (Shard i) = HasAnIndex plan states ⊎ HasElsewhere plan states row server i
MayRemove plan states row server Ecx = HasAnIndex plan states ⊎ HasNoShard plan states server
MayRemove plan states row server Ecj = HasAnIndex plan states ⊎ HasNoShard plan states server
MayRemove plan states row server Vif = HasAnIndex plan states ⊎ HasNoShard plan states server

-- what the table says of the volume's shards stands
abbrev pub FitsRow : Row → VolumeFiles → Type 0
FitsRow row files = (i server : ℕ) → i < max_shards → place_in row i ≡ Some server → Stands files server (Shard i)
