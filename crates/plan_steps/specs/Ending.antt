-- What stands once a plan has come to its end, without a word of what the store has in memory.
use Rattle.std.specs.Prelude.{◌≡◌, ℕ, ◌<◌, IsTrue, List, None}
use Rattle.world_model.specs.declared.types.Command.{Command}
use Rattle.world_model.specs.declared.types.Command.TheVariants.{Encode, Rebuild, Balance, Decode}
use Rattle.file_names.specs.Names.{max_shards}
use Rattle.volume_forms.specs.Forms.{has_super}
use Rattle.needle_record.specs.Records.{Placed}
use Rattle.shard_table.specs.Table.{Row, place_in}
use Rattle.image_meaning.specs.Files.{VolumeFiles, shard_home}
use Rattle.image_meaning.specs.Plain.{IsExact}
use Rattle.image_meaning.specs.Laws.Plain.{IsAlone}
use Rattle.image_meaning.specs.Parts.{Parts, AreSoundParts, IsCodedForm}
use Rattle.image_meaning.specs.HeldParts.{HoldsParts}
use Rattle.image_meaning.specs.Ends.{HasNoFiles, IsTidyCoded}
use Rattle.image_meaning.specs.Share.{Share, finals, temps}
use Rattle.image_meaning.specs.Shards.{EndsShards}
use Rattle.plan_steps.specs.Told.{ToldPlan}

-- the row has each shard where it stands
abbrev pub HasPlaces : Row → VolumeFiles → Type 0
HasPlaces row files = (i : ℕ) → i < max_shards → place_in row i ≡ shard_home files i

-- it has none
abbrev pub HasNoPlaces : Row → Type 0
HasNoPlaces row = (i : ℕ) → i < max_shards → place_in row i ≡ None

-- A coded volume of these parts stands, tidy, and the table has its shards, which are as the command promises.
pub record EndsCoded (command : Command) (parts : Parts) (servers : ℕ) (row : Row) (start now : Share) : Type 0 where
  pub sound : AreSoundParts parts
  pub form : IsCodedForm parts (finals now)
  pub holds : HoldsParts parts (finals now)
  pub tidy : IsTidyCoded (finals now)
  pub no_temps : HasNoFiles (temps now)
  pub places : HasPlaces row (finals now)
  pub shards : EndsShards command (finals start) (finals now) servers

-- A plain volume of these records stands at this server, tidy, and the table has no shard of it.
pub record EndsPlain (home : ℕ) (ps : List Placed) (row : Row) (now : Share) : Type 0 where
  pub dat : List ℕ
  pub idx : List ℕ
  pub alone : IsAlone (finals now) home dat idx
  pub exact : IsExact dat idx ps
  pub super : IsTrue (has_super dat)
  pub no_temps : HasNoFiles (temps now)
  pub places : HasNoPlaces row

-- a coded volume stands of which the plan tells
pub record EndsToldCoded (command : Command) (plan : ToldPlan) (servers : ℕ) (row : Row) (start now : Share) : Type 0 where
  pub parts : Parts
  pub info : parts.info ≡ plan.info
  pub deleted : parts.deleted ≡ plan.deleted
  pub ends : EndsCoded command parts servers row start now

-- By its command: a decode leaves a plain volume, of these records at the plan's home, and each other plan a coded one.
abbrev pub EndsBy : Command → ToldPlan → List Placed → ℕ → Row → Share → Share → Type 0
EndsBy (Encode ratio) plan ps servers row start now = EndsToldCoded (Encode ratio) plan servers row start now
EndsBy Rebuild plan ps servers row start now = EndsToldCoded Rebuild plan servers row start now
EndsBy Balance plan ps servers row start now = EndsToldCoded Balance plan servers row start now
EndsBy Decode plan ps servers row start now = EndsPlain plan.home ps row now
