-- What a get reads of a volume while a plan runs on it, without a word of what the store has in memory.
use Rattle.std.specs.Prelude.{◌≡◌, ℕ, ◌<◌, nat_le, Bool, true, IsTrue, List, length, filter, is_some, Some, MatchBool, option_map}
use Rattle.std.specs.List.{range_with_len}
use Rattle.world_model.specs.World.{Volume}
use Rattle.world_model.specs.Ratios.{data_count}
use Rattle.world_model.specs.declared.types.Command.{Command}
use Rattle.world_model.specs.declared.types.Command.TheVariants.{Encode, Rebuild, Balance, Decode}
use Rattle.file_names.specs.declared.Kind.TheVariants.{Dat, Shard}
use Rattle.file_names.specs.Names.{max_shards}
use Rattle.volume_forms.specs.Forms.{has_super}
use Rattle.needle_record.specs.Records.{Placed, records, fold_records, IsWholeDat}
use Rattle.shard_table.specs.Table.{Row, place_in}
use Rattle.stripe_layout.specs.declared.Info.{Info}
use Rattle.stripe_layout.specs.Stripes.{shard_length, shards_in_all}
use Rattle.image_meaning.specs.Files.{VolumeFiles}
use Rattle.image_meaning.specs.Coded.{volume_info, dat_of}
use Rattle.image_meaning.specs.Meaning.{volume_of}
use Rattle.image_meaning.specs.Sound.{Stands, IsSoundCoded}
use Rattle.image_meaning.specs.Outlasts.{HasDeleted}
use Rattle.plan_steps.specs.Told.{ToldPlan}

-- ---- places of shards

-- as many shards have places as a read needs
abbrev pub has_enough : Info → Row → Bool
has_enough info row = nat_le (data_count info.geometry.ratio) (length (filter (λ i. is_some (place_in row i)) (range_with_len 0 (shards_in_all info.geometry))))

-- Each shard of the row stands at its place, and is as long as the text says, whatever its bytes are.
abbrev pub StandAtPlaces : Info → Row → VolumeFiles → Type 0
StandAtPlaces info row files = (i server : ℕ) → i < max_shards → place_in row i ≡ Some server
    → (Stands files server (Shard i)) × (option_map length (files server (Shard i)) ≡ Some (shard_length info.geometry info.dat_size))

-- ---- by the form that is read

-- The shards, with the files beside them, give the data file that the start gave, and tell of the same deletions.
pub record ReadsCoded (plan : ToldPlan) (start now : VolumeFiles) : Type 0 where
  pub rules : IsSoundCoded now
  pub info : volume_info now ≡ Some plan.info
  pub deleted : HasDeleted now plan.deleted
  pub same_dat : dat_of now ≡ dat_of start

-- The data file that a decode has made stands, and its needles are those of the start.
pub record ReadsJoined (home : ℕ) (ps : List Placed) (start now : VolumeFiles) : Type 0 where
  pub dat : List ℕ
  pub stands : now home Dat ≡ Some dat
  pub super : IsTrue (has_super dat)
  pub whole : IsWholeDat dat
  pub has : records dat ≡ ps
  pub needles : (vol : Volume) → volume_of start ≡ Some vol → (fold_records ps).needles ≡ vol.needles

-- By the command: an encode leaves the data file until its end. A rebuild and a balance leave shards enough. A decode has
-- them until the data file stands that it makes.
abbrev pub IsRead : Command → ToldPlan → List Placed → Row → VolumeFiles → VolumeFiles → Type 0
IsRead (Encode ratio) plan ps row start now = (server : ℕ) → now server Dat ≡ start server Dat
IsRead Rebuild plan ps row start now = ReadsCoded plan start now
IsRead Balance plan ps row start now = ReadsCoded plan start now
IsRead Decode plan ps row start now = MatchBool (has_enough plan.info row) (ReadsCoded plan start now) (ReadsJoined plan.home ps start now)

-- a rebuild and a balance leave shards enough on every site
abbrev pub LeavesEnough : Command → Info → Row → Type 0
LeavesEnough (Encode ratio) info row = Unit {0}
LeavesEnough Rebuild info row = has_enough info row ≡ true
LeavesEnough Balance info row = has_enough info row ≡ true
LeavesEnough Decode info row = Unit {0}

-- while it isn't at its end, an encode has steps that remain; other plans may have none from the start
abbrev pub IsGoing : Command → ℕ → Type 0
IsGoing (Encode ratio) left = 0 < left
IsGoing Rebuild left = Unit {0}
IsGoing Balance left = Unit {0}
IsGoing Decode left = Unit {0}
