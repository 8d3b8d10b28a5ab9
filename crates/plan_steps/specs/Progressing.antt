-- When a plan has come so far, by what it says of itself and by the files of its volume.
use Rattle.std.specs.Prelude.{◌≡◌, ℕ, ◌/◌, ◌<◌, List, take, slice_get, Some}
use Rattle.world_model.specs.World.{Volume}
use Rattle.world_model.specs.declared.types.Command.TheVariants.{Decode}
use Rattle.file_names.specs.declared.Kind.TheVariants.{Idx}
use Rattle.needle_record.specs.Records.{records, end_of}
use Rattle.shard_table.specs.Table.{Row}
use Rattle.image_meaning.specs.Meaning.{max_volumes}
use Rattle.image_meaning.specs.Parts.{Parts}
use Rattle.image_meaning.specs.Share.{Share, finals}
use Rattle.plan_steps.specs.declared.plan.Plan.{Plan}
use Rattle.plan_steps.specs.declared.plan.Progress.{Progress}
use Rattle.plan_steps.specs.declared.plan.FileState.{FileState}
use Rattle.plan_steps.specs.Kept.{Forms, AreForms}
use Rattle.plan_steps.specs.Planned.{joined, given}
use Rattle.plan_steps.specs.Fitting.{AreStates, FitsStates}
use Rattle.plan_steps.specs.Legal.{BeginsPlan, FitsPlaces}
use Rattle.plan_steps.specs.Order.{names_of, IsReached}
use Rattle.plan_steps.specs.Lists.{list_of}

-- a plan that runs, and how far it has come
pub record Running : Type 0 where
  pub plan : Plan
  pub states : List FileState
  pub place : ℕ

abbrev pub running : Plan → Progress → Running
running plan progress = record { plan = plan; states = progress.files.items; place = progress.place }

-- What the plan says of itself, whatever the files are: its list, each file of it once, is worked off from the front, and
-- the table names the places of the shards that stand.
pub record IsOnItsWay (r : Running) (row : Row) : Type 0 where
  pub listed : names_of r.states ≡ list_of r.plan
  pub apart : AreStates r.states
  pub reached : (j : ℕ) × IsReached r.plan r.states j
  pub places : FitsPlaces r.plan r.states row

-- the next record of a decode is the one behind those whose entries its index has so far
abbrev pub IsNextPlace : Parts → Running → Type 0
IsNextPlace t r = r.plan.command ≡ Decode → (j : ℕ) (s : FileState) → slice_get r.states j ≡ Some s → s.kind ≡ Idx → r.place ≡ end_of (take (s.length / 16) (records (joined t)))

-- The plan keeps this volume, in its two forms. It began with these files, and has come so far with those that are now.
pub record FitsProgress (w : Volume) (f : Forms) (r : Running) (row : Row) (start now : Share) : Type 0 where
  pub below : r.plan.volume < max_volumes
  pub forms : AreForms w f
  pub begins : BeginsPlan f r.plan (finals start)
  pub way : IsOnItsWay r row
  pub next : IsNextPlace f.parts r
  pub fits : FitsStates f (given r.plan f.parts start) start r.states now

-- some volume is kept so, in some forms
pub record Follows (r : Running) (row : Row) (start now : Share) : Type 0 where
  pub w : Volume
  pub f : Forms
  pub fits : FitsProgress w f r row start now
