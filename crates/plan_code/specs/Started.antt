-- What a plan begins on.
use Rattle.std.specs.Prelude.{◌≡◌, ℕ, ◌<◌, List, length, slice_get, Some}
use Rattle.world_model.specs.World.{Volume}
use Rattle.file_names.specs.declared.Kind.{Kind}
use Rattle.file_names.specs.declared.Kind.TheVariants.{Ecx}
use Rattle.file_names.specs.Names.{IsKind}
use Rattle.site_model.specs.Counts.{max_servers}
use Rattle.volume_forms.specs.Forms.{entries}
use Rattle.stripe_layout.specs.declared.Info.{Info}
use Rattle.shard_table.specs.Table.{Row}
use Rattle.image_meaning.specs.Files.{VolumeFiles, bytes_at}
use Rattle.image_meaning.specs.Meaning.{volume_of}
use Rattle.image_meaning.specs.Sound.{IsHolder, IsCoded, IsSoundCoded}
use Rattle.image_meaning.specs.Ends.{IsTidyCoded}
use Rattle.image_meaning.specs.Outlasts.{HasDeleted}
use Rattle.plan_steps.specs.declared.plan.Plan.{Plan}
use Rattle.plan_steps.specs.declared.plan.Progress.{Progress}
use Rattle.plan_steps.specs.Kept.{Forms, AreForms}
use Rattle.plan_steps.specs.Legal.{BeginsPlan}
use Rattle.plan_steps.specs.Ending.{HasPlaces}
use Rattle.plan_steps.specs.Lists.{list_of}
use Rattle.plan_steps.specs.Beginning.{first_states}

-- A tidy and sound coded volume with this text, these deleted ids in each journal, and so many entries in its index. The row
-- has its shards.
pub record StandsCoded (text : Info) (ids : List ℕ) (listed : ℕ) (row : Row) (files : VolumeFiles) : Type 0 where
  pub coded : IsCoded files
  pub rules : IsSoundCoded files
  pub info : rules.info ≡ text
  pub deleted : HasDeleted files ids
  pub tidy : IsTidyCoded files
  pub places : HasPlaces row files
  pub counted : (server : ℕ) × IsHolder files server × (length (entries (bytes_at files server Ecx)) ≡ listed)

-- The files are of a volume that the plan keeps, and the plan tells of them.
pub record Begins (plan : Plan) (start : VolumeFiles) : Type 0 where
  pub w : Volume
  pub f : Forms
  pub means : volume_of start ≡ Some w
  pub forms : AreForms w f
  pub begins : BeginsPlan f plan start

-- ---- the first progress

-- The plan's list stands as at its start.
pub record IsFirst (plan : Plan) (progress : Progress) : Type 0 where
  pub files : progress.files.items ≡ first_states plan (list_of plan)
  pub place : progress.place ≡ 8

-- the files of its list have names, at servers that a site may have
abbrev pub AreNamed : Plan → Type 0
AreNamed plan = (k server : ℕ) (kind : Kind) → slice_get (list_of plan) k ≡ Some (server, kind) → IsKind kind × (server < max_servers)
