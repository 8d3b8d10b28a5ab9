-- When the files of a volume fit how far a plan has come.
use Rattle.std.specs.Prelude.{◌≡◌, ℕ, ◌<◌, ◌≤◌, true, false, List, length, take, slice_get, Option, Some, None}
use Rattle.site_model.specs.Disk.{File, firm_file}
use Rattle.file_names.specs.declared.Kind.{Kind}
use Rattle.file_names.specs.Names.{IsKind}
use Rattle.site_model.specs.Counts.{max_servers}
use Rattle.image_meaning.specs.Share.{Share, finals}
use Rattle.plan_steps.specs.declared.plan.Stage.{Stage}
use Rattle.plan_steps.specs.declared.plan.Stage.TheVariants.{Absent, Writing, Synced, Registered, Gone}
use Rattle.plan_steps.specs.declared.plan.FileState.{FileState}
use Rattle.plan_steps.specs.Kept.{Forms, HasAForm}

-- a front of so many bytes of the file that is given
pub record IsFront (n : ℕ) (given file : Option File) : Type 0 where
  pub whole : List ℕ
  pub planned : given ≡ Some (firm_file whole)
  pub within : n ≤ length whole
  pub found : File
  pub there : file ≡ Some found
  pub front : found.bytes ≡ take n whole

-- all of it, firm
pub record IsReady (n : ℕ) (given file : Option File) : Type 0 where
  pub whole : List ℕ
  pub planned : given ≡ Some (firm_file whole)
  pub count : n ≡ length whole
  pub there : file ≡ Some (firm_file whole)

-- What stands of a file at each stage, under its final name and as a temporary file. No file that a plan writes stood
-- before, and once it is registered it is the file that is given.
abbrev pub StandsBy : Stage → ℕ → (given final temp : Option File) → Type 0
StandsBy Absent n given final temp = (final ≡ None) × (temp ≡ None) × (n ≡ 0)
StandsBy Writing n given final temp = (final ≡ None) × IsFront n given temp
StandsBy Synced n given final temp = (final ≡ None) × IsReady n given temp
StandsBy Registered n given final temp = (final ≡ given) × (temp ≡ None)
StandsBy Gone n given final temp = (final ≡ None) × (temp ≡ None)

-- of this file
abbrev pub StandsAt : (ℕ → Kind → Option File) → Share → FileState → Type 0
StandsAt given now s = StandsBy s.stage s.length (given s.server s.kind) (now s.server s.kind false) (now s.server s.kind true)

-- each file is in the list once
pub record AreStates (states : List FileState) : Type 0 where
  pub named : (j : ℕ) (s : FileState) → slice_get states j ≡ Some s → IsKind s.kind × (s.server < max_servers)
  pub apart : (i j : ℕ) (a b : FileState) → slice_get states i ≡ Some a → slice_get states j ≡ Some b → a.server ≡ b.server → a.kind ≡ b.kind → i ≡ j

-- no file of the list
abbrev pub IsOther : List FileState → ℕ → Kind → Type 0
IsOther states server kind = (j : ℕ) (s : FileState) → slice_get states j ≡ Some s → s.server ≡ server → s.kind ≡ kind → ⊥

-- The files of the volume fit these states: each file of the list stands as its stage has it, the others are those of the
-- start, and they have one of the plan's two forms. Nothing is asked of what a stop leaves.
pub record FitsStates (f : Forms) (given : ℕ → Kind → Option File) (start : Share) (states : List FileState) (now : Share) : Type 0 where
  pub each : (j : ℕ) (s : FileState) → slice_get states j ≡ Some s → StandsAt given now s
  pub others : (server : ℕ) (kind : Kind) → IsOther states server kind → now server kind false ≡ start server kind false
  pub temps : (server : ℕ) (kind : Kind) → server < max_servers → IsKind kind → IsOther states server kind → now server kind true ≡ None
  pub kept : HasAForm f (finals now)
