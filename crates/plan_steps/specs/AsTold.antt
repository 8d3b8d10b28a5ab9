-- Whether a plan's files stand as it says, by their names and lengths alone, whatever they hold.
-- For `run_step` of the running plans of `plan_run`, to come.
use Rattle.std.specs.Prelude.{◌≡◌, ℕ, ◌*◌, ◌<◌, true, false, List, length, slice_get, Option, Some, None}
use Rattle.site_model.specs.Disk.{File, size_of}
use Rattle.site_model.specs.Counts.{max_servers}
use Rattle.file_names.specs.declared.Kind.{Kind}
use Rattle.file_names.specs.declared.Kind.TheVariants.{Dat, Idx, Cpd, Cpx, Shard, Ecx, Ecj, Vif}
use Rattle.stripe_layout.specs.Information.{info_text}
use Rattle.stripe_layout.specs.Stripes.{shard_length, shards_in_all}
use Rattle.image_meaning.specs.Share.{Share}
use Rattle.plan_steps.specs.declared.plan.Plan.{Plan}
use Rattle.plan_steps.specs.declared.plan.Stage.{Stage}
use Rattle.plan_steps.specs.declared.plan.Stage.TheVariants.{Absent, Writing, Synced, Registered, Gone}
use Rattle.plan_steps.specs.declared.plan.FileState.{FileState}
use Rattle.plan_steps.specs.Legal.{IsFound, IsNew, HasFile}
use Rattle.plan_steps.specs.Next.{entries_by, joined_length}

-- a plan may write a file of this kind: of shards those of its ratio, and nothing that a vacuum makes
abbrev pub IsPlannedKind : Plan → Kind → Type 0
IsPlannedKind plan Dat = Unit {0}
IsPlannedKind plan Idx = Unit {0}
IsPlannedKind plan Cpd = ⊥
IsPlannedKind plan Cpx = ⊥
IsPlannedKind plan (Shard i) = i < shards_in_all plan.info.geometry
IsPlannedKind plan Ecx = Unit {0}
IsPlannedKind plan Ecj = Unit {0}
IsPlannedKind plan Vif = Unit {0}

-- on so many servers such a file may stand there
abbrev pub IsWithin : Plan → ℕ → ℕ → Kind → Type 0
IsWithin plan servers server kind = (server < servers) × IsPlannedKind plan kind

-- A file of this kind has so many bytes once it is written. Of the index that a decode writes the plan doesn't say.
abbrev pub IsPlannedLength : Plan → ℕ → Kind → Type 0
IsPlannedLength plan n Dat = n ≡ joined_length plan
IsPlannedLength plan n Idx = Unit {0}
IsPlannedLength plan n Cpd = Unit {0}
IsPlannedLength plan n Cpx = Unit {0}
IsPlannedLength plan n (Shard i) = n ≡ shard_length plan.info.geometry plan.info.dat_size
IsPlannedLength plan n Ecx = n ≡ 16 * entries_by plan plan.command
IsPlannedLength plan n Ecj = n ≡ 16 * length plan.deleted.items
IsPlannedLength plan n Vif = n ≡ length (info_text plan.info)

-- The file stands, as long as it is to be.
pub record IsLong (plan : Plan) (kind : Kind) (file : Option File) : Type 0 where
  pub bytes : ℕ
  pub there : size_of file ≡ Some bytes
  pub long : IsPlannedLength plan bytes kind

-- what stands of a file that is written, by its stage, under its final name and as a temporary file
abbrev pub IsWrittenBy : Plan → Stage → ℕ → Kind → (final temp : Option File) → Type 0
IsWrittenBy plan Absent n kind final temp = (temp ≡ None) × (n ≡ 0)
IsWrittenBy plan Writing n kind final temp = size_of temp ≡ Some n
IsWrittenBy plan Synced n kind final temp = IsLong plan kind temp
IsWrittenBy plan Registered n kind final temp = IsLong plan kind final
IsWrittenBy plan Gone n kind final temp = Unit {0}

-- what steps read of the files that were found: the data file of an encode, shards, and indexes that are copied
abbrev pub IsFoundLong : Plan → Kind → Option File → Type 0
IsFoundLong plan Dat file = size_of file ≡ Some plan.info.dat_size
IsFoundLong plan Idx file = Unit {0}
IsFoundLong plan Cpd file = Unit {0}
IsFoundLong plan Cpx file = Unit {0}
IsFoundLong plan (Shard i) file = size_of file ≡ Some (shard_length plan.info.geometry plan.info.dat_size)
IsFoundLong plan Ecx file = size_of file ≡ Some (16 * entries_by plan plan.command)
IsFoundLong plan Ecj file = Unit {0}
IsFoundLong plan Vif file = Unit {0}

-- The files that the plan writes are as far as their stages tell, and those that it found and that stand are as long as
-- they are to be read.
pub record StandsAsTold (plan : Plan) (states : List FileState) (now : Share) : Type 0 where
  pub written : (j : ℕ) (s : FileState) → slice_get states j ≡ Some s → IsNew plan s.server s.kind → IsPlannedKind plan s.kind
      → IsWrittenBy plan s.stage s.length s.kind (now s.server s.kind false) (now s.server s.kind true)
  pub found : (server : ℕ) (kind : Kind) → HasFile plan states server kind → IsFound plan server kind → IsPlannedKind plan kind
      → (server < max_servers) × IsFoundLong plan kind (now server kind false)
