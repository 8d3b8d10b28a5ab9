-- Which file of a volume may be changed to what.
use Rattle.std.specs.Prelude.{◌≡◌, ◌≢◌, ◌⊎◌, ℕ, ◌+◌, ◌*◌, ◌≤◌, List, length, slice_get, Option, Some, None, IsSome, true}
use Rattle.wire_num.specs.Pairs.{pairs}
use Rattle.file_names.specs.declared.Kind.{Kind}
use Rattle.file_names.specs.declared.Kind.TheVariants.{Dat, Idx, Cpd, Cpx, Shard, Ecx, Ecj, Vif}
use Rattle.volume_forms.specs.Forms.{has_super}
use Rattle.stripe_layout.specs.Information.{info_of}
use Rattle.image_meaning.specs.Files.{VolumeFiles, bytes_at, standing}
use Rattle.image_meaning.specs.Plain.{index_home, kept_records, FollowsRecords}
use Rattle.world_model.specs.Ratios.{data_count}
use Rattle.image_meaning.specs.Sound.{Stands, HasIndex, IsHolder}
use Rattle.image_meaning.specs.HeldParts.{IsBeside, HoldsParts}
use Rattle.plan_steps.specs.Kept.{Forms}
use Rattle.std.specs.Prelude.{IsTrue}

abbrev pub HasSomeIndex : VolumeFiles → Type 0
HasSomeIndex files = IsSome (index_home files)

-- an index stands, or no shard stands at the server
abbrev pub IsBare : VolumeFiles → ℕ → Type 0
IsBare files server = HasSomeIndex files ⊎ (IsHolder files server → ⊥)

-- the index of a plan that changes the form keeps these records of the data file beside it
pub record IsNewIndex (f : Forms) (files : VolumeFiles) (server : ℕ) (idx : List ℕ) : Type 0 where
  pub changes : f.changes ≡ true
  pub no_index : index_home files ≡ None
  pub has : kept_records (bytes_at files server Dat) idx ≡ f.kept
  pub follows : FollowsRecords (bytes_at files server Dat) idx
  pub super : IsTrue (has_super (bytes_at files server Dat))

-- It is the only index, the shards suffice, and the parts' files stand beside them.
pub record IsLastIndex (f : Forms) (files : VolumeFiles) (server : ℕ) : Type 0 where
  pub only : (s : ℕ) → HasIndex files s → s ≡ server
  pub enough : data_count f.parts.info.geometry.ratio ≤ length (standing files)
  pub holds : HoldsParts f.parts files

-- the journal deletes these ids, and little more stands behind them
abbrev pub IsJournalOf : List ℕ → List ℕ → Type 0
IsJournalOf ids journal = (pairs journal ≡ ids) × (length journal ≤ 16 * length (pairs journal) + 16)

-- the shard is the parts', and beside it their files stand, at least where no index does
pub record IsRightShard (f : Forms) (files : VolumeFiles) (server i : ℕ) (bytes : List ℕ) : Type 0 where
  pub beside : HasSomeIndex files ⊎ IsBeside f.parts files server
  pub shard : slice_get f.parts.shards i ≡ Some bytes

-- another server has the shard
abbrev pub IsElsewhere : VolumeFiles → ℕ → ℕ → Type 0
IsElsewhere files server i = (other : ℕ) × (other ≢ server) × Stands files other (Shard i)

-- The whole law of a step. The file of this kind at a server may be changed to this:
abbrev pub IsAllowed : Forms → VolumeFiles → ℕ → Kind → Option (List ℕ) → Type 0
-- - an index comes where none stands, and keeps the records of the data file beside it
IsAllowed f files server Idx (Some idx) = IsNewIndex f files server idx
-- - the last index goes once the shards suffice
IsAllowed f files server Idx None = IsLastIndex f files server
-- - a data file comes and goes where no index stands beside it
IsAllowed f files server Dat now = HasIndex files server → ⊥
-- - what a vacuum makes neither comes nor goes
IsAllowed f files server Cpd now = ⊥
IsAllowed f files server Cpx now = ⊥
-- - a right shard comes to a server with the parts' files
IsAllowed f files server (Shard i) (Some bytes) = IsRightShard f files server i bytes
-- - a shard goes while an index stands, or that another server has
IsAllowed f files server (Shard i) None = HasSomeIndex files ⊎ IsElsewhere files server i
-- - of the files beside the shards the parts' come, and those of no shard go
IsAllowed f files server Vif (Some text) = info_of text ≡ Some f.parts.info
IsAllowed f files server Vif None = IsBare files server
IsAllowed f files server Ecx (Some index) = index ≡ f.parts.index
IsAllowed f files server Ecx None = IsBare files server
IsAllowed f files server Ecj (Some journal) = IsJournalOf f.parts.deleted journal
IsAllowed f files server Ecj None = IsBare files server
