-- What the tests of a coded volume answer.
use Rattle.std.specs.Prelude.{◌≡◌, ◌⊎◌, ℕ, ◌+◌, ◌*◌, ◌<◌, ◌≤◌, List, [], ◌∷◌, length, slice_index_or, Option, Some, None, Result, Ok, Err, IsSome, Contains, AllPairs}
use Rattle.std.specs.List.{All, Any, AllByRecursion}
use Rattle.std.specs.Ordering.{nat_cmp}
use Rattle.std.specs.FinMap.{FinMap, get, remove}
use Rattle.world_model.specs.Sizes.{deletion_length, max_dat}
use Rattle.site_model.specs.Disk.{Files}
use Rattle.site_model.specs.declared.error.OpenFault.{OpenFault}
use Rattle.site_model.specs.declared.error.OpenFault.TheVariants as open_fault
use Rattle.file_names.specs.Names.{max_shards}
use Rattle.file_names.specs.declared.Kind.TheVariants.{Shard, Ecx, Ecj}
use Rattle.volume_forms.specs.declared.Entry.{Entry}
use Rattle.volume_forms.specs.Forms.{entries}
use Rattle.volume_forms.specs.Kept.{entry_end}
use Rattle.ecx_index.specs.Listed.{map_of}
use Rattle.stripe_layout.specs.declared.Info.{Info}
use Rattle.stripe_layout.specs.Laws.Info.{IsInRange}
use Rattle.vif_info.specs.declared.InfoFault.{InfoFault}
use Rattle.vif_info.specs.declared.InfoFault.TheVariants as info_fault
use Rattle.ecj_journal.specs.declared.reading.Journal.{Journal}
use Rattle.image_meaning.specs.Files.{VolumeFiles, contents, files_of, bytes_at}
use Rattle.image_meaning.specs.Coded.{first_holder, volume_info, deleted_at}
use Rattle.image_meaning.specs.Ends.{IsStage}
use Rattle.image_meaning.specs.Sound.{IsHolder, Stands, HasOneIndex, HasJournal}
use Rattle.image_meaning.specs.CodedTests.{PassesCoded, FailsCodedFirst}
use Rattle.coded_volume.specs.declared.checking.ShardCopy.{ShardCopy}
use Rattle.coded_volume.specs.declared.checking.holders.Holders.{Holders}

-- the files of the volume on a site
abbrev pub files_on : Files → ℕ → VolumeFiles
files_on files v = files_of (contents files) v

-- ---- copies of shards

-- copies at the servers of a site, by rising server
pub record AreCopies (servers : ℕ) (copies : List ShardCopy) : Type 0 where
  pub some : 0 < length copies
  pub rise : AllPairs (λ a b. a.server ≤ b.server) copies
  pub on_servers : All (λ copy. copy.server < servers) copies
  pub numbers : All (λ copy. copy.shard < max_shards) copies

-- exactly the copies that stand
pub record AreStanding (files : VolumeFiles) (copies : List ShardCopy) : Type 0 where
  pub stand : All (λ copy. Stands files copy.server (Shard copy.shard)) copies
  pub all : (server i : ℕ) → i < max_shards → Stands files server (Shard i) → Contains copies (record { server = server; shard = i })

-- ---- what is answered

-- The volume passes the tests, its text says this, and these ids are the longest journal's.
pub record IsChecked (files : VolumeFiles) (info : Info) (deleted : List ℕ) : Type 0 where
  pub passes : PassesCoded files
  pub told : volume_info files ≡ Some info
  pub longest : passes.journal.longest ≡ deleted

-- what was read is in range, whatever a site tells
pub record HasRoom (info : Info) (deleted : List ℕ) : Type 0 where
  pub in_range : IsInRange info
  pub room : info.dat_size + deletion_length * length deleted ≤ max_dat

-- the rules that are tested
abbrev pub IsTestedRule : ℕ → Type 0
IsTestedRule rule = (rule ≡ 4) ⊎ (rule ≡ 5) ⊎ (rule ≡ 6) ⊎ (rule ≡ 8)

-- A rule that is broken is one of those, of this volume.
abbrev pub TellsRule : ℕ → OpenFault → Type 0
TellsRule v (open_fault.Unsound volume rule) = (volume ≡ v) × IsTestedRule rule
TellsRule v (open_fault.Fault server) = Unit {0}
TellsRule v open_fault.Memory = Unit {0}

-- It is the first of them that is false.
abbrev pub TellsFirst : VolumeFiles → OpenFault → Type 0
TellsFirst files (open_fault.Unsound volume rule) = FailsCodedFirst files rule
TellsFirst files (open_fault.Fault server) = Unit {0}
TellsFirst files open_fault.Memory = Unit {0}

-- ---- one test

-- A device failed, or memory was wanting.
abbrev pub IsSiteFault : OpenFault → Type 0
IsSiteFault (open_fault.Unsound volume rule) = ⊥
IsSiteFault (open_fault.Fault server) = Unit {0}
IsSiteFault open_fault.Memory = Unit {0}

-- This rule of the volume is broken, and so it is; or it is a fault of the site.
abbrev pub Breaks : ℕ → ℕ → Type 0 → OpenFault → Type 0
Breaks v tested Broken (open_fault.Unsound volume rule) = (volume ≡ v) × (rule ≡ tested) × Broken
Breaks v tested Broken (open_fault.Fault server) = Unit {0}
Breaks v tested Broken open_fault.Memory = Unit {0}

-- ---- the texts

-- a text that is refused says nothing
abbrev pub unless_memory : InfoFault → Result (Option Info) OpenFault
unless_memory info_fault.NotJson = Ok None
unless_memory info_fault.Field = Ok None
unless_memory info_fault.Range = Ok None
unless_memory info_fault.Memory = Err open_fault.Memory

-- ---- the servers with a copy

-- the servers of these copies, that of the first copy apart
pub record AreServersOf (copies : List ShardCopy) (holders : Holders) : Type 0 where
  pub first : (d : ShardCopy) → (slice_index_or copies 0 d).server ≡ holders.first
  pub others : All (λ server. Any (λ copy. copy.server ≡ server) copies) holders.others.items
  pub all : All (λ copy. (copy.server ≡ holders.first) ⊎ Contains holders.others.items copy.server) copies

-- servers of a site
pub record AreBelow (servers : ℕ) (holders : Holders) : Type 0 where
  pub first : holders.first < servers
  pub others : All (λ server. server < servers) holders.others.items

-- the lowest holder of the volume, and all others
pub record AreHolders (files : VolumeFiles) (holders : Holders) : Type 0 where
  pub lowest : first_holder files ≡ Some holders.first
  pub first : IsHolder files holders.first
  pub others : All (IsHolder files) holders.others.items
  pub all : (server : ℕ) → IsHolder files server → (server ≡ holders.first) ⊎ Contains holders.others.items server

-- ---- the indexes

-- each record of the index ends within so many bytes
abbrev pub EndsWithin : ℕ → List Entry → Type 0
EndsWithin size es = AllByRecursion (λ e. entry_end e ≤ size) es

-- The holders have one index, of this map.
pub record HasIndexOf (files : VolumeFiles) (holders : Holders) (info : Info) (index : FinMap nat_cmp Entry) : Type 0 where
  pub one : HasOneIndex files info
  pub entries : index ≡ map_of (entries (bytes_at files holders.first Ecx))

-- ---- the journals

-- what a server's journal has
pub record IsJournalAt (files : VolumeFiles) (server : ℕ) (journal : Journal) : Type 0 where
  pub ids : journal.ids.items ≡ deleted_at files server
  pub rest : length (bytes_at files server Ecj) ≡ 16 * length (deleted_at files server) + journal.rest

-- those of all holders
pub record AreJournals (files : VolumeFiles) (journals : List Journal) : Type 0 where
  pub each : (server : ℕ) → IsHolder files server → Any (IsJournalAt files server) journals
  pub only : All (λ journal. (server : ℕ) × IsHolder files server × IsJournalAt files server journal) journals

-- The journal has these ids, or all but the last, and at most a pair behind them.
pub record Follows (ids : List ℕ) (journal : Journal) : Type 0 where
  pub stage : IsStage ids journal.ids.items
  pub rest : journal.rest ≤ 16

-- each id has an entry, and none comes twice: its entry is taken out
abbrev pub AreKnown : FinMap nat_cmp Entry → List ℕ → Type 0
AreKnown index [] = Unit {0}
AreKnown index (id ∷ ids) = IsSome (get index id) × AreKnown (remove index id) ids

-- Some journal has these ids, and all follow it. They are known, and there is room for their deletions.
pub record AgreeOn (journals : List Journal) (index : FinMap nat_cmp Entry) (dat_size : ℕ) (ids : List ℕ) : Type 0 where
  pub some_journal : Any (λ journal. journal.ids.items ≡ ids) journals
  pub follow : All (Follows ids) journals
  pub known : AreKnown index ids
  pub room : dat_size + deletion_length * length ids ≤ max_dat

-- These are the ids of the longest journal.
pub record HasLongest (files : VolumeFiles) (info : Info) (ids : List ℕ) : Type 0 where
  pub journal : HasJournal files info
  pub longest : journal.longest ≡ ids
