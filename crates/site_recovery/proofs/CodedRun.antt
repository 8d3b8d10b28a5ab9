-- The runs of a coded volume's recovery, by where its copies stand.
use Rattle.std.proofs.Common.{◌≡◌, ℕ, ◌<◌, Bool, List, map, Option, sym, ◌∙◌, subst}
use Rattle.std.specs.Prelude.{◌↔◌, Contains}
use Rattle.site_model.specs.Disk.{Disk}
use Rattle.wire_num.specs.Laws.Pair.{AreIds}
use Rattle.image_meaning.specs.Files.{VolumeFiles, contents, files_of}
use Rattle.image_meaning.specs.Meaning.{max_volumes}
use Rattle.image_meaning.specs.Sound.{IsHolder}
use Rattle.coded_volume.specs.declared.checking.ShardCopy.{ShardCopy}
use Rattle.coded_volume.specs.Checking.{AreCopies, AreStanding}
use Rattle.site_recovery.specs.Changes.{TakesAway, Settles}
use Rattle.site_recovery.specs.Placing.{AreHomesOf, MarksHomes}
use Rattle.site_recovery.specs.Spreading.{IsAmong, Spreads, AreSpread}
use Rattle.site_recovery.specs.CodedGone.{HasShardHomes, IsSpare, AreCopiesGone, IsStray, AreStraysGone}
use Rattle.site_recovery.specs.CodedSettling.{IsVolumeFile, IsTestedCoded, IsSettledCoded}
use Rattle.site_recovery.proofs.CodedSettled.{AreMarked, settles_one, one_home, settles_two, settles_three, settled_coded}
use Rattle.site_recovery.proofs.Placed.{homes_are, marks_are, holders_all}

-- where the copies of a volume's shards stand, and what was made of it
pub record IsLaidOut (files : VolumeFiles) (servers : ℕ) (copies : List ShardCopy) (holders : List ℕ) (homes : List (Option ℕ)) (keeps : List Bool) : Type 0 where
  pub are : AreCopies servers copies
  pub stand : AreStanding files copies
  pub each : (server : ℕ) → Contains holders server ↔ Contains (map (λ copy. copy.server) copies) server
  pub of : AreHomesOf copies homes
  pub marks : MarksHomes servers homes keeps

-- by the values that were passed on
pub lay_out : (files : VolumeFiles) (servers n : ℕ) (copies : List ShardCopy) (holders found : List ℕ) (homes : List (Option ℕ)) (keeps : List Bool) → AreCopies servers copies → AreStanding files copies
    → holders ≡ found → ((server : ℕ) → Contains found server ↔ Contains (map (λ (c : ShardCopy). c.server) copies) server) → AreHomesOf copies homes → n ≡ servers → MarksHomes n homes keeps
    → IsLaidOut files servers copies holders homes keeps
lay_out files servers n copies holders found homes keeps are stand same each of all marks = record {
  are = are;
  stand = stand;
  each = subst (λ (l : List ℕ). (server : ℕ) → Contains l server ↔ Contains (map (λ (c : ShardCopy). c.server) copies) server) (sym same) each;
  of = of;
  marks = subst (λ k. MarksHomes k homes keeps) all marks;
}

module _ (v : ℕ) (h : v < max_volumes) (ids : List ℕ) (fit : AreIds ids) (start : Disk) (tested : IsTestedCoded (files_of (contents start.files) v) ids)
    (servers : ℕ) (copies : List ShardCopy) (holders : List ℕ) (homes : List (Option ℕ)) (keeps : List Bool) (laid : IsLaidOut (files_of (contents start.files) v) servers copies holders homes keeps)
    (one : Disk) (spreads : Spreads v holders ids start one) where
  abbrev files_in : Disk → VolumeFiles
  files_in d = files_of (contents d.files) v

  all_among : (server : ℕ) → IsHolder (files_in start) server → IsAmong holders server
  all_among = holders_all (files_in start) servers copies holders laid.are laid.each laid.stand

  marked : AreMarked (files_in start) keeps
  marked = marks_are (files_in start) servers copies homes laid.are laid.stand laid.of keeps laid.marks

  pub run_one : Settles (IsVolumeFile v) start one
  run_one = settles_one v h ids fit start tested holders one spreads

  module _ (spread : AreSpread v holders ids start.files one.files) where
    pub homes_one : HasShardHomes (files_in one) homes
    homes_one i small = homes_are (files_in start) servers copies homes laid.are laid.stand laid.of i small ∙ sym (one_home v h ids fit start tested holders one spreads all_among spread i)

    module _ (two : Disk) (takes : TakesAway (IsSpare v (files_in one)) one two) where
      pub run_two : Settles (IsVolumeFile v) start two
      run_two = settles_two v h ids fit start tested holders one spreads all_among spread two takes

      module _ (gone : AreCopiesGone v (files_in one) two.files) (passed : List Bool) (same : passed ≡ keeps) (three : Disk) (strays : TakesAway (IsStray v passed) two three) where
        kept_strays : TakesAway (IsStray v keeps) two three
        kept_strays = subst (λ (l : List Bool). TakesAway (IsStray v l) two three) same strays

        pub run_three : Settles (IsVolumeFile v) start three
        run_three = settles_three v h ids fit start tested holders one spreads all_among spread two takes keeps marked gone three kept_strays

        pub run_done : AreStraysGone v passed three.files → IsSettledCoded v ids start.files three.files
        run_done gone_beside =
            settled_coded v h ids fit start tested holders one spreads all_among spread two takes keeps marked gone three kept_strays
            (subst (λ (l : List Bool). AreStraysGone v l three.files) same gone_beside)
