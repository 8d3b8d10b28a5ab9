-- Laws of the records of a data file, for the crates above. `Laws` proves them.
use Rattle.std.specs.Prelude.{◌≡◌, ℕ, ◌+◌, ◌*◌, ◌%◌, ◌<◌, ◌≤◌, List, [], ◌∷◌, ◌++◌, length, take, drop, map, All, Ok, Err, IfSome}
use Rattle.std.specs.FinMap.{get}
use Rattle.world_model.specs.Sizes.{FitsRecord, max_dat}
use Rattle.world_model.specs.World.{Volume}
use Rattle.volume_forms.specs.Kept.{entry_end, kept_length}
use Rattle.needle_record.specs.declared.Record.{Record}
use Rattle.needle_record.specs.declared.NeedleFault.{NeedleFault}
use Rattle.needle_record.specs.Spelling.{HasRoom, canonical, length_of_record}
use Rattle.needle_record.specs.Reading.{needle_at}
use Rattle.needle_record.specs.Records.{Placed, Index, records, records_from, end_of, entry_of, fold_from, fold_records, after_record, index_from, index_of, index_after_content, AreRecords, IsWholeDat, StandsIn, AgreesAt}
use Rattle.needle_record.specs.Laws.Appended as appended
use Rattle.needle_record.specs.Laws.Ends as ends
use Rattle.needle_record.specs.Laws.Pushes as pushes
use Rattle.needle_record.specs.Laws.Places as places
use Rattle.needle_record.specs.Laws.Cuts as cuts
use Rattle.needle_record.specs.Laws.Folds as folds
use Rattle.needle_record.specs.Laws.Agreeing as agreeing

-- ---- from one place on

-- a record at the front comes first
pub records_from-found : (place : ℕ) (bytes : List ℕ) (found : Record × ℕ) → needle_at bytes ≡ Ok found → place + found.1 ≤ max_dat
    → records_from place bytes ≡ (place, found.0) ∷ records_from (place + found.1) (drop found.1 bytes)
records_from-found = appended.records_from-found

pub records_from-nothing : (place : ℕ) → records_from place [] ≡ []
records_from-nothing = appended.records_from-nothing

-- where no record is read there is none
pub records_from-fault : (place : ℕ) (bytes : List ℕ) (why : NeedleFault) → needle_at bytes ≡ Err why → records_from place bytes ≡ []
records_from-fault = appended.records_from-fault

-- nor is there one that ends behind the greatest length
pub records_from-past : (place : ℕ) (bytes : List ℕ) (found : Record × ℕ) → needle_at bytes ≡ Ok found → max_dat < place + found.1 → records_from place bytes ≡ []
records_from-past = appended.records_from-past

-- what stands behind records goes on where they end
pub records_from-append : (place : ℕ) (bytes more : List ℕ) (ps : List Placed) → AreRecords place bytes ps → records_from place (bytes ++ more) ≡ ps ++ records_from (place + length bytes) more
records_from-append = appended.records_from-append

-- ---- data files

-- a file that is records to its end is these records
pub whole_dat-records : (dat : List ℕ) → IsWholeDat dat → AreRecords 8 (drop 8 dat) (records dat)
whole_dat-records = ends.whole_dat-records

-- what stands behind such a file goes on where it ends
pub records-append : (dat more : List ℕ) → IsWholeDat dat → records (dat ++ more) ≡ records dat ++ records_from (length dat) more
records-append = ends.records-append

-- one record more at its end
pub records-push : (dat bytes : List ℕ) (found : Record × ℕ) → IsWholeDat dat → needle_at bytes ≡ Ok found → found.1 ≡ length bytes → length dat + found.1 ≤ max_dat
    → records (dat ++ bytes) ≡ records dat ++ (length dat, found.0) ∷ []
records-push = ends.records-push

-- a record that is written there
pub records-write : (dat : List ℕ) (r : Record) → IsWholeDat dat → HasRoom r → IfSome r.content FitsRecord → length dat + length_of_record r ≤ max_dat
    → records (dat ++ canonical r) ≡ records dat ++ (length dat, r) ∷ []
records-write = pushes.push_written

pub whole_dat-write : (dat : List ℕ) (r : Record) → IsWholeDat dat → HasRoom r → IfSome r.content FitsRecord → length dat + length_of_record r ≤ max_dat → IsWholeDat (dat ++ canonical r)
whole_dat-write = pushes.whole_pushed

-- cut where they end, it is these records to its end
pub records-cut : (dat : List ℕ) (n : ℕ) → 8 ≤ length dat → records (take (end_of (take n (records dat))) dat) ≡ take n (records dat)
records-cut = cuts.cut_records

pub whole_dat-cut : (dat : List ℕ) (n : ℕ) → 8 ≤ length dat → IsWholeDat (take (end_of (take n (records dat))) dat)
whole_dat-cut = cuts.cut_whole

-- ---- places

-- each of a file's records stands in it
pub records-stand : (dat : List ℕ) → 8 ≤ length dat → All (StandsIn dat) (records dat)
records-stand = places.all_stand

-- and still does, whatever follows
pub StandsIn-append : (dat more : List ℕ) (p : Placed) → StandsIn dat p → StandsIn (dat ++ more) p
StandsIn-append = places.stands_append

-- the entry of a record tells where it stands
pub entry_of-place : (p : Placed) → p.0 % 8 ≡ 0 → 8 * (entry_of p).offset ≡ p.0
entry_of-place = pushes.entry_place

-- and where it ends
pub entry_of-end : (p : Placed) → p.0 % 8 ≡ 0 → entry_end (entry_of p) ≡ p.0 + length_of_record p.1
entry_of-end = pushes.entry_ends

-- so do the entries of records
pub kept_length-entries : (dat : List ℕ) (ps : List Placed) → All (StandsIn dat) ps → kept_length (map entry_of ps) ≡ end_of ps
kept_length-entries = cuts.entries_end

-- ---- volumes and indexes

pub fold_from-append : (v : Volume) (ps qs : List Placed) → fold_from v (ps ++ qs) ≡ fold_from (fold_from v ps) qs
fold_from-append = folds.fold_from-append

-- one record more
pub fold_records-push : (ps : List Placed) (p : Placed) → fold_records (ps ++ p ∷ []) ≡ after_record (fold_records ps) p.1
fold_records-push = folds.fold_records-push

pub index_from-append : (index : Index) (ps qs : List Placed) → index_from index (ps ++ qs) ≡ index_from (index_from index ps) qs
index_from-append = folds.index_from-append

pub index_of-push : (ps : List Placed) (p : Placed) → index_of (ps ++ p ∷ []) ≡ index_after_content (index_of ps) p p.1.content
index_of-push = folds.index_of-push

-- the index has the ids of the needles, and of each the entry of the record that gives its needle
pub index_of-agrees : (Stands : Placed → Type 0) (ps : List Placed) → All Stands ps → (id : ℕ) → AgreesAt Stands id (get (index_of ps) id) (get (fold_records ps).needles id)
index_of-agrees Stands ps all id = agreeing.all_agree Stands id ps all

-- the length of records without gaps is what they use
pub fold_records-used : (dat : List ℕ) (n : ℕ) → 8 ≤ length dat → (fold_records (take n (records dat))).used ≡ end_of (take n (records dat))
fold_records-used = cuts.front_used
