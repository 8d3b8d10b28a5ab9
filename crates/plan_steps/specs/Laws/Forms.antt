-- The two forms of a volume mean the same: of an encode, which deletes nothing, and of a decode, which writes the
-- deletions behind the data file. For `plan_code` and `plan_mend`.
use Rattle.std.proofs.Common.{inr, ◌≡◌, ℕ, ◌+◌, ◌*◌, ◌<◌, ◌≤◌, ◌^◌, Bool, true, false, cond, List, [], ◌∷◌, ◌++◌, length, map, Option, None, refl, sym, ◌∙◌, ap, subst, arith, append_assoc, length-append}
use Rattle.std.specs.Prelude.{◌||◌, not, nat_eq, flat_map, IfSome}
use Rattle.std.specs.List.{list_any, AllByRecursion, IsDistinct}
use mathlib.Core.Bool.{true≢false}
use Rattle.std.specs.Int.{w32, cast_unsigned}
use Rattle.std.specs.Ordering.{nat_cmp, eq_by_cmp}
use Rattle.std.specs.Cmp.{nat_cmp_total, nat_eq_equiv}
use Rattle.std.specs.FinMap.{get, remove, get-remove, get-retain_keys, same_map, nat_cmp-IsAntisymmetric}
use Rattle.std.specs.FinSet as set
use Rattle.std.proofs.lemmas.List.{append-nil, take_all}
use Rattle.wire_num.specs.Numbers.{bytes_of}
use Rattle.wire_num.specs.Laws.Number.{length-bytes_of}
use Rattle.volume_forms.specs.Forms.{entry_bytes, entries, entries_within}
use Rattle.volume_forms.specs.Laws.Entry.{entries-append}
use Rattle.world_model.specs.World.{Volume, Needles}
use Rattle.world_model.specs.Sizes.{FitsRecord, max_dat, deletion_length}
use Rattle.needle_record.specs.declared.Record.{Record}
use Rattle.needle_record.specs.Spelling.{HasRoom, canonical, length_of_record}
use Rattle.needle_record.specs.Records.{Placed, records, end_of, entry_of, fold_records, after_record, IsWholeDat}
use Rattle.needle_record.specs.Laws.Spelling.{canonical-reads}
use Rattle.needle_record.specs.Laws.Records.{records-write, whole_dat-write, fold_records-push, fold_records-used}
use Rattle.image_meaning.specs.Plain.{IsExact}
use Rattle.image_meaning.specs.Laws.Plain.{has_super-long, has_super-append, entries-one}
use Rattle.image_meaning.specs.Coded.{coded_with, without_ids}
use Rattle.image_meaning.specs.Parts.{Parts, AreSoundParts}
use Rattle.plan_steps.specs.Kept.{AreForms}
use Rattle.plan_steps.specs.Planned.{deletions, joined, joined_index}
use Rattle.plan_steps.specs.Legal.{KeepsJoined}

-- ---- ids that are taken out

-- the needles without these ids, one after the other
abbrev pub taken_out : Needles → List ℕ → Needles
taken_out needles [] = needles
taken_out needles (id ∷ ids) = taken_out (remove needles id) ids

cond_twice : {A : Type 0} (a b : Bool) (o : Option A) → cond b None (cond a None o) ≡ cond (a || b) None o
cond_twice true true o = refl
cond_twice true false o = refl
cond_twice false b o = refl

get-taken_out : (ids : List ℕ) (needles : Needles) (q : ℕ) → get (taken_out needles ids) q ≡ cond (list_any (eq_by_cmp nat_cmp q) ids) None (get needles q)
get-taken_out [] needles q = refl
get-taken_out (id ∷ ids) needles q =
    get-taken_out ids (remove needles id) q
    ∙ ap (λ o. cond (list_any (eq_by_cmp nat_cmp q) ids) None o) (get-remove nat_cmp_total needles id q)
    ∙ cond_twice (eq_by_cmp nat_cmp q id) (list_any (eq_by_cmp nat_cmp q) ids) (get needles q)

cond_not : {A : Type 0} (b : Bool) (o : Option A) → cond (not b) o None ≡ cond b None o
cond_not true o = refl
cond_not false o = refl

taken_out-is : (ids : List ℕ) (needles : Needles) → taken_out needles ids ≡ without_ids needles (set.from_list ids)
taken_out-is ids needles = same_map nat_cmp_total nat_cmp-IsAntisymmetric _ _ (λ q.
    get-taken_out ids needles q
    ∙ sym (get-retain_keys needles (λ id. not (set.contains (set.from_list {R = nat_cmp} ids) id)) q (λ x same. ap (λ n. not (set.contains (set.from_list {R = nat_cmp} ids) n)) (sym (nat_cmp-IsAntisymmetric q x same)))
    ∙ ap (λ b. cond (not b) (get needles q) None) (set.contains-from_list nat_cmp_total ids q)
    ∙ cond_not (list_any (eq_by_cmp nat_cmp q) ids) (get needles q)))

-- ---- how many they are

none_same : (id : ℕ) (ids : List ℕ) → AllByRecursion (λ y. nat_eq id y ≡ false) ids → list_any (λ y. nat_eq y id) ids ≡ false
none_same id [] h = refl
none_same id (y ∷ ids) h = ap (λ b. b || list_any (λ y. nat_eq y id) ids) (nat_eq_equiv.symm y id ∙ h.0) ∙ none_same id ids h.1

pub len-distinct : (ids : List ℕ) → IsDistinct nat_eq ids → set.len (set.from_list {R = nat_cmp} ids) ≡ length ids
unfolding IsDistinct
len-distinct [] h = set.len-empty nat_cmp
len-distinct (id ∷ ids) h =
    ap set.len (set.same_set nat_cmp_total nat_cmp-IsAntisymmetric (set.from_list {R = nat_cmp} (id ∷ ids)) (set.insert (set.from_list {R = nat_cmp} ids) id) (λ q.
    set.contains-from_list nat_cmp_total (id ∷ ids) q
    ∙ ap (λ b. eq_by_cmp nat_cmp q id || b) (sym (set.contains-from_list nat_cmp_total ids q))
    ∙ sym (set.contains-insert nat_cmp_total (set.from_list {R = nat_cmp} ids) id q)))
    ∙ set.len-insert nat_cmp_total (set.from_list {R = nat_cmp} ids) id
    ∙ ap (λ b. cond b (set.len (set.from_list {R = nat_cmp} ids)) (set.len (set.from_list {R = nat_cmp} ids) + 1)) (set.contains-from_list_nat ids id ∙ none_same id ids h.0)
    ∙ ap (λ n. n + 1) (len-distinct ids h.1) ∙ omega arith

-- ---- deletions behind a data file

abbrev deletion : ℕ → Record
deletion id = record { cookie = 0; id = id; content = None; appended = 0 }

abbrev AreIds : List ℕ → Type 0
AreIds ids = AllByRecursion (λ id. id < 2 ^ 64) ids

has_room : (id : ℕ) → id < 2 ^ 64 → HasRoom (deletion id)
has_room id h = record { cookie = omega arith; id = h; appended = omega arith }

deletion_takes : (id : ℕ) → length_of_record (deletion id) ≡ deletion_length
deletion_takes id = refl

-- what they make of the volume
pub record IsJoined (dat : List ℕ) (ids : List ℕ) : Type 0 where
  pub whole : IsWholeDat (dat ++ deletions ids)
  pub used : (fold_records (records (dat ++ deletions ids))).used ≡ (fold_records (records dat)).used + deletion_length * length ids
  pub needles : (fold_records (records (dat ++ deletions ids))).needles ≡ taken_out (fold_records (records dat)).needles ids

pub deletions_join : (ids dat : List ℕ) → IsWholeDat dat → AreIds ids → length dat + deletion_length * length ids ≤ max_dat → IsJoined dat ids
deletions_join [] dat whole fits room = record {
  whole = subst IsWholeDat (sym (append-nil dat)) whole;
  used = ap (λ d. (fold_records (records d)).used) (append-nil dat) ∙ omega arith;
  needles = ap (λ d. (fold_records (records d)).needles) (append-nil dat);
}
deletions_join (id ∷ ids) dat whole fits room =
    let d : Record = deletion id in
    let long : length dat + length_of_record (deletion id) ≤ max_dat = omega (arith, room, deletion_takes id) in
    let next_whole = whole_dat-write dat (deletion id) whole (has_room id fits.0) tt long in
    let more : length (dat ++ canonical (deletion id)) ≡ length dat + 32 = length-append dat (canonical (deletion id)) ∙ ap (λ n. length dat + n) (canonical-reads (deletion id) (has_room id fits.0) tt).long in
    let rest = deletions_join ids (dat ++ canonical (deletion id)) next_whole fits.1 (omega (arith, more, room)) in
    let moved : (dat ++ canonical (deletion id)) ++ deletions ids ≡ dat ++ deletions (id ∷ ids) = append_assoc dat (canonical (deletion id)) (deletions ids) in
    let one : fold_records (records (dat ++ canonical (deletion id))) ≡ after_record (fold_records (records dat)) (deletion id) =
    ap fold_records (records-write dat (deletion id) whole (has_room id fits.0) tt long) ∙ fold_records-push (records dat) (length dat, deletion id) in
    record {
      whole = subst IsWholeDat moved rest.whole;
      used = ap (λ d. (fold_records (records d)).used) (sym moved) ∙ rest.used ∙ ap (λ (v : Volume). v.used + deletion_length * length ids) one ∙ omega arith;
      needles = ap (λ d. (fold_records (records d)).needles) (sym moved) ∙ rest.needles ∙ ap (λ (v : Volume). taken_out v.needles ids) one;
    }

-- ---- the forms

-- all records of a whole data file use its length
pub used_whole : (dat : List ℕ) → IsWholeDat dat → (fold_records (records dat)).used ≡ length dat
used_whole dat whole =
    ap (λ ps. (fold_records ps).used) (sym (take_all (length (records dat)) (records dat) (omega arith)))
    ∙ fold_records-used dat (length (records dat)) whole.super ∙ ap end_of (take_all (length (records dat)) (records dat) (omega arith)) ∙ whole.to_end

pub parts_whole : (t : Parts) → AreSoundParts t → IsWholeDat t.dat
parts_whole t good = record { super = has_super-long t.dat good.super; to_end = good.to_end }

-- A decode: the shards' file with the deletions behind it means what the shards and the journal mean.
pub decode_forms : (t : Parts) → AreSoundParts t → AreIds t.deleted → AreForms (coded_with t.dat t.info t.deleted) (record { changes = true; kept = records (joined t); parts = t })
decode_forms t good fits =
    let joins = deletions_join t.deleted t.dat (parts_whole t good) fits (omega (arith, good.room, good.size)) in
    record {
      plain = λ changes. (
        joins.used ∙ omega (arith, used_whole t.dat (parts_whole t good), good.size, len-distinct t.deleted good.distinct),
        joins.needles ∙ taken_out-is t.deleted (fold_records (records t.dat)).needles,
      );
      coded = (refl, refl);
      coded_mode = inr refl;
      parts = good;
    }

-- An encode: the shards of a data file mean what all its records mean.
pub encode_forms : (t : Parts) → AreSoundParts t → t.deleted ≡ [] → AreForms (fold_records (records t.dat)) (record { changes = true; kept = records t.dat; parts = t })
encode_forms t good none = record {
  plain = λ changes. (refl, refl);
  coded = (
    ap (λ ids. t.info.dat_size + 32 * set.len (set.from_list {R = nat_cmp} ids)) none ∙ omega (arith, set.len-empty nat_cmp, used_whole t.dat (parts_whole t good), good.size),
    ap (λ ids. without_ids (fold_records (records t.dat)).needles (set.from_list ids)) none ∙ sym (taken_out-is [] (fold_records (records t.dat)).needles),
  );
  coded_mode = inr refl;
  parts = good;
}

-- A rebuild and a balance: the volume stays in its coded form.
pub mend_forms : (t : Parts) → AreSoundParts t → AreForms (coded_with t.dat t.info t.deleted) (record { changes = false; kept = []; parts = t })
mend_forms t good = record { plain = λ changes. absurd (true≢false (sym changes)); coded = (refl, refl); coded_mode = refl; parts = good }

-- ---- the index that a decode writes

-- a record whose entry is read as it was written
pub record HasEntry (p : Placed) : Type 0 where
  pub room : HasRoom p.1
  pub fits : IfSome p.1.content FitsRecord
  pub place : p.0 < max_dat

length-entry : (p : Placed) → length (entry_bytes (entry_of p)) ≡ 16
length-entry p =
    length-append (bytes_of 8 (entry_of p).id ++ bytes_of 4 (entry_of p).offset) (bytes_of 4 (cast_unsigned w32 (entry_of p).size))
    ∙ ap (λ n. n + length (bytes_of 4 (cast_unsigned w32 (entry_of p).size))) (length-append (bytes_of 8 (entry_of p).id) (bytes_of 4 (entry_of p).offset))
    ∙ λ i. length-bytes_of 8 (entry_of p).id i + length-bytes_of 4 (entry_of p).offset i + length-bytes_of 4 (cast_unsigned w32 (entry_of p).size) i

pub index_of_entries : (ps : List Placed) → AllByRecursion HasEntry ps → (entries (flat_map entry_bytes (map entry_of ps)) ≡ map entry_of ps) × (length (flat_map entry_bytes (map entry_of ps)) ≡ 16 * length ps)
unfolding entries entries_within
index_of_entries [] h = (refl, refl)
index_of_entries (p ∷ ps) h =
    let rest = index_of_entries ps h.1 in (
      entries-append 1 (entry_bytes (entry_of p)) (flat_map entry_bytes (map entry_of ps)) (length-entry p)
          ∙ ap (λ es. es ++ entries (flat_map entry_bytes (map entry_of ps))) (entries-one p h.0.room h.0.fits h.0.place)
          ∙ ap (λ es. entry_of p ∷ es) rest.0,
      length-append (entry_bytes (entry_of p)) (flat_map entry_bytes (map entry_of ps)) ∙ omega (arith, length-entry p, rest.1),
    )

-- It keeps the records of the data file that was joined.
pub decode_index : (t : Parts) → AreSoundParts t → AreIds t.deleted → AllByRecursion HasEntry (records (joined t)) → KeepsJoined (record { changes = true; kept = records (joined t); parts = t })
decode_index t good fits all =
    let joins = deletions_join t.deleted t.dat (parts_whole t good) fits (omega (arith, good.room, good.size)) in
    let index = index_of_entries (records (joined t)) all in
    let exact : IsExact (joined t) (joined_index t) (records (joined t)) = record { whole = joins.whole; has = refl; index = index.0; index_length = index.1 } in
    record { exact = exact; super = has_super-append t.dat (deletions t.deleted) good.super }
