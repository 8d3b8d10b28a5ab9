-- A data file cut where one of its records ends.
use Rattle.std.proofs.Common.{◌≡◌, ℕ, zero, suc, ◌+◌, ◌-◌, ◌≤◌, List, [], ◌∷◌, ◌++◌, length, take, drop, map, Bool, true, false, cond, Result, Ok, Err, All, refl, sym, ◌∙◌, ap, subst, arith}
use Rattle.std.specs.Prelude.{nat_lt}
use Rattle.std.proofs.lemmas.List.{append-nil, length-drop, length-take-le, drop-take}
use Rattle.std.proofs.lemmas.List.Elements.{All-head, All-tail}
use Rattle.std.proofs.lemmas.Bool.{ltb-false}
use Rattle.world_model.specs.World.{Volume, empty_volume}
use Rattle.volume_forms.specs.Kept.{kept_length}
use Rattle.needle_record.specs.declared.Record.{Record}
use Rattle.needle_record.specs.declared.NeedleFault.{NeedleFault}
use Rattle.needle_record.specs.Spelling.{length_of_record}
use Rattle.needle_record.specs.Reading.{needle_at}
use Rattle.needle_record.specs.Records.{Placed, records, records_from, records_on, records_within, end_from, end_of, entry_of, fold_from, fold_records, after_record, AreRecords, IsWholeDat, StandsIn}
use Rattle.world_model.specs.Sizes.{max_dat}
use Rattle.needle_record.specs.Laws.Fronts.{found_whole}
use Rattle.needle_record.specs.Laws.Appended.{found_length, records_from-append, records_from-nothing}
use Rattle.needle_record.specs.Laws.Ends.{found_record_length}
use Rattle.needle_record.specs.Laws.Headers.{front_read}
use Rattle.needle_record.specs.Laws.Pushes.{entry_ends}

-- the bytes up to the end of these records are they, and are all there
record AreFront (place : ℕ) (bytes : List ℕ) (ps : List Placed) : Type 0 where
  are : AreRecords place (take (end_from place ps - place) bytes) ps
  low : place ≤ end_from place ps
  high : end_from place ps ≤ place + length bytes

no_front : (place : ℕ) (bytes : List ℕ) → AreFront place bytes []
no_front place bytes = let none : place - place ≡ 0 = omega arith in record { are = ap (λ k. take k bytes) none; low = omega arith; high = omega arith }

no_front_of : (n place : ℕ) (bytes : List ℕ) → AreFront place bytes (take n [])
no_front_of zero place bytes = no_front place bytes
no_front_of (suc n) place bytes = no_front place bytes

-- one record, and a front of what follows it
front_more : (place : ℕ) (bytes : List ℕ) (found : Record × ℕ) (ps : List Placed) → needle_at bytes ≡ Ok found → place + found.1 ≤ max_dat → AreFront (place + found.1) (drop found.1 bytes) ps
    → AreFront place bytes ((place, found.0) ∷ ps)
front_more place bytes found ps e fits rest =
    let long : found.1 ≤ length bytes = omega (arith, (found_whole bytes found e).has_end, found_length bytes found e) in
    let split : end_from (place + found.1) ps - place ≡ found.1 + (end_from (place + found.1) ps - (place + found.1)) = omega (arith, rest.low) in
    let enough : found.1 ≤ end_from (place + found.1) ps - place = omega (arith, rest.low) in
    let behind : drop found.1 (take (end_from (place + found.1) ps - place) bytes) ≡ take (end_from (place + found.1) ps - (place + found.1)) (drop found.1 bytes) =
    ap (λ k. drop found.1 (take k bytes)) split ∙ drop-take found.1 (end_from (place + found.1) ps - (place + found.1)) bytes in
    let parts = subst (λ n. (AreRecords place (take (end_from (place + n) ps - place) bytes) ((place, found.0) ∷ ps)) × (place ≤ end_from (place + n) ps) × (end_from (place + n) ps ≤ place + length bytes))
    (found_record_length bytes found e) (
      (found.1, refl, front_read bytes found (end_from (place + found.1) ps - place) e enough, fits, subst (λ l. AreRecords (place + found.1) l ps) (sym behind) rest.are),
      omega (arith, rest.low),
      omega (arith, rest.high, long, length-drop found.1 bytes),
    ) in
    record { are = parts.0; low = parts.1; high = parts.2 }

-- so are the first n of the records that the bytes give
front_of : (k n place : ℕ) (bytes : List ℕ) → AreFront place bytes (take n (records_within k place bytes))
unfolding records_within
front_of zero n place bytes = no_front_of n place bytes
front_of (suc k) n place bytes = by_read (front_of k) n (needle_at bytes) refl
  where
    by_read : ((n next : ℕ) (rest : List ℕ) → AreFront next rest (take n (records_within k next rest))) → (n : ℕ) (r : Result (Record × ℕ) NeedleFault) → needle_at bytes ≡ r → AreFront place bytes (take n (records_on (records_within k) place bytes r))
    by_read ih n (Err why) e = no_front_of n place bytes
    by_read ih n (Ok found) e = by_fit n (nat_lt max_dat (place + found.1)) refl
      where
        by_fit : (n : ℕ) (b : Bool) → nat_lt max_dat (place + found.1) ≡ b → AreFront place bytes (take n (cond b [] ((place, found.0) ∷ records_within k (place + found.1) (drop found.1 bytes))))
        by_fit n true p = no_front_of n place bytes
        by_fit zero false p = no_front place bytes
        by_fit (suc n) false p = front_more place bytes found _ e (ltb-false _ _ p) (ih n (place + found.1) (drop found.1 bytes))

-- what is left of a data file where the first n of its records end
module _ (dat : List ℕ) (n : ℕ) (super : 8 ≤ length dat) where
  abbrev end : ℕ
  end = end_of (take n (records dat))

  front : AreFront 8 (drop 8 dat) (take n (records dat))
  unfolding records records_from
  front = front_of (length (drop 8 dat)) n 8 (drop 8 dat)

  pub cut_end : end_of (take n (records dat)) ≤ length dat
  cut_end = omega (arith, front.high, length-drop 8 dat, super)

  pub cut_records : records (take (end_of (take n (records dat))) dat) ≡ take n (records dat)
  unfolding records
  cut_records =
      let at_eight : drop 8 (take (end_of (take n (records dat))) dat) ≡ take (end_of (take n (records dat)) - 8) (drop 8 dat) =
      ap (λ k. drop 8 (take k dat)) (eight_more (end_of (take n (records dat))) front.low) ∙ drop-take 8 (end_of (take n (records dat)) - 8) dat in
      ap (records_from 8) (at_eight ∙ sym (append-nil (take (end_of (take n (records dat)) - 8) (drop 8 dat))))
      ∙ records_from-append 8 (take (end_of (take n (records dat)) - 8) (drop 8 dat)) [] (take n (records dat)) front.are
      ∙ ap (λ ps. take n (records dat) ++ ps) (records_from-nothing (8 + length (take (end_of (take n (records dat)) - 8) (drop 8 dat))))
      ∙ append-nil (take n (records dat))
    where
      eight_more : (e : ℕ) → 8 ≤ e → e ≡ 8 + (e - 8)
      eight_more e h = omega arith

  pub cut_whole : IsWholeDat (take (end_of (take n (records dat))) dat)
  cut_whole = record {
    super = omega (arith, length-take-le (end_of (take n (records dat))) dat cut_end, front.low);
    to_end = ap end_of cut_records ∙ sym (length-take-le (end_of (take n (records dat))) dat cut_end);
  }

-- records one after the other use what lies between their places
used_from : (v : Volume) (place : ℕ) (bytes : List ℕ) (ps : List Placed) → AreRecords place bytes ps → v.used ≡ place → (fold_from v ps).used ≡ end_from place ps
used_from v place bytes [] are e = e
used_from v place bytes (p ∷ ps) (n, at_place, read, fits, rest) e =
    let size : n ≡ length_of_record p.1 = found_record_length bytes (p.1, n) read in
    used_from (after_record v p.1) (p.0 + length_of_record p.1) (drop n bytes) ps (subst (λ k. AreRecords k (drop n bytes) ps) (omega (arith, at_place, size)) rest) (omega (arith, e, at_place))

pub front_used : (dat : List ℕ) (n : ℕ) → 8 ≤ length dat → (fold_records (take n (records dat))).used ≡ end_of (take n (records dat))
front_used dat n super = used_from empty_volume 8 _ (take n (records dat)) (front dat n super).are refl

-- where the entries of records say that they end
pub entries_end : (dat : List ℕ) (ps : List Placed) → All (StandsIn dat) ps → kept_length (map entry_of ps) ≡ end_of ps
entries_end dat [] all = refl
entries_end dat (p ∷ []) all = entry_ends p (All-head (StandsIn dat) p [] all).in_eights
entries_end dat (p ∷ q ∷ ps) all = entries_end dat (q ∷ ps) (All-tail (StandsIn dat) p (q ∷ ps) all)
