-- The records of a data file stand at their places.
use Rattle.std.proofs.Common.{◌≡◌, ℕ, zero, suc, ◌+◌, ◌%◌, ◌≤◌, List, [], ◌∷◌, ◌++◌, length, drop, Bool, true, false, cond, Result, Ok, Err, All, refl, sym, ◌∙◌, ap, subst, arith}
use Rattle.std.specs.Prelude.{nat_lt}
use Rattle.std.proofs.lemmas.List.{length-drop, drop-drop, drop-append-le}
use Rattle.std.proofs.lemmas.List.Elements.{All-nil, All-cons}
use Rattle.std.proofs.lemmas.Bool.{ltb-false}
use Rattle.std.proofs.Math.ListN.{length-append}
use Rattle.wire_num.specs.Numbers.{record_length}
use Rattle.needle_record.specs.declared.Record.{Record}
use Rattle.needle_record.specs.declared.NeedleFault.{NeedleFault}
use Rattle.needle_record.specs.Spelling.{length_of_record, record_size}
use Rattle.needle_record.specs.Reading.{needle_at}
use Rattle.needle_record.specs.Records.{Placed, records, records_from, records_on, records_within, StandsIn}
use Rattle.world_model.specs.Sizes.{max_dat}
use Rattle.needle_record.specs.Laws.Fronts.{found_whole, needle_at-append}
use Rattle.needle_record.specs.Laws.Appended.{found_length}
use Rattle.needle_record.specs.Laws.Ends.{found_record_length}

pub record_length-in_eights : (size : ℕ) → record_length size % 8 ≡ 0
record_length-in_eights size = omega arith

pub record_length-least : (size : ℕ) → 32 ≤ record_length size
record_length-least size = omega arith

-- a record that is found at a place stands there
stands : (dat : List ℕ) (place : ℕ) (found : Record × ℕ) → 8 ≤ place → place ≤ length dat → place % 8 ≡ 0 → needle_at (drop place dat) ≡ Ok found → place + found.1 ≤ max_dat
    → StandsIn dat (place, found.0) × (place + found.1 ≤ length dat) × ((place + found.1) % 8 ≡ 0)
stands dat place found low high eight e fits =
    let same : found.1 ≡ length_of_record found.0 = found_record_length (drop place dat) found e in
    let long : place + found.1 ≤ length dat = omega (arith, (found_whole (drop place dat) found e).has_end, found_length (drop place dat) found e, length-drop place dat) in
    let eights : length_of_record found.0 % 8 ≡ 0 = record_length-in_eights (record_size found.0) in (
      record {
        reads = e ∙ ap (λ n. Ok (found.0, n)) same;
        behind_super = low;
        within = subst (λ n. place + n ≤ length dat) same long;
        most = subst (λ n. place + n ≤ max_dat) same fits;
        in_eights = eight;
      },
      long,
      subst (λ n. (place + n) % 8 ≡ 0) (sym same) (both place (length_of_record found.0) eight eights),
    )
  where
    both : (a b : ℕ) → a % 8 ≡ 0 → b % 8 ≡ 0 → (a + b) % 8 ≡ 0
    both a b h k = omega arith

all_within : (dat : List ℕ) (n place : ℕ) → 8 ≤ place → place ≤ length dat → place % 8 ≡ 0 → All (StandsIn dat) (records_within n place (drop place dat))
unfolding records_within
all_within dat zero place low high eight = All-nil (StandsIn dat)
all_within dat (suc n) place low high eight = by_read (all_within dat n) (needle_at (drop place dat)) refl
  where
    by_read : ((next : ℕ) → 8 ≤ next → next ≤ length dat → next % 8 ≡ 0 → All (StandsIn dat) (records_within n next (drop next dat))) → (r : Result (Record × ℕ) NeedleFault) → needle_at (drop place dat) ≡ r
        → All (StandsIn dat) (records_on (records_within n) place (drop place dat) r)
    by_read ih (Err why) e = All-nil (StandsIn dat)
    by_read ih (Ok found) e = by_fit (nat_lt max_dat (place + found.1)) refl
      where
        by_fit : (b : Bool) → nat_lt max_dat (place + found.1) ≡ b → All (StandsIn dat) (cond b [] ((place, found.0) ∷ records_within n (place + found.1) (drop found.1 (drop place dat))))
        by_fit true p = All-nil (StandsIn dat)
        by_fit false p =
            let one = stands dat place found low high eight e (ltb-false _ _ p) in
            All-cons (StandsIn dat) (place, found.0) (records_within n (place + found.1) (drop found.1 (drop place dat))) one.0
            (subst (λ l. All (StandsIn dat) (records_within n (place + found.1) l)) (sym (drop-drop found.1 place dat)) (ih (place + found.1) (omega arith) one.1 one.2))

pub all_stand : (dat : List ℕ) → 8 ≤ length dat → All (StandsIn dat) (records dat)
unfolding records records_from
all_stand dat long = all_within dat (length (drop 8 dat)) 8 (omega arith) long refl

-- what stands in a data file still does, whatever follows
pub stands_append : (dat more : List ℕ) (p : Placed) → StandsIn dat p → StandsIn (dat ++ more) p
stands_append dat more p s = record {
  reads = ap needle_at (drop-append-le p.0 dat more (omega (arith, s.within))) ∙ needle_at-append (drop p.0 dat) more (p.1, length_of_record p.1) s.reads;
  behind_super = s.behind_super;
  within = omega (arith, s.within, length-append dat more);
  most = s.most;
  in_eights = s.in_eights;
}
