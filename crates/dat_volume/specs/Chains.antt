-- The entries of a data file's records follow each other, and have their records.
use Rattle.std.proofs.Common.{◌≡◌, ℕ, zero, suc, ◌+◌, ◌*◌, ◌%◌, ◌<◌, ◌≤◌, List, [], ◌∷◌, length, map, drop, Bool, true, false, cond, pos, negsuc, Result, Ok, Err, refl, sym, ◌∙◌, ap, arith}
use Rattle.std.specs.Prelude.{◌==◌, ◌&&◌, nat_lt, nat_le}
use Rattle.std.proofs.lemmas.List.{drop-drop}
use Rattle.std.proofs.lemmas.Bool.{eqb-true, eqb-false, eq-eqb, lt-ltb, le-leb, leb-true, ltb-true, ltb-false, false≢true}
use Rattle.volume_forms.specs.declared.Entry.{Entry}
use Rattle.volume_forms.specs.Kept.{entry_eq, entry_end, kept_count}
use Rattle.volume_forms.specs.Laws.Kept.{same_entry, kept_count-none}
use Rattle.needle_record.specs.declared.Record.{Record}
use Rattle.needle_record.specs.declared.NeedleFault.{NeedleFault}
use Rattle.needle_record.specs.Spelling.{record_size}
use Rattle.needle_record.specs.Reading.{needle_at}
use Rattle.needle_record.specs.Records.{records_from, entry_of}
use Rattle.world_model.specs.Sizes.{max_dat}
use Rattle.needle_record.specs.Laws.Records.{records_from-found, records_from-fault, records_from-past, entry_of-place, entry_of-end}
use Rattle.needle_record.specs.Laws.Spelling.{found-length, length_of_record-in_eights}
use Rattle.dat_volume.specs.Opening.{is_size, chained, is_entry_of, has_record, has_record_of}

pub both_hold : (a b : Bool) → (a && b) ≡ true → (a ≡ true) × (b ≡ true)
both_hold true b e = (refl, e)
both_hold false b e = absurd cc

-- ---- one entry

-- an entry at this place follows what ends there
pub chained-next : (place : ℕ) (e : Entry) (es : List Entry) → 8 * e.offset ≡ place → is_size e.size ≡ true → chained place (e ∷ es) ≡ suc (chained (entry_end e) es)
unfolding chained
chained-next place e es at is =
    ap (λ b. cond (b && is_size e.size) (suc (chained (entry_end e) es)) 0) (eq-eqb (8 * e.offset) place at)
    ∙ ap (λ b. cond b (suc (chained (entry_end e) es)) 0) is

-- and only such an entry does
pub chained-first : (place : ℕ) (e : Entry) (es : List Entry) → 0 < chained place (e ∷ es)
    → (8 * e.offset ≡ place) × (is_size e.size ≡ true) × (chained place (e ∷ es) ≡ suc (chained (entry_end e) es))
unfolding chained
chained-first place e es some = by_test ((8 * e.offset == place) && is_size e.size) refl some
  where
    by_test : (b : Bool) → ((8 * e.offset == place) && is_size e.size) ≡ b → 0 < cond b (suc (chained (entry_end e) es)) 0
        → (8 * e.offset ≡ place) × (is_size e.size ≡ true) × (cond b (suc (chained (entry_end e) es)) 0 ≡ suc (chained (entry_end e) es))
    by_test false p h = absurd (omega arith)
    by_test true p h = let parts = both_hold (8 * e.offset == place) (is_size e.size) p in (eqb-true (8 * e.offset) place parts.0, parts.1, refl)

pub chained-le : (place : ℕ) (es : List Entry) → chained place es ≤ length es
unfolding chained
chained-le place [] = omega arith
chained-le place (e ∷ es) = by_test ((8 * e.offset == place) && is_size e.size) (chained-le (entry_end e) es)
  where
    by_test : (b : Bool) → chained (entry_end e) es ≤ length es → cond b (suc (chained (entry_end e) es)) 0 ≤ suc (length es)
    by_test false h = omega arith
    by_test true h = omega arith

-- the size in the entry of a record is one of a deletion or of a content
pub is_size-entry : (n : ℕ) → is_size (cond (n == 0) (negsuc 0) (pos n)) ≡ true
is_size-entry n = by_test (n == 0) refl
  where
    by_test : (b : Bool) → (n == 0) ≡ b → is_size (cond b (negsuc 0) (pos n)) ≡ true
    by_test true e = refl
    by_test false e = lt-ltb 0 n (positive (eqb-false n 0 e))
      where
        positive : (n ≡ 0 → ⊥) → 0 < n
        positive h = omega arith

eights : (a b : ℕ) → a % 8 ≡ 0 → b % 8 ≡ 0 → (a + b) % 8 ≡ 0
eights a b h k = omega arith

-- ---- the entries from one place on

abbrev kept_from : List ℕ → ℕ → List Entry → ℕ
kept_from dat place es = kept_count (map entry_of (records_from place (drop place dat))) es

-- The entries of the records from this place on follow each other and have their records. The entry behind them is no
-- record's, where it is the last one, follows and has its record: then it would be one of the records' entries.
pub record MeetsRecords (dat : List ℕ) (place : ℕ) (es : List Entry) : Type 0 where
  pub chain : kept_count (map entry_of (records_from place (drop place dat))) es ≤ chained place es
  pub have : (j : ℕ) → j < kept_count (map entry_of (records_from place (drop place dat))) es → has_record_of dat es j ≡ true
  pub last : (j : ℕ) → length es ≡ suc j → chained place es ≡ length es → j ≤ kept_count (map entry_of (records_from place (drop place dat))) es → has_record_of dat es j ≡ true
      → kept_count (map entry_of (records_from place (drop place dat))) es ≡ length es

module _ (dat : List ℕ) (place : ℕ) where
  -- none of the entries is a record's
  meets_none : (e : Entry) (es : List Entry) → kept_from dat place (e ∷ es) ≡ 0 → (8 * e.offset ≡ place → has_record dat e ≡ true → ⊥) → MeetsRecords dat place (e ∷ es)
  meets_none e es none alien = record {
    chain = omega (arith, none);
    have = λ j h. absurd (omega (arith, none, h));
    last = λ j long whole few has. absurd (alone j long whole (omega (arith, none, few)) has);
  }
    where
      alone : (j : ℕ) → suc (length es) ≡ suc j → chained place (e ∷ es) ≡ suc (length es) → j ≤ 0 → has_record_of dat (e ∷ es) j ≡ true → ⊥
      alone zero long whole few has = alien (chained-first place e es (omega (arith, whole))).0 has
      alone (suc j) long whole few has = absurd (omega arith)

  -- the first is the one of the record there
  module _ (eight : place % 8 ≡ 0) (found : Record × ℕ) (read : needle_at (drop place dat) ≡ Ok found) (fits : place + found.1 ≤ max_dat) (e : Entry) (es : List Entry) (same : entry_eq (entry_of (place, found.0)) e ≡ true) where
    is_its : entry_of (place, found.0) ≡ e
    is_its = same_entry (entry_of (place, found.0)) e same

    its_place : 8 * e.offset ≡ place
    its_place = ap (λ (x : Entry). 8 * x.offset) (sym is_its) ∙ entry_of-place (place, found.0) eight

    its_end : entry_end e ≡ place + found.1
    its_end = ap entry_end (sym is_its) ∙ entry_of-end (place, found.0) eight ∙ ap (λ n. place + n) (sym (found-length (drop place dat) found read))

    its_chain : chained place (e ∷ es) ≡ suc (chained (place + found.1) es)
    its_chain =
        chained-next place e es its_place (ap (λ (x : Entry). is_size x.size) (sym is_its) ∙ is_size-entry (record_size found.0))
        ∙ ap (λ n. suc (chained n es)) its_end

    its_record : has_record dat e ≡ true
    its_record =
        ap (λ n. is_entry_of e (needle_at (drop n dat))) its_place ∙ ap (is_entry_of e) read
        ∙ ap (λ n. entry_eq (entry_of (n, found.0)) e && nat_le (entry_end e) max_dat) its_place
        ∙ ap (λ b. b && nat_le (entry_end e) max_dat) same ∙ le-leb (entry_end e) max_dat (omega (arith, its_end, fits))

    its_count : kept_from dat place (e ∷ es) ≡ suc (kept_from dat (place + found.1) es)
    unfolding kept_count
    its_count =
        ap (λ rs. kept_count (map entry_of rs) (e ∷ es)) (records_from-found place (drop place dat) found read fits)
        ∙ ap (λ b. cond b (suc (kept_count (map entry_of (records_from (place + found.1) (drop found.1 (drop place dat)))) es)) 0) same
        ∙ ap (λ rest. suc (kept_count (map entry_of (records_from (place + found.1) rest)) es)) (drop-drop found.1 place dat)

    meets_more : MeetsRecords dat (place + found.1) es → MeetsRecords dat place (e ∷ es)
    meets_more more = record { chain = omega (arith, its_count, its_chain, more.chain); have = have_more; last = last_more }
      where
        have_more : (j : ℕ) → j < kept_from dat place (e ∷ es) → has_record_of dat (e ∷ es) j ≡ true
        have_more zero h = its_record
        have_more (suc j) h = more.have j (omega (arith, its_count, h))

        no_more : length es ≡ 0 → chained (place + found.1) es ≡ length es → kept_from dat place (e ∷ es) ≡ suc (length es)
        no_more none whole = omega (arith, its_count, more.chain, none, whole)

        last_more : (j : ℕ) → suc (length es) ≡ suc j → chained place (e ∷ es) ≡ suc (length es) → j ≤ kept_from dat place (e ∷ es) → has_record_of dat (e ∷ es) j ≡ true
            → kept_from dat place (e ∷ es) ≡ suc (length es)
        last_more zero long whole few has = no_more (omega arith) (omega (arith, its_chain, whole))
        last_more (suc j) long whole few has = its_count ∙ ap suc (more.last j (omega arith) (omega (arith, its_chain, whole)) (omega (arith, its_count, few)) has)

  module _ (eight : place % 8 ≡ 0) (e : Entry) (es : List Entry) where
    none_kept : records_from place (drop place dat) ≡ [] → kept_from dat place (e ∷ es) ≡ 0
    unfolding kept_count
    none_kept none = ap (λ rs. kept_count (map entry_of rs) (e ∷ es)) none

    alien_kept : (found : Record × ℕ) → needle_at (drop place dat) ≡ Ok found → place + found.1 ≤ max_dat → entry_eq (entry_of (place, found.0)) e ≡ false → kept_from dat place (e ∷ es) ≡ 0
    unfolding kept_count
    alien_kept found read fits other =
        ap (λ rs. kept_count (map entry_of rs) (e ∷ es)) (records_from-found place (drop place dat) found read fits)
        ∙ ap (λ b. cond b (suc (kept_count (map entry_of (records_from (place + found.1) (drop found.1 (drop place dat)))) es)) 0) other

    -- an entry that has its record is that of the record that is read there
    its_own : (found : Record × ℕ) → needle_at (drop place dat) ≡ Ok found → 8 * e.offset ≡ place → has_record dat e ≡ true → (entry_eq (entry_of (place, found.0)) e ≡ true) × (place + found.1 ≤ max_dat)
    its_own found read at has =
        let tests = both_hold (entry_eq (entry_of (place, found.0)) e) (nat_le (entry_end e) max_dat)
        (sym (ap (λ n. is_entry_of e (needle_at (drop n dat))) at ∙ ap (is_entry_of e) read ∙ ap (λ n. entry_eq (entry_of (n, found.0)) e && nat_le (entry_end e) max_dat) at) ∙ has) in (
          tests.0,
          omega (arith, leb-true (entry_end e) max_dat tests.1, ap entry_end (same_entry (entry_of (place, found.0)) e tests.0), entry_of-end (place, found.0) eight, found-length (drop place dat) found read),
        )

    by_read : ((next : ℕ) → next % 8 ≡ 0 → MeetsRecords dat next es) → (r : Result (Record × ℕ) NeedleFault) → needle_at (drop place dat) ≡ r → MeetsRecords dat place (e ∷ es)
    by_read more (Err why) read =
        meets_none e es (none_kept (records_from-fault place (drop place dat) why read))
        (λ at has. false≢true (sym (ap (λ n. is_entry_of e (needle_at (drop n dat))) at ∙ ap (is_entry_of e) read) ∙ has))
    by_read more (Ok found) read = by_fit (nat_lt max_dat (place + found.1)) refl
      where
        by_same : place + found.1 ≤ max_dat → (b : Bool) → entry_eq (entry_of (place, found.0)) e ≡ b → MeetsRecords dat place (e ∷ es)
        by_same fits true same =
            meets_more eight found read fits e es same
            (more (place + found.1) (eights place found.1 eight (ap (λ n. n % 8) (found-length (drop place dat) found read) ∙ length_of_record-in_eights found.0)))
        by_same fits false same =
            meets_none e es (alien_kept found read fits same) (λ at has. false≢true (sym same ∙ (its_own found read at has).0))

        by_fit : (b : Bool) → nat_lt max_dat (place + found.1) ≡ b → MeetsRecords dat place (e ∷ es)
        by_fit true past =
            meets_none e es (none_kept (records_from-past place (drop place dat) found read (ltb-true _ _ past)))
            (λ at has. absurd (omega (arith, ltb-true max_dat (place + found.1) past, (its_own found read at has).1)))
        by_fit false past = by_same (ltb-false _ _ past) (entry_eq (entry_of (place, found.0)) e) refl

pub meets_records : (dat : List ℕ) (place : ℕ) (es : List Entry) → place % 8 ≡ 0 → MeetsRecords dat place es
meets_records dat place [] eight =
    let none = kept_count-none (map entry_of (records_from place (drop place dat))) in
    record { chain = omega (arith, none); have = λ j h. absurd (omega (arith, none, h)); last = λ j long whole few has. none }
meets_records dat place (e ∷ es) eight = by_read dat place eight e es (λ next h. meets_records dat next es h) (needle_at (drop place dat)) refl
