-- Laws of an opening's tests: of files whose index follows the records they keep what those keep, what they keep is
-- there, and cut to it the files pass again.
use Rattle.std.proofs.Common.{◌≡◌, ◌⊎◌, inl, inr, ⊎_elim, ℕ, zero, suc, ◌+◌, ◌-◌, ◌*◌, ◌<◌, ◌≤◌, List, [], ◌∷◌, length, map, take, drop, Bool, true, false, cond, pos, negsuc, Option, Some, None, Result, Ok, Err, refl, sym, ◌∙◌, ap, subst, arith}
use Rattle.std.specs.Prelude.{◌==◌, ◌&&◌, ◌||◌, nat_lt, nat_le, slice_get}
use Rattle.std.specs.Option.{option_map_or}
use Rattle.std.specs.FinMap.{empty}
use Rattle.std.proofs.lemmas.List.{length-drop, length-take-le, take-map, drop-take}
use Rattle.std.proofs.lemmas.List.Elements.{All-take}
use Rattle.std.proofs.lemmas.Bool.{eqb-true, eq-eqb, ne_eqb, lt-ltb, le-ltb, ltb-true, ltb-false, leb-true, cases_lt, or_cases, or_left, or_right, false_from_ne_true, false≢true}
use Rattle.world_model.specs.declared.types.Content.{Content}
use Rattle.world_model.specs.Sizes.{size_of_content, max_dat}
use Rattle.volume_forms.specs.declared.Entry.{Entry}
use Rattle.volume_forms.specs.Forms.{entries, has_super}
use Rattle.volume_forms.specs.Kept.{entry_eq, entry_end, kept_count, kept_length}
use Rattle.volume_forms.specs.Laws.Entry.{length-entries}
use Rattle.volume_forms.specs.Laws.Kept.{same_entry, kept_count-le_index}
use Rattle.needle_record.specs.declared.Record.{Record}
use Rattle.needle_record.specs.declared.NeedleFault.{NeedleFault}
use Rattle.needle_record.specs.Laws.Spelling.{found-length, found-within, needle_at-take, length_of_record-least}
use Rattle.needle_record.specs.Reading.{needle_at}
use Rattle.needle_record.specs.Records.{Placed, Index, records, records_from, end_of, entry_of, index_of, index_from, index_after_content, StandsIn}
use Rattle.needle_record.specs.Laws.Records.{entry_of-end, kept_length-entries, records-stand}
use Rattle.image_meaning.specs.Plain.{kept, kept_records, FollowsRecords}
use Rattle.image_meaning.specs.Laws.Plain.{kept_count-front, entries-take, has_super-long, has_super-take}
use Rattle.dat_volume.specs.Opening.{is_entry_of, has_record, has_record_of, chained, accepted, has_last_two, counted, with_super, tested, end_by, index_by, index_by_from, index_after_entry, KeepsLengths}
use Rattle.dat_volume.specs.Chains.{both_hold, chained-le, chained-first, chained-next, MeetsRecords, meets_records}

-- ---- how many are accepted

-- all, where the last follows and has its record
pub accepted-all : (dat : List ℕ) (es : List Entry) → chained 8 es ≡ length es → has_record_of dat es (length es - 1) ≡ true → accepted dat es ≡ length es
accepted-all dat es whole has = λ i. cond (eq-eqb (chained 8 es) (length es) whole i && has i) (length es) (length es - 1)

-- either way
pub accepted-cases : (dat : List ℕ) (es : List Entry)
    → ((accepted dat es ≡ length es) × (chained 8 es ≡ length es) × (has_record_of dat es (length es - 1) ≡ true))
    ⊎ ((accepted dat es ≡ length es - 1) × ((chained 8 es ≡ length es) → has_record_of dat es (length es - 1) ≡ true → ⊥))
accepted-cases dat es = by_test ((chained 8 es == length es) && has_record_of dat es (length es - 1)) refl
  where
    by_test : (b : Bool) → ((chained 8 es == length es) && has_record_of dat es (length es - 1)) ≡ b
        → ((cond b (length es) (length es - 1) ≡ length es) × (chained 8 es ≡ length es) × (has_record_of dat es (length es - 1) ≡ true))
        ⊎ ((cond b (length es) (length es - 1) ≡ length es - 1) × ((chained 8 es ≡ length es) → has_record_of dat es (length es - 1) ≡ true → ⊥))
    by_test true e = let parts = both_hold (chained 8 es == length es) (has_record_of dat es (length es - 1)) e in inl (refl, eqb-true (chained 8 es) (length es) parts.0, parts.1)
    by_test false e = inr (refl, λ whole has. false≢true (sym e ∙ λ i. eq-eqb (chained 8 es) (length es) whole i && has i))

-- ---- the last two that are kept

few_or : (n m : ℕ) (b : Bool) → (m ≤ n → b ≡ true) → (nat_lt n m || b) ≡ true
few_or n m b has = ⊎_elim (λ few. or_left (nat_lt n m) b (lt-ltb n m few)) (λ many. or_right (nat_lt n m) b (has many)) (cases_lt n m)

many_and : (n m : ℕ) (b : Bool) → (nat_lt n m || b) ≡ true → m ≤ n → b ≡ true
many_and n m b holds many = by_case (or_cases _ _ holds)
  where
    by_case : (nat_lt n m ≡ true) ⊎ (b ≡ true) → b ≡ true
    by_case (inl few) = absurd (omega (arith, ltb-true n m few, many))
    by_case (inr has) = has

pub last_two-have : (dat : List ℕ) (es : List Entry) (n : ℕ) → (1 ≤ n → has_record_of dat es (n - 1) ≡ true) → (2 ≤ n → has_record_of dat es (n - 2) ≡ true) → has_last_two dat es n ≡ true
last_two-have dat es n last before = λ i. few_or n 1 (has_record_of dat es (n - 1)) last i && few_or n 2 (has_record_of dat es (n - 2)) before i

pub last_two-had : (dat : List ℕ) (es : List Entry) (n : ℕ) → has_last_two dat es n ≡ true → (1 ≤ n → has_record_of dat es (n - 1) ≡ true) × (2 ≤ n → has_record_of dat es (n - 2) ≡ true)
last_two-had dat es n have =
    let parts = both_hold (nat_lt n 1 || has_record_of dat es (n - 1)) (nat_lt n 2 || has_record_of dat es (n - 2)) have in
    (many_and n 1 (has_record_of dat es (n - 1)) parts.0, many_and n 2 (has_record_of dat es (n - 2)) parts.1)

-- All entries but perhaps the last follow each other, and the last but one has its record.
pub record PassesEntries (dat : List ℕ) (es : List Entry) : Type 0 where
  pub chain : length es ≤ chained 8 es + 1
  pub has : 2 ≤ length es → has_record_of dat es (length es - 2) ≡ true

-- the last but two has its record, where the last isn't kept
abbrev pub HasEarlier : List ℕ → List Entry → Type 0
HasEarlier dat es = accepted dat es < length es → 3 ≤ length es → has_record_of dat es (length es - 3) ≡ true

module _ (dat : List ℕ) (es : List Entry) where
  at_number : (m n : ℕ) → m ≡ n → has_record_of dat es n ≡ true → has_record_of dat es m ≡ true
  at_number m n same has = ap (has_record_of dat es) same ∙ has

  -- then so have the last two that are kept
  passes-last_two : PassesEntries dat es → HasEarlier dat es → has_last_two dat es (accepted dat es) ≡ true
  passes-last_two passes earlier =
      ⊎_elim
      (λ all. last_two-have dat es (accepted dat es) (last all.0 all.2) (before all.0))
      (λ fewer. last_two-have dat es (accepted dat es) (last_but_one fewer.0) (last_but_two fewer.0))
      (accepted-cases dat es)
    where
      last : accepted dat es ≡ length es → has_record_of dat es (length es - 1) ≡ true → 1 ≤ accepted dat es → has_record_of dat es (accepted dat es - 1) ≡ true
      last all has some = at_number (accepted dat es - 1) (length es - 1) (omega (arith, all)) has

      before : accepted dat es ≡ length es → 2 ≤ accepted dat es → has_record_of dat es (accepted dat es - 2) ≡ true
      before all some = at_number (accepted dat es - 2) (length es - 2) (omega (arith, all)) (passes.has (omega (arith, all, some)))

      last_but_one : accepted dat es ≡ length es - 1 → 1 ≤ accepted dat es → has_record_of dat es (accepted dat es - 1) ≡ true
      last_but_one fewer some = at_number (accepted dat es - 1) (length es - 2) (omega (arith, fewer)) (passes.has (omega (arith, fewer, some)))

      last_but_two : accepted dat es ≡ length es - 1 → 2 ≤ accepted dat es → has_record_of dat es (accepted dat es - 2) ≡ true
      last_but_two fewer some = at_number (accepted dat es - 2) (length es - 3) (omega (arith, fewer)) (earlier (omega (arith, fewer, some)) (omega (arith, fewer, some)))

  -- and only then
  module _ (have : has_last_two dat es (accepted dat es) ≡ true) where
    last_two-before : 2 ≤ length es → has_record_of dat es (length es - 2) ≡ true
    last_two-before long = ⊎_elim (λ all. whole all.0) (λ fewer. less fewer.0) (accepted-cases dat es)
      where
        whole : accepted dat es ≡ length es → has_record_of dat es (length es - 2) ≡ true
        whole all = at_number (length es - 2) (accepted dat es - 2) (omega (arith, all)) ((last_two-had dat es (accepted dat es) have).1 (omega (arith, all, long)))

        less : accepted dat es ≡ length es - 1 → has_record_of dat es (length es - 2) ≡ true
        less fewer = at_number (length es - 2) (accepted dat es - 1) (omega (arith, fewer)) ((last_two-had dat es (accepted dat es) have).0 (omega (arith, fewer, long)))

    last_two-earlier : HasEarlier dat es
    last_two-earlier short long = ⊎_elim (λ all. absurd (omega (arith, all.0, short))) (λ fewer. less fewer.0) (accepted-cases dat es)
      where
        less : accepted dat es ≡ length es - 1 → has_record_of dat es (length es - 3) ≡ true
        less fewer = at_number (length es - 3) (accepted dat es - 2) (omega (arith, fewer)) ((last_two-had dat es (accepted dat es) have).1 (omega (arith, fewer, long)))

-- ---- the tests, one by one

-- the answer by what fails: the chain, or one of the last two records that are kept
abbrev answer : Bool → Bool → ℕ → Result ℕ ℕ
answer gap have k = cond gap (Err 1) (cond have (Ok k) (Err 1))

no_rule : (gap have : Bool) (k n : ℕ) → answer gap have k ≡ Ok n → (gap ≡ false) × (have ≡ true) × (n ≡ k)
no_rule true have k n e = absurd cc
no_rule false false k n e = absurd cc
no_rule false true k n e = (refl, refl, cc)

only_first : (gap have : Bool) (k rule : ℕ) → answer gap have k ≡ Err rule → rule ≡ 1
only_first true have k rule e = cc
only_first false false k rule e = cc
only_first false true k rule e = absurd cc

module _ (dat idx : List ℕ) where
  abbrev has_gap : Bool
  has_gap = nat_lt (chained 8 (entries idx) + 1) (length (entries idx))

  abbrev have_both : Bool
  have_both = has_last_two dat (entries idx) (accepted dat (entries idx))

  counted_is : counted dat idx ≡ answer has_gap have_both (accepted dat (entries idx))
  unfolding counted
  counted_is = refl

  -- a gap before the last entry
  pub counted-gap : chained 8 (entries idx) + 1 < length (entries idx) → counted dat idx ≡ Err 1
  counted-gap gap = counted_is ∙ ap (λ b. answer b have_both (accepted dat (entries idx))) (lt-ltb (chained 8 (entries idx) + 1) (length (entries idx)) gap)

  -- one of the last two that are kept without its record
  counted_without : (have_both ≡ true → ⊥) → counted dat idx ≡ Err 1
  counted_without without = counted_is ∙ ap (λ b. answer has_gap b (accepted dat (entries idx))) (false_from_ne_true have_both without) ∙ either has_gap
    where
      either : (b : Bool) → answer b false (accepted dat (entries idx)) ≡ Err 1
      either true = refl
      either false = refl

  -- the last but one without its record
  pub counted-alien : 2 ≤ length (entries idx) → has_record_of dat (entries idx) (length (entries idx) - 2) ≡ false → counted dat idx ≡ Err 1
  counted-alien long alien = counted_without (λ have. false≢true (sym alien ∙ last_two-before dat (entries idx) have long))

  -- the last but two, where the last isn't kept
  pub counted-earlier : accepted dat (entries idx) < length (entries idx) → 3 ≤ length (entries idx) → has_record_of dat (entries idx) (length (entries idx) - 3) ≡ false → counted dat idx ≡ Err 1
  counted-earlier short long alien = counted_without (λ have. false≢true (sym alien ∙ last_two-earlier dat (entries idx) have short long))

  pub counted-passed : PassesEntries dat (entries idx) → HasEarlier dat (entries idx) → counted dat idx ≡ Ok (accepted dat (entries idx))
  counted-passed passes earlier =
      counted_is ∙ λ i. answer (le-ltb (chained 8 (entries idx) + 1) (length (entries idx)) passes.chain i) (passes-last_two dat (entries idx) passes earlier i) (accepted dat (entries idx))

  -- ---- the super block

  pub tested-ok : (k : ℕ) → counted dat idx ≡ Ok k → has_super dat ≡ true → tested dat idx ≡ Ok k
  unfolding tested
  tested-ok k e super = λ i. with_super (super i) (e i)

  pub tested-bare : (k : ℕ) → counted dat idx ≡ Ok k → has_super dat ≡ false → tested dat idx ≡ Err 3
  unfolding tested
  tested-bare k e bare = λ i. with_super (bare i) (e i)

  pub tested-rule : (rule : ℕ) → counted dat idx ≡ Err rule → tested dat idx ≡ Err rule
  unfolding tested
  tested-rule rule e = ap (with_super (has_super dat)) e

  -- both tests were passed
  pub tested-parts : (k : ℕ) → tested dat idx ≡ Ok k → (counted dat idx ≡ Ok k) × (has_super dat ≡ true)
  unfolding tested
  tested-parts k e = parts (has_super dat) (counted dat idx) e
    where
      parts : (b : Bool) (r : Result ℕ ℕ) → with_super b r ≡ Ok k → (r ≡ Ok k) × (b ≡ true)
      parts b (Err rule) e = absurd cc
      parts true (Ok n) e = (e, refl)
      parts false (Ok n) e = absurd cc

-- files of which so many entries are kept
pub record Passed (dat idx : List ℕ) (k : ℕ) : Type 0 where
  pub chain : length (entries idx) ≤ chained 8 (entries idx) + 1
  pub have : has_last_two dat (entries idx) k ≡ true
  pub count : k ≡ accepted dat (entries idx)

pub passed : (dat idx : List ℕ) (k : ℕ) → counted dat idx ≡ Ok k → Passed dat idx k
passed dat idx k e =
    let found = no_rule (has_gap dat idx) (have_both dat idx) (accepted dat (entries idx)) k (sym (counted_is dat idx) ∙ e) in
    record {
      chain = ltb-false (chained 8 (entries idx) + 1) (length (entries idx)) found.0;
      have = ap (has_last_two dat (entries idx)) found.2 ∙ found.1;
      count = found.2;
    }

-- ---- files whose index follows their records

module _ (dat idx : List ℕ) (follows : FollowsRecords dat idx) where
  meets : MeetsRecords dat 8 (entries idx)
  meets = meets_records dat 8 (entries idx) (omega arith)

  kept_is : kept dat idx ≡ kept_count (map entry_of (records_from 8 (drop 8 dat))) (entries idx)
  unfolding kept records
  kept_is = refl

  kept_most : kept dat idx ≤ length (entries idx)
  kept_most = omega (arith, kept_is, kept_count-le_index (map entry_of (records_from 8 (drop 8 dat))) (entries idx))

  -- they pass the tests of the entries
  pub follows-passes : PassesEntries dat (entries idx)
  follows-passes = record {
    chain = omega (arith, follows, kept_is, meets.chain);
    has = λ long. meets.have (length (entries idx) - 2) (omega (arith, follows, kept_is, long));
  }

  pub follows-earlier : HasEarlier dat (entries idx)
  follows-earlier short long = meets.have (length (entries idx) - 3) (omega (arith, follows, kept_is, long))

  pub follows-accepted : accepted dat (entries idx) ≡ kept dat idx
  follows-accepted = by_length (length (entries idx)) refl
    where
      by_length : (n : ℕ) → length (entries idx) ≡ n → accepted dat (entries idx) ≡ kept dat idx
      by_length zero none = ⊎_elim (λ all. omega (arith, all.0, kept_most, none)) (λ fewer. omega (arith, fewer.0, kept_most, none)) (accepted-cases dat (entries idx))
      by_length (suc j) long =
          ⊎_elim
          (λ all. all.0 ∙ sym (kept_is ∙ meets.last j long all.1 (omega (arith, follows, kept_is, long)) (at_last all.2)))
          (λ fewer. omega (arith, fewer.0, but_one fewer.1))
          (accepted-cases dat (entries idx))
        where
          last_is : length (entries idx) - 1 ≡ j
          last_is = omega (arith, long)

          at_last : has_record_of dat (entries idx) (length (entries idx) - 1) ≡ true → has_record_of dat (entries idx) j ≡ true
          at_last has = ap (has_record_of dat (entries idx)) (sym last_is) ∙ has

          but_one : (chained 8 (entries idx) ≡ length (entries idx) → has_record_of dat (entries idx) (length (entries idx) - 1) ≡ true → ⊥) → kept dat idx ≡ length (entries idx) - 1
          but_one none = ⊎_elim
              (λ fewer. omega (arith, fewer, follows))
              (λ all. absurd (none (omega (arith, all, kept_is, meets.chain, chained-le 8 (entries idx))) (meets.have (length (entries idx) - 1) (omega (arith, all, kept_is, long)))))
              (cases_lt (kept dat idx) (length (entries idx)))

  -- so what is kept is what the index has of the records
  pub follows-counted : counted dat idx ≡ Ok (kept dat idx)
  follows-counted = counted-passed dat idx follows-passes follows-earlier ∙ ap (λ n. Ok n) follows-accepted

  pub follows-tested : has_super dat ≡ true → tested dat idx ≡ Ok (kept dat idx)
  follows-tested super = tested-ok dat idx (kept dat idx) follows-counted super

  follows-front : take (kept dat idx) (entries idx) ≡ map entry_of (kept_records dat idx)
  unfolding kept kept_records
  follows-front = kept_count-front (map entry_of (records dat)) (entries idx) ∙ take-map entry_of (kept dat idx) (records dat)

  pub follows-end : has_super dat ≡ true → end_by idx (kept dat idx) ≡ end_of (kept_records dat idx)
  unfolding kept_records
  follows-end super =
      ap kept_length follows-front
      ∙ kept_length-entries dat (kept_records dat idx) (All-take (StandsIn dat) (kept dat idx) (records dat) (records-stand dat (has_super-long dat super)))

-- ---- entries with their records

-- the entry is the one of the record that is read at its place, which ends within the data file
pub record HasFound (dat : List ℕ) (e : Entry) : Type 0 where
  pub found : Record × ℕ
  pub reads : needle_at (drop (8 * e.offset) dat) ≡ Ok found
  pub its : entry_of (8 * e.offset, found.0) ≡ e
  pub ends : entry_end e ≡ 8 * e.offset + found.1
  pub most : entry_end e ≤ max_dat
  pub within : entry_end e ≤ length dat
  pub some : 32 ≤ found.1

pub has_found : (dat : List ℕ) (e : Entry) → has_record dat e ≡ true → HasFound dat e
has_found dat e has = by_read (needle_at (drop (8 * e.offset) dat)) refl has
  where
    by_read : (r : Result (Record × ℕ) NeedleFault) → needle_at (drop (8 * e.offset) dat) ≡ r → is_entry_of e r ≡ true → HasFound dat e
    by_read (Err why) read is = absurd (false≢true is)
    by_read (Ok found) read is =
        let tests = both_hold (entry_eq (entry_of (8 * e.offset, found.0)) e) (nat_le (entry_end e) max_dat) is in
        let its = same_entry (entry_of (8 * e.offset, found.0)) e tests.0 in
        let long = found-length (drop (8 * e.offset) dat) found read in
        let least : 32 ≤ found.1 = omega (arith, long, length_of_record-least found.0) in
        let ends : entry_end e ≡ 8 * e.offset + found.1 = sym (ap entry_end its) ∙ entry_of-end (8 * e.offset, found.0) (omega arith) ∙ ap (λ n. 8 * e.offset + n) (sym long) in
        record {
          found = found;
          reads = read;
          its = its;
          ends = ends;
          most = leb-true (entry_end e) max_dat tests.1;
          within = omega (arith, ends, found-within (drop (8 * e.offset) dat) found read, length-drop (8 * e.offset) dat, least);
          some = least;
        }

-- and so it is in a data file with no less than this record
pub has_record-take : (dat : List ℕ) (e : Entry) (n : ℕ) → has_record dat e ≡ true → entry_end e ≤ n → has_record (take n dat) e ≡ true
has_record-take dat e n has enough =
    let it = has_found dat e has in
    let rest : n ≡ 8 * e.offset + (n - 8 * e.offset) = omega (arith, it.ends, enough) in
    let cut : drop (8 * e.offset) (take n dat) ≡ take (n - 8 * e.offset) (drop (8 * e.offset) dat) = ap (λ m. drop (8 * e.offset) (take m dat)) rest ∙ drop-take (8 * e.offset) (n - 8 * e.offset) dat in
    ap (λ bytes. is_entry_of e (needle_at bytes)) cut
    ∙ ap (is_entry_of e) (needle_at-take (drop (8 * e.offset) dat) it.found (n - 8 * e.offset) it.reads (omega (arith, it.ends, enough)) ∙ sym it.reads)
    ∙ has

-- the entry with this number
pub has_entry : (dat : List ℕ) (es : List Entry) (j : ℕ) → has_record_of dat es j ≡ true → (e : Entry) × (slice_get es j ≡ Some e) × (has_record dat e ≡ true)
has_entry dat es j has = by_place (slice_get es j) refl has
  where
    by_place : (o : Option Entry) → slice_get es j ≡ o → option_map_or (has_record dat) o false ≡ true → (e : Entry) × (slice_get es j ≡ Some e) × (has_record dat e ≡ true)
    by_place None at is = absurd (false≢true is)
    by_place (Some e) at is = (e, at, is)

pub has_record_of-entry : (dat : List ℕ) (es : List Entry) (j : ℕ) (e : Entry) → slice_get es j ≡ Some e → has_record_of dat es j ≡ has_record dat e
has_record_of-entry dat es j e at = ap (λ (o : Option Entry). option_map_or (has_record dat) o false) at

-- records end where the last one does
pub kept_length-last : (es : List Entry) (j : ℕ) (e : Entry) → slice_get es j ≡ Some e → kept_length (take (suc j) es) ≡ entry_end e
kept_length-last [] j e at = absurd cc
kept_length-last (x ∷ es) zero e at = let same : x ≡ e = cc in ap entry_end same
kept_length-last (x ∷ []) (suc j) e at = absurd cc
kept_length-last (x ∷ y ∷ es) (suc j) e at = kept_length-last (y ∷ es) j e at

slice_get-front : (es : List Entry) (n j : ℕ) → j < n → slice_get (take n es) j ≡ slice_get es j
slice_get-front es zero j h = absurd (omega arith)
slice_get-front [] (suc n) j h = refl
slice_get-front (x ∷ es) (suc n) zero h = refl
slice_get-front (x ∷ es) (suc n) (suc j) h = slice_get-front es n j (omega arith)

-- each but the last ends where the next stands
chained-place : (place : ℕ) (es : List Entry) (j : ℕ) (e f : Entry) → suc j < chained place es → slice_get es j ≡ Some e → slice_get es (suc j) ≡ Some f → 8 * f.offset ≡ entry_end e
unfolding chained
chained-place place [] j e f few at next = absurd (omega arith)
chained-place place (x ∷ es) zero e f few at next =
    let first = chained-first place x es (omega arith) in
    let same : x ≡ e = cc in
    second es next (omega (arith, first.2, few)) ∙ ap entry_end same
  where
    second : (rest : List Entry) → slice_get rest zero ≡ Some f → 0 < chained (entry_end x) rest → 8 * f.offset ≡ entry_end x
    second [] at some = absurd cc
    second (y ∷ more) at some = let same : y ≡ f = cc in ap (λ (z : Entry). 8 * z.offset) (sym same) ∙ (chained-first (entry_end x) y more some).0
chained-place place (x ∷ es) (suc j) e f few at next = chained-place (entry_end x) es j e f (omega (arith, (chained-first place x es (omega arith)).2, few)) at next

chained-take : (n place : ℕ) (es : List Entry) → n ≤ chained place es → chained place (take n es) ≡ n
unfolding chained
chained-take zero place es h = refl
chained-take (suc n) place [] h = absurd (omega arith)
chained-take (suc n) place (e ∷ es) h =
    let first = chained-first place e es (omega arith) in
    chained-next place e (take n es) first.0 first.1 ∙ ap suc (chained-take n (entry_end e) es (omega (arith, first.2, h)))

-- ---- what is kept of files that pass

module _ (dat idx : List ℕ) (k : ℕ) (counts : counted dat idx ≡ Ok k) where
  all_passed : Passed dat idx k
  all_passed = passed dat idx k counts

  -- no more than there is of the index
  pub counted-length : k ≤ length (entries idx)
  counted-length = ⊎_elim (λ all. omega (arith, all_passed.count, all.0)) (λ fewer. omega (arith, all_passed.count, fewer.0)) (accepted-cases dat (entries idx))

  pub counted-idx : 16 * k ≤ length idx
  counted-idx = omega (arith, counted-length, length-entries idx)

  counted_chain : k ≤ chained 8 (entries idx)
  counted_chain = ⊎_elim (λ all. omega (arith, all_passed.count, all.0, all.1)) (λ fewer. omega (arith, all_passed.count, fewer.0, all_passed.chain)) (accepted-cases dat (entries idx))

  -- the last two of them have their records
  pub counted-last : (j : ℕ) → k ≡ suc j → has_record_of dat (entries idx) j ≡ true
  counted-last j last = at_number dat (entries idx) j (k - 1) (omega (arith, last)) ((last_two-had dat (entries idx) k all_passed.have).0 (omega (arith, last)))

  pub counted-before : (j : ℕ) → k ≡ suc (suc j) → has_record_of dat (entries idx) j ≡ true
  counted-before j last = at_number dat (entries idx) j (k - 2) (omega (arith, last)) ((last_two-had dat (entries idx) k all_passed.have).1 (omega (arith, last)))

  -- it is what is kept where the index follows the records
  pub counted-kept : FollowsRecords dat idx → k ≡ kept dat idx
  counted-kept follows = ok_same (sym counts ∙ follows-counted dat idx follows)
    where
      ok_same : {n m : ℕ} → ◌≡◌ {A = Result ℕ ℕ} (Ok n) (Ok m) → n ≡ m
      ok_same e = cc

  -- ---- cut

  counted_entries : entries (take (16 * k) idx) ≡ take k (entries idx)
  counted_entries = entries-take k idx counted-idx

  cut_length : length (take k (entries idx)) ≡ k
  cut_length = length-take-le k (entries idx) counted-length

  cut_chain : chained 8 (take k (entries idx)) ≡ k
  cut_chain = chained-take k 8 (entries idx) counted_chain

  cut_last : (j : ℕ) → k ≡ suc j → has_record_of (take (end_by idx k) dat) (take k (entries idx)) j ≡ true
  cut_last j last =
      let e = has_entry dat (entries idx) j (counted-last j last) in
      has_record_of-entry (take (end_by idx k) dat) (take k (entries idx)) j e.0 (slice_get-front (entries idx) k j (omega (arith, last)) ∙ e.1)
      ∙ has_record-take dat e.0 (end_by idx k) e.2 (omega (arith, ap (end_by idx) last ∙ kept_length-last (entries idx) j e.0 e.1))

  cut_before : (j : ℕ) → k ≡ suc (suc j) → has_record_of (take (end_by idx k) dat) (take k (entries idx)) j ≡ true
  cut_before j last =
      let e = has_entry dat (entries idx) j (counted-before j last) in
      let f = has_entry dat (entries idx) (suc j) (counted-last (suc j) last) in
      let place = chained-place 8 (entries idx) j e.0 f.0 (omega (arith, counted_chain, last)) e.1 f.1 in
      has_record_of-entry (take (end_by idx k) dat) (take k (entries idx)) j e.0 (slice_get-front (entries idx) k j (omega (arith, last)) ∙ e.1)
      ∙ has_record-take dat e.0 (end_by idx k) e.2 (omega (arith, place, (has_found dat f.0 f.2).ends, ap (end_by idx) last ∙ kept_length-last (entries idx) (suc j) f.0 f.1))

  cut_passes : PassesEntries (take (end_by idx k) dat) (take k (entries idx))
  cut_passes = record { chain = omega (arith, cut_chain, cut_length); has = λ long. has_before long }
    where
      by_count : (n : ℕ) → k ≡ n → 2 ≤ n → has_record_of (take (end_by idx k) dat) (take k (entries idx)) (k - 2) ≡ true
      by_count zero last long = absurd (omega arith)
      by_count (suc zero) last long = absurd (omega arith)
      by_count (suc (suc j)) last long = at_number (take (end_by idx k) dat) (take k (entries idx)) (k - 2) j (omega (arith, last)) (cut_before j last)

      has_before : 2 ≤ length (take k (entries idx)) → has_record_of (take (end_by idx k) dat) (take k (entries idx)) (length (take k (entries idx)) - 2) ≡ true
      has_before long = ap (λ n. has_record_of (take (end_by idx k) dat) (take k (entries idx)) (n - 2)) cut_length ∙ by_count k refl (omega (arith, cut_length, long))

  cut_accepted : accepted (take (end_by idx k) dat) (take k (entries idx)) ≡ k
  cut_accepted = by_count k refl
    where
      by_count : (n : ℕ) → k ≡ n → accepted (take (end_by idx k) dat) (take k (entries idx)) ≡ k
      by_count zero none = ⊎_elim (λ all. all.0 ∙ cut_length) (λ fewer. omega (arith, fewer.0, cut_length, none)) (accepted-cases (take (end_by idx k) dat) (take k (entries idx)))
      by_count (suc j) last =
          accepted-all (take (end_by idx k) dat) (take k (entries idx)) (cut_chain ∙ sym cut_length)
          (at_number (take (end_by idx k) dat) (take k (entries idx)) (length (take k (entries idx)) - 1) j (omega (arith, cut_length, last)) (cut_last j last))
          ∙ cut_length

  -- cut to what is kept, all of it is kept again
  pub cut-counted : counted (take (end_by idx k) dat) (take (16 * k) idx) ≡ Ok k
  cut-counted =
      counted-passed (take (end_by idx k) dat) (take (16 * k) idx) (subst (PassesEntries (take (end_by idx k) dat)) (sym counted_entries) cut_passes) (subst (HasEarlier (take (end_by idx k) dat)) (sym counted_entries) (λ short long. absurd (omega (arith, short, cut_accepted, cut_length))))
      ∙ ap (λ n. Ok n) (ap (accepted (take (end_by idx k) dat)) counted_entries ∙ cut_accepted)

module _ (dat idx : List ℕ) (k : ℕ) (passes : tested dat idx ≡ Ok k) where
  counts_too : counted dat idx ≡ Ok k
  counts_too = (tested-parts dat idx k passes).0

  pub tested-super : has_super dat ≡ true
  tested-super = (tested-parts dat idx k passes).1

  pub tested-idx : 16 * k ≤ length idx
  tested-idx = counted-idx dat idx k counts_too

  -- where it ends
  ending : (8 ≤ end_by idx k) × (end_by idx k ≤ length dat)
  ending = by_count k refl
    where
      by_count : (n : ℕ) → k ≡ n → (8 ≤ end_by idx k) × (end_by idx k ≤ length dat)
      by_count zero none =
          let end : end_by idx k ≡ 8 = ap (end_by idx) none in
          (omega (arith, end), omega (arith, end, has_super-long dat tested-super))
      by_count (suc j) last =
          let e = has_entry dat (entries idx) j (counted-last dat idx k counts_too j last) in
          let it = has_found dat e.0 e.2 in
          let end : end_by idx k ≡ entry_end e.0 = ap (end_by idx) last ∙ kept_length-last (entries idx) j e.0 e.1 in
          (omega (arith, end, it.ends, it.some), omega (arith, end, it.within))

  -- no more than there is of the data file
  pub tested-dat : end_by idx k ≤ length dat
  tested-dat = ending.1

  pub tested-keeps : KeepsLengths dat idx (end_by idx k, 16 * k)
  tested-keeps = record {
    count = k;
    passed = passes;
    dat_length = refl;
    idx_length = refl;
    dat_within = tested-dat;
    idx_within = tested-idx;
    super = tested-super;
    follows = λ follows. (counted-kept dat idx k counts_too follows, ap (end_by idx) (counted-kept dat idx k counts_too follows) ∙ follows-end dat idx follows tested-super);
  }

  -- ---- cut

  -- and pass again
  pub cut-tested : tested (take (end_by idx k) dat) (take (16 * k) idx) ≡ Ok k
  cut-tested = tested-ok (take (end_by idx k) dat) (take (16 * k) idx) k (cut-counted dat idx k counts_too) (has_super-take dat (end_by idx k) tested-super ending.0)

-- ---- indexes

index_step : (index : Index) (p : Placed) (o : Option Content) → index_after_entry index (entry_of p) (cond (option_map_or size_of_content o 0 == 0) (negsuc 0) (pos (option_map_or size_of_content o 0))) ≡ index_after_content index p o
index_step index p None = refl
index_step index p (Some c) = ap (λ b. index_after_entry index (entry_of p) (cond b (negsuc 0) (pos (size_of_content c)))) (ne_eqb (size_of_content c) 0 some)
  where
    some : size_of_content c ≡ 0 → ⊥
    some e = absurd (omega arith)

index_by_from-records : (index : Index) (ps : List Placed) → index_by_from index (map entry_of ps) ≡ index_from index ps
index_by_from-records index [] = refl
index_by_from-records index (p ∷ ps) =
    ap (λ i. index_by_from i (map entry_of ps)) (index_step index p p.1.content) ∙ index_by_from-records (index_after_content index p p.1.content) ps

-- the entries of records make their index
pub index_by-records : (ps : List Placed) → index_by (map entry_of ps) ≡ index_of ps
index_by-records ps = index_by_from-records empty ps

pub follows-index : (dat idx : List ℕ) → FollowsRecords dat idx → index_by (take (kept dat idx) (entries idx)) ≡ index_of (kept_records dat idx)
follows-index dat idx follows = ap index_by (follows-front dat idx follows) ∙ index_by-records (kept_records dat idx)
