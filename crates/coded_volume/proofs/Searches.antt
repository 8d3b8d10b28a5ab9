-- What one search more in an index comes to.
use Rattle.std.proofs.Common.{◌≡◌, ◌⊎◌, inl, inr, ℕ, zero, suc, ◌+◌, ◌*◌, ◌/◌, ◌^◌, ◌<◌, ◌≤◌, Bool, true, false, cond, not, List, [], ◌∷◌, length, Option, Some, None, refl, sym, ◌∙◌, ap, subst, arith}
use Rattle.std.specs.Prelude.{filter, nat_eq, nat_lt, IfSome, is_some, unwrap_or, replicate, slice_index_or}
use Rattle.std.proofs.lemmas.List.{get_or_past}
use Rattle.std.specs.Option.{option_eq, option_map_or}
use Rattle.std.specs.List.{range_with_len}
use Rattle.std.specs.FinMap.{get}
use Rattle.std.proofs.Math.Nat.{mul-le-mul_left, mul-le-mul_right}
use Rattle.std.proofs.lemmas.Bool.{cases_lt, le-leb, le-ltb, leb-true, lt-ltb, ltb-true}
use mathlib.Core.Bool.{true≢false}
use Rattle.site_model.specs.declared.error.DeviceFault.{DeviceFault}
use Rattle.site_model.specs.Disk.{Files, length_of}
use Rattle.site_model.specs.Counts.{Counts, Rose, IsLater}
use Rattle.site_model.specs.Laws.Count.{takes_on, takes_within, rose_after}
use Rattle.shard_table.specs.Table.{Row, Table, IsRow, IsTable, no_places, place_in, row_of}
use Rattle.degraded_read.specs.Gathering.{is_reliable, reliable, rose, stands_in, standing_in}
use Rattle.ecx_index.specs.Search.{TakesFewReads}
use Rattle.coded_volume.specs.Searching.{HasOneOf, HaveAtMost, HaveFailed, TakesSearches}

-- ---- whether a server has a shard

abbrev pub is_at : ℕ → Option ℕ → Bool
is_at server place = option_eq nat_eq place (Some server)

none_some : {A : Type 0} {x : A} → None ≡ Some x → ⊥
none_some e = cc

-- ---- counting

none_pass : (test : ℕ → Bool) (a n : ℕ) → ((i : ℕ) → i < a + n → test i ≡ false) → length (filter test (range_with_len a n)) ≡ 0
none_pass test a zero h = refl
none_pass test a (suc n) h =
    ap (λ b. length (cond b (a ∷ filter test (range_with_len (a + 1) n)) (filter test (range_with_len (a + 1) n)))) (h a (omega arith))
    ∙ none_pass test (a + 1) n (λ i k. h i (omega arith))

fewer : (test other : ℕ → Bool) (xs : List ℕ) → ((x : ℕ) → test x ≡ true → other x ≡ true) → length (filter test xs) ≤ length (filter other xs)
fewer test other [] h = omega arith
fewer test other (x ∷ xs) h = by_tests (test x) (other x) refl refl (fewer test other xs h)
  where
    by_tests : (a b : Bool) → test x ≡ a → other x ≡ b → length (filter test xs) ≤ length (filter other xs) → length (cond a (x ∷ filter test xs) (filter test xs)) ≤ length (cond b (x ∷ filter other xs) (filter other xs))
    by_tests true true p q rest = omega (arith, rest)
    by_tests true false p q rest = absurd (true≢false (sym (h x p) ∙ q))
    by_tests false true p q rest = omega (arith, rest)
    by_tests false false p q rest = rest

-- one passes the other test alone
one_fewer : (test other : ℕ → Bool) (a n x : ℕ) → ((x : ℕ) → test x ≡ true → other x ≡ true) → a ≤ x → x < a + n → test x ≡ false → other x ≡ true
    → length (filter test (range_with_len a n)) + 1 ≤ length (filter other (range_with_len a n))
one_fewer test other a zero x h from below out within = absurd (omega arith)
one_fewer test other a (suc n) x h from below out within = elim (cases_lt a x) [
  | inl later ↦ by_tests (test a) (other a) refl refl (one_fewer test other (a + 1) n x h (omega arith) (omega arith) out within)
  | inr here ↦ at_first (omega (arith, from, here)) (fewer test other (range_with_len (a + 1) n) h)
]
  where
    by_tests : (b c : Bool) → test a ≡ b → other a ≡ c → length (filter test (range_with_len (a + 1) n)) + 1 ≤ length (filter other (range_with_len (a + 1) n))
        → length (cond b (a ∷ filter test (range_with_len (a + 1) n)) (filter test (range_with_len (a + 1) n))) + 1 ≤ length (cond c (a ∷ filter other (range_with_len (a + 1) n)) (filter other (range_with_len (a + 1) n)))
    by_tests true true p q more = omega (arith, more)
    by_tests true false p q more = absurd (true≢false (sym (h a p) ∙ q))
    by_tests false true p q more = omega (arith, more)
    by_tests false false p q more = more

    at_first : x ≡ a → length (filter test (range_with_len (a + 1) n)) ≤ length (filter other (range_with_len (a + 1) n))
        → length (cond (test a) (a ∷ filter test (range_with_len (a + 1) n)) (filter test (range_with_len (a + 1) n))) + 1 ≤ length (cond (other a) (a ∷ filter other (range_with_len (a + 1) n)) (filter other (range_with_len (a + 1) n)))
    at_first same more =
        let first : test a ≡ false = ap test (sym same) ∙ out in
        let second : other a ≡ true = ap other (sym same) ∙ within in
        rw (first, second) (omega (arith, more))

-- ---- shards at the servers below one

abbrev pub is_below : Row → ℕ → ℕ → Bool
is_below row server i = option_map_or (λ s. nat_lt s server) (place_in row i) false

abbrev pub shards_below : Row → ℕ → ℕ → ℕ
shards_below row shards server = length (filter (is_below row server) (range_with_len 0 shards))

module _ (row : Row) where
  still_below : (server i : ℕ) → is_below row server i ≡ true → is_below row (server + 1) i ≡ true
  still_below server i h = by_place (place_in row i) h
    where
      by_place : (o : Option ℕ) → option_map_or (λ s. nat_lt s server) o false ≡ true → option_map_or (λ s. nat_lt s (server + 1)) o false ≡ true
      by_place None h = h
      by_place (Some s) h = lt-ltb s (server + 1) (omega (arith, ltb-true s server h))

  below_stands : (server i : ℕ) → is_below row server i ≡ true → stands_in row i ≡ true
  below_stands server i h = by_place (place_in row i) h
    where
      by_place : (o : Option ℕ) → option_map_or (λ s. nat_lt s server) o false ≡ true → is_some o ≡ true
      by_place None h = h
      by_place (Some s) h = refl

  pub below_next : (shards server : ℕ) → shards_below row shards server ≤ shards_below row shards (server + 1)
  below_next shards server = fewer (is_below row server) (is_below row (server + 1)) (range_with_len 0 shards) (still_below server)

  pub below_one : (shards server : ℕ) → HasOneOf row shards server → shards_below row shards server + 1 ≤ shards_below row shards (server + 1)
  below_one shards server has =
      one_fewer (is_below row server) (is_below row (server + 1)) 0 shards has.0 (still_below server) (omega arith) (omega (arith, has.1))
      (ap (λ o. option_map_or (λ s. nat_lt s server) o false) has.2 ∙ le-ltb server server (omega arith))
      (ap (λ o. option_map_or (λ s. nat_lt s (server + 1)) o false) has.2 ∙ lt-ltb server (server + 1) (omega arith))

  pub below_all_stand : (shards server : ℕ) → shards_below row shards server ≤ length (standing_in row shards)
  below_all_stand shards server = fewer (is_below row server) (stands_in row) (range_with_len 0 shards) (below_stands server)

  -- ---- servers that failed

  unreliable : (old new : Counts) (i : ℕ) → ((s : ℕ) → place_in row i ≡ Some s → Rose (old.faults s) (new.faults s)) → is_reliable row old new i ≡ false
  unreliable old new i h = by_place (place_in row i) refl
    where
      by_place : (o : Option ℕ) → place_in row i ≡ o → option_map_or (λ s. not (rose (old.faults s) (new.faults s))) o false ≡ false
      by_place None e = refl
      by_place (Some s) e = ap not (le-leb _ _ (h s e))

  -- where all failed none is reliable
  pub none_reliable : (shards : ℕ) (old new : Counts) → ((i s : ℕ) → i < shards → place_in row i ≡ Some s → Rose (old.faults s) (new.faults s)) → reliable row old new shards ≡ 0
  none_reliable shards old new h = none_pass (is_reliable row old new) 0 shards (λ i k. unreliable old new i (λ s e. h i s (omega arith) e))

  -- where a shard stands, a server has it
  pub some_server : (shards : ℕ) → 0 < length (standing_in row shards) → ((server : ℕ) → HasOneOf row shards server → ⊥) → ⊥
  some_server shards some none = absurd (omega (arith, some, none_pass (stands_in row) 0 shards (λ i k. by_place i (place_in row i) refl (omega arith))))
    where
      by_place : (i : ℕ) (o : Option ℕ) → place_in row i ≡ o → i < shards → is_some o ≡ false
      by_place i None e h = refl
      by_place i (Some s) e h = absurd (none s (i, h, e))

  -- what was reliable since a later count was so since an earlier one, or it wasn't counted then
  pub reliable_since : (shards : ℕ) (old mid new : Counts) → IsLater old mid → reliable row old new shards ≤ reliable row mid new shards
  reliable_since shards old mid new later = fewer (is_reliable row old new) (is_reliable row mid new) (range_with_len 0 shards) (λ i h. by_place (place_in row i) h)
    where
      by_rose : (s : ℕ) (b : Bool) → rose (mid.faults s) (new.faults s) ≡ b → not (rose (old.faults s) (new.faults s)) ≡ true → not b ≡ true
      by_rose s false e h = refl
      by_rose s true e h =
          let rose_then : Rose (old.faults s) (new.faults s) = rose_after (old.faults s) (mid.faults s) (new.faults s) (later.faults s) (leb-true _ _ e) in
          absurd (true≢false (sym h ∙ ap not (le-leb _ _ rose_then)))

      by_place : (o : Option ℕ) → option_map_or (λ s. not (rose (old.faults s) (new.faults s))) o false ≡ true → option_map_or (λ s. not (rose (mid.faults s) (new.faults s))) o false ≡ true
      by_place None h = h
      by_place (Some s) h = by_rose s _ refl h

-- ---- rows of a table

none_at : (n i : ℕ) → ◌≡◌ {A = Option ℕ} (slice_index_or (replicate n None) i None) None
none_at zero i = refl
none_at (suc n) zero = refl
none_at (suc n) (suc i) = none_at n i

-- its shards are at its servers
pub place_within : (t : Table) (volume i s : ℕ) → IsTable t → place_in (row_of t volume) i ≡ Some s → s < t.servers
place_within t volume i s is e = by_row (get t.rows volume) (is.placed volume) e
  where
    in_row : (row : Row) → IsRow t.servers row → place_in row i ≡ Some s → (i < length row) ⊎ (length row ≤ i) → s < t.servers
    in_row row h e (inl low) = subst (λ o. IfSome o (λ server. server < t.servers)) e (h.on_servers i None low)
    in_row row h e (inr high) = absurd (none_some (sym (get_or_past row i None high) ∙ e))

    by_row : (o : Option Row) → IfSome o (IsRow t.servers) → place_in (unwrap_or o no_places) i ≡ Some s → s < t.servers
    by_row None h e = absurd (none_some (sym (none_at 16 i) ∙ e))
    by_row (Some row) h e = in_row row h e (cases_lt i (length row))

-- ---- reads

few_within : (reads m n : ℕ) → m ≤ n → (reads ≡ 0) ⊎ (2 ^ reads ≤ 2 * m) → (reads ≡ 0) ⊎ (2 ^ reads ≤ 2 * n)
few_within reads m n h (inl none) = inl none
few_within reads m n h (inr few) = inr (omega (arith, few, h))

module _ {n searches : ℕ} {old mid : Counts} (so_far : TakesSearches searches n old mid) where
  pub searched_more : (more : ℕ) → searches ≤ more → TakesSearches more n old mid
  searched_more more h = record {
    reads = so_far.reads;
    takes = takes_within (mul-le-mul_right (so_far.reads + 1) h) (omega arith) so_far.takes;
    few = so_far.few;
  }

  pub searched : (m more : ℕ) {new : Counts} → TakesFewReads m mid new → m ≤ n → searches + 1 ≤ more → TakesSearches more n old new
  searched m more did within h = elim (cases_lt so_far.reads did.reads) [
    | inl less ↦ record {
      reads = did.reads;
      takes = takes_within (wide searches (so_far.reads + 1) (did.reads + 1) (did.reads + 1) more (omega arith) (omega arith) h) (omega arith) (takes_on so_far.takes did.takes);
      few = few_within did.reads m n within did.few;
    }
    | inr most ↦ record {
      reads = so_far.reads;
      takes = takes_within (wide searches (so_far.reads + 1) (did.reads + 1) (so_far.reads + 1) more (omega arith) (omega arith) h) (omega arith) (takes_on so_far.takes did.takes);
      few = so_far.few;
    }
  ]
    where
      wide : (k a b c more : ℕ) → a ≤ c → b ≤ c → k + 1 ≤ more → k * a + b ≤ more * c
      wide k a b c more h i j = omega (arith, mul-le-mul_left k h, i, mul-le-mul_right c j)

-- ---- what a search at one server after the other knows so far

-- The servers below this one are searched, and each with a shard failed. The lowest of them is told.
pub record HasSearched (tells : Type 0) (files : Files) (row : Row) (shards : ℕ) (name : List ℕ) (below : ℕ) (told : Option DeviceFault) (old now : Counts) : Type 0 where
  pub searched : tells → (n : ℕ) → HaveAtMost n files row shards name → TakesSearches (shards_below row shards below) n old now
  pub failed : HaveFailed row shards below old now
  pub blamed : IfSome told (λ fault. Rose (old.faults fault.server) (now.faults fault.server))
  pub none : told ≡ None → (server : ℕ) → server < below → HasOneOf row shards server → ⊥

module _ (tells : Type 0) (files : Files) (row : Row) (shards : ℕ) (name : List ℕ) (server : ℕ) (told : Option DeviceFault) (old mid : Counts) (so_far : HasSearched tells files row shards name server told old mid) where
  -- a server without a shard
  pub searched_past : (HasOneOf row shards server → ⊥) → HasSearched tells files row shards name (server + 1) told old mid
  searched_past not = record {
    searched = λ t n most. searched_more (so_far.searched t n most) _ (below_next row shards server);
    failed = λ s h has. elim (cases_lt s server) [
      | inl before ↦ so_far.failed s before has
      | inr here ↦ let same : s ≡ server = omega (arith, h, here) in absurd (not (subst (HasOneOf row shards) same has))
    ];
    blamed = so_far.blamed;
    none = λ e s h has. elim (cases_lt s server) [
      | inl before ↦ so_far.none e s before has
      | inr here ↦ let same : s ≡ server = omega (arith, h, here) in not (subst (HasOneOf row shards) same has)
    ];
  }

  -- past all servers of a table with a shard one is told
  pub some_told : (t : Table) (volume : ℕ) → IsTable t → row ≡ row_of t volume → t.servers ≤ server → 0 < length (standing_in row shards) → is_some told ≡ true
  some_told t volume is same past some = by_told told so_far.none
    where
      by_told : (o : Option DeviceFault) → (o ≡ None → (s : ℕ) → s < server → HasOneOf row shards s → ⊥) → is_some o ≡ true
      by_told None none =
          absurd (some_server row shards some (λ s has.
          let within : s < t.servers = place_within t volume has.0 s is (subst (λ r. place_in r has.0 ≡ Some s) same has.2) in
          none refl s (omega arith) has))
      by_told (Some fault) none = refl

  module _ (holds : HasOneOf row shards server) (new : Counts) (search : tells → TakesFewReads (length_of (files (server, name)) / 16) mid new) where
    -- one with a shard
    pub searched_here : tells → (n : ℕ) → HaveAtMost n files row shards name → TakesSearches (shards_below row shards (server + 1)) n old new
    searched_here t n most = searched (so_far.searched t n most) _ _ (search t) (most server holds) (below_one row shards server holds)

    -- which failed
    pub searched_on : (fault : DeviceFault) → fault.server ≡ server → IsLater old mid → IsLater mid new → Rose (mid.faults server) (new.faults server)
        → HasSearched tells files row shards name (server + 1) (Some (unwrap_or told fault)) old new
    searched_on fault is before later rose = record {
      searched = searched_here;
      failed = λ s h has. elim (cases_lt s server) [
        | inl lower ↦ rose_before s (so_far.failed s lower has)
        | inr here ↦ let same : s ≡ server = omega (arith, h, here) in subst (λ t. Rose (old.faults t) (new.faults t)) (sym same) rose_here
      ];
      blamed = by_told told so_far.blamed;
      none = λ e. absurd (some_none e);
    }
      where
        rose_here : Rose (old.faults server) (new.faults server)
        rose_here = rose_after (old.faults server) (mid.faults server) (new.faults server) (before.faults server) rose

        rose_before : (s : ℕ) → Rose (old.faults s) (mid.faults s) → Rose (old.faults s) (new.faults s)
        rose_before s h = omega (arith, h, later.faults s)

        by_told : (o : Option DeviceFault) → IfSome o (λ f. Rose (old.faults f.server) (mid.faults f.server)) → Rose (old.faults (let f = unwrap_or o fault in f.server)) (new.faults (let f = unwrap_or o fault in f.server))
        by_told None h = subst (λ t. Rose (old.faults t) (new.faults t)) (sym is) rose_here
        by_told (Some f) h = rose_before f.server h

        some_none : {x : DeviceFault} → Some x ≡ None → ⊥
        some_none e = cc
