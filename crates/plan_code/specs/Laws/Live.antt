-- The live entries of a data file of bytes: spelled, they are read as they are, their ids rise, and they are of records with
-- contents that end within the file.
use Rattle.std.proofs.Common.{◌≡◌, ℕ, zero, suc, ◌+◌, ◌*◌, ◌<◌, ◌≤◌, Bool, true, false, cond, ◌&&◌, T, List, [], ◌∷◌, length, map, drop, Option, Some, None, MatchOption, IfSome, pos, negsuc, ◌<ℤ◌, ◌==◌, if◌then◌else◌, flat_map, slice_index, inl, inr, refl, sym, ◌∙◌, ap, subst, arith}
use Rattle.std.specs.Option.{option_map_or}
use Rattle.std.specs.List.{AllByRecursion}
use Rattle.std.specs.List.Sorted.{IsStrictlyIncreasing}
use Rattle.std.specs.Ordering.{nat_cmp, is_eq, is_lt}
use Rattle.std.specs.declared.cmp.Ordering.{Ordering}
use Rattle.std.specs.declared.cmp.Ordering.TheVariants.{Less, Equal, Greater}
use Rattle.std.specs.Cmp.{nat_cmp_total, tied_itself}
use Rattle.std.specs.FinMap.{get, entries_sorted, find, is_sorted, get-entries, nat_cmp-IsAntisymmetric}
use Rattle.std.specs.FinMap.Entries.{below_all}
use Rattle.std.specs.FinMap as finite
use Rattle.std.proofs.lemmas.Bool.{ne_eqb}
use Rattle.std.proofs.lemmas.Cmp.{ranked}
use Rattle.std.proofs.lemmas.Int.{ints}
use Rattle.std.proofs.lemmas.List.{length-map}
use Rattle.std.proofs.lemmas.List.Elements.{All-weaker, recursion_from_All}
use Rattle.world_model.specs.declared.types.Content.{Content}
use Rattle.world_model.specs.Sizes.{FitsRecord, size_of_content}
use Rattle.rs_code.specs.Codeword.{AreBytes}
use Rattle.rs_code.specs.Combination.{bytes-drop}
use Rattle.volume_forms.specs.declared.Entry.{Entry}
use Rattle.volume_forms.specs.Forms.{entries, entry_bytes}
use Rattle.volume_forms.specs.Kept.{entry_end}
use Rattle.needle_record.specs.declared.Record.{Record}
use Rattle.needle_record.specs.Spelling.{SpellsDeletion, SpellsContent, length_of_record, record_size}
use Rattle.needle_record.specs.Records.{Placed, Index, StandsIn, AgreesAt, records, entry_of, index_of, fold_records, live}
use Rattle.needle_record.specs.Laws.Records.{records-stand, index_of-agrees, entry_of-end}
use Rattle.needle_record.specs.Laws.Spelling.{length_of_record-least}
use Rattle.needle_record.specs.Laws.Found.{found-spelled}
use Rattle.image_meaning.specs.Sound.{IsSortedIndex}
use Rattle.plan_steps.specs.Members.{Has}
use Rattle.plan_steps.specs.Laws.Forms.{HasEntry, index_of_entries}

-- ---- records that stand in bytes

content_fits : (r : Record) (bytes : List ℕ) (o : Option Content) → MatchOption o (SpellsDeletion r bytes) (λ c. SpellsContent r c bytes) → IfSome o FitsRecord
content_fits r bytes None spells = tt
content_fits r bytes (Some c) spells = spells.fits

has_entry : (dat : List ℕ) (p : Placed) → AreBytes dat → StandsIn dat p → HasEntry p
has_entry dat p all stands =
    let spells = found-spelled (drop p.0 dat) (p.1, length_of_record p.1) (bytes-drop dat p.0 all) stands.reads in
    record { room = spells.0; fits = content_fits p.1 _ p.1.content spells.1; place = omega (arith, stands.most, length_of_record-least p.1) }

-- the entry of each is read as it was written
pub records_entries : (dat : List ℕ) → AreBytes dat → 8 ≤ length dat → AllByRecursion HasEntry (records dat)
records_entries dat all long = recursion_from_All HasEntry (records dat) (All-weaker (StandsIn dat) HasEntry (λ p stands. has_entry dat p all stands) (records dat) (records-stand dat long))

-- ---- a map by its entries

first : (a b : Bool) → T (a && b) → T a
first true b h = tt
first false b h = h

second : (a b : Bool) → T (a && b) → T b
second true b h = h
second false b h = absurd h

less : (a b : ℕ) (o : Ordering) → nat_cmp a b ≡ o → T (is_lt o) → nat_cmp a b ≡ Less
less a b Less e h = e
less a b Equal e h = absurd h
less a b Greater e h = absurd h

below_has : {X : Type 0} (key : ℕ) (es : List (ℕ × X)) (x : ℕ × X) → T (below_all nat_cmp key es) → Has es x → nat_cmp key x.0 ≡ Less
below_has key [] x h has = absurd has
below_has {X} key (e ∷ es) x h (inl same) = ap (λ (q : ℕ × X). nat_cmp key q.0) (sym same) ∙ less key e.0 (nat_cmp key e.0) refl (first _ _ h)
below_has key (e ∷ es) x h (inr has) = below_has key es x (second _ _ h) has

-- each pair is found by its key
found : {X : Type 0} (es : List (ℕ × X)) (x : ℕ × X) → T (is_sorted nat_cmp es) → Has es x → find nat_cmp x.0 es ≡ Some x.1
found [] x sorted has = absurd has
found {X} (e ∷ es) x sorted (inl same) =
    subst (λ (q : ℕ × X). find nat_cmp q.0 (e ∷ es) ≡ Some q.1) same (ap (λ o. cond (is_eq o) (Some e.1) (find nat_cmp e.0 es)) (tied_itself nat_cmp_total e.0))
found {X} (e ∷ es) x sorted (inr has) = by_order (nat_cmp x.0 e.0) refl (found es x (second _ _ sorted) has)
  where
    by_order : (o : Ordering) → nat_cmp x.0 e.0 ≡ o → find nat_cmp x.0 es ≡ Some x.1 → cond (is_eq o) (Some e.1) (find nat_cmp x.0 es) ≡ Some x.1
    by_order Less p rest = rest
    by_order Equal p rest =
        let less : nat_cmp e.0 x.0 ≡ Less = below_has e.0 es x (first _ _ sorted) has in
        absurd (apart (sym less ∙ ap (nat_cmp e.0) (nat_cmp-IsAntisymmetric x.0 e.0 p) ∙ tied_itself nat_cmp_total e.0))
      where
        apart : Less ≡ Equal → ⊥
        apart e = cc
    by_order Greater p rest = rest

abbrev keys_in : {X : Type 0} → List (ℕ × X) → List ℕ
keys_in es = map (λ e. e.0) es

abbrev values_in : {X : Type 0} → List (ℕ × X) → List X
values_in es = map (λ e. e.1) es

-- the keys rise
keys_rise : {X : Type 0} (es : List (ℕ × X)) → T (is_sorted nat_cmp es) → IsStrictlyIncreasing (keys_in es)
keys_rise [] sorted k h = absurd (omega (arith, h))
keys_rise (e ∷ []) sorted k h = absurd (omega (arith, h))
keys_rise (e ∷ f ∷ es) sorted zero h =
    let below : nat_cmp e.0 f.0 ≡ Less = less e.0 f.0 (nat_cmp e.0 f.0) refl (first _ _ (first _ _ sorted)) in
    ranked e.0 f.0 Less (sym below)
keys_rise (e ∷ f ∷ es) sorted (suc k) h =
    let next : suc k + 1 ≡ suc (k + 1) = omega arith in
    subst (λ n. slice_index (keys_in (e ∷ f ∷ es)) (suc k) < slice_index (keys_in (e ∷ f ∷ es)) n) (sym next) (keys_rise (f ∷ es) (second _ _ sorted) k (omega (arith, h)))

-- ---- live entries

module _ (dat : List ℕ) (all : AreBytes dat) (long : 8 ≤ length dat) where
  abbrev index : Index
  index = index_of (records dat)

  -- a record of the file, with a content
  record IsLive (p : Placed) : Type 0 where
    stands : StandsIn dat p
    content : Content
    has : p.1.content ≡ Some content

  -- an entry of the index is that of such a record, with its id
  entry_live : (key : ℕ) (e : Entry) → get index key ≡ Some e → (p : Placed) × IsLive p × (p.1.id ≡ key) × (e ≡ entry_of p)
  entry_live key e is =
      let agree = subst (λ (o : Option Entry). AgreesAt (StandsIn dat) key o (get (fold_records (records dat)).needles key)) is (index_of-agrees (StandsIn dat) (records dat) (records-stand dat long) key) in
      (agree.0, record { stands = agree.2; content = agree.1; has = agree.4 }, agree.3, agree.5)

  -- the records of the live entries, in the order of these
  record AreOf (es : List (ℕ × Entry)) : Type 0 where
    ps : List Placed
    entries_are : map entry_of ps ≡ values_in es
    ids_are : map (λ (p : Placed). p.1.id) ps ≡ keys_in es
    all_live : AllByRecursion IsLive ps

  are_of : (es : List (ℕ × Entry)) → ((x : ℕ × Entry) → Has es x → get index x.0 ≡ Some x.1) → AreOf es
  are_of [] each = record { ps = []; entries_are = refl; ids_are = refl; all_live = tt }
  are_of (e ∷ es) each =
      let one = entry_live e.0 e.1 (each e (inl refl)) in
      let rest = are_of es (λ x has. each x (inr has)) in
      record {
        ps = one.0 ∷ rest.ps;
        entries_are = λ i. sym one.3 i ∷ rest.entries_are i;
        ids_are = λ i. one.2 i ∷ rest.ids_are i;
        all_live = (one.1, rest.all_live);
      }

  of : AreOf (finite.entries index)
  of = are_of (finite.entries index) (λ x has. get-entries index x.0 ∙ found (finite.entries index) x (entries_sorted index) has)

  has_entries : (ps : List Placed) → AllByRecursion IsLive ps → AllByRecursion HasEntry ps
  has_entries [] h = tt
  has_entries (p ∷ ps) h = (has_entry dat p all h.0.stands, has_entries ps h.1)

  abbrev pub spelled : List ℕ
  spelled = flat_map entry_bytes (live (records dat))

  written : (entries spelled ≡ live (records dat)) × (length spelled ≡ 16 * length (live (records dat)))
  written = subst (λ (es : List Entry). (entries (flat_map entry_bytes es) ≡ es) × (length (flat_map entry_bytes es) ≡ 16 * length es)) of.entries_are (index_both of.ps (has_entries of.ps of.all_live))
    where
      index_both : (ps : List Placed) → AllByRecursion HasEntry ps → (entries (flat_map entry_bytes (map entry_of ps)) ≡ map entry_of ps) × (length (flat_map entry_bytes (map entry_of ps)) ≡ 16 * length (map entry_of ps))
      index_both ps h = let both = index_of_entries ps h in (both.0, omega (arith, both.1, length-map ps entry_of))

  -- Spelled one after the other, they are read as they are.
  pub live_read : entries spelled ≡ live (records dat)
  live_read = written.0

  ids_of : (ps : List Placed) → map (λ (e : Entry). e.id) (map entry_of ps) ≡ map (λ (p : Placed). p.1.id) ps
  ids_of [] = refl
  ids_of (p ∷ ps) = ap (λ rest. p.1.id ∷ rest) (ids_of ps)

  ids_rise : IsStrictlyIncreasing (map (λ (e : Entry). e.id) (live (records dat)))
  ids_rise = subst IsStrictlyIncreasing (sym of.ids_are ∙ sym (ids_of of.ps) ∙ ap (map (λ (e : Entry). e.id)) of.entries_are) (keys_rise (finite.entries index) (entries_sorted index))

  some_size : (n : ℕ) → 0 < n → pos 0 <ℤ (if n == 0 then negsuc 0 else pos n)
  some_size n h = subst (λ b. pos 0 <ℤ (if b then negsuc 0 else pos n)) (sym (ne_eqb n 0 (λ e. absurd (omega (arith, h, e))))) (omega (arith, ints, h))

  size_there : (p : Placed) → IsLive p → 0 < record_size p.1
  size_there p is = subst (λ (o : Option Content). 0 < option_map_or size_of_content o 0) (sym is.has) (omega arith)

  sizes_of : (ps : List Placed) → AllByRecursion IsLive ps → AllByRecursion (λ (e : Entry). pos 0 <ℤ e.size) (map entry_of ps)
  sizes_of [] h = tt
  sizes_of (p ∷ ps) h = (some_size (record_size p.1) (size_there p h.0), sizes_of ps h.1)

  ends_of : (ps : List Placed) → AllByRecursion IsLive ps → AllByRecursion (λ e. entry_end e ≤ length dat) (map entry_of ps)
  ends_of [] h = tt
  ends_of (p ∷ ps) h = (omega (arith, entry_of-end p h.0.stands.in_eights, h.0.stands.within), ends_of ps h.1)

  -- They are a sorted index,
  pub live_sorted : IsSortedIndex spelled
  live_sorted = record {
    whole = omega (arith, written.1);
    rising = subst (λ (es : List Entry). IsStrictlyIncreasing (map (λ (e : Entry). e.id) es)) (sym live_read) ids_rise;
    sizes = subst (AllByRecursion (λ (e : Entry). pos 0 <ℤ e.size)) (of.entries_are ∙ sym live_read) (sizes_of of.ps of.all_live);
  }

  -- of records within the file.
  pub live_within : AllByRecursion (λ e. entry_end e ≤ length dat) (entries spelled)
  live_within = subst (AllByRecursion (λ (e : Entry). entry_end e ≤ length dat)) (of.entries_are ∙ sym live_read) (ends_of of.ps of.all_live)
