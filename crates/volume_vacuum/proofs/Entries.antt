-- What is made of the entries of records is what is made of the records.
use Rattle.std.proofs.Common.{◌≡◌, ℕ, ◌+◌, ◌*◌, ◌<◌, ◌≤◌, List, [], ◌∷◌, ◌++◌, length, map, take, drop, flat_map, Bool, true, false, cond, is_some, pos, negsuc, Option, Some, None, Ok, All, refl, sym, ◌∙◌, ap, subst, arith}
use Rattle.std.specs.Prelude.{◌==◌, not, nat_lt, if◌then◌else◌}
use Rattle.std.specs.FinMap.{insert}
use Rattle.std.proofs.lemmas.Bool.{eqb-true, eq-eqb, le-ltb}
use Rattle.std.proofs.lemmas.List.{take_all}
use Rattle.std.proofs.lemmas.List.Elements.{All-nil, All-cons, All-head, All-tail, All-weaker}
use mathlib.Core.Bool.{true≢false}
use Rattle.wire_num.specs.Numbers.{number_of, bytes_of, record_length}
use Rattle.world_model.specs.declared.types.Content.{Content}
use Rattle.world_model.specs.declared.types.What.TheVariants as what
use Rattle.volume_forms.specs.declared.Entry.{Entry}
use Rattle.volume_forms.specs.Forms.{entry_bytes}
use Rattle.volume_forms.specs.Kept.{fields_size, entry_end}
use Rattle.needle_record.specs.declared.Record.{Record}
use Rattle.needle_record.specs.Spelling.{record_size, length_of_record}
use Rattle.needle_record.specs.Reading.{needle_at, size_at, HasHeader}
use Rattle.needle_record.specs.Records.{Placed, Index, entry_of, index_from, index_after_content, AreRecords, StandsIn}
use Rattle.needle_record.specs.Laws.Records.{entry_of-place, entry_of-end}
use Rattle.needle_record.specs.Laws.Spelling.{found-whole, found-length, header-take, length_of_record-least}
use Rattle.dat_volume.specs.Needles.{damage_of, bytes_from, header_damage, first_damage}
use Rattle.volume_vacuum.specs.Live.{live_records, moved, own_bytes, raised}
use Rattle.volume_vacuum.specs.Laws.Lives.{is_live, HasContent, room_of}
use Rattle.volume_vacuum.specs.Copies.{length_by, moved_entries, moved_end, with_all, index_bytes, copied, overlap, headers_damage}

-- ---- at their new places

fields : (n : ℕ) (b : Bool) → (n == 0) ≡ b → fields_size (cond b (negsuc 0) (pos n)) ≡ n
fields n true e = sym (eqb-true n 0 e)
fields n false e = refl

own_size : (p : Placed) → fields_size (entry_of p).size ≡ record_size p.1
own_size p = fields (record_size p.1) (record_size p.1 == 0) refl

own_length : (p : Placed) → length_by (entry_of p) ≡ length_of_record p.1
own_length p = ap (λ n. record_length n) (own_size p)

pub moved-records : (place : ℕ) (ps : List Placed) → moved_entries place (map entry_of ps) ≡ map entry_of (moved place ps)
unfolding moved moved_entries
moved-records place [] = refl
moved-records place (p ∷ ps) =
    ap (λ n. entry_of (place, p.1) ∷ moved_entries (place + n) (map entry_of ps)) (own_length p)
    ∙ ap (λ es. entry_of (place, p.1) ∷ es) (moved-records (place + length_of_record p.1) ps)

pub moved_end-records : (place : ℕ) (ps : List Placed) → moved_end place (map entry_of ps) ≡ place + room_of ps
unfolding moved_end
moved_end-records place [] = omega arith
moved_end-records place (p ∷ ps) =
    ap (λ n. moved_end (place + n) (map entry_of ps)) (own_length p) ∙ moved_end-records (place + length_of_record p.1) ps ∙ omega arith

moved-content : (place : ℕ) (ps : List Placed) → All HasContent ps → All HasContent (moved place ps)
unfolding moved
moved-content place [] all = All-nil HasContent
moved-content place (p ∷ ps) all =
    All-cons HasContent (place, p.1) (moved (place + length_of_record p.1) ps) (All-head HasContent p ps all) (moved-content (place + length_of_record p.1) ps (All-tail HasContent p ps all))

with_all-records : (index : Index) (ps : List Placed) → All HasContent ps → with_all index (map entry_of ps) ≡ index_from index ps
unfolding with_all
with_all-records index [] all = refl
with_all-records index (p ∷ ps) all =
    with_all-records (insert index p.1.id (entry_of p)) ps (All-tail HasContent p ps all) ∙ ap (λ m. index_from m ps) (by_content p.1.content (All-head HasContent p ps all))
  where
    by_content : (o : Option Content) → is_some o ≡ true → insert index p.1.id (entry_of p) ≡ index_after_content index p o
    by_content None some = absurd (true≢false (sym some))
    by_content (Some c) some = refl

-- the index of the records at their new places
pub moved-index : (index : Index) (place : ℕ) (ps : List Placed) → All HasContent ps → with_all index (moved_entries place (map entry_of ps)) ≡ index_from index (moved place ps)
moved-index index place ps all = ap (with_all index) (moved-records place ps) ∙ with_all-records index (moved place ps) (moved-content place ps all)

index_bytes-records : (ps : List Placed) → index_bytes (map entry_of ps) ≡ flat_map (λ p. entry_bytes (entry_of p)) ps
index_bytes-records [] = refl
index_bytes-records (p ∷ ps) = ap (λ l. entry_bytes (entry_of p) ++ l) (index_bytes-records ps)

pub moved-bytes : (place : ℕ) (ps : List Placed) → index_bytes (moved_entries place (map entry_of ps)) ≡ flat_map (λ p. entry_bytes (entry_of p)) (moved place ps)
moved-bytes place ps = ap index_bytes (moved-records place ps) ∙ index_bytes-records (moved place ps)

pub copied-records : (dat : List ℕ) (ps : List Placed) → All (StandsIn dat) ps → copied dat (map entry_of ps) ≡ flat_map (own_bytes dat) ps
copied-records dat [] all = refl
copied-records dat (p ∷ ps) all =
    let long = own_length p in
    let place = entry_of-place p (All-head (StandsIn dat) p ps all).in_eights in
    λ i. take (long i) (drop (place i) dat) ++ copied-records dat ps (All-tail (StandsIn dat) p ps all) i

-- the first eight bytes tell the super block
pub raised-front : (dat : List ℕ) → 8 ≤ length dat → raised (take 8 dat) ≡ raised dat
unfolding number_of bytes_of
raised-front (a ∷ b ∷ c ∷ d ∷ e ∷ f ∷ g ∷ h ∷ rest) long = refl
raised-front _ long = absurd (omega arith)

-- ---- places

-- the first begins here or later, and each other one where the one before it ends or later
abbrev pub Apart : ℕ → List Placed → Type 0
Apart end [] = Unit {0}
Apart end (p ∷ ps) = (end ≤ p.0) × Apart (p.0 + length_of_record p.1) ps

pub apart-records : (place : ℕ) (bytes : List ℕ) (ps : List Placed) → AreRecords place bytes ps → Apart place ps
apart-records place bytes [] are = tt
apart-records place bytes (p ∷ ps) (n, at, reads, fits, more) =
    let same : place + n ≡ p.0 + length_of_record p.1 = omega (arith, at, found-length bytes (p.1, n) reads) in
    (omega (arith, at), subst (λ m. Apart m ps) same (apart-records (place + n) (drop n bytes) ps more))

apart-less : (a b : ℕ) (ps : List Placed) → a ≤ b → Apart b ps → Apart a ps
apart-less a b [] le h = tt
apart-less a b (p ∷ ps) le h = (omega (arith, le, h.0), h.1)

pub apart-live : (end : ℕ) (ps : List Placed) → Apart end ps → Apart end (live_records ps)
unfolding live_records
apart-live end [] h = tt
apart-live end (p ∷ ps) h = by_live (is_live p ps) (apart-live (p.0 + length_of_record p.1) ps h.1)
  where
    by_live : (b : Bool) → Apart (p.0 + length_of_record p.1) (live_records ps) → Apart end (cond b (p ∷ live_records ps) (live_records ps))
    by_live true rest = (h.0, rest)
    by_live false rest = apart-less end (p.0 + length_of_record p.1) (live_records ps) (omega (arith, h.0)) rest

module _ (dat : List ℕ) where
  -- so no record overlaps the one before it
  pub overlap-none : (end : ℕ) (ps : List Placed) → All (StandsIn dat) ps → Apart end ps → overlap end (map entry_of ps) ≡ None
  unfolding overlap
  overlap-none end [] all h = refl
  overlap-none end (p ∷ ps) all h =
      let eights = (All-head (StandsIn dat) p ps all).in_eights in
      let place = entry_of-place p eights in
      ap (λ b. cond b (damage_of what.End end (8 * (entry_of p).offset)) (overlap (entry_end (entry_of p)) (map entry_of ps))) (le-ltb (8 * (entry_of p).offset) end (omega (arith, h.0, place)))
      ∙ ap (λ n. overlap n (map entry_of ps)) (entry_of-end p eights)
      ∙ overlap-none (p.0 + length_of_record p.1) ps (All-tail (StandsIn dat) p ps all) h.1

  -- and each begins behind
  above : (end : ℕ) (ps : List Placed) → All (StandsIn dat) ps → Apart end ps → All (λ (e : Entry). end ≤ 8 * e.offset) (map entry_of ps)
  above end [] all h = All-nil (λ (e : Entry). end ≤ 8 * e.offset)
  above end (p ∷ ps) all h =
      All-cons (λ (e : Entry). end ≤ 8 * e.offset) (entry_of p) (map entry_of ps) (omega (arith, h.0, entry_of-place p (All-head (StandsIn dat) p ps all).in_eights))
      (All-weaker (λ (e : Entry). p.0 + length_of_record p.1 ≤ 8 * e.offset) (λ (e : Entry). end ≤ 8 * e.offset) (λ e more. omega (arith, h.0, more)) (map entry_of ps)
      (above (p.0 + length_of_record p.1) ps (All-tail (StandsIn dat) p ps all) h.1))

  pub behind : (p : Placed) (ps : List Placed) → StandsIn dat p → All (StandsIn dat) ps → Apart (p.0 + length_of_record p.1) ps → All (λ (e : Entry). (entry_of p).offset < e.offset) (map entry_of ps)
  behind p ps stands all h =
      All-weaker (λ (e : Entry). p.0 + length_of_record p.1 ≤ 8 * e.offset) (λ (e : Entry). (entry_of p).offset < e.offset)
      (λ e more. omega (arith, more, entry_of-place p stands.in_eights, length_of_record-least p.1)) (map entry_of ps) (above (p.0 + length_of_record p.1) ps all h)

  -- ---- headers

  header-right : (p : Placed) → StandsIn dat p → header_damage dat (entry_of p) ≡ None
  unfolding header_damage
  header-right p stands =
      let e : Entry = entry_of p in
      let bytes : List ℕ = bytes_from dat e in
      let found : Record × ℕ = (p.1, length_of_record p.1) in
      let reads : needle_at bytes ≡ Ok found = ap (λ n. needle_at (drop n dat)) (entry_of-place p stands.in_eights) ∙ stands.reads in
      let head : HasHeader p.1 bytes = subst (HasHeader p.1) (take_all (length bytes) bytes (omega arith)) (header-take bytes found (length bytes) reads (found-whole bytes found reads).has_header) in
      let within : nat_lt (length dat) (entry_end e) ≡ false = le-ltb (length dat) (entry_end e) (omega (arith, entry_of-end p stands.in_eights, stands.within)) in
      let id : (number_of 8 (drop 4 bytes) == e.id) ≡ true = eq-eqb _ _ head.id in
      let size : (size_at bytes == fields_size e.size) ≡ true = eq-eqb _ _ (head.size ∙ sym (own_size p)) in
      λ i. if within i then damage_of what.End (entry_end e) (length dat)
      else if not (id i) then damage_of what.Id e.id (number_of 8 (drop 4 bytes))
      else if not (size i) then damage_of what.Size (fields_size e.size) (size_at bytes)
      else None

  pub headers-right : (ps : List Placed) → All (StandsIn dat) ps → headers_damage dat (map entry_of ps) ≡ None
  unfolding headers_damage
  headers-right [] all = refl
  headers-right (p ∷ ps) all =
      ap (λ d. first_damage d (headers_damage dat (map entry_of ps))) (header-right p (All-head (StandsIn dat) p ps all)) ∙ headers-right ps (All-tail (StandsIn dat) p ps all)
