-- The two files that a vacuum makes are exact: the live records at their new places, and their entries.
use Rattle.std.proofs.Common.{◌≡◌, ℕ, ◌+◌, ◌*◌, ◌≤◌, List, [], ◌∷◌, ◌++◌, length, map, take, drop, flat_map, IsTrue, Option, Some, None, Ok, All, refl, sym, ◌∙◌, ap, subst, arith}
use Rattle.std.specs.Prelude.{IfSome, MatchOption}
use Rattle.std.specs.Int.{w32, cast_unsigned}
use Rattle.std.proofs.lemmas.List.{append-nil, length-append, length-take-le, length-drop, drop_at, take-append-drop}
use Rattle.std.proofs.lemmas.List.Elements.{All-head, All-tail, All-weaker}
use Rattle.wire_num.specs.Numbers.{bytes_of}
use Rattle.wire_num.specs.Laws.Number.{AreBytes, bytes_drop, length-bytes_of}
use Rattle.world_model.specs.declared.types.Content.{Content}
use Rattle.world_model.specs.Sizes.{FitsRecord, max_dat}
use Rattle.volume_forms.specs.declared.Entry.{Entry}
use Rattle.volume_forms.specs.Forms.{entries, entries_within, entry_bytes, has_super}
use Rattle.volume_forms.specs.Laws.Entry.{entries-append}
use Rattle.needle_record.specs.declared.Record.{Record}
use Rattle.needle_record.specs.Spelling.{HasRoom, SpellsNeedle, SpellsDeletion, SpellsContent, length_of_record}
use Rattle.needle_record.specs.Reading.{needle_at}
use Rattle.needle_record.specs.Records.{Placed, records, records_from, end_from, end_of, entry_of, AreRecords, StandsIn}
use Rattle.needle_record.specs.Laws.Records.{records_from-append, records_from-nothing, records-stand, whole_dat-records}
use Rattle.needle_record.specs.Laws.Spelling.{found-spelled, needle_at-append, needle_at-take, found-length, found-within, length_of_record-least}
use Rattle.image_meaning.specs.Plain.{IsExact}
use Rattle.image_meaning.specs.Laws.Plain.{entries-one, has_super-front, has_super-long}
use Rattle.volume_vacuum.specs.Live.{live_records, moved, vacuumed, own_bytes, raised, new_dat, new_idx}
use Rattle.volume_vacuum.specs.Laws.Lives.{room_of, live-all, live-room}

-- ---- the super block

length-raised : (dat : List ℕ) → 8 ≤ length dat → length (raised dat) ≡ 8
unfolding bytes_of
length-raised (a ∷ b ∷ c ∷ d ∷ e ∷ f ∷ g ∷ h ∷ rest) long = refl
length-raised _ long = absurd (omega arith)

super_raised : (dat : List ℕ) → 8 ≤ length dat → has_super (raised dat) ≡ has_super (take 8 dat)
unfolding has_super bytes_of
super_raised (a ∷ b ∷ c ∷ d ∷ e ∷ f ∷ g ∷ h ∷ rest) long = refl
super_raised _ long = absurd (omega arith)

pub new_dat-super : (dat : List ℕ) (ps : List Placed) → IsTrue (has_super dat) → IsTrue (has_super (new_dat dat ps))
unfolding new_dat
new_dat-super dat ps super =
    let long = has_super-long dat super in
    has_super-front (raised dat) (flat_map (own_bytes dat) (live_records ps)) (omega (arith, length-raised dat long))
    ∙ super_raised dat long
    ∙ sym (has_super-front (take 8 dat) (drop 8 dat) (omega (arith, length-take-le 8 dat long)))
    ∙ ap has_super (take-append-drop 8 dat) ∙ super

-- ---- the records

-- the records end where the room for them does
moved-end : (place : ℕ) (ps : List Placed) → end_from place (moved place ps) ≡ place + room_of ps
unfolding moved
moved-end place [] = omega arith
moved-end place (p ∷ ps) = moved-end (place + length_of_record p.1) ps ∙ omega arith

module _ (dat : List ℕ) where
  length-own : (p : Placed) → StandsIn dat p → length (own_bytes dat p) ≡ length_of_record p.1
  length-own p stands = length-take-le (length_of_record p.1) (drop p.0 dat) (omega (arith, length-drop p.0 dat, stands.within))

  own-reads : (p : Placed) → StandsIn dat p → needle_at (own_bytes dat p) ≡ Ok (p.1, length_of_record p.1)
  own-reads p stands = needle_at-take (drop p.0 dat) (p.1, length_of_record p.1) (length_of_record p.1) stands.reads (omega arith)

  pub copies-long : (ps : List Placed) → All (StandsIn dat) ps → length (flat_map (own_bytes dat) ps) ≡ room_of ps
  copies-long [] all = refl
  copies-long (p ∷ ps) all =
      length-append (own_bytes dat p) (flat_map (own_bytes dat) ps)
      ∙ (λ i. length-own p (All-head (StandsIn dat) p ps all) i + copies-long ps (All-tail (StandsIn dat) p ps all) i)

  copies-records : (place : ℕ) (ps : List Placed) → All (StandsIn dat) ps → place + room_of ps ≤ max_dat → AreRecords place (flat_map (own_bytes dat) ps) (moved place ps)
  unfolding moved
  copies-records place [] all fits = refl
  copies-records place (p ∷ ps) all fits =
      let stands = All-head (StandsIn dat) p ps all in
      let more = flat_map (own_bytes dat) ps in (
        length_of_record p.1,
        refl,
        needle_at-append (own_bytes dat p) more (p.1, length_of_record p.1) (own-reads p stands),
        omega arith,
        subst (λ rest. AreRecords (place + length_of_record p.1) rest (moved (place + length_of_record p.1) ps)) (sym (drop_at (own_bytes dat p) more (length_of_record p.1) (length-own p stands)))
            (copies-records (place + length_of_record p.1) ps (All-tail (StandsIn dat) p ps all) (omega arith)),
      )

-- records one after the other use the room of each, and end within the greatest length
are-room : (place : ℕ) (bytes : List ℕ) (qs : List Placed) → AreRecords place bytes qs → place ≤ max_dat → (room_of qs ≡ length bytes) × (place + length bytes ≤ max_dat)
are-room place bytes [] are least = (sym (ap length are), omega (arith, ap length are, least))
are-room place bytes (q ∷ qs) (n, at, reads, fits, more) least =
    let same : n ≡ length_of_record q.1 = found-length bytes (q.1, n) reads in
    let rest = are-room (place + n) (drop n bytes) qs more fits in
    let inside : n ≤ length bytes = found-within bytes (q.1, n) reads in
    (omega (arith, same, rest.0, length-drop n bytes, inside), omega (arith, rest.1, length-drop n bytes, inside))

-- ---- the entries

length-entry_bytes : (e : Entry) → length (entry_bytes e) ≡ 16
length-entry_bytes e =
    length-append (bytes_of 8 e.id ++ bytes_of 4 e.offset) (bytes_of 4 (cast_unsigned w32 e.size))
    ∙ ap (λ n. n + length (bytes_of 4 (cast_unsigned w32 e.size))) (length-append (bytes_of 8 e.id) (bytes_of 4 e.offset))
    ∙ λ i. length-bytes_of 8 e.id i + length-bytes_of 4 e.offset i + length-bytes_of 4 (cast_unsigned w32 e.size) i

abbrev index_bytes : List Placed → List ℕ
index_bytes ps = flat_map (λ p. entry_bytes (entry_of p)) ps

index-long : (ps : List Placed) → length (index_bytes ps) ≡ 16 * length ps
index-long [] = refl
index-long (p ∷ ps) = length-append (entry_bytes (entry_of p)) (index_bytes ps) ∙ omega (arith, length-entry_bytes (entry_of p), index-long ps)

-- what a record that was read can have
CanStand : Record → Type 0
CanStand r = HasRoom r × IfSome r.content FitsRecord

can_stand : (dat : List ℕ) (p : Placed) → AreBytes dat → StandsIn dat p → CanStand p.1
unfolding CanStand
can_stand dat p bytes stands = by_content p.1.content refl
  where
    spelled : SpellsNeedle p.1 (take (length_of_record p.1) (drop p.0 dat))
    spelled = found-spelled (drop p.0 dat) (p.1, length_of_record p.1) (bytes_drop p.0 dat bytes) stands.reads

    by_content : (o : Option Content) → p.1.content ≡ o → HasRoom p.1 × IfSome p.1.content FitsRecord
    by_content None e = (spelled.0, subst (λ (o : Option Content). IfSome o FitsRecord) (sym e) tt)
    by_content (Some c) e = (
      spelled.0,
      subst (λ (o : Option Content). IfSome o FitsRecord) (sym e)
          (subst (λ (o : Option Content). MatchOption o (SpellsDeletion p.1 (take (length_of_record p.1) (drop p.0 dat))) (λ c. SpellsContent p.1 c (take (length_of_record p.1) (drop p.0 dat)))) e spelled.1).fits,
    )

moved-entries : (place : ℕ) (ps : List Placed) → All (λ p. CanStand p.1) ps → place + room_of ps ≤ max_dat → entries (index_bytes (moved place ps)) ≡ map entry_of (moved place ps)
unfolding moved CanStand entries entries_within
moved-entries place [] all fits = refl
moved-entries place (p ∷ ps) all fits =
    let can = All-head (λ (q : Placed). CanStand q.1) p ps all in
    let q : Placed = (place, p.1) in
    let next = place + length_of_record p.1 in
    entries-append 1 (entry_bytes (entry_of q)) (index_bytes (moved next ps)) (length-entry_bytes (entry_of q))
    ∙ (λ i. entries-one q can.0 can.1 (omega (arith, fits, length_of_record-least p.1)) i ++ moved-entries next ps (All-tail (λ (q : Placed). CanStand q.1) p ps all) (omega arith) i)

-- ---- both files

module _ (dat idx : List ℕ) (ps : List Placed) (exact : IsExact dat idx ps) where
  room : (room_of ps ≡ length (drop 8 dat)) × (8 + length (drop 8 dat) ≤ max_dat)
  room = are-room 8 (drop 8 dat) ps (subst (AreRecords 8 (drop 8 dat)) exact.has (whole_dat-records dat exact.whole)) (omega arith)

  stand : All (StandsIn dat) (live_records ps)
  stand = live-all (StandsIn dat) ps (subst (All (StandsIn dat)) exact.has (records-stand dat exact.whole.super))

  most : 8 + room_of (live_records ps) ≤ max_dat
  most = omega (arith, live-room ps, room.0, room.1)

  abbrev copies : List ℕ
  copies = flat_map (own_bytes dat) (live_records ps)

  pub length-new_dat : length (new_dat dat ps) ≡ 8 + room_of (live_records ps)
  unfolding new_dat
  length-new_dat = length-append (raised dat) copies ∙ (λ i. length-raised dat exact.whole.super i + copies-long dat (live_records ps) stand i)

  new_records : records (new_dat dat ps) ≡ vacuumed ps
  unfolding records new_dat
  new_records =
      ap (records_from 8) (drop_at (raised dat) copies 8 (length-raised dat exact.whole.super) ∙ sym (append-nil copies))
      ∙ records_from-append 8 copies [] (vacuumed ps) (copies-records dat 8 (live_records ps) stand most)
      ∙ ap (λ rest. vacuumed ps ++ rest) (records_from-nothing (8 + length copies))
      ∙ append-nil (vacuumed ps)

  pub vacuumed-exact : AreBytes dat → IsExact (new_dat dat ps) (new_idx ps) (vacuumed ps)
  unfolding new_idx
  vacuumed-exact bytes = record {
    whole = record {
      super = omega (arith, length-new_dat);
      to_end = ap end_of new_records ∙ moved-end 8 (live_records ps) ∙ sym length-new_dat;
    };
    has = new_records;
    index = moved-entries 8 (live_records ps) (All-weaker (StandsIn dat) (λ (p : Placed). CanStand p.1) (λ p. can_stand dat p bytes) (live_records ps) stand) most;
    index_length = index-long (vacuumed ps);
  }
