-- The bytes at an entry's place, of which the first ones were read.
use Rattle.std.proofs.Common.{◌≡◌, ℕ, ◌+◌, ◌-◌, ◌*◌, ◌%◌, ◌≤◌, List, ◌++◌, length, take, drop, Bool, true, false, cond, Option, Some, None, Result, Ok, Err, refl, sym, ◌∙◌, ap, arith}
use Rattle.std.specs.Prelude.{◌==◌, not}
use Rattle.std.proofs.lemmas.List.{take-append-le, drop-append-le, length-drop, length-take, take-append-drop}
use Rattle.std.proofs.Math.ListN.{length-append}
use Rattle.std.proofs.lemmas.Bool.{lt-ltb, le-ltb, eqb-true}
use Rattle.wire_num.specs.Numbers.{number_of, record_length}
use Rattle.wire_num.specs.Laws.Number.{number_of-append}
use Rattle.world_model.specs.declared.types.What.{What}
use Rattle.world_model.specs.declared.types.What.TheVariants as what
use Rattle.volume_forms.specs.declared.Entry.{Entry}
use Rattle.volume_forms.specs.Kept.{fields_size, entry_end}
use Rattle.needle_record.specs.declared.Record.{Record}
use Rattle.needle_record.specs.declared.NeedleFault.{NeedleFault}
use Rattle.needle_record.specs.declared.NeedleFault.TheVariants as fault
use Rattle.needle_record.specs.Given.{Gives}
use Rattle.needle_record.specs.Spelling.{length_of_record}
use Rattle.needle_record.specs.Laws.Spelling.{found-length}
use Rattle.needle_record.specs.Reading.{needle_at, needle_of, size_at, length_at, HasWholeRecord}
use Rattle.needle_record.specs.Laws.Fronts.{size_at-append, needle_at-whole}
use Rattle.dat_volume.specs.declared.fault.GetFault.{GetFault}
use Rattle.dat_volume.specs.declared.fault.GetFault.TheVariants as get_fault
use Rattle.dat_volume.specs.Needles.{Damage, damage_of, bytes_from, header_damage, reading_damage, first_damage, record_damage, TellsDamage, HasDifference, IsNoDamage}
use Rattle.dat_volume.specs.Reading.{front_damage, Tells, TellsEnd}

-- ---- headers

-- sixteen bytes tell the header's damage
front_same : (bytes more : List ℕ) (e : Entry) → 16 ≤ length bytes → front_damage (bytes ++ more) e ≡ front_damage bytes e
unfolding front_damage
front_same bytes more e long =
    let id : number_of 8 (drop 4 (bytes ++ more)) ≡ number_of 8 (drop 4 bytes) =
    ap (number_of 8) (drop-append-le 4 bytes more (omega arith)) ∙ number_of-append 8 (drop 4 bytes) more (omega (arith, length-drop 4 bytes)) in
    let size : size_at (bytes ++ more) ≡ size_at bytes = size_at-append bytes more long in
    ap (λ n. cond (not (n == e.id)) (damage_of what.Id e.id n) (cond (not (size_at (bytes ++ more) == fields_size e.size)) (damage_of what.Size (fields_size e.size) (size_at (bytes ++ more))) None)) id
    ∙ ap (λ n. cond (not (number_of 8 (drop 4 bytes) == e.id)) (damage_of what.Id e.id (number_of 8 (drop 4 bytes))) (cond (not (n == fields_size e.size)) (damage_of what.Size (fields_size e.size) n) None)) size

pub front_taken : (n : ℕ) (bytes : List ℕ) (e : Entry) → 16 ≤ n → n ≤ length bytes → front_damage bytes e ≡ front_damage (take n bytes) e
front_taken n bytes e least most =
    ap (λ l. front_damage l e) (sym (take-append-drop n bytes)) ∙ front_same (take n bytes) (drop n bytes) e (omega (arith, length-take n bytes))

-- a file that is long enough has the damage of its header
pub header_within : (dat : List ℕ) (e : Entry) → entry_end e ≤ length dat → header_damage dat e ≡ front_damage (bytes_from dat e) e
unfolding header_damage front_damage
header_within dat e within = rw (le-ltb (length dat) (entry_end e) within) refl

-- the first bytes of the record were read
pub head_damage : (dat read : List ℕ) (e : Entry) (n : ℕ) → 16 ≤ n → n ≤ record_length (fields_size e.size) → entry_end e ≤ length dat
    → read ≡ take n (bytes_from dat e) → header_damage dat e ≡ front_damage read e
head_damage dat read e n least most within same =
    header_within dat e within ∙ front_taken n (bytes_from dat e) e least (omega (arith, length-drop (8 * e.offset) dat)) ∙ ap (λ l. front_damage l e) (sym same)

-- they have the entry's size
size_by : (a b : Bool) (id size : ℕ) (x y : ℕ) → (size == y) ≡ b → cond (not a) (damage_of what.Id id x) (cond (not b) (damage_of what.Size y size) None) ≡ None → size ≡ y
size_by false b id size x y p h = absurd cc
size_by true false id size x y p h = absurd cc
size_by true true id size x y p h = eqb-true _ _ p

pub head_size : (bytes : List ℕ) (e : Entry) → front_damage bytes e ≡ None → size_at bytes ≡ fields_size e.size
unfolding front_damage
head_size bytes e none = size_by _ _ e.id (size_at bytes) (number_of 8 (drop 4 bytes)) (fields_size e.size) refl none

-- so a record's own bytes are a whole one
pub head_whole : (bytes : List ℕ) (e : Entry) → front_damage bytes e ≡ None → length bytes ≡ record_length (fields_size e.size) → HasWholeRecord bytes
head_whole bytes e none long =
    let same : length_at bytes ≡ record_length (fields_size e.size) = ap (λ n. (28 + n) + (8 - (28 + n) % 8)) (head_size bytes e none) in
    record { has_header = omega arith; has_end = omega arith }

-- ---- answers

-- a file that ends before the record
pub end_told : (dat : List ℕ) (e : Entry) (fault : GetFault) → TellsEnd (entry_end e) (length dat) fault → TellsDamage (header_damage dat) (Some e) fault
unfolding header_damage
end_told dat e (get_fault.Fault device) h = tt
end_told dat e (get_fault.Damaged w a b) h = (e, refl, rw (lt-ltb (length dat) (entry_end e) h.3) (rw (h.0, h.1, h.2) refl))
end_told dat e get_fault.Memory h = tt

pub header_told : (dat read : List ℕ) (e : Entry) (fault : GetFault) → header_damage dat e ≡ front_damage read e → Tells (front_damage read e) fault → TellsDamage (header_damage dat) (Some e) fault
header_told dat read e (get_fault.Fault device) same h = tt
header_told dat read e (get_fault.Damaged w a b) same h = (e, refl, same ∙ h)
header_told dat read e get_fault.Memory same h = tt

pub none_told : (damage : Entry → Option Damage) (e : Entry) (fault : GetFault) → IsNoDamage fault → HasDifference fault × TellsDamage damage (Some e) fault
none_told damage e (get_fault.Fault device) h = (tt, tt)
none_told damage e (get_fault.Damaged w a b) h = absurd h
none_told damage e get_fault.Memory h = (tt, tt)

-- ---- records

-- what is read of a whole record is the same, whatever follows
whole_same : (bytes more : List ℕ) → HasWholeRecord bytes → needle_at (bytes ++ more) ≡ needle_at bytes
whole_same bytes more w =
    let size : size_at (bytes ++ more) ≡ size_at bytes = size_at-append bytes more w.has_header in
    let longer : HasWholeRecord (bytes ++ more) = record { has_header = omega (arith, w.has_header, length-append bytes more); has_end = rw size (omega (arith, w.has_end, length-append bytes more)) } in
    needle_at-whole (bytes ++ more) longer
    ∙ ap (λ n. needle_of n (take (length_at (bytes ++ more)) (bytes ++ more))) size
    ∙ ap (λ n. needle_of (size_at bytes) (take n (bytes ++ more))) (ap (λ n. (28 + n) + (8 - (28 + n) % 8)) size)
    ∙ ap (needle_of (size_at bytes)) (take-append-le (length_at bytes) bytes more w.has_end)
    ∙ sym (needle_at-whole bytes w)

-- what a record's own bytes give is what stands at the entry's place
pub own_bytes : (dat read : List ℕ) (e : Entry) → front_damage read e ≡ None → length read ≡ record_length (fields_size e.size)
    → read ≡ take (record_length (fields_size e.size)) (bytes_from dat e) → needle_at (bytes_from dat e) ≡ needle_at read
own_bytes dat read e none long same =
    ap needle_at (sym (take-append-drop (record_length (fields_size e.size)) (bytes_from dat e)) ∙ ap (λ l. l ++ drop (record_length (fields_size e.size)) (bytes_from dat e)) (sym same))
    ∙ whole_same read (drop (record_length (fields_size e.size)) (bytes_from dat e)) (head_whole read e none long)

-- and is as long as its record
pub own_length : (read : List ℕ) (r : Record) (n : ℕ) → needle_at read ≡ Ok (r, n) → needle_at read ≡ Ok (r, length_of_record r)
own_length read r n found = let same : n ≡ length_of_record r = found-length read (r, n) found in found ∙ ap (λ k. Ok (r, k)) same

given_damage : (why : NeedleFault) (r : Result (Record × ℕ) NeedleFault) (w : What) (a b : ℕ) → Gives (Err why) r → reading_damage (Err why) ≡ damage_of w a b → reading_damage r ≡ damage_of w a b
given_damage fault.Short r w a b given h = ap reading_damage given ∙ h
given_damage (fault.SizeMismatch size taken) r w a b given h = ap reading_damage given ∙ h
given_damage (fault.Checksum stored computed) r w a b given h = ap reading_damage given ∙ h
given_damage (fault.EmptyBody size) r w a b given h = ap reading_damage given ∙ h
given_damage (fault.TooLarge long) r w a b given h = ap reading_damage given ∙ h
given_damage fault.Memory r w a b given h = absurd cc

-- why a record isn't read, where its header is the entry's
pub reading_told : (dat : List ℕ) (e : Entry) (why : NeedleFault) (fault : GetFault) → header_damage dat e ≡ None → Gives (Err why) (needle_at (bytes_from dat e))
    → Tells (reading_damage (Err why)) fault → TellsDamage (record_damage dat) (Some e) fault
reading_told dat e why (get_fault.Fault device) header given h = tt
reading_told dat e why (get_fault.Damaged w a b) header given h =
    (e, refl, ap (λ d. first_damage d (reading_damage (needle_at (bytes_from dat e)))) header ∙ given_damage why (needle_at (bytes_from dat e)) w a b given h)
reading_told dat e why get_fault.Memory header given h = tt

-- ---- places

-- a record ends where its entry says
pub placed_end : (e : Entry) (at long : ℕ) → at ≡ 8 * e.offset → long ≡ record_length (fields_size e.size) → at + long ≡ entry_end e
placed_end e at long p q = ap (λ n. n + long) p ∙ ap (λ n. 8 * e.offset + n) q

-- and its bytes stand at the entry's place
pub placed_bytes : (file dat read : List ℕ) (e : Entry) (at n : ℕ) → read ≡ take n (drop at file) → file ≡ dat → at ≡ 8 * e.offset → read ≡ take n (bytes_from dat e)
placed_bytes file dat read e at n p q r = p ∙ ap (λ l. take n (drop at l)) q ∙ ap (λ k. take n (drop k dat)) r

-- ---- numbers

-- the first bytes that were read tell a number at the place
pub head_number : (n m : ℕ) (bytes read : List ℕ) → n ≤ length read → read ≡ take m bytes → number_of n bytes ≡ number_of n read
head_number n m bytes read long same =
    ap (number_of n) (sym (take-append-drop m bytes) ∙ ap (λ l. l ++ drop m bytes) (sym same)) ∙ number_of-append n read (drop m bytes) long
