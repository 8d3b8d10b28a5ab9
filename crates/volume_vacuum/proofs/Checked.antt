-- The header that was read at an entry's place, and the damage that it tells.
use Rattle.std.proofs.Common.{◌≡◌, ℕ, ◌+◌, ◌*◌, ◌<◌, ◌≤◌, List, [], ◌∷◌, ◌++◌, length, take, drop, Bool, true, false, cond, Option, Some, None, Result, Ok, Err, IfErr, refl, sym, ◌∙◌, ap, subst, arith}
use Rattle.std.specs.Prelude.{◌==◌, not, nat_lt, unwrap_or}
use Rattle.std.proofs.lemmas.Bool.{lt-ltb, le-ltb, ltb-false}
use Rattle.std.proofs.lemmas.List.{drop-append-le, length-drop, length-take, take-append-drop}
use Rattle.site_model.specs.Disk.{File, bytes_of, size_of}
use Rattle.wire_num.specs.Numbers.{number_of, record_length}
use Rattle.wire_num.specs.Laws.Number.{number_of-append}
use Rattle.world_model.specs.declared.types.What.TheVariants as what
use Rattle.volume_forms.specs.declared.Entry.{Entry}
use Rattle.volume_forms.specs.Kept.{fields_size, entry_end}
use Rattle.needle_record.specs.Reading.{size_at}
use Rattle.dat_volume.specs.declared.fault.GetFault.{GetFault}
use Rattle.dat_volume.specs.declared.fault.GetFault.TheVariants as get_fault
use Rattle.dat_volume.specs.Causes.{ReadBlamesServer}
use Rattle.dat_volume.specs.Needles.{Damage, damage_of, bytes_from, header_damage, first_damage}
use Rattle.dat_volume.specs.Reading.{front_damage, Tells}
use Rattle.volume_vacuum.specs.Copies.{EndWithin, headers_damage, TellsFirst}

-- the length of a file, by its size
pub sized : (file : Option File) (n : Option ℕ) → n ≡ size_of file → unwrap_or n 0 ≡ length (bytes_of file)
sized None n is = ap (λ (o : Option ℕ). unwrap_or o 0) is
sized (Some file) n is = ap (λ (o : Option ℕ). unwrap_or o 0) is

-- ---- one header

front_same : (bytes more : List ℕ) (e : Entry) → 16 ≤ length bytes → front_damage (bytes ++ more) e ≡ front_damage bytes e
unfolding front_damage
front_same bytes more e long =
    let id : number_of 8 (drop 4 (bytes ++ more)) ≡ number_of 8 (drop 4 bytes) =
    ap (number_of 8) (drop-append-le 4 bytes more (omega arith)) ∙ number_of-append 8 (drop 4 bytes) more (omega (arith, length-drop 4 bytes)) in
    let size : size_at (bytes ++ more) ≡ size_at bytes =
    ap (number_of 4) (drop-append-le 12 bytes more (omega arith)) ∙ number_of-append 4 (drop 12 bytes) more (omega (arith, length-drop 12 bytes)) in
    λ i. cond (not (id i == e.id)) (damage_of what.Id e.id (id i)) (cond (not (size i == fields_size e.size)) (damage_of what.Size (fields_size e.size) (size i)) None)

-- a record that ends within the data file has the damage of its header
header_within : (dat : List ℕ) (e : Entry) → entry_end e ≤ length dat → header_damage dat e ≡ front_damage (bytes_from dat e) e
unfolding header_damage front_damage
header_within dat e within = rw (le-ltb (length dat) (entry_end e) within) refl

pub read_damage : (dat read : List ℕ) (e : Entry) → entry_end e ≤ length dat → read ≡ take 16 (bytes_from dat e) → header_damage dat e ≡ front_damage read e
read_damage dat read e within is =
    let bytes : List ℕ = bytes_from dat e in
    header_within dat e within
    ∙ ap (λ l. front_damage l e) (sym (take-append-drop 16 bytes))
    ∙ front_same (take 16 bytes) (drop 16 bytes) e (omega (arith, length-take 16 bytes, length-drop (8 * e.offset) dat, within))
    ∙ ap (λ l. front_damage l e) (sym is)

-- one that ends behind it
pub past_damage : (dat : List ℕ) (e : Entry) → length dat < entry_end e → header_damage dat e ≡ damage_of what.End (entry_end e) (length dat)
unfolding header_damage
past_damage dat e past = rw (lt-ltb (length dat) (entry_end e) past) refl

-- where nothing is damaged the record ends within
pub right_within : (dat : List ℕ) (e : Entry) → header_damage dat e ≡ None → entry_end e ≤ length dat
unfolding header_damage
right_within dat e none = by_test (nat_lt (length dat) (entry_end e)) refl none
  where
    by_test : (b : Bool) → nat_lt (length dat) (entry_end e) ≡ b
        → cond b (damage_of what.End (entry_end e) (length dat))
        (cond (not (number_of 8 (drop 4 (bytes_from dat e)) == e.id)) (damage_of what.Id e.id (number_of 8 (drop 4 (bytes_from dat e))))
        (cond (not (size_at (bytes_from dat e) == fields_size e.size)) (damage_of what.Size (fields_size e.size) (size_at (bytes_from dat e))) None))
        ≡ None → entry_end e ≤ length dat
    by_test true p none = absurd cc
    by_test false p none = ltb-false (length dat) (entry_end e) p

-- what is told
pub told_first : (damage : Option Damage) (fault : GetFault) → Tells damage fault → TellsFirst damage fault
told_first damage (get_fault.Fault device) h = tt
told_first damage (get_fault.Damaged w a b) h = h
told_first damage get_fault.Memory h = tt

pub told_same : (a b : Option Damage) (fault : GetFault) → a ≡ b → TellsFirst b fault → TellsFirst a fault
told_same a b fault same h = subst (λ d. TellsFirst d fault) (sym same) h

-- ---- all of them

-- those before these are right
pub record AreRight (dat : List ℕ) (entries rest : List Entry) : Type 0 where
  pub same : headers_damage dat rest ≡ headers_damage dat entries

pub right_more : {dat : List ℕ} {entries rest more : List Entry} (e : Entry) → rest ≡ e ∷ more → header_damage dat e ≡ None → AreRight dat entries rest → AreRight dat entries more
unfolding headers_damage
right_more {dat} {entries} {rest} {more} e is none so_far = record { same = sym (ap (λ d. first_damage d (headers_damage dat more)) none) ∙ ap (headers_damage dat) (sym is) ∙ so_far.same }

pub right_all : {dat : List ℕ} {entries rest : List Entry} → rest ≡ [] → AreRight dat entries rest → headers_damage dat entries ≡ None
unfolding headers_damage
right_all {dat} is so_far = sym so_far.same ∙ ap (headers_damage dat) is

-- one is damaged
pub wrong_one : {dat : List ℕ} {entries rest more : List Entry} (e : Entry) (fault : GetFault) → rest ≡ e ∷ more → TellsFirst (header_damage dat e) fault → AreRight dat entries rest → TellsFirst (headers_damage dat entries) fault
unfolding headers_damage
wrong_one {dat} e (get_fault.Fault device) is told so_far = tt
wrong_one {dat} {entries} {rest} {more} e (get_fault.Damaged w a b) is told so_far =
    sym so_far.same ∙ ap (headers_damage dat) is ∙ ap (λ d. first_damage d (headers_damage dat more)) told
wrong_one {dat} e get_fault.Memory is told so_far = tt

first_none : (a b : Option Damage) → first_damage a b ≡ None → (a ≡ None) × (b ≡ None)
first_none None b e = (refl, e)
first_none (Some d) b e = absurd cc

-- so each ends within the data file
pub headers_within : (dat : List ℕ) (es : List Entry) → headers_damage dat es ≡ None → EndWithin (length dat) es
unfolding headers_damage
headers_within dat [] none = tt
headers_within dat (e ∷ es) none = let parts = first_none (header_damage dat e) (headers_damage dat es) none in (right_within dat e parts.0, headers_within dat es parts.1)

pub both_none : (a b : Option Damage) → a ≡ None → b ≡ None → first_damage a b ≡ None
both_none a b p q = ap (λ d. first_damage d b) p ∙ q

pub second_none : (a b : Option Damage) → first_damage a b ≡ None → b ≡ None
second_none a b e = (first_none a b e).1

-- ---- answers

pub if_err : {X E : Type 0} (r : Result X E) (P Q : E → Type 0) → ((e : E) → P e → Q e) → IfErr r P → IfErr r Q
if_err (Ok x) P Q more h = tt
if_err (Err e) P Q more h = more e h

-- a record ends where its entry says
pub placed_end : (e : Entry) (at long : ℕ) → at ≡ 8 * e.offset → long ≡ record_length (fields_size e.size) → at + long ≡ entry_end e
placed_end e at long p q = λ i. p i + q i

pub past_told : (dat : List ℕ) (e : Entry) (end size : ℕ) (fault : GetFault) → fault ≡ get_fault.Damaged what.End end size → end ≡ entry_end e → size ≡ length dat → size < end → TellsFirst (header_damage dat e) fault
past_told dat e end size fault is ends long past =
    subst (TellsFirst (header_damage dat e)) (sym is) (past_damage dat e (omega (arith, ends, long, past)) ∙ λ i. damage_of what.End (sym ends i) (sym long i))

pub read_right : (dat out : List ℕ) (e : Entry) (at long size : ℕ) → at ≡ 8 * e.offset → long ≡ record_length (fields_size e.size) → size ≡ length dat → at + long ≤ size → out ≡ take 16 (drop at dat) → header_damage dat e ≡ front_damage out e
read_right dat out e at long size at_is long_is size_is within is =
    read_damage dat out e (omega (arith, placed_end e at long at_is long_is, size_is, within)) (is ∙ ap (λ n. take 16 (drop n dat)) at_is)

-- what tells a damage blames no server
pub blameless : (server : ℕ) (damage : Option Damage) (fault : GetFault) → Tells damage fault → ReadBlamesServer server fault
blameless server damage (get_fault.Fault device) h = absurd h
blameless server damage (get_fault.Damaged w a b) h = tt
blameless server damage get_fault.Memory h = tt
