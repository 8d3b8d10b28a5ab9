-- Whether the record at an entry's place is the entry's, by what the readers of records tell.
use Rattle.std.proofs.Common.{◌≡◌, ℕ, ◌*◌, ◌/◌, ◌≤◌, List, length, take, drop, Bool, true, false, cond, ℤ, pos, negsuc, Option, Some, None, Result, Ok, refl, sym, ◌∙◌, ap, subst, arith}
use Rattle.std.specs.Prelude.{◌==◌, not, nat_lt, nat_le, IfOk}
use Rattle.std.proofs.lemmas.Bool.{eqb-true, ne_eqb, ltb-true, le-leb, not-false, and_from, false_from_ne_true, false≢true}
use Rattle.std.proofs.lemmas.List.{take_all}
use Rattle.wire_num.specs.Numbers.{number_of}
use Rattle.world_model.specs.declared.types.What.{What}
use Rattle.volume_forms.specs.declared.Entry.{Entry}
use Rattle.volume_forms.specs.Kept.{fields_size, entry_end, entry_eq}
use Rattle.volume_forms.specs.Laws.Kept.{entry_eq-itself}
use Rattle.needle_record.specs.declared.Record.{Record}
use Rattle.needle_record.specs.Spelling.{record_size, length_of_record}
use Rattle.needle_record.specs.Laws.Spelling.{found-whole, header-take}
use Rattle.needle_record.specs.Reading.{needle_at, size_at, HasHeader}
use Rattle.needle_record.specs.Records.{entry_of}
use Rattle.world_model.specs.Sizes.{max_dat}
use Rattle.site_model.specs.declared.error.OpenFault.{OpenFault}
use Rattle.dat_volume.specs.declared.fault.GetFault.{GetFault}
use Rattle.dat_volume.specs.declared.fault.GetFault.TheVariants as get_fault
use Rattle.dat_volume.specs.Needles.{Damage, damage_of, bytes_from, header_damage, TellsDamage}
use Rattle.dat_volume.specs.Reading.{front_damage}
use Rattle.dat_volume.specs.Opening.{is_size, is_entry_of, has_record}
use Rattle.dat_volume.specs.Laws.Opening.{HasFound, has_found}
use Rattle.dat_volume.specs.Chains.{is_size-entry}
use Rattle.dat_volume.specs.Scanning.{unless_damaged}
use Rattle.dat_volume.proofs.Heads.{front_taken, header_within}
use Rattle.dat_volume.proofs.Live.{header_right}

-- ---- the record is the entry's

module _ (dat : List ℕ) (e : Entry) (has : has_record dat e ≡ true) where
  it : HasFound dat e
  it = has_found dat e has

  -- then the entry's size is one of a record, which ends within the greatest length
  pub own_size : is_size e.size ≡ true
  own_size = ap (λ (x : Entry). is_size x.size) (sym it.its) ∙ is_size-entry (record_size it.found.0)

  -- and nothing is damaged
  pub own_header : header_damage dat e ≡ None
  own_header =
      header_within dat e it.within
      ∙ front_taken 16 (bytes_from dat e) e (omega arith) (found-whole (bytes_from dat e) it.found it.reads).has_header
      ∙ ap (front_damage (take 16 (bytes_from dat e))) (sym it.its)
      ∙ header_right (8 * e.offset, it.found.0) (take 16 (bytes_from dat e)) (header-take (bytes_from dat e) it.found 16 it.reads (omega arith))

-- ---- nothing is damaged

none_of_three : (a b c : Bool) (x y z : Damage) → cond a (Some x) (cond b (Some y) (cond c (Some z) None)) ≡ None → (a ≡ false) × (b ≡ false) × (c ≡ false)
none_of_three true b c x y z h = absurd cc
none_of_three false true c x y z h = absurd cc
none_of_three false false true x y z h = absurd cc
none_of_three false false false x y z h = (refl, refl, refl)

right_header : (dat : List ℕ) (e : Entry) → header_damage dat e ≡ None → (number_of 8 (drop 4 (bytes_from dat e)) ≡ e.id) × (size_at (bytes_from dat e) ≡ fields_size e.size)
unfolding header_damage
right_header dat e none =
    let tests = none_of_three (nat_lt (length dat) (entry_end e)) (not (number_of 8 (drop 4 (bytes_from dat e)) == e.id)) (not (size_at (bytes_from dat e) == fields_size e.size)) _ _ _ none in
    (eqb-true _ _ (not-false _ tests.1), eqb-true _ _ (not-false _ tests.2))

size_own : (n : ℤ) → is_size n ≡ true → cond (fields_size n == 0) (negsuc 0) (pos (fields_size n)) ≡ n
size_own (pos n) is = ap (λ b. cond b (negsuc 0) (pos n)) (ne_eqb n 0 some)
  where
    some : n ≡ 0 → ⊥
    some none = absurd (omega (arith, ltb-true 0 n is))
size_own (negsuc n) is = ap negsuc (sym (eqb-true n 0 is))

-- the record that is read there is the entry's
pub read_own : (dat : List ℕ) (e : Entry) (r : Record) → is_size e.size ≡ true → entry_end e ≤ max_dat → header_damage dat e ≡ None → needle_at (bytes_from dat e) ≡ Ok (r, length_of_record r) → has_record dat e ≡ true
read_own dat e r is most none reads =
    let head : HasHeader r (bytes_from dat e) =
    subst (HasHeader r) (take_all (length (bytes_from dat e)) (bytes_from dat e) (omega arith))
    (header-take (bytes_from dat e) (r, length_of_record r) (length (bytes_from dat e)) reads (found-whole (bytes_from dat e) (r, length_of_record r) reads).has_header) in
    let right = right_header dat e none in
    let ids : r.id ≡ e.id = sym head.id ∙ right.0 in
    let sizes : record_size r ≡ fields_size e.size = sym head.size ∙ right.1 in
    let offsets : (8 * e.offset) / 8 ≡ e.offset = omega arith in
    let size : cond (record_size r == 0) (negsuc 0) (pos (record_size r)) ≡ e.size = ap (λ n. cond (n == 0) (negsuc 0) (pos n)) sizes ∙ size_own e.size is in
    let its : entry_of (8 * e.offset, r) ≡ e = λ i. record { id = ids i; offset = offsets i; size = size i } in
    ap (is_entry_of e) reads
    ∙ and_from (entry_eq (entry_of (8 * e.offset, r)) e) (nat_le (entry_end e) max_dat) (ap (λ x. entry_eq x e) its ∙ entry_eq-itself e) (le-leb (entry_end e) max_dat most)

-- ---- what the code answers

pub no_size : (dat : List ℕ) (e : Entry) → is_size e.size ≡ false → false ≡ has_record dat e
no_size dat e other = sym (false_from_ne_true (has_record dat e) (λ has. false≢true (sym other ∙ own_size dat e has)))

-- a damage that is told
pub damaged_not_own : (Told : Type 0) (dat : List ℕ) (e : Entry) (damage : Entry → Option Damage) (fault : GetFault) (result : Result Bool OpenFault) → (has_record dat e ≡ true → damage e ≡ None)
    → (Told → TellsDamage damage (Some e) fault) → result ≡ unless_damaged fault → IfOk result (λ has. Told → has ≡ has_record dat e)
damaged_not_own Told dat e damage fault result none told is = subst (λ r. IfOk r (λ has. Told → has ≡ has_record dat e)) (sym is) (by_fault fault told)
  where
    differ : (w : What) (a b : ℕ) (told_is : TellsDamage damage (Some e) (get_fault.Damaged w a b)) → damage e ≡ None → ⊥
    differ w a b told_is undamaged = let same : e ≡ told_is.0 = cc in let is : damage e ≡ damage_of w a b = ap damage same ∙ told_is.2 in absurd cc

    by_fault : (fault : GetFault) → (Told → TellsDamage damage (Some e) fault) → IfOk (unless_damaged fault) (λ has. Told → has ≡ has_record dat e)
    by_fault (get_fault.Fault device) told = tt
    by_fault (get_fault.Damaged w a b) told = λ is_told. sym (false_from_ne_true (has_record dat e) (λ has. differ w a b (told is_told) (none has)))
    by_fault get_fault.Memory told = tt
