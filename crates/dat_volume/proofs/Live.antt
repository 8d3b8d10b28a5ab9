-- A live entry's record stands in the data file, so it is read, and it is the needle's.
use Rattle.std.proofs.Common.{◌≡◌, ℕ, ◌≤◌, List, ◌++◌, length, take, drop, Bool, true, false, cond, pos, negsuc, Option, Some, None, Result, Ok, Err, All, refl, sym, ◌∙◌, ap, subst, arith}
use Rattle.std.specs.Prelude.{◌==◌, MatchResult}
use Rattle.std.specs.FinMap.{get}
use Rattle.std.proofs.lemmas.Bool.{eq-eqb, eqb-true}
use Rattle.std.proofs.lemmas.List.{length-take}
use Rattle.std.proofs.lemmas.List.Elements.{All-weaker}
use Rattle.wire_num.specs.Numbers.{number_of}
use Rattle.world_model.specs.World.{Needle}
use Rattle.volume_forms.specs.declared.Entry.{Entry}
use Rattle.volume_forms.specs.Kept.{fields_size}
use Rattle.needle_record.specs.declared.Record.{Record}
use Rattle.needle_record.specs.declared.NeedleFault.{NeedleFault}
use Rattle.needle_record.specs.Spelling.{record_size, length_of_record}
use Rattle.needle_record.specs.Laws.Spelling.{found-whole, header-take}
use Rattle.needle_record.specs.Laws.FieldSizes.{ok_same}
use Rattle.needle_record.specs.Reading.{needle_at, size_at, HasHeader}
use Rattle.needle_record.specs.Records.{Placed, Index, entry_of, fold_records, StandsIn, AgreesAt}
use Rattle.needle_record.specs.Laws.Records.{records-stand, StandsIn-append, entry_of-place, entry_of-end, index_of-agrees}
use Rattle.dat_volume.specs.declared.fault.GetFault.{GetFault}
use Rattle.dat_volume.specs.declared.fault.GetFault.TheVariants as get_fault
use Rattle.dat_volume.specs.Needles.{Damage, damage_of, bytes_from, header_damage, reading_damage, first_damage, record_damage, IsRecordAt, IsCookieAt, TellsDamage, BeginsWith, IsNeedle, IsCookie, IsNoDamage}
use Rattle.dat_volume.specs.Reading.{front_damage}
use Rattle.dat_volume.proofs.Heads.{front_taken, header_within, head_number}

-- ---- the record of a live entry

entry_size : (n : ℕ) (b : Bool) → (n == 0) ≡ b → fields_size (cond b (negsuc 0) (pos n)) ≡ n
entry_size n true e = sym (eqb-true _ _ e)
entry_size n false e = refl

pub header_right : (p : Placed) (bytes : List ℕ) → HasHeader p.1 bytes → front_damage bytes (entry_of p) ≡ None
unfolding front_damage
header_right p bytes h =
    let size : size_at bytes ≡ fields_size (entry_of p).size = h.size ∙ sym (entry_size (record_size p.1) (record_size p.1 == 0) refl) in
    rw (eq-eqb (number_of 8 (drop 4 bytes)) p.1.id h.id) (rw (eq-eqb (size_at bytes) (fields_size (entry_of p).size) size) refl)

module _ (dat : List ℕ) (p : Placed) (stands : StandsIn dat p) where
  is_read : needle_at (bytes_from dat (entry_of p)) ≡ Ok (p.1, length_of_record p.1)
  is_read = ap (λ n. needle_at (drop n dat)) (entry_of-place p stands.in_eights) ∙ stands.reads

  no_header_damage : header_damage dat (entry_of p) ≡ None
  no_header_damage =
      let bytes = bytes_from dat (entry_of p) in
      let found : Record × ℕ = (p.1, length_of_record p.1) in
      let whole = found-whole bytes found is_read in
      header_within dat (entry_of p) (subst (λ n. n ≤ length dat) (sym (entry_of-end p stands.in_eights)) stands.within)
      ∙ front_taken 16 bytes (entry_of p) (omega arith) whole.has_header
      ∙ header_right p (take 16 bytes) (header-take bytes found 16 is_read (omega arith))

  no_record_damage : record_damage dat (entry_of p) ≡ None
  no_record_damage =
      ap (λ d. first_damage d (reading_damage (needle_at (bytes_from dat (entry_of p))))) no_header_damage
      ∙ ap reading_damage is_read

  cookie_there : number_of 4 (bytes_from dat (entry_of p)) ≡ p.1.cookie
  cookie_there =
      let bytes = bytes_from dat (entry_of p) in
      let found : Record × ℕ = (p.1, length_of_record p.1) in
      let whole = found-whole bytes found is_read in
      head_number 4 16 bytes (take 16 bytes) (omega (arith, length-take 16 bytes)) refl ∙ (header-take bytes found 16 is_read (omega arith)).cookie

-- ---- answers

-- where there is no entry, or one without damage, none is told
none_here : (damage : Entry → Option Damage) (why : GetFault) → TellsDamage damage None why → IsNoDamage why
none_here damage (get_fault.Fault device) h = tt
none_here damage (get_fault.Damaged w a b) h = let e = h.1 in absurd cc
none_here damage get_fault.Memory h = tt

none_there : (damage : Entry → Option Damage) (e : Entry) (why : GetFault) → damage e ≡ None → TellsDamage damage (Some e) why → IsNoDamage why
none_there damage e (get_fault.Fault device) none h = tt
none_there damage e (get_fault.Damaged w a b) none h =
    let same : e ≡ h.0 = let q = h.1 in cc in
    let other : None ≡ damage_of w a b = sym none ∙ ap damage same ∙ h.2 in
    absurd cc
none_there damage e get_fault.Memory none h = tt

same_record : (r s : Record) (m n : ℕ) (read : Result (Record × ℕ) NeedleFault) → read ≡ Ok (r, m) → read ≡ Ok (s, n) → r ≡ s
same_record r s m n read p q =
    let same : ◌≡◌ {A = Record × ℕ} (r, m) (s, n) = ok_same _ _ (sym p ∙ q) in
    ap (λ (x : Record × ℕ). x.0) same

module _ (dat : List ℕ) (id : ℕ) where
  record_of : (entry : Option Entry) (needle : Option Needle) → AgreesAt (StandsIn dat) id entry needle → (result : Result (Option Record) GetFault)
      → MatchResult result (λ found. IsRecordAt dat entry found) (λ why. TellsDamage (record_damage dat) entry why) → MatchResult result (λ found. IsNeedle id found needle) IsNoDamage
  record_of None needle agree (Ok None) h = agree
  record_of None needle agree (Ok (Some r)) h = absurd cc
  record_of None needle agree (Err why) h = none_here (record_damage dat) why h
  record_of (Some e) needle agree (Ok None) h = absurd h
  record_of (Some e) needle agree (Ok (Some r)) h =
      let p = agree.0 in
      let read : needle_at (bytes_from dat e) ≡ Ok (p.1, length_of_record p.1) = ap (λ f. needle_at (bytes_from dat f)) agree.5 ∙ is_read dat p agree.2 in
      let same : p.1 ≡ r = same_record p.1 r _ _ _ read h.1 in (
        agree.1,
        ap (λ (s : Record). s.id) (sym same) ∙ agree.3,
        ap (λ (s : Record). s.content) (sym same) ∙ agree.4,
        agree.6 ∙ ap (λ (s : Record). Some (record { cookie = s.cookie; content = agree.1 })) same,
      )
  record_of (Some e) needle agree (Err why) h =
      none_there (record_damage dat) e why (ap (λ f. record_damage dat f) agree.5 ∙ no_record_damage dat agree.0 agree.2) h

  cookie_of : (entry : Option Entry) (needle : Option Needle) → AgreesAt (StandsIn dat) id entry needle → (result : Result (Option ℕ) GetFault)
      → MatchResult result (λ found. IsCookieAt dat entry found) (λ why. TellsDamage (header_damage dat) entry why) → MatchResult result (λ found. IsCookie found needle) IsNoDamage
  cookie_of None needle agree (Ok None) h = agree
  cookie_of None needle agree (Ok (Some cookie)) h = absurd cc
  cookie_of None needle agree (Err why) h = none_here (header_damage dat) why h
  cookie_of (Some e) needle agree (Ok None) h = absurd h
  cookie_of (Some e) needle agree (Ok (Some cookie)) h =
      let same : cookie ≡ agree.0.1.cookie = h.1 ∙ ap (λ f. number_of 4 (bytes_from dat f)) agree.5 ∙ cookie_there dat agree.0 agree.2 in
      (agree.1, agree.6 ∙ ap (λ n. Some (record { cookie = n; content = agree.1 })) (sym same))
  cookie_of (Some e) needle agree (Err why) h =
      none_there (header_damage dat) e why (ap (λ f. header_damage dat f) agree.5 ∙ no_header_damage dat agree.0 agree.2) h

-- ---- a file that begins with records

agrees : (dat : List ℕ) (index : Index) (used : ℕ) (ps : List Placed) (id : ℕ) → BeginsWith dat index used ps → AgreesAt (StandsIn dat) id (get index id) (get (fold_records ps).needles id)
agrees dat index used ps id h =
    let all : All (StandsIn h.front) ps = subst (λ (qs : List Placed). All (StandsIn h.front) qs) h.has (records-stand h.front h.whole.super) in
    let longer : All (StandsIn dat) ps = subst (λ (l : List ℕ). All (StandsIn l) ps) (sym h.begins) (All-weaker (StandsIn h.front) (StandsIn (h.front ++ h.more)) (StandsIn-append h.front h.more) ps all) in
    subst (λ (i : Index). AgreesAt (StandsIn dat) id (get i id) (get (fold_records ps).needles id)) (sym h.live) (index_of-agrees (StandsIn dat) ps longer id)

-- what is read of the file at the index's entry is the id's needle
module _ (dat : List ℕ) (index : Index) (used : ℕ) (ps : List Placed) (id : ℕ) (begins : BeginsWith dat index used ps) (file : List ℕ) (entry : Option Entry)
    (found_entry : get index id ≡ entry) (is_file : file ≡ dat) where
  agrees_there : AgreesAt (StandsIn file) id entry (get (fold_records ps).needles id)
  agrees_there =
      subst (λ (l : List ℕ). AgreesAt (StandsIn l) id entry (get (fold_records ps).needles id)) (sym is_file)
      (subst (λ (o : Option Entry). AgreesAt (StandsIn dat) id o (get (fold_records ps).needles id)) found_entry (agrees dat index used ps id begins))

  pub record_needle : (result : Result (Option Record) GetFault) → MatchResult result (λ found. IsRecordAt file entry found) (λ why. TellsDamage (record_damage file) entry why)
      → MatchResult result (λ found. IsNeedle id found (get (fold_records ps).needles id)) IsNoDamage
  record_needle result answer = record_of file id entry (get (fold_records ps).needles id) agrees_there result answer

  pub cookie_needle : (result : Result (Option ℕ) GetFault) → MatchResult result (λ found. IsCookieAt file entry found) (λ why. TellsDamage (header_damage file) entry why)
      → MatchResult result (λ found. IsCookie found (get (fold_records ps).needles id)) IsNoDamage
  cookie_needle result answer = cookie_of file id entry (get (fold_records ps).needles id) agrees_there result answer
