-- Why a record that is there whole isn't read: each fault's two numbers differ.
use Rattle.std.proofs.Common.{◌≡◌, ◌≢◌, ℕ, ◌+◌, ◌-◌, ◌<◌, List, length, take, drop, Bool, true, false, cond, Some, None, Result, Ok, Err, refl, sym, ◌∙◌, subst, arith}
use Rattle.std.specs.Prelude.{nat_lt, ◌==◌, not, ◌||◌}
use Rattle.std.proofs.lemmas.Bool.{ltb-true, eq-eqb, eqb-false}
use Rattle.wire_num.specs.Numbers.{number_of}
use Rattle.world_model.specs.Sizes.{max_data}
use Rattle.world_model.specs.declared.types.Content.{Content}
use Rattle.needle_record.specs.declared.NeedleFault.{NeedleFault}
use Rattle.needle_record.specs.declared.NeedleFault.TheVariants as fault
use Rattle.needle_record.specs.Given.{Gives}
use Rattle.needle_record.specs.Reading.{◌>>=◌, bytes_at, number_at, text_at, part_at, has_bit, content_at, content_in, content_or_fault, needle_at, needle_of, size_at, length_at, HasWholeRecord}
use Rattle.needle_record.specs.Laws.Fronts.{needle_at-whole}
use Rattle.dat_volume.specs.Reading.{IsWholeFault}

-- ---- a field that passes the end does so by a byte at least

PassesBySome : {A : Type 0} → Result A ℕ → Type 0
PassesBySome r = (excess : ℕ) → r ≡ Err excess → 0 < excess

value_passes : {A : Type 0} (x : A) → PassesBySome (Ok x)
unfolding PassesBySome
value_passes x excess e = absurd cc

bind_passes : {A B : Type 0} (r : Result A ℕ) (f : A → Result B ℕ) → PassesBySome r → ((x : A) → PassesBySome (f x)) → PassesBySome (r >>= f)
unfolding PassesBySome
bind_passes (Ok x) f first next = next x
bind_passes (Err e) f first next = λ excess h. first excess cc

bytes_by : (b : Bool) (n : ℕ) (rest : List ℕ) → nat_lt (length rest) n ≡ b → PassesBySome {A = List ℕ × List ℕ} (cond b (Err (n - length rest)) (Ok (take n rest, drop n rest)))
unfolding PassesBySome
bytes_by true n rest p excess e =
    let short : length rest < n = ltb-true _ _ p in
    let same : n - length rest ≡ excess = cc in
    omega arith
bytes_by false n rest p excess e = absurd cc

bytes_pass : (n : ℕ) (rest : List ℕ) → PassesBySome (bytes_at n rest)
bytes_pass n rest = bytes_by _ n rest refl

number_passes : (n : ℕ) (rest : List ℕ) → PassesBySome (number_at n rest)
number_passes n rest = bind_passes (bytes_at n rest) _ (bytes_pass n rest) (λ x. value_passes (number_of n x.0, x.1))

text_passes : (n : ℕ) (rest : List ℕ) → PassesBySome (text_at n rest)
unfolding text_at
text_passes n rest = bind_passes (number_at n rest) _ (number_passes n rest) (λ x. bytes_pass x.0 x.1)

part_passes : {A : Type 0} (b : Bool) (read : List ℕ → Result (A × List ℕ) ℕ) (rest : List ℕ) → PassesBySome (read rest) → PassesBySome (part_at b read rest)
part_passes false read rest each = value_passes (None, rest)
part_passes true read rest each = bind_passes (read rest) _ each (λ x. value_passes (Some x.0, x.1))

content_passes : (rest : List ℕ) → PassesBySome (content_at rest)
unfolding content_at
content_passes rest =
    bind_passes (text_at 4 rest) _ (text_passes 4 rest) (λ bytes.
    bind_passes (number_at 1 bytes.1) _ (number_passes 1 bytes.1) (λ flags.
    bind_passes (part_at (has_bit 0x02 flags.0) (text_at 1) flags.1) _ (part_passes _ (text_at 1) flags.1 (text_passes 1 flags.1)) (λ name.
    bind_passes (part_at (has_bit 0x04 flags.0) (text_at 1) name.1) _ (part_passes _ (text_at 1) name.1 (text_passes 1 name.1)) (λ mime.
    bind_passes (part_at (has_bit 0x08 flags.0) (number_at 5) mime.1) _ (part_passes _ (number_at 5) mime.1 (number_passes 5 mime.1)) (λ modified.
    bind_passes (part_at (has_bit 0x10 flags.0) (number_at 2) modified.1) _ (part_passes _ (number_at 2) modified.1 (number_passes 2 modified.1)) (λ ttl.
    bind_passes (part_at (has_bit 0x20 flags.0) (text_at 2) ttl.1) _ (part_passes _ (text_at 2) ttl.1 (text_passes 2 ttl.1)) (λ pairs.
    value_passes _)))))))

-- ---- the faults of a content

on_fault : {A : Type 0} (x why : NeedleFault) → ◌≡◌ {A = Result A NeedleFault} (Err x) (Err why) → IsWholeFault x → IsWholeFault why
on_fault x why same holds = let e : x ≡ why = cc in subst IsWholeFault e holds

no_checksum : (s x : ℕ) (b : Bool) → ((s == x) || b) ≡ false → s ≢ x
no_checksum s x b none same = on (s == x) (eq-eqb s x same) none
  where
    on : (a : Bool) → a ≡ true → (a || b) ≡ false → ⊥
    on true t h = cc
    on false t h = cc

content_by : (size stored sum : ℕ) (x : Content × List ℕ) (why : NeedleFault) (a b d e : Bool) → 0 < size
    → nat_lt 0 (length x.1) ≡ a → (b ≡ false → stored ≢ sum) → nat_lt max_data (length x.0.bytes) ≡ e
    → cond a (Err (fault.SizeMismatch size (size - length x.1))) (cond (not b) (Err (fault.Checksum stored sum)) (cond d (Err (fault.EmptyBody size)) (cond e (Err (fault.TooLarge (length x.0.bytes))) (Ok x.0)))) ≡ Err why
    → IsWholeFault why
content_by size stored sum x why true b d e some p q r h =
    let left : 0 < length x.1 = ltb-true _ _ p in
    on_fault (fault.SizeMismatch size (size - length x.1)) why h (λ same. omega arith)
content_by size stored sum x why false false d e some p q r h =
    on_fault (fault.Checksum stored sum) why h (q refl)
content_by size stored sum x why false true true e some p q r h = on_fault (fault.EmptyBody size) why h (λ same. omega arith)
content_by size stored sum x why false true false true some p q r h = on_fault (fault.TooLarge (length x.0.bytes)) why h (ltb-true _ _ r)
content_by size stored sum x why false true false false some p q r h = absurd cc

content_fault : (size stored : ℕ) (r : Result (Content × List ℕ) ℕ) (why : NeedleFault) → 0 < size → PassesBySome r → content_or_fault size stored r ≡ Err why → IsWholeFault why
unfolding PassesBySome
content_fault size stored (Err excess) why some passes h =
    let more : 0 < excess = passes excess refl in
    on_fault (fault.SizeMismatch size (size + excess)) why h (λ same. omega arith)
content_fault size stored (Ok x) why some passes h = content_by size stored _ x why _ _ _ _ some refl (no_checksum stored _ _) refl h

-- ---- the faults of a record

-- a step that fails is the first one, where the second never does
only_first : {A B : Type 0} (r : Result A NeedleFault) (f : A → B) (why : NeedleFault) → (r >>= λ x. Ok (f x)) ≡ Err why → r ≡ Err why
only_first (Ok x) f why h = absurd cc
only_first (Err e) f why h = cc

positive : (n : ℕ) → (n == 0) ≡ false → 0 < n
positive n p = let some : n ≡ 0 → ⊥ = eqb-false n 0 p in omega arith

content_in_fault : (size : ℕ) (rest : List ℕ) (why : NeedleFault) → content_in size rest ≡ Err why → IsWholeFault why
unfolding content_in
content_in_fault size rest why h = by_zero (size == 0) refl h
  where
    by_zero : (b : Bool) → (size == 0) ≡ b → cond b (Ok None) (content_or_fault size (number_of 4 (drop size rest)) (content_at (take size rest)) >>= λ c. Ok (Some c)) ≡ Err why → IsWholeFault why
    by_zero true p e = absurd cc
    by_zero false p e =
        content_fault size (number_of 4 (drop size rest)) (content_at (take size rest)) why (positive size p) (content_passes (take size rest))
        (only_first (content_or_fault size (number_of 4 (drop size rest)) (content_at (take size rest))) Some why e)

needle_of_fault : (size : ℕ) (bytes : List ℕ) (why : NeedleFault) → needle_of size bytes ≡ Err why → IsWholeFault why
unfolding needle_of
needle_of_fault size bytes why h = content_in_fault size (drop 16 bytes) why (only_first (content_in size (drop 16 bytes)) _ why h)

needle_fault : (bytes : List ℕ) (why : NeedleFault) → HasWholeRecord bytes → needle_at bytes ≡ Err why → IsWholeFault why
needle_fault bytes why whole h = needle_of_fault (size_at bytes) (take (length_at bytes) bytes) why (sym (needle_at-whole bytes whole) ∙ h)

-- the same of what a reader answers
pub given_fault : (bytes : List ℕ) (why : NeedleFault) → HasWholeRecord bytes → Gives (Err why) (needle_at bytes) → IsWholeFault why
given_fault bytes fault.Short whole h = needle_fault bytes fault.Short whole h
given_fault bytes (fault.SizeMismatch size taken) whole h = needle_fault bytes (fault.SizeMismatch size taken) whole h
given_fault bytes (fault.Checksum stored computed) whole h = needle_fault bytes (fault.Checksum stored computed) whole h
given_fault bytes (fault.EmptyBody size) whole h = needle_fault bytes (fault.EmptyBody size) whole h
given_fault bytes (fault.TooLarge long) whole h = needle_fault bytes (fault.TooLarge long) whole h
given_fault bytes fault.Memory whole h = tt
