-- Different files have different names.
use Rattle.std.proofs.Common.{◌≡◌, ◌≢◌, ℕ, suc, ◌^◌, ◌<◌, List, [], ◌∷◌, ◌++◌, length, get_or, drop, refl, sym, ◌∙◌, ap, arith}
use Rattle.std.specs.Prelude.{decimal}
use Rattle.std.specs.Int.{IsInRange}
use Rattle.std.specs.Str.Parse.{AllDigits, digits_value}
use Rattle.std.proofs.lemmas.List.{append_assoc}
use Rattle.std.proofs.lemmas.Str.Parse.{IsNumeralModel, numerals_by_value, tells_digits, not_in_digits}
use Rattle.std.proofs.lemmas.Fmt.{decimal_is_IsNumeral, decimal_injective}
use Rattle.file_names.specs.declared.FileName.{FileName}
use Rattle.file_names.specs.Names.{IsEndingOf, IsName, ending, name_bytes, temp_mark}
use Rattle.file_names.specs.Laws.Ending.{dotted, same_ending}

-- what follows the first dot
abbrev pub after_dot : FileName → List ℕ
after_dot name = drop 1 (ending name.kind) ++ temp_mark name.temp

-- the volume's number, the dot, and the rest
pub name_in_parts : (name : FileName) → name_bytes name ≡ decimal name.volume ++ 46 ∷ after_dot name
unfolding name_bytes
name_in_parts name =
    append_assoc (decimal name.volume) (ending name.kind) (temp_mark name.temp)
    ∙ ap (λ (l : List ℕ). decimal name.volume ++ (l ++ temp_mark name.temp)) (dotted name.kind)

pub IsEndingOf-after_dot : (name : FileName) → IsName name → IsEndingOf name.kind name.temp (after_dot name)
IsEndingOf-after_dot name h = record { fits = h.kind; spelled = ap (λ (l : List ℕ). l ++ temp_mark name.temp) (dotted name.kind) }

own : IsNumeralModel (AllDigits 10) (digits_value 10)
own = numerals_by_value (AllDigits 10) tells_digits

-- the number in decimal has no dot
pub no_dot : (volume : ℕ) → volume < 2 ^ 32 → (i : ℕ) → i < length (decimal volume) → get_or (decimal volume) i 0 ≢ 46
no_dot volume fits = not_in_digits own (decimal volume) 46 (decimal_is_IsNumeral volume (omega arith)).0.1 (λ (h : IsInRange 48 57 46). omega arith)

-- what stands before the first dot, and what follows it
pub parts_apart : (a b x y : List ℕ) → ((i : ℕ) → i < length a → get_or a i 0 ≢ 46) → ((i : ℕ) → i < length b → get_or b i 0 ≢ 46) → a ++ 46 ∷ x ≡ b ++ 46 ∷ y → (a ≡ b) × (x ≡ y)
parts_apart [] [] x y h k e = (refl, ap (drop 1) e)
parts_apart [] (d ∷ b) x y h k e = absurd (k 0 (omega arith) (ap (λ (l : List ℕ). get_or l 0 0) (sym e)))
parts_apart (c ∷ a) [] x y h k e = absurd (h 0 (omega arith) (ap (λ (l : List ℕ). get_or l 0 0) e))
parts_apart (c ∷ a) (d ∷ b) x y h k e =
    let rest = parts_apart a b x y (λ i low. h (suc i) (omega arith)) (λ i low. k (suc i) (omega arith)) (ap (drop 1) e) in
    let heads : c ≡ d = ap (λ (l : List ℕ). get_or l 0 0) e in
    (λ i. heads i ∷ rest.0 i, rest.1)

-- no two files have one name
pub same_name : (a b : FileName) → IsName a → IsName b → name_bytes a ≡ name_bytes b → a ≡ b
same_name a b h k e =
    let apart = parts_apart (decimal a.volume) (decimal b.volume) (after_dot a) (after_dot b) (no_dot a.volume h.volume) (no_dot b.volume k.volume) (sym (name_in_parts a) ∙ e ∙ name_in_parts b) in
    let volumes : a.volume ≡ b.volume = decimal_injective a.volume b.volume (omega (arith, h.volume)) (omega (arith, k.volume)) apart.0 in
    let kinds = same_ending a.kind b.kind a.temp b.temp (after_dot a) (IsEndingOf-after_dot a h) (rw apart.1 (IsEndingOf-after_dot b k)) in
    λ i. record { volume = volumes i; kind = kinds.0 i; temp = kinds.1 i }
