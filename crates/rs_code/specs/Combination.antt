-- Each value of a polynomial is a sum of multiples of its values at enough places.
use Rattle.std.proofs.Common.{◌≡◌, ℕ, zero, suc, ◌<◌, ◌≤◌, ◌≢◌, List, [], ◌∷◌, ◌++◌, length, map, take, drop, refl, sym, ◌∙◌, ap, subst, arith, append_assoc, length-append}
use Rattle.std.specs.Prelude.{bit_xor}
use Rattle.std.specs.List.{AllByRecursion}
use Rattle.std.specs.Int.Bits.{xor_comm, xor_self, xor_zero_r}
use Rattle.gf256.specs.Field.{field_add, field_mul, poly_value}
use Rattle.gf256.specs.Laws.Bitwise.{xor_twice}
use Rattle.gf256.specs.Laws.Field.{zero-mul, mul_comm, one-mul}
use Rattle.rs_code.specs.Codeword.{AreBytes, Known}
use Rattle.rs_code.specs.Polynomials.{poly_add, poly_times, value_fits, value-add, value-times, add_bytes, times_bytes, length-times}
use Rattle.rs_code.specs.Through.{IsPoint, NotAt, AreApart, value_through-is}
use Rattle.rs_code.specs.Roots.{IsElsewhere, basis, basis_polynomial, length-basis_polynomial, basis_polynomial_bytes, value-basis_polynomial, basis_here, basis_elsewhere, basis_fits, each_weaker}

-- the sum of coefficient times value
unfoldable pub combination : List ℕ → List ℕ → ℕ
combination [] values = 0
combination (a ∷ coefficients) [] = 0
combination (a ∷ coefficients) (y ∷ values) = field_add (field_mul a y) (combination coefficients values)

-- different places
abbrev pub AreDistinct : List ℕ → Type 0
AreDistinct [] = Unit {0}
AreDistinct (r ∷ places) = IsElsewhere r places × AreDistinct places

-- ---- parts of a list of places

each_front : (P : ℕ → Type 0) (xs ys : List ℕ) → AllByRecursion P (xs ++ ys) → AllByRecursion P xs
each_front P [] ys h = tt
each_front P (x ∷ xs) ys h = (h.0, each_front P xs ys h.1)

each_back : (P : ℕ → Type 0) (xs ys : List ℕ) → AllByRecursion P (xs ++ ys) → AllByRecursion P ys
each_back P [] ys h = h
each_back P (x ∷ xs) ys h = each_back P xs ys h.1

pub each_append : (P : ℕ → Type 0) (xs ys : List ℕ) → AllByRecursion P xs → AllByRecursion P ys → AllByRecursion P (xs ++ ys)
each_append P [] ys h k = k
each_append P (x ∷ xs) ys h k = (h.0, each_append P xs ys h.1 k)

pub bytes-drop : (xs : List ℕ) (i : ℕ) → AreBytes xs → AreBytes (drop i xs)
bytes-drop [] zero h = h
bytes-drop [] (suc i) h = tt
bytes-drop (x ∷ xs) zero h = h
bytes-drop (x ∷ xs) (suc i) h = bytes-drop xs i h.1

pub bytes-take : (xs : List ℕ) (i : ℕ) → AreBytes xs → AreBytes (take i xs)
bytes-take [] zero h = tt
bytes-take [] (suc i) h = tt
bytes-take (x ∷ xs) zero h = tt
bytes-take (x ∷ xs) (suc i) h = (h.0, bytes-take xs i h.1)

-- the other places are elsewhere
pub elsewhere_middle : (done : List ℕ) (r : ℕ) (rest : List ℕ) → AreDistinct (done ++ (r ∷ rest)) → IsElsewhere r (done ++ rest)
elsewhere_middle [] r rest h = h.0
elsewhere_middle (x ∷ done) r rest h =
    ((λ e. (each_back (λ s. s ≢ x) done (r ∷ rest) h.0).0 (sym e)), elsewhere_middle done r rest h.1)

-- ---- a polynomial with a multiple of another added

abbrev with_multiple : List ℕ → ℕ → List ℕ → List ℕ
with_multiple a m b = poly_add a (poly_times m b)

length-with_multiple : (n : ℕ) (a : List ℕ) (m : ℕ) (b : List ℕ) → length a ≤ n → length b ≤ n → length (with_multiple a m b) ≤ n
length-with_multiple n [] m b h k = omega (arith, length-times m b)
length-with_multiple n (x ∷ a) m [] h k = h
length-with_multiple zero (x ∷ a) m (y ∷ b) h k = absurd (omega arith)
length-with_multiple (suc n) (x ∷ a) m (y ∷ b) h k = let rest = length-with_multiple n a m b (omega arith) (omega arith) in omega arith

value-with_multiple : (a : List ℕ) (m : ℕ) (b : List ℕ) (x : ℕ) → AreBytes b → m < 256 → x < 256 → poly_value (with_multiple a m b) x ≡ bit_xor (poly_value a x) (field_mul m (poly_value b x))
value-with_multiple a m b x h k l = value-add a (poly_times m b) x ∙ ap (bit_xor (poly_value a x)) (value-times m b x h k l)

-- ---- the sum

-- of the places that are left, each value times what it weighs at x
abbrev pub weights : List ℕ → List ℕ → ℕ → List ℕ
weights done [] x = []
weights done (r ∷ rest) x = basis (done ++ rest) r x ∷ weights (done ++ (r ∷ [])) rest x

abbrev Vanishes : List ℕ → List ℕ → Type 0
Vanishes a places = AllByRecursion (λ r. poly_value a r ≡ 0) places

abbrev Agrees : List ℕ → List ℕ → List ℕ → Type 0
Agrees a b places = AllByRecursion (λ r. poly_value a r ≡ poly_value b r) places

combination_same : (weights a b places : List ℕ) → Agrees a b places → combination weights (map (poly_value a) places) ≡ combination weights (map (poly_value b) places)
unfolding combination
combination_same [] a b places h = refl
combination_same (w ∷ weights) a b [] h = refl
combination_same (w ∷ weights) a b (r ∷ places) h = (λ i. bit_xor (field_mul w (h.0 i)) (combination_same weights a b places h.1 i))

pub each_both : (P Q : ℕ → Type 0) (xs : List ℕ) → AllByRecursion P xs → AllByRecursion Q xs → AllByRecursion (λ x. P x × Q x) xs
each_both P Q [] h k = tt
each_both P Q (x ∷ xs) h k = ((h.0, k.0), each_both P Q xs h.1 k.1)

-- ---- the places as points

abbrev zeros_at : List ℕ → Known
zeros_at places = map (λ r. (r, 0)) places

zeros_not_at : (r : ℕ) (places : List ℕ) → IsElsewhere r places → NotAt r (zeros_at places)
zeros_not_at r [] h = tt
zeros_not_at r (s ∷ places) h = (h.0, zeros_not_at r places h.1)

zeros_apart : (places : List ℕ) → AreDistinct places → AreApart (zeros_at places)
zeros_apart [] h = tt
zeros_apart (r ∷ places) h = (zeros_not_at r places h.0, zeros_apart places h.1)

zeros_are_points : (a places : List ℕ) → AreBytes places → Vanishes a places → AllByRecursion (IsPoint a) (zeros_at places)
zeros_are_points a [] h k = tt
zeros_are_points a (r ∷ places) h k = (record { place = h.0; value = sym k.0 }, zeros_are_points a places h.1 k.1)

length-zeros : (places : List ℕ) → length (zeros_at places) ≡ length places
length-zeros [] = refl
length-zeros (r ∷ places) = ap suc (length-zeros places)

zero_everywhere : (places : List ℕ) → Vanishes [] places
unfolding poly_value
zero_everywhere [] = tt
zero_everywhere (r ∷ places) = (refl, zero_everywhere places)

-- a polynomial with as many zeros as coefficients is 0
pub vanishing : (a places : List ℕ) (x : ℕ) → length a ≤ length places → AreBytes a → AreBytes places → AreDistinct places → Vanishes a places → x < 256 → poly_value a x ≡ 0
unfolding poly_value
vanishing a places x few bytes shards distinct none h =
    sym (value_through-is (zeros_at places) a x (omega (arith, length-zeros places)) bytes (zeros_are_points a places shards none) (zeros_apart places distinct) h)
    ∙ value_through-is (zeros_at places) [] x (omega arith) tt (zeros_are_points [] places shards (zero_everywhere places)) (zeros_apart places distinct) h

-- ---- one place after the other

-- a polynomial whose value at r is taken off, and that is as it was at the others
abbrev without_value : List ℕ → List ℕ → ℕ → List ℕ
without_value a others r = with_multiple a (poly_value a r) (basis_polynomial others r)

value-without : (a others : List ℕ) (r x : ℕ) → AreBytes a → AreBytes others → r < 256 → x < 256
    → poly_value (without_value a others r) x ≡ bit_xor (poly_value a x) (field_mul (basis others r x) (poly_value a r))
value-without a others r x bytes shards h k =
    value-with_multiple a (poly_value a r) (basis_polynomial others r) x (basis_polynomial_bytes others r shards h) (value_fits a r bytes h) k
    ∙ ap (λ m. bit_xor (poly_value a x) (field_mul (poly_value a r) m)) (value-basis_polynomial others r x shards h k)
    ∙ ap (bit_xor (poly_value a x)) (mul_comm (poly_value a r) (basis others r x) (value_fits a r bytes h) (basis_fits others r x shards h k))

agrees_elsewhere : (a others : List ℕ) (r : ℕ) → AreBytes a → AreBytes others → r < 256 → Agrees (without_value a others r) a others
agrees_elsewhere a others r bytes shards h =
    each_weaker (λ s. (s < 256) × (basis others r s ≡ 0)) (λ s. poly_value (without_value a others r) s ≡ poly_value a s)
    (λ s k. value-without a others r s bytes shards h k.0 ∙ ap (λ m. bit_xor (poly_value a s) (field_mul m (poly_value a r))) k.1 ∙ ap (bit_xor (poly_value a s)) (zero-mul (poly_value a r)) ∙ xor_zero_r (poly_value a s))
    others (each_both (λ s. s < 256) (λ s. basis others r s ≡ 0) others shards (basis_elsewhere others r))

vanishes_here : (a others : List ℕ) (r : ℕ) → AreBytes a → AreBytes others → r < 256 → IsElsewhere r others → poly_value (without_value a others r) r ≡ 0
vanishes_here a others r bytes shards h away =
    value-without a others r r bytes shards h h
    ∙ ap (λ m. bit_xor (poly_value a r) (field_mul m (poly_value a r))) (basis_here others r shards h away)
    ∙ ap (bit_xor (poly_value a r)) (one-mul (poly_value a r) (value_fits a r bytes h)) ∙ xor_self (poly_value a r)

still_vanishes : (a b places : List ℕ) → Agrees b a places → Vanishes a places → Vanishes b places
still_vanishes a b places same none =
    each_weaker (λ s. (poly_value b s ≡ poly_value a s) × (poly_value a s ≡ 0)) (λ s. poly_value b s ≡ 0) (λ s h. h.0 ∙ h.1) places
    (each_both (λ s. poly_value b s ≡ poly_value a s) (λ s. poly_value a s ≡ 0) places same none)

xor_back : (a b : ℕ) → bit_xor b (bit_xor a b) ≡ a
xor_back a b = xor_comm b (bit_xor a b) ∙ xor_twice a b

-- The values at the places that are done are 0, and those at the rest give each value.
pub combination-is : (done rest a : List ℕ) (x : ℕ) → length a ≤ length (done ++ rest) → AreBytes a → AreBytes (done ++ rest) → AreDistinct (done ++ rest) → Vanishes a done → x < 256
    → combination (weights done rest x) (map (poly_value a) rest) ≡ poly_value a x
unfolding combination
combination-is done [] a x few bytes shards distinct none h =
    sym (vanishing a (done ++ []) x few bytes shards distinct (each_append (λ r. poly_value a r ≡ 0) done [] none tt) h)
combination-is done (r ∷ rest) a x few bytes shards distinct none h =
    let others : List ℕ = done ++ rest in
    let back = each_back (λ s. s < 256) done (r ∷ rest) shards in
    let others_bytes : AreBytes (done ++ rest) = each_append (λ s. s < 256) done rest (each_front (λ s. s < 256) done (r ∷ rest) shards) back.1 in
    let b : List ℕ = without_value a (done ++ rest) r in
    let same = agrees_elsewhere a (done ++ rest) r bytes others_bytes back.0 in
    let moved : (done ++ (r ∷ [])) ++ rest ≡ done ++ (r ∷ rest) = append_assoc done (r ∷ []) rest in
    let room : length (without_value a (done ++ rest) r) ≤ length (done ++ (r ∷ rest)) =
    length-with_multiple (length (done ++ (r ∷ rest))) a (poly_value a r) (basis_polynomial (done ++ rest) r) few
    (omega (arith, length-basis_polynomial (done ++ rest) r, length-append done rest, length-append done (r ∷ rest))) in
    let zeros : Vanishes (without_value a (done ++ rest) r) (done ++ (r ∷ [])) =
    each_append (λ s. poly_value (without_value a (done ++ rest) r) s ≡ 0) done (r ∷ [])
    (still_vanishes a (without_value a (done ++ rest) r) done (each_front (λ s. poly_value (without_value a (done ++ rest) r) s ≡ poly_value a s) done rest same) none)
    (vanishes_here a (done ++ rest) r bytes others_bytes back.0 (elsewhere_middle done r rest distinct), tt) in
    let further = combination-is (done ++ (r ∷ [])) rest (without_value a (done ++ rest) r) x
    (subst (λ l. length (without_value a (done ++ rest) r) ≤ length l) (sym moved) room)
    (add_bytes a (poly_times (poly_value a r) (basis_polynomial (done ++ rest) r)) bytes (times_bytes (poly_value a r) (basis_polynomial (done ++ rest) r) (value_fits a r bytes back.0) (basis_polynomial_bytes (done ++ rest) r others_bytes back.0)))
    (subst AreBytes (sym moved) shards) (subst AreDistinct (sym moved) distinct) zeros h in
    ap (bit_xor (field_mul (basis (done ++ rest) r x) (poly_value a r)))
    (sym (combination_same (weights (done ++ (r ∷ [])) rest x) (without_value a (done ++ rest) r) a rest (each_back (λ s. poly_value (without_value a (done ++ rest) r) s ≡ poly_value a s) done rest same))
    ∙ further ∙ value-without a (done ++ rest) r x bytes others_bytes back.0 h)
    ∙ xor_back (poly_value a x) (field_mul (basis (done ++ rest) r x) (poly_value a r))
