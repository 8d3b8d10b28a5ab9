-- The laws of the field.
use Rattle.std.proofs.Common.{◌≡◌, ◌⊎◌, inl, inr, ℕ, zero, suc, ◌+◌, ◌*◌, ◌/◌, ◌%◌, ◌^◌, ◌<◌, Bool, true, false, cond, refl, sym, ◌∙◌, ap, arith}
use Rattle.std.specs.Prelude.{bit_xor, ◌==◌, nat_lt}
use Rattle.std.specs.Int.Bits.{xor_comm, xor_assoc, xor_self, xor_zero_r, xor_lt, xor_shr, xor_mod}
use Rattle.std.proofs.lemmas.Bool.{eqb-true, ltb-true}
use Rattle.gf256.specs.Field.{field_mul, carry_less, reduced}
use Rattle.gf256.specs.Laws.Bitwise.{xor_swap, xor_double, xor_bit, by_bits}
use Rattle.gf256.specs.Computed.{all_below, each_below, equal_below, equal_below_both}

-- ---- the product adds in both factors

pick : ℕ → ℕ → ℕ
pick t a = cond (t == 1) a 0

bit_cases : (s : ℕ) → s < 2 → (s ≡ 0) ⊎ (s ≡ 1)
bit_cases zero h = inl refl
bit_cases (suc zero) h = inr refl
bit_cases (suc (suc s)) h = absurd (omega arith)

pick_xor_bit : (s t a : ℕ) → s < 2 → t < 2 → pick (bit_xor s t) a ≡ bit_xor (pick s a) (pick t a)
unfolding pick
pick_xor_bit s t a h k = elim (bit_cases s h) [
  | inl e ↦ elim (bit_cases t k) [ inl f ↦ rw (e, f) refl | inr f ↦ rw (e, f) refl ]
  | inr e ↦ elim (bit_cases t k) [ inl f ↦ rw (e, f) (sym (xor_zero_r a)) | inr f ↦ rw (e, f) (sym (xor_self a)) ]
]

pick_xor : (t a b : ℕ) → pick t (bit_xor a b) ≡ bit_xor (pick t a) (pick t b)
unfolding pick
pick_xor t a b = by_test (t == 1)
  where
    by_test : (c : Bool) → cond c (bit_xor a b) 0 ≡ bit_xor (cond c a 0) (cond c b 0)
    by_test true = refl
    by_test false = refl

carry_less-xor_right : (n a b c : ℕ) → carry_less n a (bit_xor b c) ≡ bit_xor (carry_less n a b) (carry_less n a c)
unfolding carry_less pick
carry_less-xor_right zero a b c = refl
carry_less-xor_right (suc n) a b c =
    ap (λ t. bit_xor (pick t a) (carry_less n (2 * a) (bit_xor b c / 2))) (xor_mod b c 1)
    ∙ ap (λ x. bit_xor x (carry_less n (2 * a) (bit_xor b c / 2))) (pick_xor_bit (b % 2) (c % 2) a (omega arith) (omega arith))
    ∙ ap (λ m. bit_xor (bit_xor (pick (b % 2) a) (pick (c % 2) a)) (carry_less n (2 * a) m)) (xor_shr b c 1)
    ∙ ap (bit_xor (bit_xor (pick (b % 2) a) (pick (c % 2) a))) (carry_less-xor_right n (2 * a) (b / 2) (c / 2))
    ∙ xor_swap (pick (b % 2) a) (pick (c % 2) a) (carry_less n (2 * a) (b / 2)) (carry_less n (2 * a) (c / 2))

carry_less-xor_left : (n a b c : ℕ) → carry_less n (bit_xor a b) c ≡ bit_xor (carry_less n a c) (carry_less n b c)
unfolding carry_less pick
carry_less-xor_left zero a b c = refl
carry_less-xor_left (suc n) a b c =
    ap (λ x. bit_xor x (carry_less n (2 * bit_xor a b) (c / 2))) (pick_xor (c % 2) a b)
    ∙ ap (λ m. bit_xor (bit_xor (pick (c % 2) a) (pick (c % 2) b)) (carry_less n m (c / 2))) (xor_double a b)
    ∙ ap (bit_xor (bit_xor (pick (c % 2) a) (pick (c % 2) b))) (carry_less-xor_left n (2 * a) (2 * b) (c / 2))
    ∙ xor_swap (pick (c % 2) a) (pick (c % 2) b) (carry_less n (2 * a) (c / 2)) (carry_less n (2 * b) (c / 2))

-- one step of the remainder
taken_off : ℕ → ℕ → ℕ → ℕ
taken_off t m p = cond (t == 1) (bit_xor p m) p

taken_off-xor : (s t m p q : ℕ) → s < 2 → t < 2 → taken_off (bit_xor s t) m (bit_xor p q) ≡ bit_xor (taken_off s m p) (taken_off t m q)
unfolding taken_off
taken_off-xor s t m p q h k = elim (bit_cases s h) [
  | inl e ↦ elim (bit_cases t k) [ inl f ↦ rw (e, f) refl | inr f ↦ rw (e, f) (xor_assoc p q m) ]
  | inr e ↦ elim (bit_cases t k) [
    | inl f ↦ rw (e, f) (xor_assoc p q m ∙ ap (bit_xor p) (xor_comm q m) ∙ sym (xor_assoc p m q))
    | inr f ↦ rw (e, f) (sym (xor_swap p m q m ∙ ap (bit_xor (bit_xor p q)) (xor_self m) ∙ xor_zero_r (bit_xor p q)))
  ]
]

reduced-xor : (n p q : ℕ) → reduced n (bit_xor p q) ≡ bit_xor (reduced n p) (reduced n q)
unfolding reduced taken_off
reduced-xor zero p q = refl
reduced-xor (suc n) p q =
    ap (λ t. reduced n (taken_off t (0x11D * 2 ^ n) (bit_xor p q))) (xor_bit p q (8 + n))
    ∙ ap (reduced n) (taken_off-xor (p / 2 ^ (8 + n) % 2) (q / 2 ^ (8 + n) % 2) (0x11D * 2 ^ n) p q (omega arith) (omega arith))
    ∙ reduced-xor n (taken_off (p / 2 ^ (8 + n) % 2) (0x11D * 2 ^ n) p) (taken_off (q / 2 ^ (8 + n) % 2) (0x11D * 2 ^ n) q)

pub mul-add_right : (a b c : ℕ) → field_mul a (bit_xor b c) ≡ bit_xor (field_mul a b) (field_mul a c)
unfolding field_mul
mul-add_right a b c = ap (reduced 7) (carry_less-xor_right 8 a b c) ∙ reduced-xor 7 (carry_less 8 a b) (carry_less 8 a c)

pub mul-add_left : (a b c : ℕ) → field_mul (bit_xor a b) c ≡ bit_xor (field_mul a c) (field_mul b c)
unfolding field_mul
mul-add_left a b c = ap (reduced 7) (carry_less-xor_left 8 a b c) ∙ reduced-xor 7 (carry_less 8 a c) (carry_less 8 b c)

pub mul-zero : (a : ℕ) → field_mul a 0 ≡ 0
mul-zero a = sym (ap (field_mul a) (xor_self 0)) ∙ mul-add_right a 0 0 ∙ xor_self (field_mul a 0)

pub zero-mul : (a : ℕ) → field_mul 0 a ≡ 0
zero-mul a = sym (ap (λ x. field_mul x a) (xor_self 0)) ∙ mul-add_left 0 0 a ∙ xor_self (field_mul 0 a)

-- ---- what holds of powers of two

powers_fit : all_below 8 (λ i. all_below 8 (λ j. nat_lt (field_mul (2 ^ i) (2 ^ j)) 256)) ≡ true
unfolding field_mul carry_less reduced
powers_fit = refl

powers_commute : all_below 8 (λ i. all_below 8 (λ j. field_mul (2 ^ i) (2 ^ j) == field_mul (2 ^ j) (2 ^ i))) ≡ true
unfolding field_mul carry_less reduced
powers_commute = refl

powers_assoc : all_below 8 (λ i. all_below 8 (λ j. all_below 8 (λ k. field_mul (field_mul (2 ^ i) (2 ^ j)) (2 ^ k) == field_mul (2 ^ i) (field_mul (2 ^ j) (2 ^ k))))) ≡ true
unfolding field_mul carry_less reduced
powers_assoc = refl

powers_one : all_below 8 (λ i. field_mul 1 (2 ^ i) == 2 ^ i) ≡ true
unfolding field_mul carry_less reduced
powers_one = refl

-- ---- the field

pub mul-fits : (a b : ℕ) → a < 256 → b < 256 → field_mul a b < 256
mul-fits a b h k =
    by_bits (λ y. field_mul a y < 256) (rw (mul-zero a) (omega arith)) (λ x y p q. rw (mul-add_right a x y) (xor_lt 8 _ _ p q)) 8
    (λ j below_j. by_bits (λ x. field_mul x (2 ^ j) < 256) (rw (zero-mul (2 ^ j)) (omega arith)) (λ x y p q. rw (mul-add_left x y (2 ^ j)) (xor_lt 8 _ _ p q)) 8
    (λ i below_i. ltb-true _ _ (each_below 8 (λ j. nat_lt (field_mul (2 ^ i) (2 ^ j)) 256) (each_below 8 (λ i. all_below 8 (λ j. nat_lt (field_mul (2 ^ i) (2 ^ j)) 256)) powers_fit i below_i) j below_j))
    a h)
    b k

pub mul_comm : (a b : ℕ) → a < 256 → b < 256 → field_mul a b ≡ field_mul b a
mul_comm a b h k =
    by_bits (λ y. field_mul a y ≡ field_mul y a) (mul-zero a ∙ sym (zero-mul a)) (λ x y p q. mul-add_right a x y ∙ (λ i. bit_xor (p i) (q i)) ∙ sym (mul-add_left x y a)) 8
    (λ j below_j. by_bits (λ x. field_mul x (2 ^ j) ≡ field_mul (2 ^ j) x) (zero-mul (2 ^ j) ∙ sym (mul-zero (2 ^ j))) (λ x y p q. mul-add_left x y (2 ^ j) ∙ (λ i. bit_xor (p i) (q i)) ∙ sym (mul-add_right (2 ^ j) x y)) 8
    (λ i below_i. equal_below_both 8 8 (λ i j. field_mul (2 ^ i) (2 ^ j)) (λ i j. field_mul (2 ^ j) (2 ^ i)) powers_commute i j below_i below_j)
    a h)
    b k

pub mul_assoc : (a b c : ℕ) → a < 256 → b < 256 → c < 256 → field_mul (field_mul a b) c ≡ field_mul a (field_mul b c)
mul_assoc a b c h k l =
    by_bits (λ z. field_mul (field_mul a b) z ≡ field_mul a (field_mul b z)) (mul-zero _ ∙ sym (ap (field_mul a) (mul-zero b) ∙ mul-zero a))
    (λ x y p q. mul-add_right (field_mul a b) x y ∙ (λ i. bit_xor (p i) (q i)) ∙ sym (ap (field_mul a) (mul-add_right b x y) ∙ mul-add_right a _ _)) 8
    (λ m below_m. by_bits (λ y. field_mul (field_mul a y) (2 ^ m) ≡ field_mul a (field_mul y (2 ^ m)))
    (ap (λ x. field_mul x (2 ^ m)) (mul-zero a) ∙ zero-mul (2 ^ m) ∙ sym (ap (field_mul a) (zero-mul (2 ^ m)) ∙ mul-zero a))
    (λ x y p q. ap (λ s. field_mul s (2 ^ m)) (mul-add_right a x y) ∙ mul-add_left _ _ (2 ^ m) ∙ (λ i. bit_xor (p i) (q i)) ∙ sym (ap (field_mul a) (mul-add_left x y (2 ^ m)) ∙ mul-add_right a _ _)) 8
    (λ j below_j. by_bits (λ x. field_mul (field_mul x (2 ^ j)) (2 ^ m) ≡ field_mul x (field_mul (2 ^ j) (2 ^ m)))
    (ap (λ s. field_mul s (2 ^ m)) (zero-mul (2 ^ j)) ∙ zero-mul (2 ^ m) ∙ sym (zero-mul (field_mul (2 ^ j) (2 ^ m))))
    (λ x y p q. ap (λ s. field_mul s (2 ^ m)) (mul-add_left x y (2 ^ j)) ∙ mul-add_left _ _ (2 ^ m) ∙ (λ i. bit_xor (p i) (q i)) ∙ sym (mul-add_left x y (field_mul (2 ^ j) (2 ^ m)))) 8
    (λ i below_i. eqb-true _ _ (powers i j m below_i below_j below_m))
    a h)
    b k)
    c l
  where
    powers : (i j m : ℕ) → i < 8 → j < 8 → m < 8 → (field_mul (field_mul (2 ^ i) (2 ^ j)) (2 ^ m) == field_mul (2 ^ i) (field_mul (2 ^ j) (2 ^ m))) ≡ true
    powers i j m p q r =
        each_below 8 (λ k. field_mul (field_mul (2 ^ i) (2 ^ j)) (2 ^ k) == field_mul (2 ^ i) (field_mul (2 ^ j) (2 ^ k)))
        (each_below 8 (λ j. all_below 8 (λ k. field_mul (field_mul (2 ^ i) (2 ^ j)) (2 ^ k) == field_mul (2 ^ i) (field_mul (2 ^ j) (2 ^ k))))
        (each_below 8 (λ i. all_below 8 (λ j. all_below 8 (λ k. field_mul (field_mul (2 ^ i) (2 ^ j)) (2 ^ k) == field_mul (2 ^ i) (field_mul (2 ^ j) (2 ^ k))))) powers_assoc i p) j q) m r

pub one-mul : (a : ℕ) → a < 256 → field_mul 1 a ≡ a
one-mul a h =
    by_bits (λ x. field_mul 1 x ≡ x) (mul-zero 1) (λ x y p q. mul-add_right 1 x y ∙ (λ i. bit_xor (p i) (q i))) 8
    (equal_below 8 (λ i. field_mul 1 (2 ^ i)) (λ i. 2 ^ i) powers_one) a h
