-- Powers and inverses.
use Rattle.std.proofs.Common.{◌≡◌, ◌⊎◌, inl, inr, ℕ, zero, suc, ◌*◌, ◌/◌, ◌%◌, ◌<◌, ◌≢◌, Bool, true, false, refl, sym, ◌∙◌, ap, arith}
use Rattle.std.specs.Prelude.{◌==◌, ◌||◌}
use Rattle.std.proofs.lemmas.Bool.{eqb-true}
use Rattle.gf256.specs.Field.{field_mul, field_pow, field_inv, carry_less, reduced}
use Rattle.gf256.specs.Laws.Field.{mul-fits, mul_comm, mul_assoc, one-mul}
use Rattle.gf256.specs.Computed.{all_below, each_below}

pub pow-fits : (a n : ℕ) → a < 256 → field_pow a n < 256
unfolding field_pow
pow-fits a zero h = omega arith
pow-fits a (suc n) h = mul-fits a (field_pow a n) h (pow-fits a n h)

pub mul-one : (a : ℕ) → a < 256 → field_mul a 1 ≡ a
mul-one a h = mul_comm a 1 h (omega arith) ∙ one-mul a h

pub pow-suc : (a n : ℕ) → field_pow a (suc n) ≡ field_mul a (field_pow a n)
unfolding field_pow
pow-suc a n = refl

pub pow-square : (a n : ℕ) → a < 256 → field_pow (field_mul a a) n ≡ field_pow a (2 * n)
unfolding field_pow
pow-square a zero h = refl
pow-square a (suc n) h =
    let twice : suc (suc (2 * n)) ≡ 2 * suc n = omega arith in
    ap (field_mul (field_mul a a)) (pow-square a n h)
    ∙ mul_assoc a a (field_pow a (2 * n)) h h (pow-fits a (2 * n) h)
    ∙ ap (field_pow a) twice

-- the product of the first n squares: of a squared, of its square, and so on
abbrev pub square_products : ℕ → ℕ → ℕ
square_products zero a = 1
square_products (suc n) a = let square = field_mul a a in field_mul square (square_products n square)

abbrev exponent : ℕ → ℕ
exponent zero = 0
exponent (suc n) = 2 * suc (exponent n)

square_products-is : (n a : ℕ) → a < 256 → square_products n a ≡ field_pow a (exponent n)
unfolding field_pow
square_products-is zero a h = refl
square_products-is (suc n) a h =
    ap (field_mul (field_mul a a)) (square_products-is n (field_mul a a) (mul-fits a a h h)) ∙ pow-square a (suc (exponent n)) h

-- the inverse by thirteen products
pub inv-is : (a : ℕ) → a < 256 → field_inv a ≡ square_products 7 a
unfolding field_inv
inv-is a h = sym (square_products-is 7 a h)

pub inv-fits : (a : ℕ) → a < 256 → field_inv a < 256
unfolding field_inv
inv-fits a h = pow-fits a 254 h

inverses : all_below 256 (λ a. (a == 0) || (field_mul a (square_products 7 a) == 1)) ≡ true
unfolding field_mul carry_less reduced
inverses = refl

either_true : (p q : Bool) → (p || q) ≡ true → (p ≡ true) ⊎ (q ≡ true)
either_true true q e = inl refl
either_true false q e = inr e

pub mul-inv : (a : ℕ) → a < 256 → a ≢ 0 → field_mul a (field_inv a) ≡ 1
mul-inv a h nonzero =
    elim (either_true (a == 0) (field_mul a (square_products 7 a) == 1) (each_below 256 (λ a. (a == 0) || (field_mul a (square_products 7 a) == 1)) inverses a h)) [
      | inl none ↦ absurd (nonzero (eqb-true a 0 none))
      | inr found ↦ ap (field_mul a) (inv-is a h) ∙ eqb-true _ _ found
    ]

pub pow-even : (a n : ℕ) → a < 256 → n % 2 ≡ 0 → field_pow a n ≡ field_pow (field_mul a a) (n / 2)
pow-even a n h even = let twice : n ≡ 2 * (n / 2) = omega arith in ap (field_pow a) twice ∙ sym (pow-square a (n / 2) h)

pub pow-odd : (a n : ℕ) → a < 256 → n % 2 ≡ 1 → field_pow a n ≡ field_mul a (field_pow (field_mul a a) (n / 2))
pow-odd a n h odd =
    let twice : n ≡ suc (2 * (n / 2)) = omega arith in
    ap (field_pow a) twice ∙ pow-suc a (2 * (n / 2)) ∙ ap (field_mul a) (sym (pow-square a (n / 2) h))

-- a to the power n is what is gathered times the square to the power that is left
pub record IsPowering (a n power square left : ℕ) : Type 0 where
  pub power_fits : power < 256
  pub square_fits : square < 256
  pub product : field_mul power (field_pow square left) ≡ field_pow a n

pub begins_powering : (a n : ℕ) → a < 256 → IsPowering a n 1 a n
begins_powering a n h = record { power_fits = omega arith; square_fits = h; product = one-mul (field_pow a n) (pow-fits a n h) }

pub powering-even : (a n power square left : ℕ) → IsPowering a n power square left → left % 2 ≡ 0 → IsPowering a n power (field_mul square square) (left / 2)
powering-even a n power square left so_far even = record {
  power_fits = so_far.power_fits;
  square_fits = mul-fits square square so_far.square_fits so_far.square_fits;
  product = ap (field_mul power) (sym (pow-even square left so_far.square_fits even)) ∙ so_far.product;
}

pub powering-odd : (a n power square left : ℕ) → IsPowering a n power square left → left % 2 ≡ 1 → IsPowering a n (field_mul power square) (field_mul square square) (left / 2)
powering-odd a n power square left so_far odd =
    let fits : field_mul square square < 256 = mul-fits square square so_far.square_fits so_far.square_fits in
    record {
      power_fits = mul-fits power square so_far.power_fits so_far.square_fits;
      square_fits = fits;
      product =
          mul_assoc power square (field_pow (field_mul square square) (left / 2)) so_far.power_fits so_far.square_fits (pow-fits (field_mul square square) (left / 2) fits)
          ∙ ap (field_mul power) (sym (pow-odd square left so_far.square_fits odd)) ∙ so_far.product;
    }

pub powering-done : (a n power square left : ℕ) → IsPowering a n power square left → left ≡ 0 → power ≡ field_pow a n
unfolding field_pow
powering-done a n power square left so_far done = sym (mul-one power so_far.power_fits) ∙ ap (λ m. field_mul power (field_pow square m)) (sym done) ∙ so_far.product
