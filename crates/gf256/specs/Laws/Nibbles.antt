-- A product by the products of its factors' nibbles.
use Rattle.std.proofs.Common.{◌≡◌, ℕ, ◌*◌, ◌/◌, ◌%◌, ◌^◌, ◌<◌, sym, ◌∙◌, ap, arith}
use Rattle.std.specs.Prelude.{bit_xor}
use Rattle.std.specs.Int.Bits.{xor_comm, xor_assoc, xor_shifted}
use Rattle.gf256.specs.Field.{field_mul}
use Rattle.gf256.specs.Laws.Field.{mul-add_right, mul-add_left}

pub from_nibbles : (a : ℕ) → a < 256 → bit_xor (16 * (a / 16)) (a % 16) ≡ a
from_nibbles a h = ap (λ m. bit_xor m (a % 16)) (swapped (a / 16)) ∙ xor_shifted (a / 16) 4 (a % 16) (omega arith) ∙ omega arith
  where
    swapped : (n : ℕ) → 16 * n ≡ n * 2 ^ 4
    swapped n = omega arith

pub mul-nibbles_right : (a b : ℕ) → b < 256 → field_mul a b ≡ bit_xor (field_mul a (16 * (b / 16))) (field_mul a (b % 16))
mul-nibbles_right a b h = ap (field_mul a) (sym (from_nibbles b h)) ∙ mul-add_right a (16 * (b / 16)) (b % 16)

pub mul-nibbles_left : (a b : ℕ) → a < 256 → field_mul a b ≡ bit_xor (field_mul (16 * (a / 16)) b) (field_mul (a % 16) b)
mul-nibbles_left a b h = ap (λ m. field_mul m b) (sym (from_nibbles a h)) ∙ mul-add_left (16 * (a / 16)) (a % 16) b

-- the four products of nibbles
pub nibbles-mul : (a b : ℕ) → a < 256 → b < 256
    → bit_xor (bit_xor (bit_xor (field_mul (a % 16) (b % 16)) (field_mul (a % 16) (16 * (b / 16)))) (field_mul (16 * (a / 16)) (b % 16))) (field_mul (16 * (a / 16)) (16 * (b / 16))) ≡ field_mul a b
nibbles-mul a b h k =
    let low : ℕ = a % 16 in
    let high : ℕ = 16 * (a / 16) in
    ap (λ m. bit_xor (bit_xor m (field_mul high (b % 16))) (field_mul high (16 * (b / 16)))) (joined low)
    ∙ xor_assoc (field_mul low b) (field_mul high (b % 16)) (field_mul high (16 * (b / 16)))
    ∙ ap (bit_xor (field_mul low b)) (joined high)
    ∙ xor_comm (field_mul low b) (field_mul high b)
    ∙ sym (mul-nibbles_left a b h)
  where
    joined : (m : ℕ) → bit_xor (field_mul m (b % 16)) (field_mul m (16 * (b / 16))) ≡ field_mul m b
    joined m = xor_comm (field_mul m (b % 16)) (field_mul m (16 * (b / 16))) ∙ sym (mul-nibbles_right m b k)
