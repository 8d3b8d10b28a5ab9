-- The checksum by a shift register of 32 bits, as it is computed. Its lowest bit is the coefficient of
-- the highest degree.
use Rattle.std.specs.Prelude.{ℕ, zero, suc, ◌/◌, ◌%◌, List, bit_xor, fold, ◌==◌, if◌then◌else◌}

-- the register behind a zero bit: divided by x, and the term of degree 32 taken off by the polynomial
unfoldable pub turned : ℕ → ℕ
turned s = bit_xor (s / 2) (if s % 2 == 1 then 0x82F63B78 else 0)

-- the register behind n zero bits
unfoldable pub turns : ℕ → ℕ → ℕ
turns zero s = s
turns (suc n) s = turns n (turned s)

-- the register behind these bytes
unfoldable pub register : ℕ → List ℕ → ℕ
register s bytes = fold (λ before b. turns 8 (bit_xor before b)) s bytes
