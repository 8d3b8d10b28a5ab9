use Rattle.std.proofs.Common.{◌≡◌, ℕ, ◌+◌, ◌*◌, ◌/◌, ◌%◌, ◌^◌, ◌<◌, ap, ◌∙◌, arith}
use Rattle.std.specs.Int.{w32, rotate_right}
use Rattle.std.specs.Int.Bits.{or_shifted_r}
use Rattle.std.specs.Int.RustNames.{bit_or}
use Rattle.crc32c.specs.Checksum.{masked}
use Rattle.crc32c.proofs.masked.Goals as goal

rotated : (n : ℕ) → n < 2 ^ 32 → rotate_right w32 n 15 ≡ n / 2 ^ 15 + n % 2 ^ 15 * 2 ^ 17
rotated n h =
    let moved : n * 2 ^ 17 % 2 ^ 32 ≡ n % 2 ^ 15 * 2 ^ 17 = omega arith in
    ap (bit_or (n / 2 ^ 15)) moved ∙ or_shifted_r (n % 2 ^ 15) 17 (n / 2 ^ 15) (omega arith) ∙ omega arith

pub returns : goal.returns
unfolding masked
returns c = ap (λ x. (x + 0xa282ead8) % 2 ^ 32) (c.rotate_right.ensures ∙ rotated c.args.value (omega arith))
