use Rattle.std.proofs.Common.{◌≡◌, ℕ, ◌-◌, ◌^◌, ◌<◌, ◌++◌, ap, sym, ◌∙◌, arith}
use Rattle.std.specs.Prelude.{bit_xor, fold, get_or}
use Rattle.std.proofs.lemmas.List.Sums.{fold-append}
use Rattle.crc32c.specs.Register.{register, turns}
use Rattle.crc32c.proofs.Turns.{register-lt}
use Rattle.crc32c.proofs.Division.{checksum-is, bytes_on}
use Rattle.crc32c.proofs.crc_on.Goals as goal

pub returns : goal.returns
unfolding register
returns c = λ front h is.
    let small : register 0xFFFFFFFF front < 2 ^ 32 = register-lt front 0xFFFFFFFF (omega arith) h in
    let before : 2 ^ 32 - 1 - c.args.sum ≡ register 0xFFFFFFFF front = omega (arith, is ∙ checksum-is front h, small) in
    let behind : register (2 ^ 32 - 1 - c.args.sum) c.args.bytes.now ≡ register 0xFFFFFFFF (front ++ c.args.bytes.now) =
    ap (λ s. register s c.args.bytes.now) before ∙ sym (fold-append (λ s b. turns 8 (bit_xor s b)) 0xFFFFFFFF front c.args.bytes.now) in
    ap (λ r. 2 ^ 32 - 1 - r) (c.after_blocks.ensures ∙ behind)
    ∙ sym (checksum-is (front ++ c.args.bytes.now) (bytes_on front c.args.bytes.now h (λ k. omega (arith, c.type_inv.bytes k))))
