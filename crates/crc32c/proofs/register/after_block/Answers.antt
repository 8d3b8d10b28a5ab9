use Rattle.std.proofs.Common.{◌≡◌, [], get_or, take, drop, ap, sym, ◌∙◌, arith}
use Rattle.std.specs.Prelude.{bit_xor}
use Rattle.std.specs.Int.{w64, from_le_bytes}
use Rattle.std.specs.Int.Bits.{xor_comm}
use Rattle.crc32c.specs.Register.{turns}
use Rattle.crc32c.proofs.Words.{block_words, sixteen_fed}
use Rattle.crc32c.proofs.register.after_block.Goals as goal

pub returns : goal.returns
returns c =
    let words = c.as_chunks.ensures.front ∙ block_words c.args.block.now c.told-block in
    let first : c.from_le_bytes.result ≡ from_le_bytes w64 (take 8 c.args.block.now) =
    c.from_le_bytes.ensures ∙ ap (λ ws. from_le_bytes w64 (get_or ws 0 [])) words in
    let second : c.from_le_bytes-second.result ≡ from_le_bytes w64 (take 8 (drop 8 c.args.block.now)) =
    c.from_le_bytes-second.ensures ∙ ap (λ ws. from_le_bytes w64 (get_or ws 1 [])) words in
    let far = c.behind_128.ensures ∙ ap (λ x. turns 128 (bit_xor x c.from.result)) first ∙ ap (λ s. turns 128 (bit_xor (from_le_bytes w64 (take 8 c.args.block.now)) s)) c.from.ensures in
    let near = c.behind_64.ensures ∙ ap (turns 64) second in
    xor_comm c.behind_64.result c.behind_128.result ∙ ap (λ x. bit_xor x c.behind_64.result) far ∙ ap (bit_xor (turns 128 (bit_xor (from_le_bytes w64 (take 8 c.args.block.now)) c.args.sum))) near
    ∙ sym (sixteen_fed c.args.block.now c.args.sum c.told-block (λ k. omega (arith, c.fits-block k)))
