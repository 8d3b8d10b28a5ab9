use Rattle.std.proofs.Common.{◌*◌, ◌/◌, length, fold, drop, ap, ◌∙◌}
use Rattle.crc32c.specs.Register.{register}
use Rattle.crc32c.proofs.Words.{chunks_fed, parts_fed}
use Rattle.crc32c.proofs.register.after_blocks.Goals as goal

pub returns : goal.returns
returns c =
    let bytes = c.args.bytes.now in
    let count = length c.args.bytes.now / 16 in
    c.after_each.ensures
    ∙ ap (register c.after_all.result) c.as_chunks.ensures.back
    ∙ ap (λ r. register r (drop (length c.args.bytes.now / 16 * 16) c.args.bytes.now))
    (c.after_all.ensures ∙ ap (fold register c.args.start) c.as_chunks.ensures.front ∙ chunks_fed (length c.args.bytes.now / 16) c.args.start c.args.bytes.now)
    ∙ parts_fed (length c.args.bytes.now / 16 * 16) c.args.start c.args.bytes.now
