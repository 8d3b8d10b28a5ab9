use Rattle.std.proofs.Common.{ℕ, ◌+◌, ◌++◌, replicate, ap, subst, ◌∙◌, arith}
use Rattle.std.specs.Option.{option_map_or}
use Rattle.crc32c.specs.Checksum.{checksum}
use Rattle.wire_num.specs.Numbers.{bytes_of, padding_of, record_length}
use Rattle.world_model.specs.Sizes.{size_of_content}
use Rattle.needle_record.specs.Spelling.{header, body_of, data_of, canonical}
use Rattle.needle_record.specs.Appending.{Appends}
use Rattle.needle_record.proofs.Joined.{Appends-then, Appends-count}
use Rattle.needle_record.proofs.writing.push_record.Goals as goal

pub returns : goal.returns
unfolding canonical
returns c =
    let stored = subst (λ x. Appends c.push_content.new.out c.push_u32-3.new.out 4 (bytes_of 4 x)) (c.crc.ensures ∙ ap checksum c.data_of.ensures) c.push_u32-3.ensures in
    let padded = subst (λ (n : ℕ). Appends c.push_u64-2.new.out c.push_zeros.new.out n (replicate n 0)) c.padding.ensures c.push_zeros.ensures in
    let whole =
    Appends-then _ _ _ _ _ _ _
    (Appends-then _ _ _ _ _ _ _
    (Appends-then _ _ _ _ _ _ _
    (Appends-then _ _ _ _ _ _ _
    (Appends-then _ _ _ _ _ _ _
    (Appends-then _ _ _ _ _ _ _ c.push_u32.ensures c.push_u64.ensures)
    c.push_u32-2.ensures)
    c.push_content.ensures)
    stored)
    c.push_u64-2.ensures)
    padded in
    Appends-count c.args.out.now c.push_zeros.new.out (4 + 8 + 4 + option_map_or size_of_content c.args.needle.now.content 0 + 4 + 8 + padding_of c.args.size) (record_length c.args.size) _
    (subst (λ (n : ℕ). Appends c.args.out.now c.push_zeros.new.out (4 + 8 + 4 + option_map_or size_of_content c.args.needle.now.content 0 + 4 + 8 + padding_of c.args.size)
    (header c.args.needle.now n ++ body_of c.args.needle.now.content ++ bytes_of 4 (checksum (data_of c.args.needle.now.content)) ++ bytes_of 8 c.args.needle.now.appended ++ replicate (padding_of n) 0)) c.requires.size whole)
    (omega arith)
