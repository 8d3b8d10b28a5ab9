use Rattle.std.proofs.Common.{◌+◌, ◌++◌, length, subst, arith}
use Rattle.wire_num.specs.Numbers.{bytes_of}
use Rattle.needle_record.specs.Spelling.{body}
use Rattle.needle_record.specs.Appending.{Appends}
use Rattle.needle_record.proofs.Joined.{Appends-then, Appends-count}
use Rattle.needle_record.proofs.appending.push_body.Goals as goal

pub returns : goal.returns
unfolding body
returns c =
    let start = subst (λ t. Appends c.args.out.now c.push_data.new.out (4 + length t) (bytes_of 4 (length t) ++ t)) c.as_slice.ensures c.push_data.ensures in
    let flag = subst (λ x. Appends c.push_data.new.out c.push_u8.new.out 1 (bytes_of 1 x)) c.flag_byte.ensures c.push_u8.ensures in
    Appends-count _ _ _ _ _
    (Appends-then _ _ _ _ _ _ _
    (Appends-then _ _ _ _ _ _ _
    (Appends-then _ _ _ _ _ _ _
    (Appends-then _ _ _ _ _ _ _
    (Appends-then _ _ _ _ _ _ _
    (Appends-then _ _ _ _ _ _ _ start flag)
    c.push_text.ensures)
    c.push_text-2.ensures)
    c.push_modified.ensures)
    c.push_ttl.ensures)
    c.push_pairs.ensures)
    (omega arith)
