use Rattle.std.proofs.Common.{◌≡◌, ℕ, ◌+◌, ◌-◌, List, ◌++◌, take, drop, replicate, refl, ap, ◌∙◌, arith}
use Rattle.std.proofs.lemmas.List.{drop-drop}
use Rattle.crc32c.specs.Checksum.{checksum, divided, dividend, divisor}
use Rattle.wire_num.specs.Numbers.{bytes_of}
use Rattle.needle_record.specs.Spelling.{canonical, deletion_of}
use Rattle.needle_record.proofs.writing.put_deletion.Goals as goal

-- zeros with an id are the deletion
deletion_spelled : (id : ℕ) → take 4 (replicate 32 0) ++ (bytes_of 8 id ++ drop 12 (replicate 32 0)) ≡ canonical (deletion_of id)
unfolding canonical bytes_of checksum divided dividend divisor
deletion_spelled id = refl

behind : (at : ℕ) (out : List ℕ) → drop ((at + 32) - at) (drop at out) ≡ drop (at + 32) out
behind at out = drop-drop ((at + 32) - at) at out ∙ ap (λ k. drop k out) (omega arith)

pub returns : goal.returns
returns c = λ i. take c.args.at c.args.out.now ++ ((c.copy_from_slice.ensures.after ∙ c.put_u64.ensures ∙ deletion_spelled c.args.id) i ++ behind c.args.at c.args.out.now i)
