use Rattle.std.proofs.Common.{◌≡◌, ◌++◌, [], ℤ, FitsSigned, ap, arith, rules, drop, take, sym, ◌∙◌}
use Rattle.std.specs.Int.{w32, cast_signed, cast_unsigned}
use Rattle.std.proofs.lemmas.Int.{to_z-of_z}
use Rattle.std.proofs.lemmas.List.{append-nil}
use Rattle.wire_num.specs.Numbers.{bytes_of}
use Rattle.volume_forms.specs.Forms.{entry_at, entry_bytes}
use Rattle.volume_forms.specs.Laws.Entry.{entry_at-entry_bytes}
use Rattle.volume_forms.proofs.write_entry.Goals as goal

bits_kept : (z : ℤ) → FitsSigned w32 z → cast_unsigned w32 (cast_signed w32 (cast_unsigned w32 z)) ≡ cast_unsigned w32 z
bits_kept z fits = ap (cast_unsigned w32) (to_z-of_z w32 z fits)

pub returns-clause-spelled : goal.returns-clause-spelled
unfolding bytes_of
returns-clause-spelled c =
    c.put_u32-2.ensures
    ∙ ap (λ out. take 12 out ++ (bytes_of 4 c.cast_unsigned.result ++ drop 16 out)) (c.put_u32.ensures ∙ ap (λ out. take 8 out ++ (bytes_of 4 c.args.entry.now.offset ++ drop 12 out)) c.put_u64.ensures)
    ∙ ap (λ bits. bytes_of 8 c.args.entry.now.id ++ bytes_of 4 c.args.entry.now.offset ++ bytes_of 4 bits) (c.cast_unsigned.ensures ∙ bits_kept c.args.entry.now.size (search rules))

pub returns-clause-again : goal.returns-clause-again
returns-clause-again c =
    let spelled : c.put_u32-2.new.out ≡ entry_bytes c.args.entry.now = returns-clause-spelled c in
    ap entry_at (spelled ∙ sym (append-nil (entry_bytes c.args.entry.now))) ∙ entry_at-entry_bytes c.args.entry.now [] (omega arith) (omega arith) (search rules)
