use Rattle.std.proofs.Common.{◌≡◌, ℕ, ◌<◌, ◌^◌, List, length, ap, sym, ◌∙◌, arith}
use Rattle.std.specs.Int.{w32, cast_signed, cast_unsigned}
use Rattle.std.proofs.lemmas.Int.{of_z-to_z}
use Rattle.std.proofs.lemmas.List.{take_all}
use Rattle.wire_num.specs.Laws.Number.{AreBytes, bytes_are}
use Rattle.volume_forms.specs.Forms.{entry_at, entry_bytes}
use Rattle.volume_forms.specs.Laws.Entry.{entry_at-spelled}
use Rattle.volume_forms.proofs.read_entry.Goals as goal

whole_entry : (bytes : List ℕ) → AreBytes bytes → length bytes ≡ 16 → bytes ≡ entry_bytes (entry_at bytes)
whole_entry bytes all long = sym (entry_at-spelled bytes all (omega arith) ∙ take_all 16 bytes (omega arith))

sign_kept : (bits : ℕ) → bits < 2 ^ 32 → cast_signed w32 (cast_unsigned w32 (cast_signed w32 bits)) ≡ cast_signed w32 bits
sign_kept bits fits = ap (cast_signed w32) (of_z-to_z w32 bits fits)

pub returns-clause-spelled : goal.returns-clause-spelled
returns-clause-spelled c =
    rw (c.cast_signed.ensures, sign_kept c.get_u32-2.result (omega arith), c.get_u64.ensures, c.get_u32.ensures, c.get_u32-2.ensures) (whole_entry c.args.bytes.now (bytes_are _ (λ k. omega (arith, c.fits-bytes k))) c.told-bytes)
