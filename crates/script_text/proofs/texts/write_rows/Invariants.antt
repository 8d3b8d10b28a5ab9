use Rattle.std.proofs.Common.{◌≡◌, ◌++◌, take}
use Rattle.std.specs.Prelude.{flat_map}
use Rattle.std.specs.String.{string_bytes}
use Rattle.script_text.specs.Texts.{row_text}
use Rattle.script_text.proofs.texts.write_rows.Given as goal

abbrev pub invariant-loop-volume : goal.invariant-loop-volume
invariant-loop-volume l = string_bytes l.text ≡ string_bytes l.fn.text ++ flat_map row_text (take l.volume-index l.volume-items)
