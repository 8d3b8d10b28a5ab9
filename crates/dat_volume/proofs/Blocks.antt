-- The super block that the first eight bytes of a data file are read as.
use Rattle.std.proofs.Common.{◌≡◌, ℕ, ◌<◌, ◌≤◌, List, length, take, drop, false, true, Result, Ok, Err, sym, ◌∙◌, ap, arith}
use Rattle.std.specs.Prelude.{◌==◌, ◌&&◌, slice_index, is_ok, MatchResult}
use Rattle.std.proofs.lemmas.Bool.{lt-leb}
use Rattle.std.proofs.lemmas.List.{take-append-drop, length-take-le}
use Rattle.wire_num.specs.Numbers.{number_of}
use Rattle.volume_forms.specs.declared.SuperBlock.{SuperBlock}
use Rattle.volume_forms.specs.declared.SuperFault.{SuperFault}
use Rattle.volume_forms.specs.Faults.{HasFault}
use Rattle.volume_forms.specs.Forms.{has_super}
use Rattle.volume_forms.specs.Laws.Super.{fault-refused}
use Rattle.image_meaning.specs.Laws.Plain.{has_super-front}

-- there are too few bytes
pub short_block : (dat : List ℕ) → length dat < 8 → false ≡ has_super dat
unfolding has_super
short_block dat short = λ i. (sym (lt-leb 8 (length dat) short) i && (slice_index dat 0 == 3)) && (number_of 2 (drop 6 dat) == 0)

-- what they are read as
pub block_read : (r : Result SuperBlock SuperFault) (front dat : List ℕ) → MatchResult r (λ block. has_super front ≡ true) (λ fault. HasFault fault front) → front ≡ take 8 (drop 0 dat) → 8 ≤ length dat
    → is_ok r ≡ has_super dat
block_read r front dat told is long = by_read r told ∙ ap has_super is ∙ sym (has_super-front (take 8 dat) (drop 8 dat) (omega (arith, length-take-le 8 dat long))) ∙ ap has_super (take-append-drop 8 dat)
  where
    by_read : (r : Result SuperBlock SuperFault) → MatchResult r (λ block. has_super front ≡ true) (λ fault. HasFault fault front) → is_ok r ≡ has_super front
    by_read (Ok block) told = sym told
    by_read (Err fault) told = sym (fault-refused fault front told)
