-- The first place of a byte, as a search answers it.
use Rattle.std.proofs.Common.{◌≡◌, ℕ, ◌==◌, not, Bool, true, false, Some, None, List, length, refl, sym, arith}
use Rattle.std.specs.List.{prefix_len}
use Rattle.std.proofs.lemmas.List.Sums.{position_or_len_is}
use Rattle.memchr.specs.Find.{IsFirstByte, is_byte}

not_true : (b : Bool) → ¬ (b ≡ true) → b ≡ false
not_true true h = absurd (h refl)
not_true false h = refl

pub found : (b : ℕ) (text : List ℕ) (at : ℕ) → IsFirstByte (is_byte b) text (Some at) → at ≡ prefix_len (λ x. not (x == b)) text
found b text at first = sym (position_or_len_is (is_byte b) text at 0 (omega (arith, first.0.high)) (λ k below. not_true _ (first.0.before k (omega arith) below)) (λ _. first.1))

pub missed : (b : ℕ) (text : List ℕ) → IsFirstByte (is_byte b) text None → length text ≡ prefix_len (λ x. not (x == b)) text
missed b text none = sym (position_or_len_is (is_byte b) text (length text) 0 (omega arith) (λ k below. not_true _ (none k (omega arith) below)) (λ h. absurd (omega arith)))
