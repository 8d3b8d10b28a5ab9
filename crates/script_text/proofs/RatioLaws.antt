-- What is no text is no ratio.
use Rattle.std.proofs.Common.{◌≡◌, true, false, List, ℕ, None, refl, sym, ◌∙◌, subst}
use Rattle.std.specs.Prelude.{codes}
use Rattle.std.specs.Str.{IsUtf8, bytes_eq, is_utf8, chars}
use Rattle.std.proofs.lemmas.Bool.{cond-false, false_from_ne_true}
use Rattle.std.proofs.lemmas.Slice.Eq.{bytes_eq-Decides}
use Rattle.std.proofs.lemmas.Str.{IsUtf8-from_is_utf8}
use Rattle.world_model.specs.Ratios.{ratio_in}
use lib.Utf8.{encode}

other_word : (word text : List ℕ) → ¬ IsUtf8 word → is_utf8 text ≡ true → bytes_eq word text ≡ false
other_word word text none is = false_from_ne_true (bytes_eq word text) (λ same. none (subst IsUtf8 (sym ((bytes_eq-Decides word text).0 same)) (IsUtf8-from_is_utf8 text is)))

pub not_ratio : (word : List ℕ) → ¬ IsUtf8 word → ratio_in word ≡ None
unfolding ratio_in is_utf8 chars encode
not_ratio word none =
    cond-false (bytes_eq word (codes "3+2")) _ _ (other_word word (codes "3+2") none refl)
    ∙ cond-false (bytes_eq word (codes "6+3")) _ _ (other_word word (codes "6+3") none refl)
    ∙ cond-false (bytes_eq word (codes "10+4")) _ _ (other_word word (codes "10+4") none refl)
    ∙ cond-false (bytes_eq word (codes "12+4")) _ _ (other_word word (codes "12+4") none refl)
