-- Hexadecimal words of a fixed length.
use Rattle.std.proofs.Common.{◌≡◌, ℕ, ◌*◌, ◌==◌, cond, List, length, Option, Some, None, Result, Ok, Err, refl, sym, ap, ◌∙◌, arith}
use Rattle.std.specs.Prelude.{option_and_then}
use Rattle.std.specs.Result.{result_ok}
use Rattle.std.proofs.lemmas.Bool.{eq-eqb, ne_eqb, cond-true, cond-false}
use Rattle.hex.specs.Hex.{decode_of, decode_sized}
use Rattle.hex.specs.declared.error.FromHexError.{FromHexError}
use Rattle.hex.proofs.HexLemmas.{decode_of-ok, decode_sized-ok, decode_sized-twice}
use Rattle.script_text.specs.Grammar.{ok_of, hex_of_length}

-- what is kept of a decoding
kept : ℕ → Result (List ℕ) FromHexError → Option (List ℕ)
kept n r = option_and_then (λ bytes. cond (length bytes == n) (Some bytes) None) (ok_of r)

by_whole : (word : List ℕ) (n : ℕ) (e : FromHexError) → decode_sized word n ≡ Err e → (r : Result (List ℕ) FromHexError) → decode_of word ≡ r → None ≡ kept n r
unfolding kept
by_whole word n e sized (Err f) whole = refl
by_whole word n e sized (Ok bytes) whole = sym (cond-false _ (Some bytes) None (ne_eqb (length bytes) n (λ same.
    let long : length word ≡ 2 * n = (decode_of-ok word bytes whole).2 ∙ ap (λ m. 2 * m) same in
    refused (sym whole ∙ sym (decode_sized-twice word n long) ∙ sized))))
  where
    refused : {bytes : List ℕ} {e : FromHexError} → Ok bytes ≡ Err e → ⊥
    refused h = cc

by_sized : (word : List ℕ) (n : ℕ) (r : Result (List ℕ) FromHexError) → decode_sized word n ≡ r → result_ok r ≡ hex_of_length n word
unfolding kept
by_sized word n (Ok bytes) sized =
    let long : length word ≡ 2 * n = decode_sized-ok word n bytes sized in
    let whole : decode_of word ≡ Ok bytes = sym (decode_sized-twice word n long) ∙ sized in
    let fits : length bytes ≡ n = half (length bytes) n (sym (decode_of-ok word bytes whole).2 ∙ long) in
    sym (ap (kept n) whole ∙ cond-true _ (Some bytes) None (eq-eqb (length bytes) n fits))
  where
    half : (a b : ℕ) → 2 * a ≡ 2 * b → a ≡ b
    half a b h = omega arith
by_sized word n (Err e) sized = by_whole word n e sized (decode_of word) refl

-- decoding into room for n bytes keeps what decodes to n bytes
pub sized_is : (word : List ℕ) (n : ℕ) → result_ok (decode_sized word n) ≡ hex_of_length n word
sized_is word n = by_sized word n (decode_sized word n) refl
