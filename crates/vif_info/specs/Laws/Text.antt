-- The text that is written, and that it is read as what it was written from.
use Rattle.std.proofs.Common.{◌≡◌, ℕ, ◌^◌, ◌<◌, ◌≤◌, true, false, List, [], ◌++◌, Option, Some, None, refl, sym, ◌∙◌, ap, arith, append_assoc, append-nil, option_and_then, le-leb}
use Rattle.std.specs.Prelude.{if◌then◌else◌, codes, decimal}
use Rattle.std.specs.Str.{IsUtf8}
use Rattle.std.proofs.lemmas.Bool.{and_from, eq-eqb}
use Rattle.std.proofs.lemmas.Str.{IsUtf8-append, IsUtf8-from_ascii, is_utf8-from_IsUtf8}
use Rattle.std.proofs.lemmas.Fmt.{IsAscii-decimal}
use Rattle.std.specs.Fmt.{digits}
use Rattle.json.specs.Json as json
use Rattle.json.specs.Tree.{json_tokens, HasNumbers, depth}
use Rattle.json.proofs.Printed.Utf8.{IsUtf8-are_ascii}
use Rattle.json.proofs.Printed.Decimals.{IsNumber-decimal}
use Rattle.json.proofs.Printed.Tokens.{tokens-print}
use Rattle.json.proofs.Printed.Trees.{ArePrintable-json_tokens, value-json_tokens}
use Rattle.serde_json.specs.Data.{Data, number, unsigned, string, object, member, no_members}
use Rattle.serde_json.specs.Read.{read, of_json, number_of, max_depth}
use Rattle.serde_json.specs.Written.{compact_text, has_float, outline}
use Rattle.serde_json.proofs.OnLiterals.{serde_json_on_literals}
use Rattle.serde_json.proofs.Numbers.{number_of-decimal}
use Rattle.serde_json.proofs.Texts.{print-outline}
use Rattle.world_model.specs.declared.types.Ratio.{Ratio}
use Rattle.world_model.specs.declared.types.Ratio.TheVariants.{ThreeTwo, SixThree, TenFour, TwelveFour}
use Rattle.world_model.specs.Ratios.{ratio_text, ratio_in-text}
use Rattle.stripe_layout.specs.declared.Info.{Info}
use Rattle.stripe_layout.specs.Information.{json_of, fields_of, are_in_range, ratio_from, info_from, info_of, ratio_member, info_text, ◌>>=◌}
use Rattle.stripe_layout.specs.Laws.Info.{IsInRange}
use Rattle.vif_info.specs.Reads.{value_with, value_without, value_by, value_for}

-- ---- the text of a value

pub no_float : (info : Info) → has_float (value_for info) ≡ false
unfolding serde_json_on_literals
no_float info = by_ratio info info.geometry.ratio
  where
    by_ratio : (info : Info) (r : Ratio) → has_float (value_by info r) ≡ false
    by_ratio info ThreeTwo = refl
    by_ratio info SixThree = refl
    by_ratio info TenFour = refl
    by_ratio info TwelveFour = refl

-- the text with this member for the ratio and this end, nested to the right
abbrev text_to : Info → List ℕ → List ℕ → List ℕ
text_to i ratio end = codes "{\"datSize\":" ++ (decimal i.dat_size ++ (codes ",\"large\":" ++ (decimal i.geometry.large ++ (ratio ++ (codes ",\"small\":" ++ (decimal i.geometry.small ++ end))))))

end_is : codes ",\"version\":" ++ (decimal 3 ++ codes "}") ≡ codes ",\"version\":3}"
unfolding digits
end_is = refl

whole_text : (info : Info) (r : Ratio) → compact_text (value_by info r) ≡ text_to info (ratio_member r) (codes ",\"version\":" ++ (decimal 3 ++ codes "}"))
unfolding serde_json_on_literals
whole_text info ThreeTwo = refl
whole_text info SixThree = refl
whole_text info TenFour = refl
whole_text info TwelveFour = refl

nested : (info : Info) (told : List ℕ)
    → text_to info told (codes ",\"version\":3}")
    ≡ codes "{\"datSize\":" ++ decimal info.dat_size ++ codes ",\"large\":" ++ decimal info.geometry.large ++ told ++ codes ",\"small\":" ++ decimal info.geometry.small ++ codes ",\"version\":3}"
nested info told = simp append_assoc refl

pub text_is : (info : Info) → compact_text (value_for info) ≡ info_text info
text_is info = whole_text info info.geometry.ratio ∙ ap (text_to info (ratio_member info.geometry.ratio)) end_is ∙ nested info (ratio_member info.geometry.ratio)

-- ---- and back

-- the JSON of a value, printed, is read as the value
read_printed : (d : Data) → HasNumbers (outline d) → depth (outline d) ≤ max_depth → of_json (outline d) ≡ Some d → read (compact_text d) ≡ Some d
read_printed d numbers shallow back =
    let j : json.Json = outline d in
    ap read (sym (print-outline d))
    ∙ ap (λ ts. option_and_then of_json (option_and_then (λ p. json.if_last p.0 p.1) (json.value max_depth ts))) (tokens-print (json_tokens j) (ArePrintable-json_tokens j numbers) ∙ sym (append-nil (json_tokens j)))
    ∙ ap (λ o. option_and_then of_json (option_and_then (λ p. json.if_last p.0 p.1) o)) (value-json_tokens j max_depth [] shallow)
    ∙ back

-- the JSON of a value with numbers in range
record IsReadBack (d : Data) : Type 0 where
  numbers : HasNumbers (outline d)
  shallow : depth (outline d) ≤ max_depth
  back : of_json (outline d) ≡ Some d

members_read : (word : List ℕ) (n large small : ℕ) (s_n s_large s_small s_version : List ℕ)
    → number_of s_n ≡ Some (unsigned n) → number_of s_large ≡ Some (unsigned large) → number_of s_small ≡ Some (unsigned small) → number_of s_version ≡ Some (unsigned 3)
    → of_json (json.object (json.member (codes "datSize") (json.number s_n) (json.member (codes "large") (json.number s_large) (json.member (codes "ratio") (json.string word)
    (json.member (codes "small") (json.number s_small) (json.member (codes "version") (json.number s_version) json.no_members))))))
    ≡ Some (object (member (codes "datSize") (number (unsigned n)) (member (codes "large") (number (unsigned large)) (member (codes "ratio") (string word)
    (member (codes "small") (number (unsigned small)) (member (codes "version") (number (unsigned 3)) no_members))))))
members_read word n large small s_n s_large s_small s_version a b c d = rw (a, b, c, d) refl

-- the same without a ratio
fewer_read : (n large small : ℕ) (s_n s_large s_small s_version : List ℕ)
    → number_of s_n ≡ Some (unsigned n) → number_of s_large ≡ Some (unsigned large) → number_of s_small ≡ Some (unsigned small) → number_of s_version ≡ Some (unsigned 3)
    → of_json (json.object (json.member (codes "datSize") (json.number s_n) (json.member (codes "large") (json.number s_large)
    (json.member (codes "small") (json.number s_small) (json.member (codes "version") (json.number s_version) json.no_members)))))
    ≡ Some (object (member (codes "datSize") (number (unsigned n)) (member (codes "large") (number (unsigned large))
    (member (codes "small") (number (unsigned small)) (member (codes "version") (number (unsigned 3)) no_members)))))
fewer_read n large small s_n s_large s_small s_version a b c d = rw (a, b, c, d) refl

fields_read : (info : Info) (r : Ratio) → (text : Option (List ℕ)) × (ratio_from text ≡ Some r)
    × (fields_of (value_by info r) ≡ Some (record { dat_size = info.dat_size; large = info.geometry.large; small = info.geometry.small; version = 3; ratio = text }))
unfolding serde_json_on_literals
fields_read info ThreeTwo = (Some (ratio_text ThreeTwo), ratio_in-text ThreeTwo, refl)
fields_read info SixThree = (Some (ratio_text SixThree), ratio_in-text SixThree, refl)
fields_read info TenFour = (None, refl, refl)
fields_read info TwelveFour = (Some (ratio_text TwelveFour), ratio_in-text TwelveFour, refl)

module _ (info : Info) (range : IsInRange info) where
  large_fits : info.geometry.large < 2 ^ 64
  large_fits = omega (arith, range.geometry.large)

  small_fits : info.geometry.small < 2 ^ 64
  small_fits = omega (arith, range.geometry.small, range.geometry.large)

  dat_size_fits : info.dat_size < 2 ^ 64
  dat_size_fits = omega (arith, range.most)

  back_with : (word : List ℕ) → IsReadBack (value_with info word)
  back_with word = record {
    numbers = (IsNumber-decimal info.dat_size dat_size_fits, (IsNumber-decimal info.geometry.large large_fits, (tt, (IsNumber-decimal info.geometry.small small_fits, (IsNumber-decimal 3 (omega arith), tt)))));
    shallow = omega arith;
    back = members_read word info.dat_size info.geometry.large info.geometry.small _ _ _ _
        (number_of-decimal info.dat_size dat_size_fits) (number_of-decimal info.geometry.large large_fits) (number_of-decimal info.geometry.small small_fits) (number_of-decimal 3 (omega arith));
  }

  back_without : IsReadBack (value_without info)
  back_without = record {
    numbers = (IsNumber-decimal info.dat_size dat_size_fits, (IsNumber-decimal info.geometry.large large_fits, (IsNumber-decimal info.geometry.small small_fits, (IsNumber-decimal 3 (omega arith), tt))));
    shallow = omega arith;
    back = fewer_read info.dat_size info.geometry.large info.geometry.small _ _ _ _
        (number_of-decimal info.dat_size dat_size_fits) (number_of-decimal info.geometry.large large_fits) (number_of-decimal info.geometry.small small_fits) (number_of-decimal 3 (omega arith));
  }

  back_by : (r : Ratio) → IsReadBack (value_by info r)
  back_by ThreeTwo = back_with (ratio_text ThreeTwo)
  back_by SixThree = back_with (ratio_text SixThree)
  back_by TenFour = back_without
  back_by TwelveFour = back_with (ratio_text TwelveFour)

  number_is_text : (n : ℕ) → n < 2 ^ 64 → IsUtf8 (decimal n)
  number_is_text n h = IsUtf8-from_ascii (decimal n) (IsAscii-decimal n h)

  member_is_text : (r : Ratio) → IsUtf8 (ratio_member r)
  member_is_text ThreeTwo = IsUtf8-are_ascii _ refl
  member_is_text SixThree = IsUtf8-are_ascii _ refl
  member_is_text TenFour = IsUtf8-are_ascii _ refl
  member_is_text TwelveFour = IsUtf8-are_ascii _ refl

  is_text : IsUtf8 (info_text info)
  is_text =
      let size = IsUtf8-append _ _ (IsUtf8-are_ascii (codes "{\"datSize\":") refl) (number_is_text info.dat_size dat_size_fits) in
      let large = IsUtf8-append _ _ (IsUtf8-append _ _ size (IsUtf8-are_ascii (codes ",\"large\":") refl)) (number_is_text info.geometry.large large_fits) in
      let told = IsUtf8-append _ _ large (member_is_text info.geometry.ratio) in
      let small = IsUtf8-append _ _ (IsUtf8-append _ _ told (IsUtf8-are_ascii (codes ",\"small\":") refl)) (number_is_text info.geometry.small small_fits) in
      IsUtf8-append _ _ small (IsUtf8-are_ascii (codes ",\"version\":3}") refl)

  in_range : (text : Option (List ℕ)) → are_in_range (record { dat_size = info.dat_size; large = info.geometry.large; small = info.geometry.small; version = 3; ratio = text }) ≡ true
  in_range text =
      and_from _ _ (and_from _ _ (and_from _ _ (and_from _ _ (and_from _ _ (and_from _ _ (and_from _ _ refl
      (le-leb _ _ range.least)) (le-leb _ _ range.most)) (le-leb _ _ (some info.geometry.small info.geometry.large range.geometry.some_small range.geometry.small)))
      (le-leb _ _ range.geometry.large)) (le-leb _ _ range.geometry.some_small)) (le-leb _ _ range.geometry.small)) (eq-eqb _ _ range.geometry.divides)
    where
      some : (a b : ℕ) → 0 < a → a ≤ b → 1 ≤ b
      some a b h k = omega arith

  is_json : json_of (info_text info) ≡ Some (value_for info)
  is_json =
      let b = back_by info.geometry.ratio in
      ap (λ t. if t then read (info_text info) else None) (is_utf8-from_IsUtf8 (info_text info) is_text)
      ∙ ap read (sym (text_is info))
      ∙ read_printed (value_for info) b.numbers b.shallow b.back

  -- what is written is read as what it was written from
  pub text_reads_back : info_of (info_text info) ≡ Some info
  unfolding info_of
  text_reads_back =
      let f = fields_read info info.geometry.ratio in
      ap (λ o. o >>= λ d. fields_of d >>= info_from) is_json
      ∙ ap (λ o. o >>= info_from) f.2
      ∙ ap (λ o. o >>= made f.0) f.1
      ∙ ap (λ t. if t then Some info else None) (in_range f.0)
    where
      made : Option (List ℕ) → Ratio → Option Info
      made text ratio = if are_in_range (record { dat_size = info.dat_size; large = info.geometry.large; small = info.geometry.small; version = 3; ratio = text })
          then Some (record { dat_size = info.dat_size; geometry = record { ratio = ratio; large = info.geometry.large; small = info.geometry.small } }) else None
