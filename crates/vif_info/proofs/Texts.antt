-- What the reading of a text tells of the definitions.
use Rattle.std.proofs.Common.{◌≡◌, Bool, true, false, ℕ, List, Option, Some, None, refl, ◌∙◌, ap}
use Rattle.std.specs.Prelude.{if◌then◌else◌}
use Rattle.std.specs.Str.{IsUtf8, is_utf8}
use Rattle.std.proofs.lemmas.Str.{IsUtf8-from_is_utf8, is_utf8-from_IsUtf8}
use Rattle.serde_json.specs.Data.{Data}
use Rattle.stripe_layout.specs.declared.Info.{Info}
use Rattle.serde_json.specs.Read.{read}
use Rattle.world_model.specs.declared.types.Ratio.{Ratio}
use Rattle.stripe_layout.specs.Information.{Fields, json_of, are_in_range, info_from, ◌>>=◌}
use Rattle.vif_info.specs.declared.Numbers.{Numbers}
use Rattle.vif_info.specs.Reads.{IsNumbers, Says, info_with}

pub says : (bytes : List ℕ) (d : Data) → IsUtf8 bytes → read bytes ≡ Some d → Says bytes d
says bytes d text e = ap (λ b. if b then read bytes else None) (is_utf8-from_IsUtf8 bytes text) ∙ e

pub not_json : (bytes : List ℕ) → (IsUtf8 bytes → read bytes ≡ None) → json_of bytes ≡ None
not_json bytes fails = by_text (is_utf8 bytes) refl
  where
    by_text : (b : Bool) → is_utf8 bytes ≡ b → (if b then read bytes else None) ≡ None
    by_text true e = fails (IsUtf8-from_is_utf8 bytes e)
    by_text false e = refl

-- What the numbers say of the fields: they make this info, or none.
pub numbers_some : (o : Option Fields) (n : Numbers) → IsNumbers o (Some n) → (f : Fields) × (o ≡ Some f) × ((ratio : Ratio) → n.ratio ≡ Some ratio → info_from f ≡ info_with n ratio) × (n.ratio ≡ None → info_from f ≡ None)
numbers_some None n h = absurd h
numbers_some (Some f) n h = (
  f,
  refl,
  (λ ratio e. ap (λ o. o >>= after f) (h.4 ∙ e) ∙ λ i. made (h.0 i) (h.1 i) (h.2 i) (h.3 i) ratio),
  (λ e. ap (λ o. o >>= after f) (h.4 ∙ e)),
)
  where
    made : ℕ → ℕ → ℕ → ℕ → Ratio → Option Info
    made dat_size large small version ratio = if are_in_range (record { dat_size = dat_size; large = large; small = small; version = version; ratio = None })
        then Some (record { dat_size = dat_size; geometry = record { ratio = ratio; large = large; small = small } }) else None

    after : Fields → Ratio → Option Info
    after f ratio = made f.dat_size f.large f.small f.version ratio
