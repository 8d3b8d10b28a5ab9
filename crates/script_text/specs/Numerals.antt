-- Decimal numbers in words.
use Rattle.std.specs.Prelude.{◌≡◌, ℕ, ◌^◌, ◌<◌, ◌==◌, ◌&&◌, ◌||◌, not, Bool, true, List, length, slice_index}
use Rattle.std.specs.Str.{all_ascii_digits}
use Rattle.std.specs.Str.Parse.{digits_value}

-- digits alone, of a number that has room in eight bytes
abbrev pub IsNumber : List ℕ → Type 0
IsNumber word = (all_ascii_digits word ≡ true) × (0 < length word) × (digits_value 10 word < 2 ^ 64)

-- no plus sign in front, and no zero before other bytes
abbrev pub is_plain : List ℕ → Bool
is_plain word = not (slice_index word 0 == 43) && ((length word == 1) || not (slice_index word 0 == 48))
