-- Which calls are to fail.
use Rattle.std.specs.List.{list_any}
use Rattle.std.specs.Prelude.{ℕ, ◌==◌, min, nat_le, Bool, false, List, Option, Some, None}

-- the call with this number is one of those
abbrev pub lists : List ℕ → ℕ → Bool
lists calls number = list_any (λ call. call == number) calls

-- the read with this number comes no sooner than the first that fails
abbrev pub lists_read : Option ℕ → ℕ → Bool
lists_read None number = false
lists_read (Some first) number = nat_le first number

abbrev pub lower : ℕ → Option ℕ → ℕ
lower from None = from
lower from (Some first) = min first from
