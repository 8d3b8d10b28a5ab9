-- What a reader of words answers.
use Rattle.std.specs.Prelude.{◌≡◌, if◌then◌else◌, List, [], ◌∷◌, length, drop, nat_eq, Option, Some, None, Result, Ok, Err}
use Rattle.std.specs.List.{starts_with}
use Rattle.script_text.specs.declared.lines.Key.{Key}
use Rattle.script_text.specs.declared.LineFault.{LineFault}
use Rattle.script_text.specs.declared.LineFault.TheVariants.{Syntax, Memory}
use Rattle.script_text.specs.Grammar.{Word, Part, ◌>>=◌, u32_in, u64_in, cookie_in}

-- The value that the grammar has, or that it has none. Memory may be wanting at any time.
abbrev pub Reads : {A : Type 0} → Option A → Result A LineFault → Type 0
Reads o (Ok x) = o ≡ Some x
Reads o (Err Syntax) = o ≡ None
Reads o (Err Memory) = Unit {0}

-- the same of a part, and the words behind it
abbrev pub ReadsPart : {A : Type 0} → Part A → Result (Option A) LineFault → List Word → Type 0
ReadsPart part (Ok x) rest = part ≡ Some (x, rest)
ReadsPart part (Err Syntax) rest = part ≡ None
ReadsPart part (Err Memory) rest = Unit {0}

-- the value of the part with this key, where the first word has it in front, and the words behind it
abbrev pub part_value : Word → List Word → Option Word × List Word
part_value key [] = (None, [])
part_value key (word ∷ more) = if starts_with nat_eq word key then (Some (drop (length key) word), more) else (None, word ∷ more)

-- the volume, the id and the cookie in the first three words, and the words behind them
abbrev pub key_in : List Word → Option (Key × List Word)
key_in [] = None
key_in (v ∷ []) = None
key_in (v ∷ id ∷ []) = None
key_in (v ∷ id ∷ cookie ∷ more) = do
  volume ← u32_in v
  number ← u64_in id
  key ← cookie_in cookie
  Some (record { volume = volume; id = number; cookie = key }, more)
