-- The live records of a volume, and the two files that a vacuum makes of them.
use Rattle.std.specs.Prelude.{ℕ, ◌+◌, ◌%◌, ◌^◌, ◌==◌, ◌&&◌, not, is_some, if◌then◌else◌, Bool, List, [], ◌∷◌, ◌++◌, take, drop, flat_map}
use Rattle.std.specs.List.{list_any}
use Rattle.wire_num.specs.Numbers.{number_of, bytes_of}
use Rattle.volume_forms.specs.Forms.{entry_bytes}
use Rattle.needle_record.specs.Spelling.{length_of_record}
use Rattle.needle_record.specs.Records.{Placed, entry_of}

-- one of the records has the id
abbrev pub has_id : ℕ → List Placed → Bool
has_id id ps = list_any (λ p. p.1.id == id) ps

-- those with content that no later record of their id follows, in the order of their places
unfoldable pub live_records : List Placed → List Placed
live_records [] = []
live_records (p ∷ ps) = if is_some p.1.content && not (has_id p.1.id ps) then p ∷ live_records ps else live_records ps

-- the records one after the other, the first at this place
unfoldable pub moved : ℕ → List Placed → List Placed
moved place [] = []
moved place (p ∷ ps) = (place, p.1) ∷ moved (place + length_of_record p.1) ps

-- the live records behind a super block, with no space between
abbrev pub vacuumed : List Placed → List Placed
vacuumed ps = moved 8 (live_records ps)

-- the bytes of the record, as they stand in the data file
abbrev pub own_bytes : List ℕ → Placed → List ℕ
own_bytes dat p = take (length_of_record p.1) (drop p.0 dat)

-- the super block of the data file with its revision raised by one, modulo 2^16
abbrev pub raised : List ℕ → List ℕ
raised dat = take 4 dat ++ (bytes_of 2 ((number_of 2 (drop 4 dat) + 1) % 2 ^ 16) ++ take 2 (drop 6 dat))

-- behind it the bytes of each live record
unfoldable pub new_dat : List ℕ → List Placed → List ℕ
new_dat dat ps = raised dat ++ flat_map (own_bytes dat) (live_records ps)

-- the entries of the live records at their new places
unfoldable pub new_idx : List Placed → List ℕ
new_idx ps = flat_map (λ p. entry_bytes (entry_of p)) (vacuumed ps)
