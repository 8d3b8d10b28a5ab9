-- The entries of a map that is kept by id, and the map that they are.
use Rattle.std.specs.Prelude.{ℕ, ℤ, refl, List, map}
use Rattle.std.specs.Ordering.{nat_cmp}
use Rattle.std.specs.Coded.{Coded, code_by, coded×, coded_ℕ, coded_ℤ}
use Rattle.std.specs.FinMap.{FinMap, from_entries}
use Rattle.volume_forms.specs.declared.Entry.{Entry}
use Rattle.needle_map.specs.declared.ByRisingId.{ByRisingId}
use Rattle.needle_map.specs.declared.Place.{Place}

-- an entry as its fields
abbrev pub coded_entry : Coded Entry
coded_entry = code_by (ℕ × (ℕ × ℤ)) (coded× coded_ℕ (coded× coded_ℕ coded_ℤ)) (λ e. (e.id, (e.offset, e.size))) (λ p. record { id = p.0; offset = p.1.0; size = p.1.1 }) (λ _. refl)

-- the entry of an id whose record is at this place
abbrev pub entry_at : ℕ → Place → Entry
entry_at id place = record { id = id; offset = place.offset; size = place.size }

-- each entry under its id
abbrev pub keyed : List (ℕ × Place) → List (ℕ × Entry)
keyed places = map (λ p. (p.0, entry_at p.0 p.1)) places

-- the entries alone
abbrev pub entries_of : List (ℕ × Place) → List Entry
entries_of places = map (λ p. entry_at p.0 p.1) places

-- the map that they are
unfoldable pub by_id : List (ℕ × Place) → FinMap nat_cmp Entry
by_id places = from_entries (keyed places)

-- what an iterator has not given yet
abbrev pub left_of : ByRisingId → List Entry
left_of s = entries_of s.places
