-- What one step does that fills a missing place.
use Rattle.std.specs.Prelude.{◌≡◌, ℕ, List, [], ◌∷◌, ◌++◌, Option, Some, None, slice_set}
use Rattle.shard_table.specs.Table.{Row, Table, IsAdded, place_in}
use Rattle.shard_table.specs.Even.{IsFewest}

-- The table has as many servers as before, and the volume.
pub record KeepsVolume (old new : Table) (volume : ℕ) : Type 0 where
  pub same_servers : new.servers ≡ old.servers
  pub added : IsAdded new volume

-- A shard with this place stays, and one without goes to the server that has the fewest.
abbrev pub FillsBy : Option ℕ → ℕ → ℕ → (old new : Row) → (before after : List (ℕ × ℕ)) → Type 0
FillsBy (Some place) servers i old new before after = (new ≡ old) × (after ≡ before)
FillsBy None servers i old new before after = (s : ℕ) × IsFewest servers old s × (new ≡ slice_set old i (Some s)) × (after ≡ before ++ (i, s) ∷ [])

abbrev pub FillsOne : ℕ → ℕ → (old new : Row) → (before after : List (ℕ × ℕ)) → Type 0
FillsOne servers i old new before after = FillsBy (place_in old i) servers i old new before after
