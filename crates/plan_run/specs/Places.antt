-- A table that is told the place of a file.
use Rattle.std.specs.Prelude.{◌≡◌, ◌≢◌, ℕ, length, Option}
use Rattle.file_names.specs.declared.Kind.{Kind}
use Rattle.file_names.specs.Names.{max_shards}
use Rattle.shard_table.specs.Table.{IsAdded, Table, row_of}
use Rattle.plan_steps.specs.Legal.{FitsPlaces}
use Rattle.plan_steps.specs.Progressing.{Running}
use Rattle.plan_steps.specs.Stepping.{row_told}

-- The volume's row has the place, if the file is a shard, and nothing else of the table is otherwise.
pub record TellsPlace (volume : ℕ) (kind : Kind) (place : Option ℕ) (old new : Table) : Type 0 where
  pub row : row_of new volume ≡ row_told kind place (row_of old volume)
  pub others : (other : ℕ) → other ≢ volume → row_of new other ≡ row_of old other
  pub added : (other : ℕ) → IsAdded old other → IsAdded new other
  pub servers : new.servers ≡ old.servers

-- The table has as many servers as the site, and the plan's shards where they stand.
pub record HasTable (r : Running) (count : ℕ) (table : Table) : Type 0 where
  pub added : IsAdded table r.plan.volume
  pub servers : table.servers ≡ count
  pub long : length (row_of table r.plan.volume) ≡ max_shards
  pub fits : FitsPlaces r.plan r.states (row_of table r.plan.volume)

-- It has them where they stand by now, and nothing else of it is otherwise.
pub record TellsTable (r s : Running) (old new : Table) : Type 0 where
  pub fits : FitsPlaces r.plan s.states (row_of new r.plan.volume)
  pub others : (other : ℕ) → other ≢ r.plan.volume → row_of new other ≡ row_of old other
  pub added : (other : ℕ) → IsAdded old other → IsAdded new other
  pub servers : new.servers ≡ old.servers
