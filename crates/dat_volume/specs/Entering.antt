-- How a record comes into the index, around the write of its files.
use Rattle.std.specs.Prelude.{ℕ, Option, Some, None}
use Rattle.std.specs.FinMap.{insert, remove}
use Rattle.world_model.specs.declared.types.Content.{Content}
use Rattle.volume_forms.specs.declared.Entry.{Entry}
use Rattle.needle_record.specs.Records.{Index}

-- before the write: the entry of a needle stands, since it may take memory
abbrev pub index_before : Index → Entry → Option Content → Index
index_before index e None = index
index_before index e (Some c) = insert index e.id e

-- after it: the entry of what is deleted is gone
abbrev pub index_behind : Index → ℕ → Option Content → Index
index_behind index id None = remove index id
index_behind index id (Some c) = index

-- the id has its earlier entry, or none
abbrev pub index_again : Index → ℕ → Option Entry → Index
index_again index id None = remove index id
index_again index id (Some e) = insert index id e
