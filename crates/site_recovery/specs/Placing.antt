-- Where the shards of a coded volume stand, and which servers keep one. For the recovery of coded volumes, to come.
use Rattle.std.specs.Prelude.{◌≡◌, ◌↔◌, ◌<◌, ◌==◌, ℕ, Bool, false, IsTrue, List, length, map, filter, slice_index_or, Option, Some, None, Contains}
use Rattle.file_names.specs.Names.{max_shards}
use Rattle.coded_volume.specs.declared.checking.ShardCopy.{ShardCopy}
use Rattle.site_recovery.specs.Listing.{IsLeastOf}

-- the servers with a copy of the shard
abbrev pub servers_with : List ShardCopy → ℕ → List ℕ
servers_with copies i = map (λ c. c.server) (filter (λ c. c.shard == i) copies)

-- of each shard the lowest server with a copy of it
pub record AreHomesOf (copies : List ShardCopy) (homes : List (Option ℕ)) : Type 0 where
  pub all : length homes ≡ max_shards
  pub each : (i : ℕ) → i < max_shards → IsLeastOf (servers_with copies i) (slice_index_or homes i None)

-- those of the servers are marked that are the home of a shard
pub record MarksHomes (servers : ℕ) (homes : List (Option ℕ)) (keeps : List Bool) : Type 0 where
  pub enough : length keeps ≡ servers
  pub marks : (server : ℕ) → server < servers → IsTrue (slice_index_or keeps server false) ↔ Contains homes (Some server)
