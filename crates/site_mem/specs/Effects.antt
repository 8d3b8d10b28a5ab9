-- What each call does to a disk, carried out in part or whole.
use Rattle.std.specs.Prelude.{◌≡◌, ◌++◌, Some, None}
use Rattle.site_model.specs.Disk.{Disk, Appends, Syncs, Cuts, Renames, Removes, Says, IsRenamed, grown, synced, cut_to, appends, syncs, cuts, renames, removes, says}
use Rattle.site_mem.specs.Events.{Event, added, told, called}

-- however the call ends
abbrev pub Effect : Event → Disk → Disk → Type 0
Effect (added p bytes) old new = Unit {0}
Effect (told bytes) old new = Unit {0}
Effect (called (appends p bytes)) old new = Appends p bytes old new
Effect (called (syncs p)) old new = Syncs p old new
Effect (called (cuts p n)) old new = Cuts p n old new
Effect (called (renames p q)) old new = Renames p q old new
Effect (called (removes p)) old new = Removes p old new
Effect (called (says bytes)) old new = Says bytes old new

-- where it is carried out
abbrev pub IsDone : Event → Disk → Disk → Type 0
IsDone (added p bytes) old new = Unit {0}
IsDone (told bytes) old new = Unit {0}
IsDone (called (appends p bytes)) old new = new.files p ≡ Some (grown (old.files p) bytes)
IsDone (called (syncs p)) old new = new.files p ≡ synced (old.files p)
IsDone (called (cuts p n)) old new = new.files p ≡ cut_to n (old.files p)
IsDone (called (renames p q)) old new = IsRenamed p q old.files new.files
IsDone (called (removes p)) old new = new.files p ≡ None
IsDone (called (says bytes)) old new = new.said ≡ old.said ++ bytes
