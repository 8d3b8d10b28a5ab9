-- The counts of a site in memory.
use Rattle.std.specs.Prelude.{ℕ, ◌<◌, nat_lt, ◌&&◌, Bool, true, length}
use Rattle.site_model.specs.Counts.{Counts, CountsWrite, CountsSay}
use Rattle.site_model.specs.Disk.{appends, syncs, cuts, renames, removes, says}
use Rattle.site_mem.specs.Events.{Event, added, told, called}

-- it names servers below this number alone
abbrev pub IsWithin : ℕ → Event → Type 0
IsWithin servers (added p bytes) = p.0 < servers
IsWithin servers (told bytes) = Unit {0}
IsWithin servers (called (appends p bytes)) = p.0 < servers
IsWithin servers (called (syncs p)) = p.0 < servers
IsWithin servers (called (cuts p n)) = p.0 < servers
IsWithin servers (called (renames p q)) = (p.0 < servers) × (q.0 < servers)
IsWithin servers (called (removes p)) = p.0 < servers
IsWithin servers (called (says bytes)) = Unit {0}

abbrev pub is_within : ℕ → Event → Bool
is_within servers (added p bytes) = nat_lt p.0 servers
is_within servers (told bytes) = true
is_within servers (called (appends p bytes)) = nat_lt p.0 servers
is_within servers (called (syncs p)) = nat_lt p.0 servers
is_within servers (called (cuts p n)) = nat_lt p.0 servers
is_within servers (called (renames p q)) = nat_lt p.0 servers && nat_lt q.0 servers
is_within servers (called (removes p)) = nat_lt p.0 servers
is_within servers (called (says bytes)) = true

abbrev pub IsCall : Event → Type 0
IsCall (added p bytes) = ⊥
IsCall (told bytes) = ⊥
IsCall (called call) = Unit {0}

-- what it counts
abbrev pub CountsEvent : Event → Counts → Counts → Type 0 → Type 0
CountsEvent (added p bytes) old new is_failed = Unit {0}
CountsEvent (told bytes) old new is_failed = Unit {0}
CountsEvent (called (appends p bytes)) old new is_failed = CountsWrite p.0 (length bytes) old new is_failed
CountsEvent (called (syncs p)) old new is_failed = CountsWrite p.0 0 old new is_failed
CountsEvent (called (cuts p n)) old new is_failed = CountsWrite p.0 0 old new is_failed
CountsEvent (called (renames p q)) old new is_failed = CountsWrite p.0 0 old new is_failed
CountsEvent (called (removes p)) old new is_failed = CountsWrite p.0 0 old new is_failed
CountsEvent (called (says bytes)) old new is_failed = CountsSay old new is_failed
