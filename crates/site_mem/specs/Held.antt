-- What a history holds, whose record callers don't see.
use Rattle.std.specs.Prelude.{ℕ, Bool}
use Rattle.site_model.specs.Disk.{Disk}
use Rattle.site_mem.specs.declared.history.History.{History}
use Rattle.site_mem.specs.Record.{nothing, disk_of}
use Rattle.site_mem.specs.Calls.{Underway, at_call, loses_after}

-- the files, what was said, and the calls so far
unfoldable pub disk_held : History → Disk
disk_held history = disk_of history.entries.items history.lost.since

-- what stood as the call with this number was made
unfoldable pub call_held : History → ℕ → Underway
call_held history number = at_call number nothing history.entries.items history.lost.since

-- whether a server lost its files after the call with this number, and before the next call that is recorded
unfoldable pub loss_held : History → ℕ → Bool
loss_held history number = loses_after number history.entries.items history.lost.since
