-- The call that is recorded, if there is one.
use Rattle.std.specs.Prelude.{Option, None, Some, String, Vec, ℕ}
use Rattle.std.specs.Borrow.{Bor}
use Rattle.std.specs.declared.alloc.Global.{Global}
use Rattle.site_model.specs.Disk.{Call}
use Rattle.site_mem.specs.declared.asked.Asked.{Asked}
use Rattle.site_mem.specs.Events.{event_kept}
use Rattle.site_mem.specs.Calls.{call_of}

abbrev pub call_asked : Option (Bor (Asked (String Global) (Vec ℕ Global))) → Option Call
call_asked None = None
call_asked (Some asked) = call_of (event_kept asked.now)
