-- What stood as a call was made, made again from the record.
use Rattle.std.specs.Prelude.{◌≡◌, if◌then◌else◌}
use Rattle.site_mem.specs.declared.contents.Contents.{Contents}
use Rattle.site_mem.specs.declared.entry.Entry.{Entry}
use Rattle.site_mem.specs.Events.{event_kept, files_after, said_after}
use Rattle.site_mem.specs.Kept.{files_kept}
use Rattle.site_mem.specs.Lost.{has_lost, files_without}
use Rattle.site_mem.specs.Record.{AreSame}
use Rattle.site_mem.specs.Calls.{Underway}

pub record IsContentsAt (under_way : Underway) (contents : Contents) : Type 0 where
  pub files : AreSame (files_kept contents.files.items) under_way.files
  pub said : contents.said.items ≡ under_way.said

-- what an entry makes of what stood
pub record Replays (e : Entry) (old new : Contents) : Type 0 where
  pub files : files_kept new.files.items ≡ (if e.is_done then files_after (event_kept e.asked) (files_without (has_lost e.lost.since) (files_kept old.files.items)) else files_without (has_lost e.lost.since) (files_kept old.files.items))
  pub said : new.said.items ≡ (if e.is_done then said_after (event_kept e.asked) old.said.items else old.said.items)
