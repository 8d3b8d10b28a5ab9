-- What a history keeps beside its record of all that was asked.
use Rattle.std.specs.Global.{Vec}
use Rattle.site_mem.specs.declared.contents.Contents.{Contents}
use Rattle.site_mem.specs.declared.entry.Entry.{Entry}
use Rattle.site_mem.specs.declared.losses.Losses.{Losses}
use Rattle.site_mem.specs.Kept.{files_kept}
use Rattle.site_mem.specs.Record.{disk_of, AreSame, AreSame-prop}

-- the files are those that the record tells of
abbrev pub HasFiles : Contents → Vec Entry → Losses → Type 0
HasFiles contents entries lost = AreSame (files_kept contents.files.items) (disk_of entries.items lost.since).files

pub HasFiles-prop : (contents : Contents) (entries : Vec Entry) (lost : Losses) → IsProp (HasFiles contents entries lost)
HasFiles-prop contents entries lost = AreSame-prop (files_kept contents.files.items) (disk_of entries.items lost.since).files
