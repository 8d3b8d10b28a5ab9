use Rattle.std.proofs.Common.{◌∙◌, ap}
use Rattle.site_model.specs.Disk.{Disk, size_of}
use Rattle.site_mem.proofs.mem.MemSiteSite.size.Goals as goal

pub returns-clause-size : goal.returns-clause-size
returns-clause-size c = c.length.ensures ∙ ap (λ (d : Disk). size_of (d.files (c.args.server, c.args.name.now))) c.look.ensures.same
