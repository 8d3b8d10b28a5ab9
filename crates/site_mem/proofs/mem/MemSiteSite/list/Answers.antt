use Rattle.std.proofs.Common.{map, string_bytes, subst}
use Rattle.site_model.specs.Disk.{Disk, IsListOf}
use Rattle.site_mem.specs.Held.{disk_held}
use Rattle.site_mem.proofs.Naming.{names_list}
use Rattle.site_mem.proofs.mem.MemSiteSite.list.Goals as goal

pub returns-in-Ok-clause-names : goal.returns-in-Ok-clause-names
unfolding disk_held
returns-in-Ok-clause-names c =
    let history = c.look.new.self.history in
    subst (λ (d : Disk). IsListOf d.files c.args.server (map string_bytes c.in-Ok.names.items)) c.look.ensures.same
    (names_list c.args.server _ _ _ history.contents.apart history.files c.in-Ok.ensures)
