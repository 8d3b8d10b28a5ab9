use Rattle.std.proofs.Common.{◌+◌, ◌≤◌, ◌∙◌, length, take, drop, sym, ap, subst}
use Rattle.site_model.specs.Disk.{Disk, bytes_of}
use Rattle.site_mem.proofs.mem.MemSiteSite.read.Goals as goal

pub fill-requires : goal.fill-requires
fill-requires c = subst (λ (d : Disk). c.args.at + length c.args.out.now ≤ length (bytes_of (d.files (c.args.server, c.args.name.now)))) (sym c.look.ensures.same) c.requires.within

pub returns-clause-bytes : goal.returns-clause-bytes
returns-clause-bytes c = c.fill.ensures ∙ ap (λ (d : Disk). take (length c.args.out.now) (drop c.args.at (bytes_of (d.files (c.args.server, c.args.name.now))))) c.look.ensures.same
