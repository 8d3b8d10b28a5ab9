use Rattle.std.proofs.Common.{◌∙◌, refl}
use Rattle.site_mem.specs.Lost.{Loses}
use Rattle.site_mem.proofs.Losing.{files_less}
use Rattle.site_mem.proofs.history.History.lose.Goals as goal

pub invariant_of-self : goal.invariant_of-self
invariant_of-self c =
    let loses : Loses c.args.server c.args.number c.args.self.now.lost.since c.add.new.self.since = record { here = c.add.ensures.here; others = c.add.ensures.others } in
    let entries = c.args.self.now.entries.items in
    record {
      files = files_less c.requires.number loses c.args.self.now.contents.files.items c.lose.new.self.files.items entries entries refl c.args.self.now.files c.lose.ensures.files;
      said = c.lose.ensures.said ∙ c.args.self.now.said;
    }
