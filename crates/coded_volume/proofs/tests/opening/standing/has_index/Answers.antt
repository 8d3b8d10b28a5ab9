use Rattle.std.proofs.Common.{Bool, sym, ◌∙◌, ap}
use Rattle.std.specs.Prelude.{◌||◌}
use Rattle.file_names.specs.declared.Kind.TheVariants.{Cpx}
use Rattle.site_mem.specs.Site.{disk_at}
use Rattle.image_meaning.specs.Files.{stands}
use Rattle.coded_volume.specs.Checking.{files_on}
use Rattle.coded_volume.proofs.Enough.{index_is}
use Rattle.coded_volume.proofs.tests.opening.standing.has_index.Goals as goal

pub returns-then-idx : goal.returns-then-idx
returns-then-idx c =
    let files = files_on (disk_at c.args.site.now).files 7 in
    c.if-idx.true ∙ sym (ap (λ (b : Bool). b || stands files c.args.server Cpx) (sym c.in_ok-idx.ensures ∙ c.if-idx.true)) ∙ index_is files c.args.server

pub returns-else-idx : goal.returns-else-idx
returns-else-idx c =
    let files = files_on (disk_at c.args.site.now).files 7 in
    c.in_ok-cpx.ensures ∙ sym (ap (λ (b : Bool). b || stands files c.args.server Cpx) (sym c.in_ok-idx.ensures ∙ c.if-idx.false)) ∙ index_is files c.args.server
