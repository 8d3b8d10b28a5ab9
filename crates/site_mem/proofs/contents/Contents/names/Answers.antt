use Rattle.std.proofs.Common.{◌<◌, ◌∙◌, ◌++◌, ◌∷◌, [], length, get_or, ap, sym, arith}
use Rattle.site_mem.specs.Kept.{names_at}
use Rattle.site_mem.proofs.Naming.{names_more}
use Rattle.site_mem.proofs.contents.Contents.names.Goals as goal

pub loop-file-preserved : goal.loop-file-preserved
loop-file-preserved c =
    let file = c.file-item.result in
    let all = c.deref-file-items.ensures.value in
    let within : c.loop-file.file-index < length c.args.self.now.files.items = omega (arith, ap length all) in
    c.in_ok-add_name.ensures ∙ ap (λ l. l ++ names_at c.args.server (file ∷ [])) c.loop-file.invariant
    ∙ sym (names_more c.args.server c.args.self.now.files.items c.loop-file.file-index file within (c.file-item.is ∙ ap (λ l. get_or l c.loop-file.file-index file) all))
