use Rattle.std.proofs.Common.{◌∙◌, ap, cond}
use Rattle.site_mem.specs.Events.{event_kept, files_after, said_after}
use Rattle.site_mem.specs.Kept.{files_kept}
use Rattle.site_mem.proofs.Replaying.{on_ok_both}
use Rattle.site_mem.proofs.history.replay.Goals as goal

pub returns : goal.returns
returns c = on_ok_both c.try_out.result
    (λ files said. record {
      files = files ∙ ap (λ v. cond c.args.entry.now.is_done (files_after v (files_kept c.lose.new.self.files.items)) (files_kept c.lose.new.self.files.items)) c.request_of.ensures
          ∙ ap (λ f. cond c.args.entry.now.is_done (files_after (event_kept c.args.entry.now.asked) f) f) c.lose.ensures.files;
      said = said ∙ ap (λ v. cond c.args.entry.now.is_done (said_after v c.lose.new.self.said.items) c.lose.new.self.said.items) c.request_of.ensures
          ∙ ap (λ s. cond c.args.entry.now.is_done (said_after (event_kept c.args.entry.now.asked) s) s) c.lose.ensures.said;
    })
    c.try_out.ensures.files c.try_out.ensures.said
