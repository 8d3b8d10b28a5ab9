use Rattle.std.proofs.Common.{◌≡◌, ◌∙◌, refl}
use Rattle.site_mem.proofs.Recording.{files_same, said_same, grown_files, grown_said, popped}
use Rattle.site_mem.proofs.history.History.enter.Goals as goal

pub invariant_of-self-in-Err : goal.invariant_of-self-in-Err
invariant_of-self-in-Err c =
    let back : c.pop.new.self.items ≡ c.args.self.now.entries.items = c.pop.ensures.rest ∙ popped _ _ _ _ c.in_ok-push.ensures.items c.push.new.self.ok.0 in
    record {
      files = files_same _ _ _ _ c.args.self.now.lost.since c.args.self.now.files c.in-Err.ensures.err_files back;
      said = said_same _ _ _ _ c.args.self.now.lost.since c.args.self.now.said c.in-Err.ensures.err_said back;
    }

pub invariant_of-self-2 : goal.invariant_of-self-2
invariant_of-self-2 c =
    let since = c.args.self.now.lost.since in
    let now = c.none-self.result.since in
    record {
      files = grown_files _ _ since now _ _ c.in_ok-push.ensures.items refl c.none-self.ensures c.in_ok-recorded.ensures _ _ c.args.self.now.files c.in_default.ensures.files;
      said = grown_said _ _ since now _ _ c.in_ok-push.ensures.items refl c.none-self.ensures c.in_ok-recorded.ensures _ _ c.args.self.now.said c.in_default.ensures.said;
    }
