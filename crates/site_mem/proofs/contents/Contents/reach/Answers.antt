use Rattle.std.proofs.Common.{◌≡◌, ◌∙◌, sym, ap, Some}
use Rattle.std.proofs.lemmas.Result.{on_ok_weaker}
use Rattle.site_model.specs.Disk.{says}
use Rattle.site_mem.specs.Kept.{files_kept}
use Rattle.site_mem.specs.Events.{event_kept}
use Rattle.site_mem.specs.Calls.{call_of}
use Rattle.site_mem.specs.Asking.{call_asked}
use Rattle.site_mem.specs.Torn.{files_reached}
use Rattle.site_mem.proofs.Tearing.{says_reached}
use Rattle.site_mem.proofs.contents.Contents.reach.Goals as goal

pub returns-in-Say-clause-files : goal.returns-in-Say-clause-files
returns-in-Say-clause-files c =
    let kept = files_kept c.args.self.now.files.items in
    let call : call_asked c.args.asked ≡ Some (says c.in-Say.bytes.items) = ap call_asked c.in-Some.is ∙ ap (λ a. call_of (event_kept a)) c.in-Say.is in
    on_ok_weaker c.say_part.result
    (λ said. c.say_part.ensures.files ∙ sym (ap (λ call. files_reached c.args.tear call kept) call ∙ says_reached c.args.tear c.in-Say.bytes.items kept))
    c.say_part.ensures.said
