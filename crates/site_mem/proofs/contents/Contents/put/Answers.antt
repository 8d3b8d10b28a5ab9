use Rattle.std.proofs.Common.{◌∙◌, ap, sym, is_ok, Some}
use Rattle.site_mem.specs.Kept.{files_kept, are_apart, file_of}
use Rattle.site_mem.specs.Events.{put_file}
use Rattle.site_mem.proofs.Keeping.{apart_changed, files_replaced, tried_apart, pushed_files}
use Rattle.site_mem.proofs.contents.Contents.put.Goals as goal

pub invariant_of-self : goal.invariant_of-self
invariant_of-self c = record { apart = apart_changed _ _ _ c.in-Some.ensures c.args.self.now.apart c.args.file (ap (λ n. (c.args.file.server, n)) (sym c.as_str.ensures.value)) }

pub invariant_of-self-in-None : goal.invariant_of-self-in-None
invariant_of-self-in-None c =
    record { apart = ap are_apart c.push.ensures.items ∙ tried_apart (is_ok c.push.result) _ c.args.file _ c.args.self.now.apart c.in-None.ensures (ap (λ n. (c.args.file.server, n)) (sym c.as_str.ensures.value)) }

pub returns-in-Some-clause-ok : goal.returns-in-Some-clause-ok
returns-in-Some-clause-ok c =
    files_replaced _ _ _ c.in-Some.ensures c.args.self.now.apart c.args.file (ap (λ n. (c.args.file.server, n)) (sym c.as_str.ensures.value))
    ∙ ap (λ n. put_file (c.args.file.server, n) (Some (file_of c.args.file)) (files_kept c.args.self.now.files.items)) c.as_str.ensures.value

pub returns-in_ok-push-in-None-clause-ok : goal.returns-in_ok-push-in-None-clause-ok
returns-in_ok-push-in-None-clause-ok c =
    ap files_kept c.in_ok-push-in-None.ensures.items
    ∙ pushed_files _ c.args.file _ c.in-None.ensures (ap (λ n. (c.args.file.server, n)) (sym c.as_str.ensures.value))
    ∙ ap (λ n. put_file (c.args.file.server, n) (Some (file_of c.args.file)) (files_kept c.args.self.now.files.items)) c.as_str.ensures.value
