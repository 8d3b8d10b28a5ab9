use Rattle.std.proofs.Common.{◌∙◌, ap}
use Rattle.site_mem.specs.Kept.{files_kept, are_apart}
use Rattle.site_mem.proofs.Keeping.{apart_remove, files_removed}
use Rattle.site_mem.proofs.contents.Contents.remove.Goals as goal

pub invariant_of-self : goal.invariant_of-self
invariant_of-self c = record { apart = ap are_apart c.remove.ensures.items ∙ apart_remove _ _ c.remove.result c.in-Some.ensures.within c.args.self.now.apart }

pub returns-in-Some-clause-files : goal.returns-in-Some-clause-files
returns-in-Some-clause-files c = ap files_kept c.remove.ensures.items ∙ files_removed _ _ _ c.in-Some.ensures c.args.self.now.apart c.remove.result
