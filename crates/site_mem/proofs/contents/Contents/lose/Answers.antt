use Rattle.std.proofs.Common.{not, Bool, rules}
use Rattle.std.proofs.lemmas.Fn.{filter_same}
use Rattle.site_mem.specs.declared.stored.Stored.{Stored}
use Rattle.site_mem.specs.Lost.{has_lost}
use Rattle.site_mem.proofs.Keeping.{files_lost, apart_lost}
use Rattle.site_mem.proofs.contents.Contents.lose.Goals as goal

pub invariant_of-self : goal.invariant_of-self
invariant_of-self c =
    let test : Stored → Bool = λ s. not (has_lost c.args.losses.now.since s.server) in
    record { apart = apart_lost (has_lost c.args.losses.now.since) _ _ (filter_same _ test _ (λ x b f k. search rules) _ _ c.retain.ensures.filtered) c.args.self.now.apart }

pub returns-clause-files : goal.returns-clause-files
returns-clause-files c =
    let test : Stored → Bool = λ s. not (has_lost c.args.losses.now.since s.server) in
    files_lost (has_lost c.args.losses.now.since) _ _ (filter_same _ test _ (λ x b f k. search rules) _ _ c.retain.ensures.filtered)
