use Rattle.std.proofs.Common.{ℕ, List, subst, rules}
use Rattle.std.specs.List.Sorted.{IsPermutation}
use Rattle.std.proofs.lemmas.List.Sorted.{IsNonDecreasingBy-from_sort, answers_always}
use Rattle.coded_volume.specs.declared.checking.ShardCopy.{ShardCopy}
use Rattle.site_recovery.proofs.listing.copies_of.Goals as goal

pub returns-clause-copies : goal.returns-clause-copies
returns-clause-copies c =
    subst (λ (l : List ShardCopy). IsPermutation l c.sort_unstable_by_key.new.self.items) c.in_ok-copies.ensures c.sort_unstable_by_key.ensures.permutation

pub returns-clause-rise : goal.returns-clause-rise
returns-clause-rise c =
    let server : ShardCopy → ℕ = λ y. y.server in
    IsNonDecreasingBy-from_sort server c.sort_unstable_by_key.new.self.items (c.sort_unstable_by_key.ensures.sorted server (answers_always _ _ _ (λ f a r g h. search rules)))
