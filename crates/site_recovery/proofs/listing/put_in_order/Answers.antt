use Rattle.std.proofs.Common.{ℕ, rules}
use Rattle.std.proofs.lemmas.List.Sorted.{IsNonDecreasingBy-from_sort, answers_always}
use Rattle.site_recovery.specs.declared.forms.Listed.{Listed}
use Rattle.site_recovery.proofs.listing.put_in_order.Goals as goal

pub returns-clause-rise : goal.returns-clause-rise
returns-clause-rise c =
    let volume : Listed → ℕ = λ l. l.file.volume in
    IsNonDecreasingBy-from_sort volume _ (c.sort_unstable_by_key.ensures.sorted volume (answers_always _ _ _ (λ f a r g h. search rules)))
