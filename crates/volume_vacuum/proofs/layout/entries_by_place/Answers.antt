use Rattle.std.proofs.Common.{rules, List, subst}
use Rattle.std.specs.List.Sorted.{IsPermutation}
use Rattle.std.proofs.lemmas.List.Sorted.{IsNonDecreasingBy-from_sort_by_key}
use Rattle.volume_forms.specs.declared.Entry.{Entry}
use Rattle.volume_vacuum.proofs.layout.entries_by_place.Goals as goal

pub returns : goal.returns
returns c = record {
  permutation = subst (λ (es : List Entry). IsPermutation es c.sort_by_key.new.self.items) c.in_ok-entries.ensures c.in_ok-sort_by_key.ensures.permutation;
  rising = IsNonDecreasingBy-from_sort_by_key (λ (e : Entry). e.offset) c.sort_by_key.new.self.items c.in_ok-sort_by_key.ensures.sorted (λ a r q k. search rules);
}
