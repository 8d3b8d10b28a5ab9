use Rattle.std.proofs.Common.{ℕ, eqb, List, subst, sym}
use Rattle.std.specs.Prelude.{Contains}
use Rattle.std.specs.List.Sorted.{IsStrictlyIncreasing}
use Rattle.std.proofs.lemmas.List.Filters.{dedup_is}
use Rattle.std.proofs.lemmas.List.Kept.{Contains-dedup_nat, Contains-from_dedup}
use Rattle.std.proofs.lemmas.List.Sorted.{Contains-permutation, IsPermutation-sym}
use Rattle.std.proofs.lemmas.Map.Keys.{IsStrictlyIncreasing-dedup}
use Rattle.site_recovery.proofs.testing.homes.index_servers.Goals as goal

pub returns-clause-rise : goal.returns-clause-rise
returns-clause-rise c =
    subst IsStrictlyIncreasing (sym (dedup_is eqb c.sort_unstable.new.self.items c.dedup.new.self.items c.dedup.ensures.filtered)) (IsStrictlyIncreasing-dedup c.sort_unstable.new.self.items c.sort_unstable.ensures.sorted)

pub returns-clause-each : goal.returns-clause-each
returns-clause-each c = λ s. (
  λ has.
      subst (λ (xs : List ℕ). Contains xs s) c.in_ok-servers.ensures
      (Contains-permutation c.sort_unstable.new.self.items c.in_ok-servers.servers.items s (IsPermutation-sym c.in_ok-servers.servers.items c.sort_unstable.new.self.items c.sort_unstable.ensures.permutation)
      (Contains-from_dedup eqb c.sort_unstable.new.self.items s (subst (λ (xs : List ℕ). Contains xs s) (dedup_is eqb c.sort_unstable.new.self.items c.dedup.new.self.items c.dedup.ensures.filtered) has))),
  λ has.
      subst (λ (xs : List ℕ). Contains xs s) (sym (dedup_is eqb c.sort_unstable.new.self.items c.dedup.new.self.items c.dedup.ensures.filtered))
      (Contains-dedup_nat c.sort_unstable.new.self.items s
      (Contains-permutation c.in_ok-servers.servers.items c.sort_unstable.new.self.items s c.sort_unstable.ensures.permutation (subst (λ (xs : List ℕ). Contains xs s) (sym c.in_ok-servers.ensures) has))),
)
