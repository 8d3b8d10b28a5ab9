use Rattle.std.proofs.Common.{eqb, List, ℕ, subst, sym}
use Rattle.std.specs.Prelude.{Contains}
use Rattle.std.proofs.lemmas.List.Filters.{dedup_is}
use Rattle.std.proofs.lemmas.List.Kept.{Contains-dedup_nat, Contains-from_dedup}
use Rattle.site_recovery.proofs.placing.holders_of.Goals as goal

pub returns : goal.returns
returns c = λ server. (
  λ has.
      subst (λ (xs : List ℕ). Contains xs server) c.in_ok-servers.ensures
      (Contains-from_dedup eqb c.in_ok-servers.servers.items server (subst (λ (xs : List ℕ). Contains xs server) (dedup_is eqb c.in_ok-servers.servers.items c.dedup.new.self.items c.dedup.ensures.filtered) has)),
  λ has.
      subst (λ (xs : List ℕ). Contains xs server) (sym (dedup_is eqb c.in_ok-servers.servers.items c.dedup.new.self.items c.dedup.ensures.filtered))
      (Contains-dedup_nat c.in_ok-servers.servers.items server (subst (λ (xs : List ℕ). Contains xs server) (sym c.in_ok-servers.ensures) has)),
)
