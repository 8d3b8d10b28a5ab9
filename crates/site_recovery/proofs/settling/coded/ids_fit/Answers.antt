use Rattle.std.proofs.Common.{ℕ, ◌^◌, ◌<◌, List, [], ◌∷◌, get_or, suc, arith}
use Rattle.wire_num.specs.Laws.Pair.{AreIds}
use Rattle.site_recovery.proofs.settling.coded.ids_fit.Goals as goal

are_ids : (xs : List ℕ) → ((k : ℕ) → get_or xs k 0 < 2 ^ 64) → AreIds xs
are_ids [] h = tt
are_ids (x ∷ xs) h = (h 0, are_ids xs (λ k. h (suc k)))

pub returns : goal.returns
returns c = are_ids c.args.ids.now (λ k. omega (arith, c.type_inv.ids k))
