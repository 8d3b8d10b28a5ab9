use Rattle.std.proofs.Common.{pos, ◌<ℤ◌, refl, arith}
use Rattle.std.proofs.lemmas.Int.{ints}
use Rattle.std.proofs.lemmas.Bool.{false≢true}
use Rattle.ecx_index.proofs.Taken.{one_taken, no_content, not_above}
use Rattle.ecx_index.proofs.loading.Loading.take.Goals as goal
use Rattle.ecx_index.proofs.loading.Loading.take.Goals.{then-entry-le0-via-then-entry-le0, then-entry-le0-via-else-entry-le0+then-not-is_above}

pub returns-then-entry-le0-clause-refused : goal.returns-then-entry-le0-clause-refused
returns-then-entry-le0-clause-refused c = λ told.
    elim c.then-entry-le0.branch [
      | then-entry-le0-via-then-entry-le0 w ↦ no_content c.args.entry c.args.self.now (omega (arith, ints, w.if-entry-le0.true))
      | then-entry-le0-via-else-entry-le0+then-not-is_above w ↦ not_above c.args.entry c.args.self.now (λ above. absurd (false≢true (w.if-not-is_above.ensures.1 above)))
    ]

pub returns-clause-taken : goal.returns-clause-taken
returns-clause-taken c =
    let content : pos 0 <ℤ c.args.entry.size = omega (arith, ints, c.if-entry-le0.false) in
    one_taken c.args.entry c.args.self.now _ (c.if-not-is_above.ensures.0 refl) content refl c.in_ok-put.ensures.ok
