use Rattle.std.proofs.Common.{◌+◌, ◌≤◌, ◌∙◌, ap, arith}
use Rattle.std.specs.List.{remove}
use Rattle.std.specs.Prelude.{slice_index}
use Rattle.rs_code.specs.Coefficients.{AreFirst, first_are_shards, weight-unit}
use Rattle.rs_code.specs.Roots.{basis}
use Rattle.rs_code.proofs.Code.parity_coefficient.Goals as goal

pub coefficient-requires-clause-distinct : goal.coefficient-requires-clause-distinct
coefficient-requires-clause-distinct g c =
    let first : AreFirst g.row.K c.loop-i.shards = record { width = c.loop-i.invariant.0; entries = λ i h. c.loop-i.invariant.1 i (omega arith) } in
    (first_are_shards g.row.K g.row.K c.loop-i.shards first (omega arith)).distinct

pub returns : goal.returns
returns g c word is unit =
    let few : g.row.K + g.row.M ≤ 256 = omega (arith, c.args.self.now.sizes.few) in
    let first : AreFirst g.row.K c.loop-i.shards = record { width = c.loop-i.invariant.0; entries = λ i h. c.loop-i.invariant.1 i (omega arith) } in
    c.coefficient.ensures ∙ ap (λ i. basis (remove c.loop-i.shards i) (slice_index c.loop-i.shards i) (g.row.K + c.args.p)) c.from.ensures
    ∙ weight-unit g.row.K g.row.M word c.loop-i.shards c.args.d (g.row.K + c.args.p) few is first c.requires.datum unit (omega (arith, c.requires.parity))
