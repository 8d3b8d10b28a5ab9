use Rattle.std.proofs.Common.{◌+◌, ◌≤◌, sym, ◌∙◌, arith}
use Rattle.rs_code.specs.Coefficients.{weights-give}
use Rattle.rs_code.proofs.Code.coefficients.Goals as goal

pub returns : goal.returns
returns g c word is =
    let few : g.row.K + g.row.M ≤ 256 = omega (arith, c.args.self.now.sizes.few) in
    weights-give g.row.K g.row.M word c.args.have.now c.loop-i.row c.args.want few is c.told-have c.requires.have c.requires.want
    record { width = c.loop-i.invariant.0 ∙ sym c.told-have; entries = λ k h. c.loop-i.invariant.1 k (omega (arith, c.told-have)) }
