use Rattle.std.proofs.Common.{arith}
use Rattle.gf256.specs.Powers.{begins_powering, powering-even, powering-odd, powering-done}
use Rattle.gf256.proofs.pow.Goals as goal
use Rattle.gf256.proofs.pow.Goals.{then-left-eq1, else-left-eq1}

pub loop-left-init : goal.loop-left-init
loop-left-init c = begins_powering c.args.a c.args.n c.ranges.a.fits

pub loop-left-preserved : goal.loop-left-preserved
loop-left-preserved c =
    elim c.if-left-eq1.branch [
      | then-left-eq1 w ↦ rw (w.power-is, w.mul-power.ensures, c.mul-square.ensures)
          (powering-odd c.args.a c.args.n c.loop-left.power c.loop-left.square c.loop-left.left c.loop-left.invariant w.if-left-eq1.true)
      | else-left-eq1 w ↦ rw (w.power-is, c.mul-square.ensures)
          (powering-even c.args.a c.args.n c.loop-left.power c.loop-left.square c.loop-left.left c.loop-left.invariant (omega arith))
    ]

pub returns : goal.returns
returns c = powering-done c.args.a c.args.n c.loop-left.power c.loop-left.square c.loop-left.left c.loop-left.invariant (omega arith)
