use Rattle.std.proofs.Common.{refl, arith}
use Rattle.volume_vacuum.proofs.Copied.{joined}
use Rattle.volume_vacuum.proofs.copying.join_or_copy.Goals as goal

pub returns-then-range-next-clause-kept : goal.returns-then-range-next-clause-kept
returns-then-range-next-clause-kept g c = (omega (arith, c.if-range-next.true), λ told. joined _ _ c.args.range c.args.next _ c.if-range-next.true refl)
