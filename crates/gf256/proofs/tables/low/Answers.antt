use Rattle.std.proofs.Common.{◌<◌, refl, arith}
use Rattle.gf256.specs.Field.{field_mul, carry_less, reduced}
use Rattle.gf256.specs.Tables.{rows-tabulate}
use Rattle.gf256.specs.declared.tables.TheConstants.{LOW}
use Rattle.gf256.proofs.tables.low.Goals as goal

pub returns : goal.returns
unfolding field_mul carry_less reduced
returns c =
    let room : c.from.result < 16 = omega (arith, c.from.ensures, c.requires) in
    let row = rows-tabulate LOW field_mul refl refl c.from.result c.args.a c.from.ensures c.requires in
    record { width = (row _ room).width; entries = λ n k. (row _ room).entries n k }
