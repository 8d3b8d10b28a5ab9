use Rattle.std.proofs.Common.{◌<◌, ◌*◌, refl, arith}
use Rattle.gf256.specs.Field.{field_mul, carry_less, reduced}
use Rattle.gf256.specs.Tables.{rows-tabulate}
use Rattle.gf256.specs.declared.tables.TheConstants.{MIDDLE}
use Rattle.gf256.proofs.tables.middle.Goals as goal

pub returns-clause-shifted_entry : goal.returns-clause-shifted_entry
unfolding field_mul carry_less reduced
returns-clause-shifted_entry c =
    let room : c.from.result < 16 = omega (arith, c.from.ensures, c.requires) in
    let row = rows-tabulate MIDDLE (λ a n. field_mul a (16 * n)) refl refl c.from.result c.args.a c.from.ensures c.requires in
    record { width = (row _ room).width; entries = λ n k. (row _ room).entries n k }

pub returns-clause-shifted_row : goal.returns-clause-shifted_row
unfolding field_mul carry_less reduced
returns-clause-shifted_row c =
    let room : c.from.result < 16 = omega (arith, c.from.ensures, c.requires) in
    let row = rows-tabulate MIDDLE (λ a. field_mul (16 * a)) refl refl c.from.result c.args.a c.from.ensures c.requires in
    record { width = (row _ room).width; entries = λ n k. (row _ room).entries n k }
