use Rattle.std.proofs.Common.{length, ap, arith}
use Rattle.wire_num.specs.Laws.Number.{length-bytes_of}
use Rattle.ecj_journal.proofs.Halves.{first_half, second_half}
use Rattle.ecj_journal.proofs.appending.append_halves.Goals as goal

pub append_one-requires-clause-few : goal.append_one-requires-clause-few
append_one-requires-clause-few g c = omega (arith, ap length c.requires.half, length-bytes_of 8 c.args.id)

pub append_one-requires-2-clause-few : goal.append_one-requires-2-clause-few
append_one-requires-2-clause-few g c = omega (arith, ap length c.requires.half, length-bytes_of 8 c.args.id)

pub returns-in_err-append_one-clause-effect : goal.returns-in_err-append_one-clause-effect
returns-in_err-append_one-clause-effect g c = λ told. first_half _ c.args.id _ _ _ c.requires.half (c.append_one.ensures.effect told) (c.append_one.ensures.grown told)

pub returns-in_err-append_one-2-clause-effect : goal.returns-in_err-append_one-2-clause-effect
returns-in_err-append_one-2-clause-effect g c = λ told.
    second_half _ c.args.id _ _ _ _ c.requires.half c.ranges.id.fits (first_half _ c.args.id _ _ _ c.requires.half (c.append_one.ensures.effect told) (c.append_one.ensures.grown told)) (c.in_ok-append_one.ensures.done told) (c.append_one-2.ensures.effect told) (c.append_one-2.ensures.grown told)

pub returns-clause-effect : goal.returns-clause-effect
returns-clause-effect g c = λ told.
    second_half _ c.args.id _ _ _ _ c.requires.half c.ranges.id.fits (first_half _ c.args.id _ _ _ c.requires.half (c.append_one.ensures.effect told) (c.append_one.ensures.grown told)) (c.in_ok-append_one.ensures.done told) (c.append_one-2.ensures.effect told) (c.append_one-2.ensures.grown told)
