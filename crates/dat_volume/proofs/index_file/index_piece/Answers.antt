use Rattle.std.proofs.Common.{pos, ◌<ℤ◌, ◌≤ℤ◌, sym, ◌∙◌, arith}
use Rattle.std.proofs.lemmas.Int.{ints}
use Rattle.dat_volume.proofs.Indexed.{after_negative, after_positive, index_step, index_end}
use Rattle.dat_volume.proofs.index_file.index_piece.Goals as goal

pub loop-entry-preserved-then-entry-lt0 : goal.loop-entry-preserved-then-entry-lt0
loop-entry-preserved-then-entry-lt0 c =
    let negative : c.read_entry-entry.result.size <ℤ pos 0 = omega (arith, ints, c.if-entry-lt0.true) in
    index_step _ _ _ _ _ c.read_entry-entry.result c.in-Some.ensures.cases.0 c.in-Some.ensures.cases.1 (omega (arith, c.in-Some.ensures.cases.2)) c.read_entry-entry.ensures.value
    (c.remove.ensures ∙ sym (after_negative _ c.read_entry-entry.result _ negative))
    ∙ c.loop-entry.invariant

pub loop-entry-preserved : goal.loop-entry-preserved
loop-entry-preserved c =
    let positive : pos 0 ≤ℤ c.read_entry-entry.result.size = omega (arith, ints, c.if-entry-lt0.false) in
    index_step _ _ _ _ _ c.read_entry-entry.result c.in-Some.ensures.cases.0 c.in-Some.ensures.cases.1 (omega (arith, c.in-Some.ensures.cases.2)) c.read_entry-entry.ensures.value
    (c.in_ok-put.ensures.ok ∙ sym (after_positive _ c.read_entry-entry.result _ positive))
    ∙ c.loop-entry.invariant

pub returns : goal.returns
returns c = index_end _ _ c.in_default.ensures.cases ∙ c.loop-entry.invariant
