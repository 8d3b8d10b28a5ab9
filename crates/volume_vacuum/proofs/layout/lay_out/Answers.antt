use Rattle.std.proofs.lemmas.List.{nil_from_length}
use Rattle.volume_vacuum.proofs.Laid.{laid_overlaps, laid_more, laid_index, laid_bytes, laid_end, laid_apart, overlap_is_told}
use Rattle.volume_vacuum.proofs.layout.lay_out.Goals as goal

pub returns-then-place-behind-clause-told : goal.returns-then-place-behind-clause-told
returns-then-place-behind-clause-told c =
    overlap_is_told c.past_end.result c.past_end.ensures
    (laid_overlaps c.in-Some.entry.now c.in-Some.ensures.cases.0 c.place_of-place.ensures.at c.if-place-behind.true c.loop-entry.invariant) c.if-place-behind.true

pub loop-entry-preserved : goal.loop-entry-preserved
loop-entry-preserved c =
    laid_more c.in-Some.entry.now c.in-Some.ensures.cases.0 c.place_of-place.ensures.at c.place_of-place.ensures.length c.if-place-behind.false
    c.in_ok-append.ensures.index c.in_ok-append.ensures.bytes c.in_ok-append.ensures.end c.loop-entry.invariant

pub returns-clause-index : goal.returns-clause-index
returns-clause-index c = laid_index (nil_from_length c.loop-entry.rest.now c.in_default.ensures.cases) c.loop-entry.invariant

pub returns-clause-bytes : goal.returns-clause-bytes
returns-clause-bytes c = laid_bytes (nil_from_length c.loop-entry.rest.now c.in_default.ensures.cases) c.loop-entry.invariant

pub returns-clause-end : goal.returns-clause-end
returns-clause-end c = laid_end (nil_from_length c.loop-entry.rest.now c.in_default.ensures.cases) c.loop-entry.invariant

pub returns-clause-apart : goal.returns-clause-apart
returns-clause-apart c = laid_apart (nil_from_length c.loop-entry.rest.now c.in_default.ensures.cases) c.loop-entry.invariant
