use Rattle.std.proofs.Common.{◌≡◌, vec_len, vec_capacity, Ok, sym, ◌∙◌}
use Rattle.std.proofs.lemmas.Result.{err_from_is_err_and}
use Rattle.volume_fix.specs.Walk.{entry_or_past}
use Rattle.volume_fix.specs.Laws.Walk.{walk-short, walk-past}
use Rattle.volume_fix.specs.Laws.Chunk.{leaves_no_header}
use Rattle.volume_fix.proofs.Walking.{walking-on, walking-entries, walking-next}
use Rattle.volume_fix.proofs.headers.Goals as goal

pub returns-in_err-entry-clause-entries : goal.returns-in_err-entry-clause-entries
returns-in_err-entry-clause-entries c =
    walking-entries _ _ _ _ _ _ c.loop-rest.invariant (walk-past c.args.end c.loop-rest.at c.loop-rest.rest.now c.in_err-entry.field-0.0 c.loop-rest-test.true (sym c.read_entry.ensures ∙ c.in_err-entry.was))

pub returns-in_err-entry-clause-next : goal.returns-in_err-entry-clause-next
returns-in_err-entry-clause-next c =
    let p = err_from_is_err_and c.from_residual.result c.from_residual.ensures.1 in
    rw (p.1, p.2) (walking-next _ _ _ _ _ _ c.loop-rest.invariant (walk-past c.args.end c.loop-rest.at c.loop-rest.rest.now c.in_err-entry.field-0.0 c.loop-rest-test.true (sym c.read_entry.ensures ∙ c.in_err-entry.was)))

pub loop-rest-preserved : goal.loop-rest-preserved
loop-rest-preserved c =
    let found : entry_or_past c.args.end c.loop-rest.at c.loop-rest.rest.now ≡ Ok (c.in_ok-entry.entry, c.in_ok-entry.length) = sym c.read_entry.ensures ∙ c.in_ok-entry.was in
    rw (c.behind-rest.ensures, c.push_reserved.ensures.items, c.push_reserved.ensures.len)
    (walking-on c.loop-rest.at c.loop-rest.rest.now c.loop-rest.out.items (vec_len c.loop-rest.out) (vec_capacity c.loop-rest.out) (c.in_ok-entry.entry, c.in_ok-entry.length) (vec_capacity c.push_reserved.new.out) c.loop-rest.invariant c.loop-rest-test.true found c.push_reserved.ensures.capacity)

pub returns-clause-entries : goal.returns-clause-entries
returns-clause-entries c = walking-entries _ _ _ _ _ _ c.loop-rest.invariant (walk-short c.args.end c.loop-rest.at c.loop-rest.rest.now c.loop-rest-test.false)

pub returns-clause-next : goal.returns-clause-next
returns-clause-next c = walking-next _ _ _ _ _ _ c.loop-rest.invariant (walk-short c.args.end c.loop-rest.at c.loop-rest.rest.now c.loop-rest-test.false)

pub returns-in_err-entry-clause-left : goal.returns-in_err-entry-clause-left
returns-in_err-entry-clause-left c = leaves_no_header c.args.end c.args.at c.args.chunk.now _ (returns-in_err-entry-clause-next c)

pub returns-clause-left : goal.returns-clause-left
returns-clause-left c = leaves_no_header c.args.end c.args.at c.args.chunk.now _ (returns-clause-next c)
