use Rattle.std.proofs.Common.{◌≤◌, ◌∙◌, refl, sym, arith}
use Rattle.site_mem.specs.Held.{disk_held, call_held}
use Rattle.site_mem.proofs.Calling.{steps_from, effect_stepped, done_stepped, numbered_stepped, since_stepped, within_stepped}
use Rattle.site_mem.proofs.SinceStart.{calls_stepped, call_asked_for}
use Rattle.site_mem.proofs.Making.{makes, carried}
use Rattle.site_mem.proofs.mem.MemSite.make.Goals as goal

pub invariant_of-self : goal.invariant_of-self
invariant_of-self c =
    let old = c.args.self.now in
    let steps = steps_from c.enter.result c.enter.ensures.ok c.enter.ensures.err in
    let more : old.tally.calls ≤ c.count.new.tally.calls = omega (arith, c.count.ensures.calls, c.next-number.ensures.number, c.next-number.ensures.later) in
    record {
      some = old.some;
      few = old.few;
      numbered = numbered_stepped old.tally.calls c.count.new.tally.calls _ steps more (omega (arith, c.count.ensures.calls, c.next-number.ensures.number)) old.numbered;
      since = since_stepped old.tally.calls c.count.new.tally.calls _ steps more old.since;
      within = within_stepped old.servers _ steps c.requires.within old.within;
      asked = calls_stepped _ steps (call_asked_for _ _ c.requires.call) old.asked;
    }

pub returns-then-failed-clause-effect : goal.returns-then-failed-clause-effect
unfolding disk_held call_held
returns-then-failed-clause-effect c = effect_stepped _ (steps_from c.enter.result c.enter.ensures.ok c.enter.ensures.err)

pub returns-then-failed-clause-made : goal.returns-then-failed-clause-made
returns-then-failed-clause-made c =
    makes _ c.args.self.now _ _ _ _ _ c.next-number.ensures.number c.has_call-is_listed.ensures c.is_ok-entered.ensures.value (steps_from c.enter.result c.enter.ensures.ok c.enter.ensures.err)
    _ _ (sym c.if-failed.true) refl (omega arith) c.from.ensures c.saturating_add-self.ensures c.count.ensures.calls

pub returns-else-failed-clause-done : goal.returns-else-failed-clause-done
unfolding disk_held call_held
returns-else-failed-clause-done c =
    let carry = carried c.has_call-is_listed.result c.is_ok-entered.result c.if-failed.false in
    done_stepped _ (sym c.is_ok-entered.ensures.value ∙ carry.0) carry.1 (steps_from c.enter.result c.enter.ensures.ok c.enter.ensures.err)

pub returns-else-failed-clause-effect : goal.returns-else-failed-clause-effect
unfolding disk_held call_held
returns-else-failed-clause-effect c = effect_stepped _ (steps_from c.enter.result c.enter.ensures.ok c.enter.ensures.err)

pub returns-else-failed-clause-made : goal.returns-else-failed-clause-made
returns-else-failed-clause-made c =
    makes _ c.args.self.now _ _ _ _ _ c.next-number.ensures.number c.has_call-is_listed.ensures c.is_ok-entered.ensures.value (steps_from c.enter.result c.enter.ensures.ok c.enter.ensures.err)
    _ _ (sym c.if-failed.false) refl (omega arith) c.from.ensures c.saturating_add-self.ensures c.count.ensures.calls
