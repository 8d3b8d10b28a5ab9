use Rattle.std.proofs.Common.{◌<◌, ◌∙◌, ap, arith}
use Rattle.site_mem.specs.Held.{disk_held, call_held}
use Rattle.site_mem.specs.Record.{nothing, disk_of}
use Rattle.site_mem.specs.Calls.{at_call, are_numbered, are_within, are_calls}
use Rattle.site_mem.proofs.Calling.{at_loss}
use Rattle.site_mem.proofs.Losing.{disk_less, since_less, had_lost_same}
use Rattle.site_mem.proofs.mem.MemSite.lose.Goals as goal

pub invariant_of-self : goal.invariant_of-self
invariant_of-self c =
    let old = c.args.self.now in
    let positive : 0 < c.next.result = omega (arith, c.next.ensures.number) in
    record {
      some = old.some;
      few = old.few;
      numbered = ap (λ l. are_numbered old.tally.calls l) c.lose.ensures.entries ∙ old.numbered;
      since = since_less positive c.lose.ensures.lost old.tally.calls (omega (arith, c.next.ensures.number)) old.since;
      within = ap (λ l. are_within old.servers l) c.lose.ensures.entries ∙ old.within;
      asked = ap are_calls c.lose.ensures.entries ∙ old.asked;
    }

pub returns-clause-files : goal.returns-clause-files
unfolding disk_held call_held
returns-clause-files c k =
    let positive : 0 < c.next.result = omega (arith, c.next.ensures.number) in
    ap (λ l. (disk_of l c.lose.new.self.lost.since).files k) c.lose.ensures.entries ∙ disk_less positive c.lose.ensures.lost c.args.self.now.history.entries.items k

pub returns-clause-said : goal.returns-clause-said
unfolding disk_held call_held
returns-clause-said c = ap (λ l. (disk_of l c.lose.new.self.lost.since).said) c.lose.ensures.entries

pub returns-clause-past : goal.returns-clause-past
unfolding disk_held call_held
returns-clause-past c = ap (λ l. (disk_of l c.lose.new.self.lost.since).past) c.lose.ensures.entries

pub returns-clause-calls : goal.returns-clause-calls
unfolding disk_held call_held
returns-clause-calls c = λ can number sooner.
    let positive : 0 < c.next.result = omega (arith, c.next.ensures.number) in
    let before : number < c.next.result = omega (arith, c.next.ensures.number, can, sooner) in
    ap (λ l. at_call number nothing l c.lose.new.self.lost.since) c.lose.ensures.entries
    ∙ at_loss number nothing c.args.self.now.history.entries.items c.args.self.now.history.lost.since c.lose.new.self.lost.since (λ s. had_lost_same positive c.lose.ensures.lost number s before)
