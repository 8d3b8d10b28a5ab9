use Rattle.std.proofs.Common.{refl, arith}
use Rattle.site_mem.proofs.Calling.{numbered_more}
use Rattle.site_mem.proofs.Making.{looks}
use Rattle.site_mem.proofs.mem.MemSite.look.Goals as goal

pub invariant_of-self : goal.invariant_of-self
invariant_of-self c = record {
  some = c.args.self.now.some;
  few = c.args.self.now.few;
  numbered = numbered_more c.args.self.now.tally.calls c.count_read.new.self.calls c.args.self.now.history.entries.items c.count_read.ensures.counts.calls_rise c.args.self.now.numbered;
  since = λ server. omega (arith, c.args.self.now.since server, c.count_read.ensures.counts.calls_rise);
  within = c.args.self.now.within;
  asked = c.args.self.now.asked;
}

pub returns-clause-looked : goal.returns-clause-looked
returns-clause-looked c = looks c.args.failed c.args.self.now _ refl refl refl c.count_read.ensures.calls
