use Rattle.std.proofs.Common.{◌+◌, take, sym, ap, subst, length-take, arith}
use Rattle.std.specs.Prelude.{IsTrue}
use Rattle.site_model.specs.Counts.{TakesCalls}
use Rattle.site_model.specs.Laws.Count.{later_on, takes_on, takes_within}
use Rattle.world_model.specs.Ratios.{data_count, parity_count, data_count-twelve}
use Rattle.degraded_read.proofs.Steps.{same_gathered, gathered_ends, standing_next, standing_within}
use Rattle.degraded_read.proofs.Calling.{reads_on, reads_so}
use Rattle.degraded_read.proofs.Blaming.{stays_on}
use Rattle.degraded_read.proofs.gathering.gather.Goals as goal

pub loop-shard-preserved : goal.loop-shard-preserved
loop-shard-preserved g c =
    let inv = c.loop-shard.invariant in
    let did = c.gather_one.ensures in
    record {
      within = omega (arith, c.loop-shard-test.true);
      numbers = record { few = omega (arith, did.numbers.few, c.if-so_far-enough.true); room = did.numbers.room };
      blamed = stays_on inv.reads.runs.later inv.blamed did.blamed;
      reads = reads_on (λ was now. subst (λ n. TakesCalls n c.args.size (g.T.Site.counts c.args.site.now) (g.T.Site.counts c.gather_one.new.site)) (standing_next c.args.places.now c.loop-shard.shard) (takes_on was now)) inv.reads did.reads;
      gathered = λ old before.
          same_gathered (IsTrue g.T.Site.tells) (g.T.Site.disk c.loop-shard.site).files (g.T.Site.disk c.args.site.now).files c.args.volume c.args.places.now c.args.at c.args.size old (g.T.Site.counts c.gather_one.new.site) (c.loop-shard.shard + 1)
          (take c.gather_one.new.so_far.count c.gather_one.new.so_far.have) c.gather_one.new.so_far.failed c.gather_one.new.room (λ told. ap (λ d. d.files) (inv.reads.same told))
          (did.gathered old (later_on before inv.reads.runs.later)
          (same_gathered (IsTrue g.T.Site.tells) (g.T.Site.disk c.args.site.now).files (g.T.Site.disk c.loop-shard.site).files c.args.volume c.args.places.now c.args.at c.args.size old (g.T.Site.counts c.loop-shard.site) c.loop-shard.shard
          (take c.loop-shard.so_far.count c.loop-shard.so_far.have) c.loop-shard.so_far.failed c.loop-shard.room (λ told. sym (ap (λ d. d.files) (inv.reads.same told))) (inv.gathered old before)));
    }

pub returns-else-so_far-enough-clause-gathered : goal.returns-else-so_far-enough-clause-gathered
returns-else-so_far-enough-clause-gathered g c old before =
    let inv = c.loop-shard.invariant in
    let k = data_count c.args.ratio in
    let have = take c.loop-shard.so_far.count c.loop-shard.so_far.have in
    gathered_ends (IsTrue g.T.Site.tells) (g.T.Site.disk c.args.site.now).files c.args.volume c.args.places.now c.args.at c.args.size old (g.T.Site.counts c.loop-shard.site) k (k + parity_count c.args.ratio) c.loop-shard.shard have c.loop-shard.so_far.failed
    c.loop-shard.room
    (omega (arith, inv.within, c.shard_count-all.ensures))
    (λ few. absurd (omega (arith, few, length-take c.loop-shard.so_far.count c.loop-shard.so_far.have, inv.numbers.room, inv.numbers.few, c.if-so_far-enough.false, c.from-enough.ensures, c.data_count.ensures, data_count-twelve c.args.ratio)))
    (inv.gathered old before)

pub returns-after-loop-shard-clause-gathered : goal.returns-after-loop-shard-clause-gathered
returns-after-loop-shard-clause-gathered g c old before =
    let inv = c.loop-shard.invariant in
    let k = data_count c.args.ratio in
    let have = take c.loop-shard.so_far.count c.loop-shard.so_far.have in
    gathered_ends (IsTrue g.T.Site.tells) (g.T.Site.disk c.args.site.now).files c.args.volume c.args.places.now c.args.at c.args.size old (g.T.Site.counts c.loop-shard.site) k (k + parity_count c.args.ratio) c.loop-shard.shard have c.loop-shard.so_far.failed
    c.loop-shard.room
    (omega (arith, inv.within, c.shard_count-all.ensures))
    (λ few. omega (arith, c.loop-shard-test.false, c.shard_count-all.ensures))
    (inv.gathered old before)

pub returns-else-so_far-enough-clause-reads : goal.returns-else-so_far-enough-clause-reads
returns-else-so_far-enough-clause-reads g c =
    let inv = c.loop-shard.invariant in
    reads_so (takes_within (standing_within c.args.places.now c.loop-shard.shard (data_count c.args.ratio + parity_count c.args.ratio) (omega (arith, inv.within, c.shard_count-all.ensures))) (omega arith)) inv.reads

pub returns-after-loop-shard-clause-reads : goal.returns-after-loop-shard-clause-reads
returns-after-loop-shard-clause-reads g c =
    let inv = c.loop-shard.invariant in
    reads_so (takes_within (standing_within c.args.places.now c.loop-shard.shard (data_count c.args.ratio + parity_count c.args.ratio) (omega (arith, inv.within, c.shard_count-all.ensures))) (omega arith)) inv.reads
