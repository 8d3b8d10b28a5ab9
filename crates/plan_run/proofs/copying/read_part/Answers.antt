use Rattle.std.proofs.Common.{sym, subst, arith}
use Rattle.shard_table.specs.Table.{row_of}
use Rattle.site_model.specs.Laws.Count.{takes_within}
use Rattle.degraded_read.specs.Reading.{GivesPart, HasPlaces, NoneRose}
use Rattle.plan_steps.specs.Progressing.{running}
use Rattle.plan_run.proofs.Shards.{on_ok, few_standing, placed, gives_part}
use Rattle.plan_run.proofs.copying.read_part.Goals as goal

pub read_shard-requires-clause-placed : goal.read_shard-requires-clause-placed
read_shard-requires-clause-placed g c = λ told.
    subst (λ v. HasPlaces (g.T.Site.disk c.args.site.now).files v c.args.plan.now.info (row_of c.args.table.now v)) (sym c.requires.reader.volume)
    (placed (running c.args.plan.now c.args.progress.now) (g.T.Site.servers c.args.site.now) c.args.table.now (g.T.Site.disk c.args.site.now).files c.requires.work.on_its_way.1.apart c.requires.table (c.requires.told told))

pub returns-clause-part : goal.returns-clause-part
returns-clause-part g c = on_ok c.read_shard.result (λ part told.
    gives_part (running c.args.plan.now c.args.progress.now) (g.T.Site.disk c.args.site.now).files (row_of c.args.table.now c.args.plan.now.volume) (NoneRose (g.T.Site.counts c.args.site.now) (g.T.Site.counts c.read_shard.new.site))
    c.args.shard c.args.at c.read_shard.new.out c.requires.shard (omega (arith, c.requires.range, c.type_inv.out))
    (subst (λ v. GivesPart (g.T.Site.disk c.args.site.now).files v c.args.plan.now.info (row_of c.args.table.now v) (NoneRose (g.T.Site.counts c.args.site.now) (g.T.Site.counts c.read_shard.new.site))
    c.args.shard c.args.at c.read_shard.new.out) c.requires.reader.volume (part told))
    (c.requires.coded told)) c.read_shard.ensures.part

pub returns-clause-reads : goal.returns-clause-reads
returns-clause-reads g c = record {
  same = c.read_shard.ensures.reads.same;
  calls = takes_within (few_standing c.args.plan.now.info (row_of c.args.table.now c.args.reader.now.volume)) c.requires.narrow c.read_shard.ensures.reads.calls;
  runs = c.read_shard.ensures.reads.runs;
}
