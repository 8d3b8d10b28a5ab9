use Rattle.std.proofs.Common.{arith}
use Rattle.site_model.specs.Laws.Count.{takes_none, takes_on, takes_within, takes_write, calls_nowhere, calls_on_anywhere, calls_untold, calls_anywhere, calls_write}
use Rattle.shard_make.proofs.Appended.{appended_none, appended_next, appended_partly, appended_grow}
use Rattle.shard_make.proofs.writing.append_pieces.Goals as goal

pub loop-shard-init : goal.loop-shard-init
loop-shard-init g c = record {
  takes = takes_none (g.T.Site.counts c.args.site.now);
  runs = calls_nowhere c.args.site.now;
  appended = λ told. appended_none c.args.names.now c.args.size c.args.pieces.now (g.T.Site.disk c.args.site.now);
}

pub loop-shard-preserved : goal.loop-shard-preserved
loop-shard-preserved g c =
    let inv = c.loop-shard.invariant in
    let did = c.append_piece.ensures in
    record {
      takes = takes_on inv.takes (takes_within (omega arith) c.requires.narrow (takes_write did.counts));
      runs = calls_on_anywhere inv.runs (calls_untold (calls_anywhere (calls_write c.requires.narrow did.counts did.servers)));
      appended = λ told.
          appended_next c.args.names.now c.args.size c.args.pieces.now c.loop-shard.shard (g.T.Site.disk c.args.site.now) (g.T.Site.disk c.loop-shard.site) (inv.appended told) (g.T.Site.disk c.append_piece.new.site)
          (omega arith) (omega (arith, c.loop-shard-test.true, c.shard_count-shard-end.ensures)) (did.effect told) (c.in_ok-append_piece.ensures.done told);
    }

pub returns-in_err-append_piece-clause-effect : goal.returns-in_err-append_piece-clause-effect
returns-in_err-append_piece-clause-effect g c = λ told.
    appended_partly c.args.names.now c.args.size c.args.pieces.now c.loop-shard.shard (g.T.Site.disk c.args.site.now) (g.T.Site.disk c.loop-shard.site) (c.loop-shard.invariant.appended told) (g.T.Site.disk c.append_piece.new.site)
    (omega arith) (omega (arith, c.loop-shard-test.true, c.shard_count-shard-end.ensures)) (c.append_piece.ensures.effect told)

pub returns-clause-effect : goal.returns-clause-effect
returns-clause-effect g c = λ told.
    appended_grow c.args.names.now c.args.size c.args.pieces.now c.loop-shard.shard (g.T.Site.disk c.args.site.now) (g.T.Site.disk c.loop-shard.site) (c.loop-shard.invariant.appended told)
