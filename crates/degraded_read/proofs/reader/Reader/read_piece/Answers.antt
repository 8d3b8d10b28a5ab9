use Rattle.std.proofs.Common.{◌≡◌, ◌+◌, ◌-◌, ◌≤◌, Err, None, min, sym, ◌∙◌, ap, subst, arith}
use Rattle.std.proofs.lemmas.Grind.{common_steps}
use Rattle.std.proofs.lemmas.Result.{err_from_is_err_and}
use Rattle.site_model.specs.Counts.{TakesCalls}
use Rattle.shard_table.specs.Table.{row_of}
use Rattle.degraded_read.specs.Reading.{shards_standing}
use Rattle.degraded_read.specs.Reads.{FailsBy}
use Rattle.degraded_read.proofs.Blaming.{fails_on, stays_on}
use Rattle.degraded_read.proofs.Calling.{reads_on}
use Rattle.degraded_read.proofs.Joining.{fills_next, fills_whole, part_read, read_within, placed_still, filled_still}
use Rattle.degraded_read.proofs.reader.Reader.read_piece.Goals as goal

pub read_between-requires-clause-placed : goal.read_between-requires-clause-placed
read_between-requires-clause-placed g c = λ told.
    placed_still (g.T.Site.disk c.args.site.now) (g.T.Site.disk c.loop-done.site) c.args.self.now.volume c.loop-done.self.volume c.args.info.now c.args.table.now
    (c.loop-done.invariant.reads.same told) c.loop-done.invariant.volume (c.requires.placed told)

pub returns-in_err-read_between-clause-fails : goal.returns-in_err-read_between-clause-fails
returns-in_err-read_between-clause-fails g c =
    let inv = c.loop-done.invariant in
    let p = err_from_is_err_and c.from_residual.result c.from_residual.ensures.1 in
    let same : c.from_residual.result ≡ c.read_between.result = p.1 ∙ ap Err p.2 ∙ sym c.in_err-read_between.was in
    subst (λ result. FailsBy c.args.info.now.geometry.ratio (row_of c.args.table.now c.args.self.now.volume) result c.args.failed.now c.read_between.new.failed (g.T.Site.counts c.args.site.now) (g.T.Site.counts c.read_between.new.site)) (sym same)
    (fails_on inv.reads.runs.later inv.blamed
    (subst (λ v. FailsBy c.args.info.now.geometry.ratio (row_of c.args.table.now v) c.read_between.result c.loop-done.failed c.read_between.new.failed (g.T.Site.counts c.loop-done.site) (g.T.Site.counts c.read_between.new.site)) inv.volume c.read_between.ensures.fails))

pub returns-in_err-read_between-clause-reads : goal.returns-in_err-read_between-clause-reads
returns-in_err-read_between-clause-reads g c =
    let inv = c.loop-done.invariant in
    let part : c.min-size.result ≡ min (c.args.piece.length - c.loop-done.done) 65536 = grind (arith, common_steps) in
    let within : c.loop-done.done + c.min-size.result ≤ c.args.piece.length = omega (arith, part, c.loop-done-test.true) in
    let standing = shards_standing c.args.info.now (row_of c.args.table.now c.args.self.now.volume) in
    reads_on (λ read did. read_within standing (c.loop-done.done + c.min-size.result) c.args.piece.length within
    (part_read standing c.loop-done.done c.min-size.result c.args.piece.length c.loop-done-test.true part read
    (subst (λ v. TakesCalls (shards_standing c.args.info.now (row_of c.args.table.now v)) c.min-size.result (g.T.Site.counts c.loop-done.site) (g.T.Site.counts c.read_between.new.site)) inv.volume did)))
    inv.reads c.read_between.ensures.reads

pub loop-done-preserved : goal.loop-done-preserved
loop-done-preserved g c =
    let inv = c.loop-done.invariant in
    let did = c.read_between.ensures in
    let part : c.min-size.result ≡ min (c.args.piece.length - c.loop-done.done) 65536 = grind (arith, common_steps) in
    let standing = shards_standing c.args.info.now (row_of c.args.table.now c.args.self.now.volume) in
    record {
      within = omega (arith, part, c.loop-done-test.true);
      volume = did.reader.volume ∙ inv.volume;
      widest = did.reader.widest ∙ inv.widest;
      before = λ i h. did.before i (omega arith) ∙ inv.before i h;
      blamed = stays_on inv.reads.runs.later inv.blamed did.fails.stays;
      reads = reads_on (λ read more. part_read standing c.loop-done.done c.min-size.result c.args.piece.length c.loop-done-test.true part read
          (subst (λ v. TakesCalls (shards_standing c.args.info.now (row_of c.args.table.now v)) c.min-size.result (g.T.Site.counts c.loop-done.site) (g.T.Site.counts c.read_between.new.site)) inv.volume more)) inv.reads did.reads;
      part = λ told.
          fills_next (g.T.Site.disk c.args.site.now).files c.args.self.now.volume c.args.info.now (row_of c.args.table.now c.args.self.now.volume) c.args.piece.shard c.args.piece.at c.args.from c.loop-done.done c.min-size.result c.loop-done.out c.read_between.new.out
          did.fails.stays.kept did.before (inv.part told)
          (filled_still (g.T.Site.disk c.args.site.now) (g.T.Site.disk c.loop-done.site) c.args.self.now.volume c.loop-done.self.volume c.args.info.now c.args.table.now (c.read_between.new.failed ≡ None)
          (record { shard = c.args.piece.shard; at = c.args.piece.at + c.loop-done.done; length = c.min-size.result }) (c.args.from + c.loop-done.done) c.read_between.new.out
          (inv.reads.same told) inv.volume (c.in_ok-read_between.ensures.part told));
    }

pub returns-clause-piece : goal.returns-clause-piece
returns-clause-piece g c = λ told.
    fills_whole (g.T.Site.disk c.args.site.now).files c.args.self.now.volume c.args.info.now (row_of c.args.table.now c.args.self.now.volume) c.args.piece c.args.from c.loop-done.done c.loop-done.out c.loop-done-test.false
    (c.loop-done.invariant.part told)
