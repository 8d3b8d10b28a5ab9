use Rattle.std.proofs.Common.{◌∙◌, arith}
use Rattle.std.proofs.lemmas.List.{length-take}
use Rattle.site_model.specs.Laws.Count.{calls_on, calls_write}
use Rattle.volume_vacuum.proofs.Copied.{dat_apart, next_touch, next_range}
use Rattle.volume_vacuum.proofs.Renames.{named_at}
use Rattle.volume_vacuum.proofs.copying.copy_range.Goals as goal

pub returns-in_err-append-clause-effect : goal.returns-in_err-append-clause-effect
returns-in_err-append-clause-effect g c = λ told. next_touch (named_at c.args.home.now.server c.deref.ensures) (c.loop-done.invariant.effect told) (c.read_piece.ensures.same told) (c.append.ensures.effect told)

pub loop-done-preserved : goal.loop-done-preserved
loop-done-preserved g c = record {
  within = omega (arith, c.in_ok-count.ensures.count, c.loop-done-test.true, c.loop-done.invariant.within);
  long = c.read_piece.ensures.long ∙ c.loop-done.invariant.long;
  runs =
      calls_on c.loop-done.invariant.runs (calls_on c.in_ok-count.ensures.runs
      (calls_write (omega (arith, length-take c.in_ok-count.count c.read_piece.new.buffer, c.in_ok-count.ensures.count, c.requires.narrow, c.loop-done.invariant.long)) c.in_ok-append.ensures.counts c.append.ensures.servers));
  effect = λ told. next_touch (named_at c.args.home.now.server c.deref.ensures) (c.loop-done.invariant.effect told) (c.read_piece.ensures.same told) (c.append.ensures.effect told);
  grows = λ told.
      next_range (g.T.Site.disk c.append.new.self).files c.args.place.at c.loop-done.done c.in_ok-count.count (dat_apart c.requires.apart) (named_at c.args.home.now.server c.deref.ensures) (c.read_piece.ensures.same told)
      (c.loop-done.invariant.effect told) (c.loop-done.invariant.grows told) (c.in_ok-append.ensures.done told) (c.in_ok-count.ensures.bytes told);
}
