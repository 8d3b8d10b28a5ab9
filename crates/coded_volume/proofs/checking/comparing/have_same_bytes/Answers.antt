use Rattle.std.proofs.Common.{◌≡◌, ◌∙◌, take, drop, subst, sym, arith}
use Rattle.site_model.specs.Disk.{Disk, bytes_of}
use Rattle.site_model.specs.Laws.Count.{calls_on_anywhere, calls_untold}
use Rattle.coded_volume.proofs.Equal.{next_same}
use Rattle.coded_volume.proofs.checking.comparing.have_same_bytes.Goals as goal

pub loop-at-preserved : goal.loop-at-preserved
loop-at-preserved g c = record {
  within = omega (arith, c.loop-at-test.true, c.loop-at.invariant.within, c.min-count.ensures);
  runs = calls_untold (calls_on_anywhere (calls_on_anywhere c.loop-at.invariant.runs c.piece_at.ensures.runs) c.piece_at-in-loop-at.ensures.runs);
  same_disk = λ told. c.piece_at-in-loop-at.ensures.same told ∙ c.piece_at.ensures.same told ∙ c.loop-at.invariant.same_disk told;
  fronts = λ told.
      let first = subst (λ (d : Disk). c.in_ok-piece.piece.items ≡ take c.min-count.result (drop c.loop-at.at (bytes_of (d.files (c.args.server, c.args.name.now))))) (c.loop-at.invariant.same_disk told) (c.in_ok-piece.ensures.bytes told) in
      let second =
      subst (λ (d : Disk). c.in_ok-others.others.items ≡ take c.min-count.result (drop c.loop-at.at (bytes_of (d.files (c.args.other, c.args.name.now)))))
      (c.piece_at.ensures.same told ∙ c.loop-at.invariant.same_disk told) (c.in_ok-others.ensures.bytes told) in
      let same : c.in_ok-piece.piece.items ≡ c.in_ok-others.others.items = sym c.deref.ensures.value ∙ c.are_equal.ensures.0 c.if-not-are_equal.false ∙ c.deref-in-loop-at.ensures.value in
      next_same (bytes_of ((g.T.Site.disk c.args.site.now).files (c.args.server, c.args.name.now))) (bytes_of ((g.T.Site.disk c.args.site.now).files (c.args.other, c.args.name.now)))
      c.in_ok-piece.piece.items c.in_ok-others.others.items c.loop-at.at c.min-count.result first second (c.loop-at.invariant.fronts told) same;
}
