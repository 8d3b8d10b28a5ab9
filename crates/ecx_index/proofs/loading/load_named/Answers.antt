use Rattle.std.proofs.Common.{◌≡◌, ℕ, List, Err, length, take, drop, refl, sym, ◌∙◌, ap, arith}
use Rattle.std.proofs.lemmas.Result.{err_from_is_err_and}
use Rattle.site_model.specs.Disk.{Disk, bytes_of}
use Rattle.site_model.specs.Laws.Count.{calls_on, calls_failed}
use Rattle.site_model.specs.declared.error.OpenFault.TheVariants.{Unsound}
use Rattle.ecx_index.proofs.Taken.{reached_none, reached_more, piece_refused, whole_piece, length_is, same_fault}
use Rattle.ecx_index.proofs.loading.load_named.Goals as goal

pub loop-at-init : goal.loop-at-init
loop-at-init g c = record {
  within = omega arith;
  whole = refl;
  room = c.requires.room;
  volume = c.new-loading.ensures.volume;
  runs = calls_failed (λ none. absurd none) c.length_of_index.ensures.runs;
  same = c.length_of_index.ensures.same;
  reached = λ told. reached_none (bytes_of ((g.T.Site.disk c.args.site.now).files (c.args.server, c.args.name.now))) c.new-loading.result c.new-loading.ensures.none;
}

pub returns-in_err-take_all-clause-unsound : goal.returns-in_err-take_all-clause-unsound
returns-in_err-take_all-clause-unsound g c =
    let p = err_from_is_err_and c.from_residual-in_err-take_all.result c.from_residual-in_err-take_all.ensures.1 in
    let piece = whole_piece (length c.loop-at.room) c.in_ok-end.end c.loop-at.at c.in_ok-count.count c.loop-at.invariant.room c.in_ok-end.ensures.whole c.loop-at.invariant.whole c.loop-at.invariant.within c.in_ok-count.ensures.count in
    rw (p.1, p.2) (λ is told.
    let file = (g.T.Site.disk c.args.site.now).files (c.args.server, c.args.name.now) in
    let long : length (bytes_of ((g.T.Site.disk c.args.site.now).files (c.args.server, c.args.name.now))) ≡ c.in_ok-end.end = length_is _ _ (c.in_ok-end.ensures.size told) in
    piece_refused file (take c.in_ok-count.count c.read_piece.new.room) c.loop-at.at c.in_ok-count.count c.loop-at.loading
    c.loop-at.invariant.whole piece.0 (omega (arith, long, piece.1))
    (c.in_ok-count.ensures.bytes told ∙ ap (λ (d : Disk). take c.in_ok-count.count (drop c.loop-at.at (bytes_of (d.files (c.args.server, c.args.name.now))))) (c.loop-at.invariant.same told))
    (c.loop-at.invariant.reached told)
    (c.in_err-take_all.ensures.refused (ap Err (same_fault c.in_err-take_all.field-0.0 (Unsound c.args.volume 5) is ∙ ap (λ (v : ℕ). Unsound v 5) (sym c.loop-at.invariant.volume)))))

pub loop-at-preserved : goal.loop-at-preserved
loop-at-preserved g c =
    let piece = whole_piece (length c.loop-at.room) c.in_ok-end.end c.loop-at.at c.in_ok-count.count c.loop-at.invariant.room c.in_ok-end.ensures.whole c.loop-at.invariant.whole c.loop-at.invariant.within c.in_ok-count.ensures.count in
    record {
      within = piece.1;
      whole = piece.2;
      room = c.read_piece.ensures.room ∙ c.loop-at.invariant.room;
      volume = c.take_all.ensures.volume ∙ c.loop-at.invariant.volume;
      runs = calls_failed (λ none. absurd none) (calls_on c.loop-at.invariant.runs c.read_piece.ensures.runs);
      same = λ told. c.read_piece.ensures.same told ∙ c.loop-at.invariant.same told;
      reached = λ told.
          let bytes : List ℕ = bytes_of ((g.T.Site.disk c.args.site.now).files (c.args.server, c.args.name.now)) in
          let long : length (bytes_of ((g.T.Site.disk c.args.site.now).files (c.args.server, c.args.name.now))) ≡ c.in_ok-end.end = length_is _ _ (c.in_ok-end.ensures.size told) in
          reached_more bytes (take c.in_ok-count.count c.read_piece.new.room) c.loop-at.at c.in_ok-count.count c.loop-at.loading c.take_all.new.self
          c.loop-at.invariant.whole (omega (arith, long, c.loop-at.invariant.within))
          (c.in_ok-count.ensures.bytes told ∙ ap (λ (d : Disk). take c.in_ok-count.count (drop c.loop-at.at (bytes_of (d.files (c.args.server, c.args.name.now))))) (c.loop-at.invariant.same told))
          (c.loop-at.invariant.reached told) c.in_ok-take_all.ensures.taken;
    }
