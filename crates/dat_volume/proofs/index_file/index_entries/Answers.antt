use Rattle.std.proofs.Common.{refl, ◌∙◌, ◌%◌, ◌≤◌, ℕ, length, take, drop, ap, arith}
use Rattle.site_model.specs.Disk.{Disk, bytes_of}
use Rattle.site_model.specs.Laws.Count.{calls_none, calls_failed, calls_on}
use Rattle.dat_volume.proofs.Indexed.{index_none, index_more}
use Rattle.dat_volume.proofs.Scanned.{whole_piece}
use Rattle.dat_volume.proofs.index_file.index_entries.Goals as goal

pub loop-at-init : goal.loop-at-init
loop-at-init g c = record {
  within = omega arith;
  whole = omega arith;
  room = refl;
  runs = calls_failed (λ fails. absurd cc) (calls_none c.args.site.now);
  same = λ told. refl;
  indexed = λ told. c.new-index.ensures ∙ index_none (bytes_of ((g.T.Site.disk c.args.site.now).files (c.args.server, c.args.name.now)));
}

pub loop-at-preserved : goal.loop-at-preserved
loop-at-preserved g c =
    let piece = whole_piece (length c.loop-at.buffer) c.args.end c.loop-at.at c.in_ok-count.count
    (ap (λ (n : ℕ). n % 16) c.loop-at.invariant.room ∙ c.requires.room.1) c.requires.whole c.loop-at.invariant.whole c.loop-at.invariant.within c.in_ok-count.ensures.count in
    record {
      within = piece.1;
      whole = piece.2;
      room = c.read_piece.ensures.room ∙ c.loop-at.invariant.room;
      runs = calls_on c.loop-at.invariant.runs c.in_ok-count.ensures.runs;
      same = λ told. c.read_piece.ensures.same told ∙ c.loop-at.invariant.same told;
      indexed = λ told.
          let long : c.loop-at.at ≤ length (bytes_of ((g.T.Site.disk c.args.site.now).files (c.args.server, c.args.name.now))) = omega (arith, c.requires.within told, c.loop-at.invariant.within) in
          index_more (bytes_of ((g.T.Site.disk c.args.site.now).files (c.args.server, c.args.name.now))) c.loop-at.at c.in_ok-count.count c.loop-at.index c.index_piece.new.index (take c.in_ok-count.count c.read_piece.new.buffer)
          c.loop-at.invariant.whole long
          (c.in_ok-count.ensures.bytes told ∙ ap (λ (d : Disk). take c.in_ok-count.count (drop c.loop-at.at (bytes_of (d.files (c.args.server, c.args.name.now))))) (c.loop-at.invariant.same told))
          (c.loop-at.invariant.indexed told) c.in_ok-index_piece.ensures;
    }
