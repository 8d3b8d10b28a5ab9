use Rattle.std.proofs.Common.{refl, ◌∙◌, ◌%◌, ◌≤◌, ℕ, length, take, drop, ap, arith}
use Rattle.site_model.specs.Disk.{Disk, bytes_of}
use Rattle.site_model.specs.Laws.Count.{calls_none, calls_failed, calls_on}
use Rattle.dat_volume.specs.declared.chain.Chain.{Chain}
use Rattle.dat_volume.proofs.Scanned.{scan_none, scan_more, scan_count, whole_piece}
use Rattle.dat_volume.proofs.index_file.scan.Goals as goal

pub loop-at-init : goal.loop-at-init
loop-at-init g c = record {
  within = omega arith;
  whole = omega arith;
  count = omega (arith, ap (λ (ch : Chain). ch.count) c.new-chain.ensures);
  room = refl;
  runs = calls_failed (λ fails. absurd cc) (calls_none c.args.site.now);
  same = λ told. refl;
  scanned = λ told. c.new-chain.ensures ∙ scan_none (bytes_of ((g.T.Site.disk c.args.site.now).files (c.args.server, c.args.name.now)));
}

pub loop-at-preserved : goal.loop-at-preserved
loop-at-preserved g c =
    let piece = whole_piece (length c.loop-at.buffer) c.args.end c.loop-at.at c.in_ok-count.count
    (ap (λ (n : ℕ). n % 16) c.loop-at.invariant.room ∙ c.requires.room.1) c.requires.whole c.loop-at.invariant.whole c.loop-at.invariant.within c.in_ok-count.ensures.count in
    record {
      within = piece.1;
      whole = piece.2;
      count = omega (arith, scan_count c.loop-at.chain c.scan_piece-chain.result c.read_piece.new.buffer c.in_ok-count.count c.scan_piece-chain.ensures (omega (arith, piece.3, c.read_piece.ensures.room)) piece.0, c.loop-at.invariant.count);
      room = c.read_piece.ensures.room ∙ c.loop-at.invariant.room;
      runs = calls_on c.loop-at.invariant.runs c.in_ok-count.ensures.runs;
      same = λ told. c.read_piece.ensures.same told ∙ c.loop-at.invariant.same told;
      scanned = λ told.
          let long : c.loop-at.at ≤ length (bytes_of ((g.T.Site.disk c.args.site.now).files (c.args.server, c.args.name.now))) = omega (arith, c.requires.within told, c.loop-at.invariant.within) in
          scan_more (bytes_of ((g.T.Site.disk c.args.site.now).files (c.args.server, c.args.name.now))) c.loop-at.at c.in_ok-count.count c.loop-at.chain c.scan_piece-chain.result (take c.in_ok-count.count c.read_piece.new.buffer)
          c.loop-at.invariant.whole long
          (c.in_ok-count.ensures.bytes told ∙ ap (λ (d : Disk). take c.in_ok-count.count (drop c.loop-at.at (bytes_of (d.files (c.args.server, c.args.name.now))))) (c.loop-at.invariant.same told))
          (c.loop-at.invariant.scanned told) c.scan_piece-chain.ensures;
    }
