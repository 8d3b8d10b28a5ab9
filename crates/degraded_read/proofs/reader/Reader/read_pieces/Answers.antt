use Rattle.std.proofs.Common.{◌≡◌, ◌+◌, ◌*◌, [], ◌∷◌, Err, None, length, sym, ◌∙◌, ap, subst, arith}
use Rattle.std.specs.List.{AllByRecursion, sum_by}
use Rattle.std.proofs.lemmas.List.Sums.{sum_by-cons}
use Rattle.std.proofs.lemmas.Result.{err_from_is_err_and}
use Rattle.site_model.specs.Counts.{TakesCalls}
use Rattle.stripe_layout.specs.declared.Piece.{Piece}
use Rattle.stripe_layout.specs.Pieces.{IsPiece}
use Rattle.shard_table.specs.Table.{row_of}
use Rattle.degraded_read.specs.Reading.{shards_standing}
use Rattle.degraded_read.specs.Ranges.{parts_in}
use Rattle.degraded_read.specs.Reads.{FailsBy}
use Rattle.degraded_read.proofs.Blaming.{fails_on, few_since, none_told, reads_told, stays_on}
use Rattle.degraded_read.proofs.Calling.{reads_on}
use Rattle.degraded_read.proofs.Joining.{HasJoined, HasTaken, all_joined, piece_joins, piece_taken, taken_within, placed_still, filled_still}
use Rattle.degraded_read.proofs.reader.Reader.read_pieces.Goals as goal

pub read_piece-requires-clause-placed : goal.read_piece-requires-clause-placed
read_piece-requires-clause-placed g c = λ told.
    placed_still (g.T.Site.disk c.args.site.now) (g.T.Site.disk c.loop-piece.site) c.args.self.now.volume c.loop-piece.self.volume c.args.info.now c.args.table.now
    (c.loop-piece.invariant.reads.same told) c.loop-piece.invariant.volume (c.requires.placed told)

pub returns-in_err-read_piece-clause-few : goal.returns-in_err-read_piece-clause-few
returns-in_err-read_piece-clause-few g c =
    let inv = c.loop-piece.invariant in
    let p = err_from_is_err_and c.from_residual.result c.from_residual.ensures.1 in
    let same : c.from_residual.result ≡ c.read_piece.result = p.1 ∙ ap Err p.2 ∙ sym c.in_err-read_piece.was in
    let fails : FailsBy c.args.info.now.geometry.ratio (row_of c.args.table.now c.args.self.now.volume) c.from_residual.result None c.read_piece.new.failed (g.T.Site.counts c.args.site.now) (g.T.Site.counts c.read_piece.new.site) =
    subst (λ result. FailsBy c.args.info.now.geometry.ratio (row_of c.args.table.now c.args.self.now.volume) result None c.read_piece.new.failed (g.T.Site.counts c.args.site.now) (g.T.Site.counts c.read_piece.new.site)) (sym same)
    (fails_on inv.reads.runs.later inv.blamed
    (subst (λ v. FailsBy c.args.info.now.geometry.ratio (row_of c.args.table.now v) c.read_piece.result c.loop-piece.failed c.read_piece.new.failed (g.T.Site.counts c.loop-piece.site) (g.T.Site.counts c.read_piece.new.site)) inv.volume c.read_piece.ensures.fails)) in
    few_since fails

pub returns-in_err-read_piece-clause-reads : goal.returns-in_err-read_piece-clause-reads
returns-in_err-read_piece-clause-reads g c =
    let inv = c.loop-piece.invariant in
    let p = err_from_is_err_and c.from_residual.result c.from_residual.ensures.1 in
    let same : c.from_residual.result ≡ c.read_piece.result = p.1 ∙ ap Err p.2 ∙ sym c.in_err-read_piece.was in
    let fails : FailsBy c.args.info.now.geometry.ratio (row_of c.args.table.now c.args.self.now.volume) c.from_residual.result None c.read_piece.new.failed (g.T.Site.counts c.args.site.now) (g.T.Site.counts c.read_piece.new.site) =
    subst (λ result. FailsBy c.args.info.now.geometry.ratio (row_of c.args.table.now c.args.self.now.volume) result None c.read_piece.new.failed (g.T.Site.counts c.args.site.now) (g.T.Site.counts c.read_piece.new.site)) (sym same)
    (fails_on inv.reads.runs.later inv.blamed
    (subst (λ v. FailsBy c.args.info.now.geometry.ratio (row_of c.args.table.now v) c.read_piece.result c.loop-piece.failed c.read_piece.new.failed (g.T.Site.counts c.loop-piece.site) (g.T.Site.counts c.read_piece.new.site)) inv.volume c.read_piece.ensures.fails)) in
    let step : c.loop-piece.piece-iterator ≡ c.in-Some.piece ∷ c.next.new.self = c.in-Some.ensures.steps in
    let standing = shards_standing c.args.info.now (row_of c.args.table.now c.args.self.now.volume) in
    reads_told fails
    (reads_on (λ before did. taken_within standing c.args.pieces c.next.new.self
    (piece_taken standing c.args.pieces c.in-Some.piece c.next.new.self
    (subst (λ ps. HasTaken standing c.args.pieces ps (g.T.Site.counts c.args.site.now) (g.T.Site.counts c.loop-piece.site)) step before)
    (subst (λ v. TakesCalls (parts_in c.in-Some.piece.length * shards_standing c.args.info.now (row_of c.args.table.now v)) 65536 (g.T.Site.counts c.loop-piece.site) (g.T.Site.counts c.read_piece.new.site)) inv.volume did)))
    inv.reads c.read_piece.ensures.reads)

pub loop-piece-preserved : goal.loop-piece-preserved
loop-piece-preserved g c =
    let inv = c.loop-piece.invariant in
    let did = c.read_piece.ensures in
    let row = row_of c.args.table.now c.args.self.now.volume in
    let step : c.loop-piece.piece-iterator ≡ c.in-Some.piece ∷ c.next.new.self = c.in-Some.ensures.steps in
    let each : AllByRecursion (IsPiece c.args.info.now.geometry c.args.info.now.dat_size) (c.in-Some.piece ∷ c.next.new.self) = subst (AllByRecursion (IsPiece c.args.info.now.geometry c.args.info.now.dat_size)) step inv.each in
    let total : c.loop-piece.done + sum_by (λ (p : Piece). p.length) (c.in-Some.piece ∷ c.next.new.self) ≡ length c.args.out.now =
    subst (λ ps. c.loop-piece.done + sum_by (λ (p : Piece). p.length) ps ≡ length c.args.out.now) step inv.total in
    let sum = sum_by-cons (λ (p : Piece). p.length) c.in-Some.piece c.next.new.self in
    let standing = shards_standing c.args.info.now row in
    record {
      each = each.1;
      total = omega (arith, total, sum);
      volume = did.reader.volume ∙ inv.volume;
      widest = did.reader.widest ∙ inv.widest;
      blamed = stays_on inv.reads.runs.later inv.blamed did.fails.stays;
      reads = reads_on (λ before more. piece_taken standing c.args.pieces c.in-Some.piece c.next.new.self
          (subst (λ ps. HasTaken standing c.args.pieces ps (g.T.Site.counts c.args.site.now) (g.T.Site.counts c.loop-piece.site)) step before)
          (subst (λ v. TakesCalls (parts_in c.in-Some.piece.length * shards_standing c.args.info.now (row_of c.args.table.now v)) 65536 (g.T.Site.counts c.loop-piece.site) (g.T.Site.counts c.read_piece.new.site)) inv.volume more))
          inv.reads did.reads;
      joined = λ told.
          piece_joins (g.T.Site.disk c.args.site.now).files c.args.self.now.volume c.args.info.now row c.args.pieces c.loop-piece.done c.in-Some.piece c.next.new.self c.loop-piece.out c.read_piece.new.out
          did.fails.stays.kept each.0 c.read_piece.auto.out (omega (arith, total, sum, c.loop-piece.auto.out)) did.before
          (filled_still (g.T.Site.disk c.args.site.now) (g.T.Site.disk c.loop-piece.site) c.args.self.now.volume c.loop-piece.self.volume c.args.info.now c.args.table.now (c.read_piece.new.failed ≡ None) c.in-Some.piece c.loop-piece.done c.read_piece.new.out
          (inv.reads.same told) inv.volume (c.in_ok-read_piece.ensures.piece told))
          (subst (λ ps. HasJoined (g.T.Site.disk c.args.site.now).files c.args.self.now.volume c.args.info.now row (c.loop-piece.failed ≡ None) c.args.pieces c.loop-piece.done ps c.loop-piece.out) step (inv.joined told));
    }

pub returns-clause-pieces : goal.returns-clause-pieces
returns-clause-pieces g c = λ told.
    let inv = c.loop-piece.invariant in
    let files = (g.T.Site.disk c.args.site.now).files in
    let row = row_of c.args.table.now c.args.self.now.volume in
    let none : c.loop-piece.piece-iterator ≡ [] = c.in-None.ensures.steps.0 in
    let total : c.loop-piece.done + sum_by (λ (p : Piece). p.length) [] ≡ length c.args.out.now = subst (λ ps. c.loop-piece.done + sum_by (λ (p : Piece). p.length) ps ≡ length c.args.out.now) none inv.total in
    all_joined files c.args.self.now.volume c.args.info.now row c.args.pieces c.loop-piece.done c.loop-piece.out (none_told inv.blamed) (omega (arith, total, c.loop-piece.auto.out))
    (subst (λ ps. HasJoined files c.args.self.now.volume c.args.info.now row (c.loop-piece.failed ≡ None) c.args.pieces c.loop-piece.done ps c.loop-piece.out) none (inv.joined told))
