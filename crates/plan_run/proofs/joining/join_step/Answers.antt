use Rattle.std.proofs.Common.{◌+◌, ◌-◌, ◌<◌, ◌^◌, ◌++◌, length, take, drop, refl, sym, ◌∙◌, ap, subst, arith}
use Rattle.std.specs.Prelude.{IsTrue, min}
use Rattle.std.proofs.lemmas.List.{length-take, take_at}
use Rattle.std.proofs.lemmas.Result.{err_from_is_err_and}
use Rattle.site_model.specs.Counts.{widest_piece}
use Rattle.site_model.specs.Disk.{Disk}
use Rattle.stripe_layout.specs.Laws.Rows.{row_within}
use Rattle.stripe_layout.specs.Rows.{row_block}
use Rattle.shard_table.specs.Table.{row_of}
use Rattle.plan_steps.specs.declared.plan.FileState.{FileState}
use Rattle.plan_steps.specs.declared.step.Step.TheVariants as step
use Rattle.plan_steps.specs.Progressing.{running}
use Rattle.plan_run.specs.Copying.{GivesShardPart}
use Rattle.plan_run.specs.Finishing.{IsNamedFile, Does, TouchesTemp, Keeps}
use Rattle.plan_run.specs.Writing.{Grown, GrownTold}
use Rattle.plan_run.proofs.AtWork.{get_short, here, temp_short, last_short, is_named}
use Rattle.plan_run.proofs.Copied.{piece_long}
use Rattle.plan_run.proofs.Joined.{coded, enough, is, listed, inside, stands, has_room, goes, only, no_index, right}
use Rattle.plan_run.proofs.Journal.{begun_by}
use Rattle.plan_run.proofs.Looked.{undone, read_few, then_few, then_fails}
use Rattle.plan_run.proofs.Moved.{grow_steps_of}
use Rattle.plan_run.proofs.Striped.{got}
use Rattle.plan_run.proofs.joining.join_step.Goals as goal

pub place_of-place-requires-clause-there : goal.place_of-place-requires-clause-there
place_of-place-requires-clause-there g c = listed (running c.args.plan.now c.args.progress.now) (g.T.Site.servers c.args.site.now) c.args.names.now c.requires.work c.args.row c.args.block c.args.at c.requires.due

pub index-requires : goal.index-requires
index-requires g c = omega (arith, c.args.progress.now.files.ok.0, get_short c.args.progress.now.files.items c.place_of-place.result c.requires.due.file (here (running c.args.plan.now c.args.progress.now) (g.T.Site.servers c.args.site.now) c.args.names.now c.requires.work c.place_of-place.result c.requires.due.at c.requires.due.file (c.place_of-place.ensures c.requires.due.at c.requires.due.file c.requires.due.there (is (running c.args.plan.now c.args.progress.now) (g.T.Site.servers c.args.site.now) c.args.names.now c.requires.work c.args.row c.args.block c.args.at c.requires.due).0 (is (running c.args.plan.now c.args.progress.now) (g.T.Site.servers c.args.site.now) c.args.names.now c.requires.work c.args.row c.args.block c.args.at c.requires.due).1) c.requires.due.there))

pub join_part-start-requires-clause-row : goal.join_part-start-requires-clause-row
join_part-start-requires-clause-row g c = (stands (running c.args.plan.now c.args.progress.now) (g.T.Site.servers c.args.site.now) c.args.names.now c.requires.work c.args.row c.args.block c.args.at c.requires.due).row_there

pub join_part-start-requires-clause-at : goal.join_part-start-requires-clause-at
join_part-start-requires-clause-at g c = (stands (running c.args.plan.now c.args.progress.now) (g.T.Site.servers c.args.site.now) c.args.names.now c.requires.work c.args.row c.args.block c.args.at c.requires.due).within

pub join_part-start-requires-clause-from : goal.join_part-start-requires-clause-from
join_part-start-requires-clause-from g c = omega (arith, (ap (λ (s : FileState). s.length) (got c.args.progress.now.files.items c.place_of-place.result c.requires.due.file c.index.result.now (here (running c.args.plan.now c.args.progress.now) (g.T.Site.servers c.args.site.now) c.args.names.now c.requires.work c.place_of-place.result c.requires.due.at c.requires.due.file (c.place_of-place.ensures c.requires.due.at c.requires.due.file c.requires.due.there (is (running c.args.plan.now c.args.progress.now) (g.T.Site.servers c.args.site.now) c.args.names.now c.requires.work c.args.row c.args.block c.args.at c.requires.due).0 (is (running c.args.plan.now c.args.progress.now) (g.T.Site.servers c.args.site.now) c.args.names.now c.requires.work c.args.row c.args.block c.args.at c.requires.due).1) c.requires.due.there) c.index.ensures)), inside (running c.args.plan.now c.args.progress.now) (g.T.Site.servers c.args.site.now) c.args.names.now c.requires.work c.args.row c.args.block c.args.at c.requires.due)

pub read_part-requires-clause-coded : goal.read_part-requires-clause-coded
read_part-requires-clause-coded g c = λ told. coded (running c.args.plan.now c.args.progress.now) (g.T.Site.servers c.args.site.now) c.args.names.now c.requires.work c.args.row c.args.block c.args.at c.requires.due (g.T.Site.disk c.args.site.now).files

pub read_part-requires-clause-enough : goal.read_part-requires-clause-enough
read_part-requires-clause-enough g c = enough (running c.args.plan.now c.args.progress.now) (g.T.Site.servers c.args.site.now) c.args.names.now c.requires.work c.args.row c.args.block c.args.at c.requires.due c.args.table.now c.requires.table

pub read_part-requires-clause-shard : goal.read_part-requires-clause-shard
read_part-requires-clause-shard g c = omega (arith, (stands (running c.args.plan.now c.args.progress.now) (g.T.Site.servers c.args.site.now) c.args.names.now c.requires.work c.args.row c.args.block c.args.at c.requires.due).shard)

pub read_part-requires-clause-range : goal.read_part-requires-clause-range
read_part-requires-clause-range g c = omega (
  arith,
  length-take c.join_part-start.result.1 c.args.room.now,
  c.join_part-start.ensures.start,
  c.join_part-start.ensures.size,
  (stands (running c.args.plan.now c.args.progress.now) (g.T.Site.servers c.args.site.now) c.args.names.now c.requires.work c.args.row c.args.block c.args.at c.requires.due).within,
  row_within c.args.plan.now.info.geometry c.args.plan.now.info.dat_size c.args.row (stands (running c.args.plan.now c.args.progress.now) (g.T.Site.servers c.args.site.now) c.args.names.now c.requires.work c.args.row c.args.block c.args.at c.requires.due).row_there,
)

pub returns-in_err-read_part-clause-steps : goal.returns-in_err-read_part-clause-steps
returns-in_err-read_part-clause-steps g c =
    let p = err_from_is_err_and c.from_residual.result c.from_residual.ensures.1 in
    rw (p.1, p.2) (undone (running c.args.plan.now c.args.progress.now) c.requires.work.below (g.T.Site.disk c.args.site.now) (IsTrue g.T.Site.tells) (step.JoinPiece c.args.row c.args.block c.args.at) (g.T.Site.disk c.read_part.new.site)
    c.in_err-read_part.ensures.reads.same _)

pub returns-in_err-read_part-clause-few : goal.returns-in_err-read_part-clause-few
returns-in_err-read_part-clause-few g c =
    let p = err_from_is_err_and c.from_residual.result c.from_residual.ensures.1 in
    rw (p.1, p.2) (read_few _ c.in_err-read_part.ensures.reads)

pub temp-requires : goal.temp-requires
temp-requires g c = temp_short (running c.args.plan.now c.args.progress.now) (g.T.Site.servers c.args.site.now) c.args.names.now c.requires.work c.place_of-place.result c.requires.due.at c.requires.due.file (c.place_of-place.ensures c.requires.due.at c.requires.due.file c.requires.due.there (is (running c.args.plan.now c.args.progress.now) (g.T.Site.servers c.args.site.now) c.args.names.now c.requires.work c.args.row c.args.block c.args.at c.requires.due).0 (is (running c.args.plan.now c.args.progress.now) (g.T.Site.servers c.args.site.now) c.args.names.now c.requires.work c.args.row c.args.block c.args.at c.requires.due).1) c.requires.due.there

pub last-requires : goal.last-requires
last-requires g c = last_short (running c.args.plan.now c.args.progress.now) (g.T.Site.servers c.args.site.now) c.args.names.now c.requires.work c.place_of-place.result c.requires.due.at c.requires.due.file (c.place_of-place.ensures c.requires.due.at c.requires.due.file c.requires.due.there (is (running c.args.plan.now c.args.progress.now) (g.T.Site.servers c.args.site.now) c.args.names.now c.requires.work c.args.row c.args.block c.args.at c.requires.due).0 (is (running c.args.plan.now c.args.progress.now) (g.T.Site.servers c.args.site.now) c.args.names.now c.requires.work c.args.row c.args.block c.args.at c.requires.due).1) c.requires.due.there

pub grow_file-requires-clause-file : goal.grow_file-requires-clause-file
grow_file-requires-clause-file g c =
    subst (λ n. IsNamedFile c.args.plan.now.volume n c.args.progress.now.files.items c.place_of-place.result c.temp.result.now c.last.result.now) (sym c.in_ok-read_part.ensures.reads.runs.servers)
    (is_named (running c.args.plan.now c.args.progress.now) (g.T.Site.servers c.args.site.now) c.args.names.now c.requires.work c.place_of-place.result c.requires.due.at c.requires.due.file (c.place_of-place.ensures c.requires.due.at c.requires.due.file c.requires.due.there (is (running c.args.plan.now c.args.progress.now) (g.T.Site.servers c.args.site.now) c.args.names.now c.requires.work c.args.row c.args.block c.args.at c.requires.due).0 (is (running c.args.plan.now c.args.progress.now) (g.T.Site.servers c.args.site.now) c.args.names.now c.requires.work c.args.row c.args.block c.args.at c.requires.due).1) c.requires.due.there c.temp.result.now c.last.result.now c.temp.ensures c.last.ensures)

pub grow_file-requires-clause-room : goal.grow_file-requires-clause-room
grow_file-requires-clause-room g c = λ s at. subst (λ n. s.length + n < 2 ^ 64) (sym (ap length (take_at c.read_part.new.out (drop c.join_part-start.result.1 c.args.room.now) c.join_part-start.result.1 (piece_long c.join_part-start.result.1 c.args.room.now c.read_part.new.out (omega (arith, c.join_part-start.ensures.size, c.requires.room)) c.read_part.ensures.size)) ∙ (piece_long c.join_part-start.result.1 c.args.room.now c.read_part.new.out (omega (arith, c.join_part-start.ensures.size, c.requires.room)) c.read_part.ensures.size)))
    (has_room (running c.args.plan.now c.args.progress.now) (g.T.Site.servers c.args.site.now) c.args.names.now c.requires.work c.args.row c.args.block c.args.at c.requires.due c.place_of-place.result c.join_part-start.result.1 (c.place_of-place.ensures c.requires.due.at c.requires.due.file c.requires.due.there (is (running c.args.plan.now c.args.progress.now) (g.T.Site.servers c.args.site.now) c.args.names.now c.requires.work c.args.row c.args.block c.args.at c.requires.due).0 (is (running c.args.plan.now c.args.progress.now) (g.T.Site.servers c.args.site.now) c.args.names.now c.requires.work c.args.row c.args.block c.args.at c.requires.due).1) (omega (arith, c.join_part-start.ensures.size)) s at)

pub returns-clause-steps : goal.returns-clause-steps
returns-clause-steps g c =
    grow_steps_of (IsTrue g.T.Site.tells) c.args.plan.now c.requires.work.below c.args.progress.now c.grow_file.new.progress c.requires.work.on_its_way.1.apart c.place_of-place.result c.requires.due.file
    (here (running c.args.plan.now c.args.progress.now) (g.T.Site.servers c.args.site.now) c.args.names.now c.requires.work c.place_of-place.result c.requires.due.at c.requires.due.file (c.place_of-place.ensures c.requires.due.at c.requires.due.file c.requires.due.there (is (running c.args.plan.now c.args.progress.now) (g.T.Site.servers c.args.site.now) c.args.names.now c.requires.work c.args.row c.args.block c.args.at c.requires.due).0 (is (running c.args.plan.now c.args.progress.now) (g.T.Site.servers c.args.site.now) c.args.names.now c.requires.work c.args.row c.args.block c.args.at c.requires.due).1) c.requires.due.there) (g.T.Site.disk c.args.site.now) (g.T.Site.disk c.grow_file.new.site) (step.JoinPiece c.args.row c.args.block c.args.at) 0 c.read_part.new.out
    (begun_by c.requires.due.file.stage c.requires.due.behind) (sym ((piece_long c.join_part-start.result.1 c.args.room.now c.read_part.new.out (omega (arith, c.join_part-start.ensures.size, c.requires.room)) c.read_part.ensures.size) ∙ c.join_part-start.ensures.size ∙ (λ k. min (min widest_piece (row_block c.args.plan.now.info.geometry c.args.plan.now.info.dat_size c.args.row - c.args.at)) (c.args.plan.now.info.dat_size - (ap (λ (s : FileState). s.length) (got c.args.progress.now.files.items c.place_of-place.result c.requires.due.file c.index.result.now (here (running c.args.plan.now c.args.progress.now) (g.T.Site.servers c.args.site.now) c.args.names.now c.requires.work c.place_of-place.result c.requires.due.at c.requires.due.file (c.place_of-place.ensures c.requires.due.at c.requires.due.file c.requires.due.there (is (running c.args.plan.now c.args.progress.now) (g.T.Site.servers c.args.site.now) c.args.names.now c.requires.work c.args.row c.args.block c.args.at c.requires.due).0 (is (running c.args.plan.now c.args.progress.now) (g.T.Site.servers c.args.site.now) c.args.names.now c.requires.work c.args.row c.args.block c.args.at c.requires.due).1) c.requires.due.there) c.index.ensures)) k)))) (goes (running c.args.plan.now c.args.progress.now) (g.T.Site.servers c.args.site.now) c.args.names.now c.requires.work c.args.row c.args.block c.args.at c.requires.due)
    (only (running c.args.plan.now c.args.progress.now) (g.T.Site.servers c.args.site.now) c.args.names.now c.requires.work c.args.row c.args.block c.args.at c.requires.due c.place_of-place.result (c.place_of-place.ensures c.requires.due.at c.requires.due.file c.requires.due.there (is (running c.args.plan.now c.args.progress.now) (g.T.Site.servers c.args.site.now) c.args.names.now c.requires.work c.args.row c.args.block c.args.at c.requires.due).0 (is (running c.args.plan.now c.args.progress.now) (g.T.Site.servers c.args.site.now) c.args.names.now c.requires.work c.args.row c.args.block c.args.at c.requires.due).1))
    (λ told. right (running c.args.plan.now c.args.progress.now) (g.T.Site.servers c.args.site.now) c.args.names.now c.requires.work c.args.row c.args.block c.args.at c.requires.due (g.T.Site.disk c.args.site.now).files c.read_part.new.out
    (subst (λ at. GivesShardPart (running c.args.plan.now c.args.progress.now) (g.T.Site.disk c.args.site.now).files c.args.block at c.read_part.new.out) c.join_part-start.ensures.start (c.in_ok-read_part.ensures.part told))
    (omega (arith, (piece_long c.join_part-start.result.1 c.args.room.now c.read_part.new.out (omega (arith, c.join_part-start.ensures.size, c.requires.room)) c.read_part.ensures.size), c.join_part-start.ensures.size, (stands (running c.args.plan.now c.args.progress.now) (g.T.Site.servers c.args.site.now) c.args.names.now c.requires.work c.args.row c.args.block c.args.at c.requires.due).within)) (omega (arith, (piece_long c.join_part-start.result.1 c.args.room.now c.read_part.new.out (omega (arith, c.join_part-start.ensures.size, c.requires.room)) c.read_part.ensures.size), c.join_part-start.ensures.size, (ap (λ (s : FileState). s.length) (got c.args.progress.now.files.items c.place_of-place.result c.requires.due.file c.index.result.now (here (running c.args.plan.now c.args.progress.now) (g.T.Site.servers c.args.site.now) c.args.names.now c.requires.work c.place_of-place.result c.requires.due.at c.requires.due.file (c.place_of-place.ensures c.requires.due.at c.requires.due.file c.requires.due.there (is (running c.args.plan.now c.args.progress.now) (g.T.Site.servers c.args.site.now) c.args.names.now c.requires.work c.args.row c.args.block c.args.at c.requires.due).0 (is (running c.args.plan.now c.args.progress.now) (g.T.Site.servers c.args.site.now) c.args.names.now c.requires.work c.args.row c.args.block c.args.at c.requires.due).1) c.requires.due.there) c.index.ensures)), inside (running c.args.plan.now c.args.progress.now) (g.T.Site.servers c.args.site.now) c.args.names.now c.requires.work c.args.row c.args.block c.args.at c.requires.due)))
    (no_index (running c.args.plan.now c.args.progress.now) (g.T.Site.servers c.args.site.now) c.args.names.now c.requires.work c.args.row c.args.block c.args.at c.requires.due) (λ u. refl) (λ n e. e)
    (take c.join_part-start.result.1 (c.read_part.new.out ++ drop c.join_part-start.result.1 c.args.room.now)) (take_at c.read_part.new.out (drop c.join_part-start.result.1 c.args.room.now) c.join_part-start.result.1 (piece_long c.join_part-start.result.1 c.args.room.now c.read_part.new.out (omega (arith, c.join_part-start.ensures.size, c.requires.room)) c.read_part.ensures.size)) c.grow_file.result
    (λ told. subst (λ (d : Disk). Does (TouchesTemp (running c.args.plan.now c.args.progress.now) c.place_of-place.result d (g.T.Site.disk c.grow_file.new.site)) (Keeps (running c.args.plan.now c.args.progress.now) c.place_of-place.result d (g.T.Site.disk c.grow_file.new.site)) (Grown (running c.args.plan.now c.args.progress.now) c.place_of-place.result (take c.join_part-start.result.1 (c.read_part.new.out ++ drop c.join_part-start.result.1 c.args.room.now)) d (g.T.Site.disk c.grow_file.new.site) (running c.args.plan.now c.grow_file.new.progress)) (GrownTold (running c.args.plan.now c.args.progress.now) c.place_of-place.result d (g.T.Site.disk c.grow_file.new.site) (running c.args.plan.now c.grow_file.new.progress)) c.grow_file.result)
    (c.in_ok-read_part.ensures.reads.same told) (c.grow_file.ensures.effect told)) c.grow_file.ensures.state

pub returns-clause-few : goal.returns-clause-few
returns-clause-few g c = then_few c.grow_file.result c.in_ok-read_part.ensures.reads (c.grow_file.ensures.runs c.requires.due.file (here (running c.args.plan.now c.args.progress.now) (g.T.Site.servers c.args.site.now) c.args.names.now c.requires.work c.place_of-place.result c.requires.due.at c.requires.due.file (c.place_of-place.ensures c.requires.due.at c.requires.due.file c.requires.due.there (is (running c.args.plan.now c.args.progress.now) (g.T.Site.servers c.args.site.now) c.args.names.now c.requires.work c.args.row c.args.block c.args.at c.requires.due).0 (is (running c.args.plan.now c.args.progress.now) (g.T.Site.servers c.args.site.now) c.args.names.now c.requires.work c.args.row c.args.block c.args.at c.requires.due).1) c.requires.due.there))
    (omega (arith, ap length (take_at c.read_part.new.out (drop c.join_part-start.result.1 c.args.room.now) c.join_part-start.result.1 (piece_long c.join_part-start.result.1 c.args.room.now c.read_part.new.out (omega (arith, c.join_part-start.ensures.size, c.requires.room)) c.read_part.ensures.size)), (piece_long c.join_part-start.result.1 c.args.room.now c.read_part.new.out (omega (arith, c.join_part-start.ensures.size, c.requires.room)) c.read_part.ensures.size), c.join_part-start.ensures.size))

pub returns-clause-fails : goal.returns-clause-fails
returns-clause-fails g c =
    then_fails c.args.plan.now.info (row_of c.args.table.now c.args.plan.now.volume) c.grow_file.result c.in_ok-read_part.ensures.reads (c.grow_file.ensures.runs c.requires.due.file (here (running c.args.plan.now c.args.progress.now) (g.T.Site.servers c.args.site.now) c.args.names.now c.requires.work c.place_of-place.result c.requires.due.at c.requires.due.file (c.place_of-place.ensures c.requires.due.at c.requires.due.file c.requires.due.there (is (running c.args.plan.now c.args.progress.now) (g.T.Site.servers c.args.site.now) c.args.names.now c.requires.work c.args.row c.args.block c.args.at c.requires.due).0 (is (running c.args.plan.now c.args.progress.now) (g.T.Site.servers c.args.site.now) c.args.names.now c.requires.work c.args.row c.args.block c.args.at c.requires.due).1) c.requires.due.there))
