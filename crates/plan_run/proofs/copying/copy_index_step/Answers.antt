use Rattle.std.proofs.Common.{◌+◌, ◌<◌, ◌^◌, ◌++◌, length, take, drop, refl, sym, ◌∙◌, ap, subst, arith}
use Rattle.std.specs.Prelude.{IsTrue}
use Rattle.std.proofs.lemmas.List.{length-take, take_at}
use Rattle.std.proofs.lemmas.Result.{err_from_is_err_and}
use Rattle.site_model.specs.Disk.{Disk}
use Rattle.file_names.specs.declared.Kind.TheVariants.{Ecx}
use Rattle.plan_steps.specs.declared.step.Step.TheVariants as step
use Rattle.plan_steps.specs.Progressing.{running}
use Rattle.plan_run.specs.Finishing.{IsNamedFile, Does, TouchesTemp, Keeps}
use Rattle.plan_run.specs.Writing.{Grown, GrownTold}
use Rattle.plan_run.proofs.AtWork.{here, temp_short, last_short, is_named}
use Rattle.plan_run.proofs.Copied.{is, listed, piece_long, has_room, goes, only, no_index}
use Rattle.plan_run.proofs.Index.{source_there, index_short, piece_is, within, right_index}
use Rattle.plan_run.proofs.Journal.{begun_by}
use Rattle.plan_run.proofs.Looked.{undone, reads_within, read_few, then_few}
use Rattle.plan_run.proofs.Moved.{grow_steps_of}
use Rattle.plan_run.proofs.copying.copy_index_step.Goals as goal

pub place_of-place-requires-clause-there : goal.place_of-place-requires-clause-there
place_of-place-requires-clause-there g c = listed (running c.args.plan.now c.args.progress.now) (g.T.Site.servers c.args.site.now) c.args.names.now c.requires.work c.args.from c.args.to Ecx c.args.at c.requires.due

pub last-name-requires : goal.last-name-requires
last-name-requires g c = last_short (running c.args.plan.now c.args.progress.now) (g.T.Site.servers c.args.site.now) c.args.names.now c.requires.work c.place_of-place.result c.requires.due.0.at c.requires.due.0.file
    (c.place_of-place.ensures c.requires.due.0.at c.requires.due.0.file c.requires.due.0.there (is (running c.args.plan.now c.args.progress.now) (g.T.Site.servers c.args.site.now) c.args.names.now c.requires.work c.args.from c.args.to Ecx c.args.at c.requires.due).0 (is (running c.args.plan.now c.args.progress.now) (g.T.Site.servers c.args.site.now) c.args.names.now c.requires.work c.args.from c.args.to Ecx c.args.at c.requires.due).1) c.requires.due.0.there

pub index_piece-size-requires-clause-count : goal.index_piece-size-requires-clause-count
index_piece-size-requires-clause-count g c = c.requires.work.of_plan.count

pub index_piece-size-requires-clause-at : goal.index_piece-size-requires-clause-at
index_piece-size-requires-clause-at g c = index_short (running c.args.plan.now c.args.progress.now) (g.T.Site.servers c.args.site.now) c.args.names.now c.requires.work c.args.from c.args.to c.args.at c.requires.due c.requires.next

pub read_file-requires-clause-server : goal.read_file-requires-clause-server
read_file-requires-clause-server g c = source_there (running c.args.plan.now c.args.progress.now) (g.T.Site.servers c.args.site.now) c.args.names.now c.requires.work c.args.from c.args.to c.args.at c.requires.due c.requires.next

pub read_file-requires-clause-within : goal.read_file-requires-clause-within
read_file-requires-clause-within g c = λ told. within (running c.args.plan.now c.args.progress.now) (g.T.Site.servers c.args.site.now) c.args.names.now c.requires.work c.args.from c.args.to c.args.at c.requires.due c.requires.next c.place_of-place.result (c.place_of-place.ensures c.requires.due.0.at c.requires.due.0.file c.requires.due.0.there (is (running c.args.plan.now c.args.progress.now) (g.T.Site.servers c.args.site.now) c.args.names.now c.requires.work c.args.from c.args.to Ecx c.args.at c.requires.due).0 (is (running c.args.plan.now c.args.progress.now) (g.T.Site.servers c.args.site.now) c.args.names.now c.requires.work c.args.from c.args.to Ecx c.args.at c.requires.due).1) c.last-name.result.now c.last-name.ensures (g.T.Site.disk c.args.site.now).files (length (take c.index_piece-size.result c.args.room.now)) (c.requires.told told) (omega (
  arith,
  length-take c.index_piece-size.result c.args.room.now,
  c.index_piece-size.ensures.size,
  index_short (running c.args.plan.now c.args.progress.now) (g.T.Site.servers c.args.site.now) c.args.names.now c.requires.work c.args.from c.args.to c.args.at c.requires.due c.requires.next,
))

pub returns-in_err-read_file-clause-steps : goal.returns-in_err-read_file-clause-steps
returns-in_err-read_file-clause-steps g c =
    let p = err_from_is_err_and c.from_residual.result c.from_residual.ensures.1 in
    rw (p.1, p.2) (undone (running c.args.plan.now c.args.progress.now) c.requires.work.below (g.T.Site.disk c.args.site.now) (IsTrue g.T.Site.tells) (step.CopyPiece c.args.from c.args.to Ecx c.args.at) (g.T.Site.disk c.read_file.new.site)
    c.in_err-read_file.ensures.reads.same _)

pub returns-in_err-read_file-clause-few : goal.returns-in_err-read_file-clause-few
returns-in_err-read_file-clause-few g c =
    let p = err_from_is_err_and c.from_residual.result c.from_residual.ensures.1 in
    rw (p.1, p.2) (read_few _ (reads_within (omega arith) c.in_err-read_file.ensures.reads))

pub temp-requires : goal.temp-requires
temp-requires g c = temp_short (running c.args.plan.now c.args.progress.now) (g.T.Site.servers c.args.site.now) c.args.names.now c.requires.work c.place_of-place.result c.requires.due.0.at c.requires.due.0.file
    (c.place_of-place.ensures c.requires.due.0.at c.requires.due.0.file c.requires.due.0.there (is (running c.args.plan.now c.args.progress.now) (g.T.Site.servers c.args.site.now) c.args.names.now c.requires.work c.args.from c.args.to Ecx c.args.at c.requires.due).0 (is (running c.args.plan.now c.args.progress.now) (g.T.Site.servers c.args.site.now) c.args.names.now c.requires.work c.args.from c.args.to Ecx c.args.at c.requires.due).1) c.requires.due.0.there

pub grow_file-requires-clause-file : goal.grow_file-requires-clause-file
grow_file-requires-clause-file g c =
    subst (λ n. IsNamedFile c.args.plan.now.volume n c.args.progress.now.files.items c.place_of-place.result c.temp.result.now c.last-name.result.now) (sym c.in_ok-read_file.ensures.reads.runs.servers)
    (is_named (running c.args.plan.now c.args.progress.now) (g.T.Site.servers c.args.site.now) c.args.names.now c.requires.work c.place_of-place.result c.requires.due.0.at c.requires.due.0.file
    (c.place_of-place.ensures c.requires.due.0.at c.requires.due.0.file c.requires.due.0.there (is (running c.args.plan.now c.args.progress.now) (g.T.Site.servers c.args.site.now) c.args.names.now c.requires.work c.args.from c.args.to Ecx c.args.at c.requires.due).0 (is (running c.args.plan.now c.args.progress.now) (g.T.Site.servers c.args.site.now) c.args.names.now c.requires.work c.args.from c.args.to Ecx c.args.at c.requires.due).1) c.requires.due.0.there c.temp.result.now c.last-name.result.now c.temp.ensures c.last-name.ensures)

pub grow_file-requires-clause-room : goal.grow_file-requires-clause-room
grow_file-requires-clause-room g c = λ s at. subst (λ n. s.length + n < 2 ^ 64) (sym (ap length (take_at c.read_file.new.out (drop c.index_piece-size.result c.args.room.now) c.index_piece-size.result (piece_long c.index_piece-size.result c.args.room.now c.read_file.new.out (omega (arith, c.index_piece-size.ensures.size, c.requires.room)) c.read_file.ensures.size)) ∙ (piece_long c.index_piece-size.result c.args.room.now c.read_file.new.out (omega (arith, c.index_piece-size.ensures.size, c.requires.room)) c.read_file.ensures.size)))
    (has_room (running c.args.plan.now c.args.progress.now) (g.T.Site.servers c.args.site.now) c.args.names.now c.requires.work c.args.from c.args.to Ecx c.args.at c.requires.due c.place_of-place.result c.index_piece-size.result
    (c.place_of-place.ensures c.requires.due.0.at c.requires.due.0.file c.requires.due.0.there (is (running c.args.plan.now c.args.progress.now) (g.T.Site.servers c.args.site.now) c.args.names.now c.requires.work c.args.from c.args.to Ecx c.args.at c.requires.due).0 (is (running c.args.plan.now c.args.progress.now) (g.T.Site.servers c.args.site.now) c.args.names.now c.requires.work c.args.from c.args.to Ecx c.args.at c.requires.due).1) c.index_piece-size.ensures.fits s at)

pub returns-clause-steps : goal.returns-clause-steps
returns-clause-steps g c =
    grow_steps_of (IsTrue g.T.Site.tells) c.args.plan.now c.requires.work.below c.args.progress.now c.grow_file.new.progress c.requires.work.on_its_way.1.apart c.place_of-place.result c.requires.due.0.file
    (here (running c.args.plan.now c.args.progress.now) (g.T.Site.servers c.args.site.now) c.args.names.now c.requires.work c.place_of-place.result c.requires.due.0.at c.requires.due.0.file
    (c.place_of-place.ensures c.requires.due.0.at c.requires.due.0.file c.requires.due.0.there (is (running c.args.plan.now c.args.progress.now) (g.T.Site.servers c.args.site.now) c.args.names.now c.requires.work c.args.from c.args.to Ecx c.args.at c.requires.due).0 (is (running c.args.plan.now c.args.progress.now) (g.T.Site.servers c.args.site.now) c.args.names.now c.requires.work c.args.from c.args.to Ecx c.args.at c.requires.due).1) c.requires.due.0.there) (g.T.Site.disk c.args.site.now) (g.T.Site.disk c.grow_file.new.site) (step.CopyPiece c.args.from c.args.to Ecx c.args.at) 0 c.read_file.new.out
    (begun_by c.requires.due.0.file.stage c.requires.due.0.behind) (sym ((piece_long c.index_piece-size.result c.args.room.now c.read_file.new.out (omega (arith, c.index_piece-size.ensures.size, c.requires.room)) c.read_file.ensures.size) ∙ c.index_piece-size.ensures.size ∙ piece_is (running c.args.plan.now c.args.progress.now) (g.T.Site.servers c.args.site.now) c.args.names.now c.requires.work c.args.from c.args.to c.args.at c.requires.due c.requires.next)) (goes (running c.args.plan.now c.args.progress.now) (g.T.Site.servers c.args.site.now) c.args.names.now c.requires.work c.args.from c.args.to Ecx c.args.at c.requires.due)
    (only (running c.args.plan.now c.args.progress.now) (g.T.Site.servers c.args.site.now) c.args.names.now c.requires.work c.args.from c.args.to Ecx c.args.at c.requires.due c.place_of-place.result
    (c.place_of-place.ensures c.requires.due.0.at c.requires.due.0.file c.requires.due.0.there (is (running c.args.plan.now c.args.progress.now) (g.T.Site.servers c.args.site.now) c.args.names.now c.requires.work c.args.from c.args.to Ecx c.args.at c.requires.due).0 (is (running c.args.plan.now c.args.progress.now) (g.T.Site.servers c.args.site.now) c.args.names.now c.requires.work c.args.from c.args.to Ecx c.args.at c.requires.due).1))
    (λ told. right_index (running c.args.plan.now c.args.progress.now) (g.T.Site.servers c.args.site.now) c.args.names.now c.requires.work c.args.from c.args.to c.args.at c.requires.due c.requires.next c.place_of-place.result (c.place_of-place.ensures c.requires.due.0.at c.requires.due.0.file c.requires.due.0.there (is (running c.args.plan.now c.args.progress.now) (g.T.Site.servers c.args.site.now) c.args.names.now c.requires.work c.args.from c.args.to Ecx c.args.at c.requires.due).0 (is (running c.args.plan.now c.args.progress.now) (g.T.Site.servers c.args.site.now) c.args.names.now c.requires.work c.args.from c.args.to Ecx c.args.at c.requires.due).1) c.last-name.result.now c.last-name.ensures (g.T.Site.disk c.args.site.now).files (length (take c.index_piece-size.result c.args.room.now)) c.read_file.new.out (within (running c.args.plan.now c.args.progress.now) (g.T.Site.servers c.args.site.now) c.args.names.now c.requires.work c.args.from c.args.to c.args.at c.requires.due c.requires.next c.place_of-place.result (c.place_of-place.ensures c.requires.due.0.at c.requires.due.0.file c.requires.due.0.there (is (running c.args.plan.now c.args.progress.now) (g.T.Site.servers c.args.site.now) c.args.names.now c.requires.work c.args.from c.args.to Ecx c.args.at c.requires.due).0 (is (running c.args.plan.now c.args.progress.now) (g.T.Site.servers c.args.site.now) c.args.names.now c.requires.work c.args.from c.args.to Ecx c.args.at c.requires.due).1) c.last-name.result.now c.last-name.ensures (g.T.Site.disk c.args.site.now).files (length (take c.index_piece-size.result c.args.room.now)) (c.requires.told told) (omega (arith, length-take c.index_piece-size.result c.args.room.now, c.index_piece-size.ensures.size, index_short (running c.args.plan.now c.args.progress.now) (g.T.Site.servers c.args.site.now) c.args.names.now c.requires.work c.args.from c.args.to c.args.at c.requires.due c.requires.next))) (c.in_ok-read_file.ensures.part told)) (no_index (running c.args.plan.now c.args.progress.now) (g.T.Site.servers c.args.site.now) c.args.names.now c.requires.work c.args.from c.args.to Ecx c.args.at c.requires.due (λ e. cc)) (λ u. refl) (λ n e. e)
    (take c.index_piece-size.result (c.read_file.new.out ++ drop c.index_piece-size.result c.args.room.now)) (take_at c.read_file.new.out (drop c.index_piece-size.result c.args.room.now) c.index_piece-size.result (piece_long c.index_piece-size.result c.args.room.now c.read_file.new.out (omega (arith, c.index_piece-size.ensures.size, c.requires.room)) c.read_file.ensures.size)) c.grow_file.result
    (λ told. subst (λ (d : Disk). Does (TouchesTemp (running c.args.plan.now c.args.progress.now) c.place_of-place.result d (g.T.Site.disk c.grow_file.new.site)) (Keeps (running c.args.plan.now c.args.progress.now) c.place_of-place.result d (g.T.Site.disk c.grow_file.new.site)) (Grown (running c.args.plan.now c.args.progress.now) c.place_of-place.result (take c.index_piece-size.result (c.read_file.new.out ++ drop c.index_piece-size.result c.args.room.now)) d (g.T.Site.disk c.grow_file.new.site) (running c.args.plan.now c.grow_file.new.progress)) (GrownTold (running c.args.plan.now c.args.progress.now) c.place_of-place.result d (g.T.Site.disk c.grow_file.new.site) (running c.args.plan.now c.grow_file.new.progress)) c.grow_file.result)
    (c.in_ok-read_file.ensures.reads.same told) (c.grow_file.ensures.effect told)) c.grow_file.ensures.state

pub returns-clause-few : goal.returns-clause-few
returns-clause-few g c = then_few c.grow_file.result (reads_within (omega arith) c.in_ok-read_file.ensures.reads) (c.grow_file.ensures.runs c.requires.due.0.file (here (running c.args.plan.now c.args.progress.now) (g.T.Site.servers c.args.site.now) c.args.names.now c.requires.work c.place_of-place.result c.requires.due.0.at c.requires.due.0.file
    (c.place_of-place.ensures c.requires.due.0.at c.requires.due.0.file c.requires.due.0.there (is (running c.args.plan.now c.args.progress.now) (g.T.Site.servers c.args.site.now) c.args.names.now c.requires.work c.args.from c.args.to Ecx c.args.at c.requires.due).0 (is (running c.args.plan.now c.args.progress.now) (g.T.Site.servers c.args.site.now) c.args.names.now c.requires.work c.args.from c.args.to Ecx c.args.at c.requires.due).1) c.requires.due.0.there))
    (omega (arith, ap length (take_at c.read_file.new.out (drop c.index_piece-size.result c.args.room.now) c.index_piece-size.result (piece_long c.index_piece-size.result c.args.room.now c.read_file.new.out (omega (arith, c.index_piece-size.ensures.size, c.requires.room)) c.read_file.ensures.size)), (piece_long c.index_piece-size.result c.args.room.now c.read_file.new.out (omega (arith, c.index_piece-size.ensures.size, c.requires.room)) c.read_file.ensures.size), c.index_piece-size.ensures.size))
