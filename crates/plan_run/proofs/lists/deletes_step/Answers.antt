use Rattle.std.proofs.Common.{◌+◌, ◌*◌, ◌<◌, ◌^◌, length, take, drop, refl, sym, ◌∙◌, ap, subst, arith}
use Rattle.std.specs.Prelude.{IsTrue}
use Rattle.std.proofs.lemmas.List.{length-take, length-take-le}
use Rattle.plan_steps.specs.Planned.{deletions}
use Rattle.image_meaning.specs.Share.{share_of}
use Rattle.plan_steps.specs.declared.step.Step.TheVariants as step
use Rattle.plan_steps.specs.Progressing.{running}
use Rattle.plan_run.proofs.AtWork.{here, temp_short, last_short, is_named}
use Rattle.plan_run.proofs.Deletions.{piece, is, listed, from_short, long, has_room, goes, only, no_index, right}
use Rattle.plan_run.proofs.Journal.{begun_by}
use Rattle.plan_run.proofs.Moved.{grow_steps_of, writes_few, writes_wrote}
use Rattle.plan_run.proofs.lists.deletes_step.Goals as goal

pub place_of-place-requires-clause-there : goal.place_of-place-requires-clause-there
place_of-place-requires-clause-there g c = listed (running c.args.plan.now c.args.progress.now) (g.T.Site.servers c.args.site.now) c.args.names.now c.requires.work c.args.at c.requires.due

pub ids_from-ids-requires : goal.ids_from-ids-requires
ids_from-ids-requires g c = from_short (running c.args.plan.now c.args.progress.now) (g.T.Site.servers c.args.site.now) c.args.names.now c.requires.work c.args.at c.requires.due

pub fill_deletions-requires : goal.fill_deletions-requires
fill_deletions-requires g c = omega (arith, ap length c.ids_from-ids.ensures, length-take 2048 (drop c.args.at c.args.plan.now.deleted.items), c.requires.room)

pub slice_bounds-piece-end : goal.slice_bounds-piece-end
slice_bounds-piece-end g c = omega (arith, ap length c.ids_from-ids.ensures, length-take 2048 (drop c.args.at c.args.plan.now.deleted.items), c.requires.room, c.fill_deletions.ensures.size)

pub slice_bounds-piece-end-2 : goal.slice_bounds-piece-end-2
slice_bounds-piece-end-2 g c = sym (length-take-le (32 * length c.ids_from-ids.result.now) c.fill_deletions.new.room
    (omega (arith, ap length c.ids_from-ids.ensures, length-take 2048 (drop c.args.at c.args.plan.now.deleted.items), c.requires.room, c.fill_deletions.ensures.size)))

pub overflow_mul-end : goal.overflow_mul-end
overflow_mul-end g c = omega (arith, ap length c.ids_from-ids.ensures, length-take 2048 (drop c.args.at c.args.plan.now.deleted.items))

pub temp-requires : goal.temp-requires
temp-requires g c = temp_short (running c.args.plan.now c.args.progress.now) (g.T.Site.servers c.args.site.now) c.args.names.now c.requires.work c.place_of-place.result c.requires.due.at c.requires.due.file
    (c.place_of-place.ensures c.requires.due.at c.requires.due.file c.requires.due.there (is (running c.args.plan.now c.args.progress.now) (g.T.Site.servers c.args.site.now) c.args.names.now c.requires.work c.args.at c.requires.due).0 (is (running c.args.plan.now c.args.progress.now) (g.T.Site.servers c.args.site.now) c.args.names.now c.requires.work c.args.at c.requires.due).1) c.requires.due.there

pub last-requires : goal.last-requires
last-requires g c = last_short (running c.args.plan.now c.args.progress.now) (g.T.Site.servers c.args.site.now) c.args.names.now c.requires.work c.place_of-place.result c.requires.due.at c.requires.due.file
    (c.place_of-place.ensures c.requires.due.at c.requires.due.file c.requires.due.there (is (running c.args.plan.now c.args.progress.now) (g.T.Site.servers c.args.site.now) c.args.names.now c.requires.work c.args.at c.requires.due).0 (is (running c.args.plan.now c.args.progress.now) (g.T.Site.servers c.args.site.now) c.args.names.now c.requires.work c.args.at c.requires.due).1) c.requires.due.there

pub grow_file-requires-clause-file : goal.grow_file-requires-clause-file
grow_file-requires-clause-file g c = is_named (running c.args.plan.now c.args.progress.now) (g.T.Site.servers c.args.site.now) c.args.names.now c.requires.work c.place_of-place.result c.requires.due.at c.requires.due.file
    (c.place_of-place.ensures c.requires.due.at c.requires.due.file c.requires.due.there (is (running c.args.plan.now c.args.progress.now) (g.T.Site.servers c.args.site.now) c.args.names.now c.requires.work c.args.at c.requires.due).0 (is (running c.args.plan.now c.args.progress.now) (g.T.Site.servers c.args.site.now) c.args.names.now c.requires.work c.args.at c.requires.due).1) c.requires.due.there
    c.temp.result.now c.last.result.now c.temp.ensures c.last.ensures

pub grow_file-requires-clause-room : goal.grow_file-requires-clause-room
grow_file-requires-clause-room g c = λ s at. subst (λ n. s.length + n < 2 ^ 64) (ap length (sym (c.fill_deletions.ensures.deletions ∙ ap deletions c.ids_from-ids.ensures)))
    (has_room (running c.args.plan.now c.args.progress.now) (g.T.Site.servers c.args.site.now) c.args.names.now c.requires.work c.args.at c.requires.due c.place_of-place.result (c.place_of-place.ensures c.requires.due.at c.requires.due.file c.requires.due.there (is (running c.args.plan.now c.args.progress.now) (g.T.Site.servers c.args.site.now) c.args.names.now c.requires.work c.args.at c.requires.due).0 (is (running c.args.plan.now c.args.progress.now) (g.T.Site.servers c.args.site.now) c.args.names.now c.requires.work c.args.at c.requires.due).1) s at)

pub returns-clause-steps : goal.returns-clause-steps
returns-clause-steps g c =
    grow_steps_of (IsTrue g.T.Site.tells) c.args.plan.now c.requires.work.below c.args.progress.now c.grow_file.new.progress c.requires.work.on_its_way.1.apart c.place_of-place.result c.requires.due.file
    (here (running c.args.plan.now c.args.progress.now) (g.T.Site.servers c.args.site.now) c.args.names.now c.requires.work c.place_of-place.result c.requires.due.at c.requires.due.file
    (c.place_of-place.ensures c.requires.due.at c.requires.due.file c.requires.due.there (is (running c.args.plan.now c.args.progress.now) (g.T.Site.servers c.args.site.now) c.args.names.now c.requires.work c.args.at c.requires.due).0 (is (running c.args.plan.now c.args.progress.now) (g.T.Site.servers c.args.site.now) c.args.names.now c.requires.work c.args.at c.requires.due).1) c.requires.due.there)
    (g.T.Site.disk c.args.site.now) (g.T.Site.disk c.grow_file.new.site) (step.JoinDeletes c.args.at) 0 (piece (running c.args.plan.now c.args.progress.now) (g.T.Site.servers c.args.site.now) c.args.names.now c.requires.work c.args.at c.requires.due)
    (begun_by c.requires.due.file.stage c.requires.due.behind) (sym (long (running c.args.plan.now c.args.progress.now) (g.T.Site.servers c.args.site.now) c.args.names.now c.requires.work c.args.at c.requires.due)) (goes (running c.args.plan.now c.args.progress.now) (g.T.Site.servers c.args.site.now) c.args.names.now c.requires.work c.args.at c.requires.due)
    (only (running c.args.plan.now c.args.progress.now) (g.T.Site.servers c.args.site.now) c.args.names.now c.requires.work c.args.at c.requires.due c.place_of-place.result (c.place_of-place.ensures c.requires.due.at c.requires.due.file c.requires.due.there (is (running c.args.plan.now c.args.progress.now) (g.T.Site.servers c.args.site.now) c.args.names.now c.requires.work c.args.at c.requires.due).0 (is (running c.args.plan.now c.args.progress.now) (g.T.Site.servers c.args.site.now) c.args.names.now c.requires.work c.args.at c.requires.due).1))
    (λ told. right (running c.args.plan.now c.args.progress.now) (g.T.Site.servers c.args.site.now) c.args.names.now c.requires.work c.args.at c.requires.due (share_of (g.T.Site.disk c.args.site.now).files c.args.plan.now.volume))
    (no_index (running c.args.plan.now c.args.progress.now) (g.T.Site.servers c.args.site.now) c.args.names.now c.requires.work c.args.at c.requires.due) (λ u. refl) (λ n e. e)
    (take (32 * length c.ids_from-ids.result.now) c.fill_deletions.new.room) (c.fill_deletions.ensures.deletions ∙ ap deletions c.ids_from-ids.ensures)
    c.grow_file.result c.grow_file.ensures.effect c.grow_file.ensures.state

pub returns-clause-few : goal.returns-clause-few
returns-clause-few g c =
    writes_few c.grow_file.result (c.grow_file.ensures.runs c.requires.due.file (here (running c.args.plan.now c.args.progress.now) (g.T.Site.servers c.args.site.now) c.args.names.now c.requires.work c.place_of-place.result c.requires.due.at c.requires.due.file
    (c.place_of-place.ensures c.requires.due.at c.requires.due.file c.requires.due.there (is (running c.args.plan.now c.args.progress.now) (g.T.Site.servers c.args.site.now) c.args.names.now c.requires.work c.args.at c.requires.due).0 (is (running c.args.plan.now c.args.progress.now) (g.T.Site.servers c.args.site.now) c.args.names.now c.requires.work c.args.at c.requires.due).1) c.requires.due.there))
    (omega (arith, ap length (c.fill_deletions.ensures.deletions ∙ ap deletions c.ids_from-ids.ensures), long (running c.args.plan.now c.args.progress.now) (g.T.Site.servers c.args.site.now) c.args.names.now c.requires.work c.args.at c.requires.due))

pub returns-clause-wrote : goal.returns-clause-wrote
returns-clause-wrote g c =
    writes_wrote g.T.Site.counts g.T.Site.servers c.args.site.now c.grow_file.new.site c.grow_file.result (c.grow_file.ensures.runs c.requires.due.file (here (running c.args.plan.now c.args.progress.now) (g.T.Site.servers c.args.site.now) c.args.names.now c.requires.work c.place_of-place.result c.requires.due.at c.requires.due.file
    (c.place_of-place.ensures c.requires.due.at c.requires.due.file c.requires.due.there (is (running c.args.plan.now c.args.progress.now) (g.T.Site.servers c.args.site.now) c.args.names.now c.requires.work c.args.at c.requires.due).0 (is (running c.args.plan.now c.args.progress.now) (g.T.Site.servers c.args.site.now) c.args.names.now c.requires.work c.args.at c.requires.due).1) c.requires.due.there))
