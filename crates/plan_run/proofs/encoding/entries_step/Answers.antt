use Rattle.std.proofs.Common.{◌+◌, ◌*◌, ◌<◌, ◌^◌, IsTrue, length, drop, refl, sym, ◌∙◌, ap, subst, arith}
use Rattle.std.specs.Prelude.{flat_map}
use Rattle.std.proofs.lemmas.List.{length-take, length-take-le}
use Rattle.std.proofs.lemmas.Result.{err_from_is_err_and}
use Rattle.volume_forms.specs.Forms.{entry_bytes}
use Rattle.plan_steps.specs.Progressing.{running}
use Rattle.plan_run.proofs.Entered.{has_room, entries_grown, entries_failed}
use Rattle.plan_run.proofs.encoding.entries_step.Goals as goal

pub fill_entries-requires : goal.fill_entries-requires
fill_entries-requires g c = omega (arith, ap length c.entries_from-entries.ensures, length-take 2048 (drop c.args.at c.args.plan.now.entries.items), c.requires.room)

pub slice_bounds-piece-end : goal.slice_bounds-piece-end
slice_bounds-piece-end g c = omega (arith, ap length c.entries_from-entries.ensures, length-take 2048 (drop c.args.at c.args.plan.now.entries.items), c.requires.room, c.fill_entries.ensures.size)

pub slice_bounds-piece-end-2 : goal.slice_bounds-piece-end-2
slice_bounds-piece-end-2 g c = sym (length-take-le (16 * length c.entries_from-entries.result.now) c.fill_entries.new.room
    (omega (arith, ap length c.entries_from-entries.ensures, length-take 2048 (drop c.args.at c.args.plan.now.entries.items), c.requires.room, c.fill_entries.ensures.size)))

pub tell_entries-requires : goal.tell_entries-requires
tell_entries-requires g c = λ j s there takes. subst (λ n. s.length + n < 2 ^ 64)
    (sym (ap length (c.fill_entries.ensures.entries ∙ ap (flat_map entry_bytes) c.entries_from-entries.ensures)) ∙ length-take-le (16 * length c.entries_from-entries.result.now) c.fill_entries.new.room
    (omega (arith, ap length c.entries_from-entries.ensures, length-take 2048 (drop c.args.at c.args.plan.now.entries.items), c.requires.room, c.fill_entries.ensures.size)))
    (has_room (running c.args.plan.now c.args.progress.now) (g.T.Site.servers c.args.site.now) c.args.names.now c.requires.work c.requires.encode c.args.at j s there takes)

pub returns-in_err-grow_files-clause-steps : goal.returns-in_err-grow_files-clause-steps
returns-in_err-grow_files-clause-steps g c =
    let p = err_from_is_err_and c.from_residual.result c.from_residual.ensures.1 in
    rw (p.1, p.2) (entries_failed (running c.args.plan.now c.args.progress.now) (g.T.Site.servers c.args.site.now) c.args.names.now c.requires.work c.requires.encode c.args.at (IsTrue g.T.Site.tells) (g.T.Site.disk c.args.site.now) (g.T.Site.disk c.grow_files.new.site) _ c.in_err-grow_files.ensures.effect)

pub returns-clause-steps : goal.returns-clause-steps
returns-clause-steps g c =
    entries_grown (running c.args.plan.now c.args.progress.now) (g.T.Site.servers c.args.site.now) c.args.names.now c.requires.work c.requires.encode c.args.at (IsTrue g.T.Site.tells) (16 * length c.entries_from-entries.result.now)
    (sym (length-take-le (16 * length c.entries_from-entries.result.now) c.fill_entries.new.room
    (omega (arith, ap length c.entries_from-entries.ensures, length-take 2048 (drop c.args.at c.args.plan.now.entries.items), c.requires.room, c.fill_entries.ensures.size)))
    ∙ ap length (c.fill_entries.ensures.entries ∙ ap (flat_map entry_bytes) c.entries_from-entries.ensures))
    (running c.args.plan.now c.tell_entries.new.progress) refl c.tell_entries.ensures.files c.tell_entries.ensures.place (g.T.Site.disk c.args.site.now) (g.T.Site.disk c.grow_files.new.site) c.in_ok-grow_files.ensures.effect
