use Rattle.std.proofs.Common.{length, ◌∙◌, ap, arith}
use Rattle.std.specs.Prelude.{slice_set}
use Rattle.plan_run.specs.Growing.{entries_told}
use Rattle.plan_run.proofs.Together.{front_long, front_read, front_next, front_end}
use Rattle.plan_run.proofs.encoding.tell_entries.Goals as goal

pub index-requires : goal.index-requires
index-requires c = omega (arith, c.loop-place-test.true, c.len-place-end.ensures, ap length c.loop-place.invariant.files, front_long (entries_told c.args.at c.args.count) c.loop-place.place c.args.progress.now.files.items)

pub entries_told-requires : goal.entries_told-requires
entries_told-requires c = c.requires c.loop-place.place c.index.result.now
    (front_read (entries_told c.args.at c.args.count) c.loop-place.place c.args.progress.now.files.items c.loop-place.progress.files.items c.index.result.now c.loop-place.invariant.files
    (omega (arith, c.loop-place-test.true, c.len-place-end.ensures, ap length c.loop-place.invariant.files, front_long (entries_told c.args.at c.args.count) c.loop-place.place c.args.progress.now.files.items)) c.index.ensures)

pub index_mut-requires : goal.index_mut-requires
index_mut-requires c = omega (arith, c.loop-place-test.true, c.len-place-end.ensures, ap length c.loop-place.invariant.files, front_long (entries_told c.args.at c.args.count) c.loop-place.place c.args.progress.now.files.items)

pub loop-place-preserved : goal.loop-place-preserved
loop-place-preserved c = record {
  files = ap (slice_set c.loop-place.progress.files.items c.loop-place.place) c.entries_told.ensures
      ∙ front_next (entries_told c.args.at c.args.count) c.loop-place.place c.args.progress.now.files.items c.loop-place.progress.files.items c.index.result.now c.loop-place.invariant.files
      (omega (arith, c.loop-place-test.true, c.len-place-end.ensures, ap length c.loop-place.invariant.files, front_long (entries_told c.args.at c.args.count) c.loop-place.place c.args.progress.now.files.items)) c.index.ensures;
  place = c.loop-place.invariant.place;
}

pub returns-clause-files : goal.returns-clause-files
returns-clause-files c =
    front_end (entries_told c.args.at c.args.count) c.loop-place.place c.args.progress.now.files.items c.loop-place.progress.files.items c.loop-place.invariant.files
    (omega (arith, c.loop-place-test.false, c.loop-place.auto.place-end, c.len-place-end.ensures))
