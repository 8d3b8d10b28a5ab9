use Rattle.std.proofs.Common.{sym, ◌∙◌, Some}
use Rattle.job_board.proofs.Places.{out_there, set_there}
use Rattle.job_board.proofs.unfinished.put_work.Goals as goal

pub unwrap-at-requires : goal.unwrap-at-requires
unwrap-at-requires g c = out_there c.args.number c.args.jobs.now.items c.place_of.result (rw c.deref.ensures.value at c.place_of.ensures) c.requires.out

pub returns : goal.returns
returns g c =
    let there = rw c.deref.ensures.value at (sym c.unwrap-at.ensures ∙ c.place_of.ensures) in
    set_there c.args.number (Some c.args.work) c.args.jobs.now.items c.unwrap-at.result c.index_mut-job.result.now c.requires.in_order there c.index_mut-job.ensures.value
