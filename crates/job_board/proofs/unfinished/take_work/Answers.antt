use Rattle.std.proofs.Common.{None}
use Rattle.job_board.specs.Jobs.{has_number}
use Rattle.job_board.proofs.Places.{found_nowhere, found_there, set_nowhere, set_there}
use Rattle.job_board.proofs.unfinished.take_work.Goals as goal

-- no job of the number
pub returns-in_err-at-clause-work : goal.returns-in_err-at-clause-work
returns-in_err-at-clause-work g c =
    let nowhere = rw c.deref.ensures.value at c.in_err-at.ensures in
    rw (found_nowhere (has_number c.args.number) c.args.jobs.now.items nowhere) c.from_residual.ensures

pub returns-in_err-at-clause-out : goal.returns-in_err-at-clause-out
returns-in_err-at-clause-out g c =
    let nowhere = rw c.deref.ensures.value at c.in_err-at.ensures in
    set_nowhere c.args.number None c.args.jobs.now.items nowhere

-- its place
pub returns-clause-work : goal.returns-clause-work
returns-clause-work g c =
    let there = rw c.deref.ensures.value at c.in_ok-at.ensures in
    rw (found_there (has_number c.args.number) c.args.jobs.now.items c.in_ok-at.at c.index_mut-job.result.now there c.index_mut-job.ensures.value) c.take.ensures.value

pub returns-clause-out : goal.returns-clause-out
returns-clause-out g c =
    let there = rw c.deref.ensures.value at c.in_ok-at.ensures in
    rw c.take.ensures.after (set_there c.args.number None c.args.jobs.now.items c.in_ok-at.at c.index_mut-job.result.now c.requires there c.index_mut-job.ensures.value)
