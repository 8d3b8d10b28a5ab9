use Rattle.job_board.proofs.Places.{removed_nowhere, removed_there}
use Rattle.job_board.proofs.unfinished.remove_job.Goals as goal

pub returns-in-Some : goal.returns-in-Some
returns-in-Some g c =
    let there = rw c.deref.ensures.value at c.in-Some.ensures in
    rw c.remove-job.ensures.items (removed_there c.args.number c.args.jobs.now.items c.in-Some.at c.remove-job.result c.requires there)

pub returns-in_default : goal.returns-in_default
returns-in_default g c =
    let nowhere = rw c.deref.ensures.value at c.in_default.ensures in
    removed_nowhere c.args.number c.args.jobs.now.items nowhere
