use Rattle.std.proofs.Common.{refl}
use Rattle.job_board.specs.Jobs.{has_number}
use Rattle.job_board.proofs.Places.{found_nowhere, found_there}
use Rattle.job_board.proofs.Board.volume_of.Goals as goal

pub returns-in_err-at-clause-volume : goal.returns-in_err-at-clause-volume
returns-in_err-at-clause-volume g c =
    let nowhere = rw c.deref.ensures.value at c.in_err-at.ensures in
    rw (← c.self.view_is, found_nowhere (has_number c.args.job) c.self.inside.jobs.items nowhere) c.from_residual.ensures

pub returns-clause-volume : goal.returns-clause-volume
returns-clause-volume g c =
    let there = rw c.deref.ensures.value at c.in_ok-at.ensures in
    rw (← c.self.view_is, found_there (has_number c.args.job) c.self.inside.jobs.items c.in_ok-at.at c.index.result.now there c.index.ensures) refl
