use Rattle.std.proofs.Common.{◌+◌, None}
use Rattle.job_board.specs.Jobs.{Jobs}
use Rattle.job_board.proofs.Boards.{IsBoard-with_work}
use Rattle.job_board.proofs.Board.take.Goals as goal

pub invariant_of-self : goal.invariant_of-self
invariant_of-self g c =
    let board : Jobs g.row.W.Denot = record { unfinished = c.self.inside.jobs.items; next = c.self.inside.started + 1 } in
    rw c.take_work.ensures.out (IsBoard-with_work board c.args.job None c.self.invariant)
